use Rattle.std.proofs.Common.{◌≡◌, Bool, ℤ, List, ℕ, Option, None, Some, refl, ap, sym, ◌∙◌}
use Rattle.std.specs.Option.{option_map, unwrap_or}
use Rattle.fb_schema.specs.Schema.{DeclaredBody, table_body, struct_body, enum_body, union_body, base_in}
use Rattle.fb_schema.specs.Bodies.{as_enum}
use Rattle.fb_schema.specs.declared.kinds.Base.{Base}
use Rattle.fb_schema.specs.declared.kinds.Base.TheVariants.{U8}
use Rattle.fb_layout.proofs.bodies.BodiesStandAtTheirNumbers.{body_of, body_there}
use Rattle.fb_layout.proofs.extents.base_in.Goals as goal

base_of : (b : DeclaredBody) (base : Base) (flags : Bool) (values : List (List ℕ × ℤ))
    → Some (base, flags, values) ≡ as_enum b → base ≡ base_in b
base_of (table_body fs) base flags values e = cc
base_of (struct_body fs a) base flags values e = cc
base_of (enum_body b marked vs) base flags values e =
    ap (λ (o : Option (Base × Bool × List (List ℕ × ℤ))). (unwrap_or o (b, marked, vs)).0) e
base_of (union_body ms) base flags values e = cc

no_base : (b : DeclaredBody) → None ≡ as_enum b → U8 ≡ base_in b
no_base (table_body fs) e = refl
no_base (struct_body fs a) e = refl
no_base (enum_body b flags vs) e = cc
no_base (union_body ms) e = refl

pub returns-in_default : goal.returns-in_default
returns-in_default c = ap base_in
    (ap body_of (sym c.in_default.is)
    ∙ body_there c.types.result.now c.args.schema.now c.args.enumeration.0 c.get.result c.types.ensures.types
    c.get.ensures.lookup.0 c.get.ensures.lookup.1)

pub returns-in-Some-as_enum : goal.returns-in-Some-as_enum
returns-in-Some-as_enum c =
    base_of _ _ _ _ (ap (option_map _) (sym c.in-Some-as_enum.is) ∙ c.as_enum.ensures)
    ∙ ap base_in
    (ap body_of (sym c.in-Some.is)
    ∙ body_there c.types.result.now c.args.schema.now c.args.enumeration.0 c.get.result c.types.ensures.types
    c.get.ensures.lookup.0 c.get.ensures.lookup.1)

pub returns-in-None : goal.returns-in-None
returns-in-None c =
    no_base _ (ap (option_map _) (sym c.in-None.is) ∙ c.as_enum.ensures)
    ∙ ap base_in
    (ap body_of (sym c.in-Some.is)
    ∙ body_there c.types.result.now c.args.schema.now c.args.enumeration.0 c.get.result c.types.ensures.types
    c.get.ensures.lookup.0 c.get.ensures.lookup.1)
