use Rattle.std.proofs.Common.{◌≡◌, ℕ, Bor, List, length, get_or, Option, Some, is_some, nat_lt, ap, sym, ◌∙◌}
use Rattle.std.specs.Option.{option_copied, IfSome}
use Rattle.fb_schema.proofs.Got.{got}
use Rattle.fb_resolve.specs.Outline.{TypeRead}
use Rattle.fb_resolve.specs.Meaning.{use_of, use_of_read, use_of_type}
use Rattle.fb_resolve.proofs.type_uses.meaning_of_type.Goals as goal

used_at : (types : List TypeRead) (number : Option ℕ) (t : ℕ) (o : Option (Bor TypeRead)) → number ≡ Some t
    → is_some o ≡ nat_lt t (length types) → IfSome o (λ x. x.now ≡ get_or types t x.now)
    → use_of_read t (option_copied o) ≡ use_of_type types number
used_at types number t o is found at = ap (use_of_read t) (got types t o found at) ∙ ap (use_of_type types) (sym is)

pub returns-in_default : goal.returns-in_default
returns-in_default c = ap (use_of_type c.args.types.now) (sym c.in_default.is)

pub returns-in_default-get : goal.returns-in_default-get
returns-in_default-get c =
    ap (λ o. use_of_read c.in-Some.number (option_copied o)) (sym c.in_default-get.is)
    ∙ used_at c.args.types.now c.args.number c.in-Some.number c.get.result c.in-Some.is c.get.ensures.lookup.0
    c.get.ensures.lookup.1

pub returns-in-Table : goal.returns-in-Table
returns-in-Table c =
    ap (use_of c.in-Some.number) (sym c.in-Table.is)
    ∙ ap (λ (r : TypeRead). use_of c.in-Some.number r.declaration) c.read.view_is
    ∙ ap (λ o. use_of_read c.in-Some.number (option_copied o)) (sym c.in-Some-get.is)
    ∙ used_at c.args.types.now c.args.number c.in-Some.number c.get.result c.in-Some.is c.get.ensures.lookup.0
    c.get.ensures.lookup.1

pub returns-in-Struct : goal.returns-in-Struct
returns-in-Struct c =
    ap (use_of c.in-Some.number) (sym c.in-Struct.is)
    ∙ ap (λ (r : TypeRead). use_of c.in-Some.number r.declaration) c.read.view_is
    ∙ ap (λ o. use_of_read c.in-Some.number (option_copied o)) (sym c.in-Some-get.is)
    ∙ used_at c.args.types.now c.args.number c.in-Some.number c.get.result c.in-Some.is c.get.ensures.lookup.0
    c.get.ensures.lookup.1

pub returns-in-Enum : goal.returns-in-Enum
returns-in-Enum c =
    ap (use_of c.in-Some.number) (sym c.in-Enum.is)
    ∙ ap (λ (r : TypeRead). use_of c.in-Some.number r.declaration) c.read.view_is
    ∙ ap (λ o. use_of_read c.in-Some.number (option_copied o)) (sym c.in-Some-get.is)
    ∙ used_at c.args.types.now c.args.number c.in-Some.number c.get.result c.in-Some.is c.get.ensures.lookup.0
    c.get.ensures.lookup.1

pub returns-in-Union : goal.returns-in-Union
returns-in-Union c =
    ap (use_of c.in-Some.number) (sym c.in-Union.is)
    ∙ ap (λ (r : TypeRead). use_of c.in-Some.number r.declaration) c.read.view_is
    ∙ ap (λ o. use_of_read c.in-Some.number (option_copied o)) (sym c.in-Some-get.is)
    ∙ used_at c.args.types.now c.args.number c.in-Some.number c.get.result c.in-Some.is c.get.ensures.lookup.0
    c.get.ensures.lookup.1
