-- The slot of a union's code has no default, and a slot that is of no union hands the code before it on.
use Rattle.std.proofs.Common.{◌≡◌, ℕ, ℤ, Bool, true, false, None, Ok, refl}
use Rattle.fb_schema.specs.declared.kinds.Kind.TheVariants.{Union, Code}
use Rattle.fb_schema.specs.declared.kinds.Shape.{Shape}
use Rattle.fb_schema.specs.declared.kinds.Shape.TheVariants.{One}
use Rattle.fb_schema.specs.Schema.{Name, DeclaredSchema}
use Rattle.fb_layout.specs.Laid.{one_of, code_kind, default_of}
use Rattle.fb_json.specs.declared.faults.Place.{Place}
use Rattle.fb_json.specs.Meant.{Look, code_after}
use Rattle.fb_json.specs.SlotMembers.{is_of_union}

pub code_handed_on : (S : DeclaredSchema) (look : Look) (at : Place) (code : ℕ) (deprecated : Bool) (name : Name)
    (shape : Shape) → is_of_union shape ≡ false → code_after S look at code deprecated name shape ≡ Ok code
unfolding code_after
code_handed_on S look at code true name shape plain = refl
code_handed_on S look at code false name (One (Union u)) plain = absurd cc
code_handed_on S look at code false name (One (Code u)) plain = absurd cc
code_handed_on S look at code false name _ plain = refl

pub code_default : (b : Bool) (n : ℤ) (u : ℕ) → default_of b n (one_of (code_kind u)) ≡ None
code_default true n u = refl
code_default false n u = refl
