-- What stands behind a full name and a dot.
use Rattle.std.proofs.Common.{◌≡◌, ◌++◌, ℕ, ◌==◌, [], ◌∷◌, None, refl, arith, if◌then◌else◌}
use Rattle.std.specs.Option.{option_and_then}
use Rattle.std.proofs.lemmas.Bool.Decides.{nat_tests}
use Rattle.fb_syntax.specs.Signs.{dot}
use Rattle.fb_schema.specs.Schema.{Name}
use Rattle.fb_resolve.specs.EnumValues.{behind}

behind-cons : (a : ℕ) (prefix : Name) (c : ℕ) (name : Name)
    → behind (a ∷ prefix) (c ∷ name) ≡ (if a == c then behind prefix name else None)
unfolding behind
behind-cons a prefix c name = grind arith

pub behind_inside : (scope n name : Name) → behind (scope ++ dot ∷ n) name ≡ option_and_then (behind n)
    (behind scope name)
unfolding behind
behind_inside [] n [] = refl
behind_inside [] n (c ∷ name) = grind (arith, nat_tests, behind-cons dot n c name)
behind_inside (a ∷ scope) n [] = refl
behind_inside (a ∷ scope) n (c ∷ name) =
    grind (arith, behind-cons a (scope ++ dot ∷ n) c name, behind-cons a scope c name, behind_inside scope n name)
