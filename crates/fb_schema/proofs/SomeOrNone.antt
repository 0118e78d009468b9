-- An option that a test says is there, and one that no value is in.
use Rattle.std.proofs.Common.{◌≡◌, true, Option, None, Some, is_some, refl}
use Rattle.std.proofs.lemmas.Bool.{false≢true}

pub some_of : {X : Type 0} (o : Option X) → is_some o ≡ true → (x : X) × (o ≡ Some x)
some_of None e = absurd (false≢true e)
some_of (Some x) e = (x, refl)

pub none_unless_some : {X : Type 0} (o : Option X) → ((x : X) → o ≡ Some x → ⊥) → o ≡ None
none_unless_some None never = refl
none_unless_some (Some x) never = absurd (never x refl)
