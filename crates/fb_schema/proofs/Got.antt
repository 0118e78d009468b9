-- What `get` of a slice returns is what is at the index.
use Rattle.std.proofs.Common.{◌≡◌, ℕ, Bor, List, length, get_or, slice_get, Option, None, Some, is_some, nat_lt, refl}
use Rattle.std.proofs.Common.{ap, sym, ◌∙◌, arith}
use Rattle.std.specs.Option.{option_copied, IfSome}
use Rattle.std.proofs.lemmas.Option.{slice_get_past, slice_get_read}
use Rattle.std.proofs.lemmas.Bool.Decides.{nat_tests}

pub got : {X : Type 0} (xs : List X) (i : ℕ) (o : Option (Bor X)) → is_some o ≡ nat_lt i (length xs)
    → IfSome o (λ x. x.now ≡ get_or xs i x.now) → option_copied o ≡ slice_get xs i
got xs i None found at = sym (slice_get_past xs i (grind (arith, nat_tests)))
got xs i (Some x) found at = sym (slice_get_read xs (length xs) i x.now refl (grind (arith, nat_tests)) at)

-- the same where the slice is that of a list
pub got_of : {X : Type 0} (xs ys : List X) (i : ℕ) (o : Option (Bor X)) → xs ≡ ys → is_some o ≡ nat_lt i (length xs)
    → IfSome o (λ x. x.now ≡ get_or xs i x.now)
    → option_copied o ≡ slice_get ys i
got_of {X} xs ys i o same found at = got xs i o found at ∙ ap (λ (l : List X). slice_get l i) same
