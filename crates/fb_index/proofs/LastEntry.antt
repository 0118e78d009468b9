-- Entries of a list that is one longer.
use Rattle.std.proofs.Common.{◌≡◌, ◌⊎◌, inl, inr, ℕ, zero, suc, List, [], ◌∷◌, ◌++◌, length, slice_get, Some, refl, ap}
use Rattle.std.proofs.Common.{⊎_elim}

-- it is one of those before, or the last
pub entry_of : {X : Type 0} (xs : List X) (x y : X) (n : ℕ) → slice_get (xs ++ x ∷ []) n ≡ Some y
    → (slice_get xs n ≡ Some y) ⊎ ((n ≡ length xs) × (x ≡ y))
entry_of [] x y zero e = inr (refl, cc)
entry_of [] x y (suc n) e = cc
entry_of (z ∷ xs) x y zero e = inl e
entry_of (z ∷ xs) x y (suc n) e = ⊎_elim (λ h. inl h) (λ h. inr (ap suc h.0, h.1)) (entry_of xs x y n e)

pub entry_kept : {X : Type 0} (xs : List X) (x y : X) (n : ℕ) → slice_get xs n ≡ Some y
    → slice_get (xs ++ x ∷ []) n ≡ Some y
entry_kept [] x y n e = cc
entry_kept (z ∷ xs) x y zero e = e
entry_kept (z ∷ xs) x y (suc n) e = entry_kept xs x y n e

pub entry_last : {X : Type 0} (xs : List X) (x : X) → slice_get (xs ++ x ∷ []) (length xs) ≡ Some x
entry_last [] x = refl
entry_last (z ∷ xs) x = entry_last xs x
