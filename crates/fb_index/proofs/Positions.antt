-- Where keys are as more come.
use Rattle.std.proofs.Common.{◌≡◌, ℕ, suc, ◌+◌, ◌||◌, Bool, true, false, cond, List, [], ◌∷◌, ◌++◌, length, Some}
use Rattle.std.proofs.Common.{position, refl, sym, ap, ◌∙◌, arith}
use Rattle.std.specs.List.{list_any, position_from}
use Rattle.std.proofs.lemmas.Iterator.Adapters.{position_from-zero}

module _ {X : Type 0} (p : X → Bool) (y : X) where
  stays_from : (n i : ℕ) (xs : List X) → position_from p n xs ≡ Some i → position_from p n (xs ++ y ∷ []) ≡ Some i
  stays_from n i [] at = cc
  stays_from n i (x ∷ xs) at =
      let rest = stays_from (n + 1) i xs in
      elim (p x) as (λ b. cond b (Some n) (position_from p (n + 1) xs) ≡ Some i
      → cond b (Some n) (position_from p (n + 1) (xs ++ y ∷ [])) ≡ Some i) [ true ↦ λ e. e | false ↦ rest ] at

  last_from : (n : ℕ) (xs : List X) → list_any p xs ≡ false → p y ≡ true
      → position_from p n (xs ++ y ∷ []) ≡ Some (n + length xs)
  last_from n [] none passes = let same : n ≡ n + 0 = omega arith in rw passes (ap Some same)
  last_from n (x ∷ xs) none passes =
      let same : n + 1 + length xs ≡ n + suc (length xs) = omega arith in
      let rest = λ (none : list_any p xs ≡ false). last_from (n + 1) xs none passes ∙ ap Some same in
      elim (p x) as (λ b. (b || list_any p xs) ≡ false
      → cond b (Some n) (position_from p (n + 1) (xs ++ y ∷ [])) ≡ Some (n + suc (length xs)))
      [ true ↦ λ e. cc | false ↦ rest ] none

  -- what is there stays where it is
  pub position_stays : (xs : List X) (i : ℕ) → position p xs ≡ Some i → position p (xs ++ y ∷ []) ≡ Some i
  position_stays xs i at =
      position_from-zero p (xs ++ y ∷ []) ∙ stays_from 0 i xs (sym (position_from-zero p xs) ∙ at)

  -- one that is new is behind the others
  pub position_of_last : (xs : List X) → list_any p xs ≡ false → p y ≡ true
      → position p (xs ++ y ∷ []) ≡ Some (length xs)
  position_of_last xs none passes =
      let same : 0 + length xs ≡ length xs = omega arith in
      position_from-zero p (xs ++ y ∷ []) ∙ (last_from 0 xs none passes ∙ ap Some same)

  pub any_stays : (xs : List X) → list_any p xs ≡ true → list_any p (xs ++ y ∷ []) ≡ true
  any_stays [] any = cc
  any_stays (x ∷ xs) any =
      let rest = any_stays xs in
      elim (p x) as (λ b. (b || list_any p xs) ≡ true → (b || list_any p (xs ++ y ∷ [])) ≡ true)
      [ true ↦ λ e. refl | false ↦ rest ] any
