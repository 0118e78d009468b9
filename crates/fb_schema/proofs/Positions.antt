-- Where a list's first element that passes a test stands.
use Rattle.std.proofs.Common.{◌≡◌, ℕ, suc, ◌+◌, Bool, true, false, cond, ◌||◌, List, [], ◌∷◌, map, length, position}
use Rattle.std.proofs.Common.{find, slice_get, None, Some, is_some, refl, ap, sym, ◌∙◌, arith, nat_lt, get_or, drop}
use Rattle.std.proofs.Common.{drop-cons, ◌<◌, ◌≤◌}
use Rattle.std.specs.List.{list_any, position_from, position_or_len}
use Rattle.std.specs.Option.{option_and_then}
use Rattle.std.proofs.lemmas.Iterator.Adapters.{position_from-zero}
use Rattle.std.proofs.lemmas.List.{drop_all}
use Rattle.std.proofs.lemmas.List.Folds.{find_at}
use Rattle.std.proofs.lemmas.Option.{slice_get_past}
use Rattle.std.proofs.lemmas.Bool.Decides.{nat_tests}

module _ {X : Type 0} (p : X → Bool) where
  some_from : (n : ℕ) (xs : List X) → is_some (position_from p n xs) ≡ list_any p xs
  some_from n [] = refl
  some_from n (x ∷ xs) =
      elim (p x) as (λ b. is_some (cond b (Some n) (position_from p (n + 1) xs)) ≡ (b || list_any p xs))
      [ true ↦ refl | false ↦ some_from (n + 1) xs ]

  -- one stands somewhere exactly if one is there
  pub is_some-position : (xs : List X) → is_some (position p xs) ≡ list_any p xs
  is_some-position xs = ap is_some (position_from-zero p xs) ∙ some_from 0 xs

module _ {X Y : Type 0} (f : Y → X) (p : X → Bool) where
  from-map : (n : ℕ) (ys : List Y) → position_from p n (map f ys) ≡ position_from (λ y. p (f y)) n ys
  from-map n [] = refl
  from-map n (y ∷ ys) = ap (λ o. cond (p (f y)) (Some n) o) (from-map (n + 1) ys)

  -- among what a function makes of a list
  pub position-map : (ys : List Y) → position p (map f ys) ≡ position (λ y. p (f y)) ys
  position-map ys = position_from-zero p (map f ys) ∙ (from-map 0 ys ∙ sym (position_from-zero (λ y. p (f y)) ys))

  pub is_some-position-map : (ys : List Y) → is_some (position p (map f ys)) ≡ list_any (λ y. p (f y)) ys
  is_some-position-map ys = ap is_some (position-map ys) ∙ is_some-position (λ y. p (f y)) ys

-- what stands there is what `find` gives
pub find-position : {X : Type 0} (p : X → Bool) (xs : List X)
    → option_and_then (slice_get xs) (position p xs) ≡ find p xs
find-position {X} p xs = by (nat_lt first (length xs)) refl
  where
    first : ℕ
    first = position_or_len p xs

    by : (b : Bool) → nat_lt first (length xs) ≡ b
        → option_and_then (slice_get xs) (cond b (Some first) None) ≡ find p xs
    by true e = sym (find_at p xs)
    by false e = sym (find_at p xs ∙ slice_get_past xs first (grind (arith, nat_tests)))

-- a search that has come to a place without finding one
module _ {X : Type 0} (p : X → Bool) (xs : List X) (i : ℕ)
    (so_far : position_from p 0 xs ≡ position_from p i (drop i xs)) where
  pub found_here : (x : X) → i < length xs → p (get_or xs i x) ≡ true → position p xs ≡ Some i
  found_here x within passes = position_from-zero p xs ∙ (so_far ∙ rw (drop-cons xs i x, passes) refl)

  pub found_later : (x : X) → i < length xs → p (get_or xs i x) ≡ false
      → position_from p 0 xs ≡ position_from p (i + 1) (drop (i + 1) xs)
  found_later x within fails = let next : suc i ≡ i + 1 = omega arith in
      so_far ∙ rw (drop-cons xs i x, fails) (ap (λ k. position_from p (i + 1) (drop k xs)) next)

  pub found_nowhere : length xs ≤ i → position p xs ≡ None
  found_nowhere past = position_from-zero p xs ∙ (so_far ∙ rw (drop_all i xs past) refl)
