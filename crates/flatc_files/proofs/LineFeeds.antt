-- The first line feed of bytes whose first ones have none.
use Rattle.std.proofs.Common.{◌≡◌, ◌+◌, ◌-◌, ◌<◌, ◌≤◌, ℕ, Bool, true, false, List, [], ◌∷◌, Some, None}
use Rattle.std.proofs.Common.{cond, not, length, take, drop, zero, suc, refl, ap, arith, ltb}
use Rattle.std.proofs.lemmas.Bool.{lt-ltb, le-ltb, ltb-true, ltb-false}
use Rattle.std.proofs.lemmas.List.{length-drop}
use Rattle.std.proofs.lemmas.List.Sums.{prefix_len-le-length}
use Rattle.std.specs.List.{position, position_or_len, prefix_len}
use Rattle.flatc_files.specs.Lines.{first_line_len, is_feed}

-- what passes at the front of a part passes at the front of the whole
prefix_len-take : (p : ℕ → Bool) (k : ℕ) (xs : List ℕ) → prefix_len p (take k xs) ≤ prefix_len p xs
prefix_len-take p zero xs = omega arith
prefix_len-take p (suc k) [] = omega arith
prefix_len-take p (suc k) (x ∷ xs) = both (p x) (prefix_len-take p k xs)
  where
    both : (passes : Bool) → prefix_len p (take k xs) ≤ prefix_len p xs
        → cond passes (1 + prefix_len p (take k xs)) 0 ≤ cond passes (1 + prefix_len p xs) 0
    both true rest = omega arith
    both false rest = omega arith

-- a search may go on after what it has passed
prefix_len-drop : (p : ℕ → Bool) (n : ℕ) (xs : List ℕ) → n ≤ prefix_len p xs
    → prefix_len p xs ≡ n + prefix_len p (drop n xs)
prefix_len-drop p zero xs passed = omega arith
prefix_len-drop p (suc n) [] passed = absurd (omega arith)
prefix_len-drop p (suc n) (x ∷ xs) passed = both (p x) passed (prefix_len-drop p n xs)
  where
    both : (passes : Bool) → suc n ≤ cond passes (1 + prefix_len p xs) 0
        → (n ≤ prefix_len p xs → prefix_len p xs ≡ n + prefix_len p (drop n xs))
        → cond passes (1 + prefix_len p xs) 0 ≡ suc n + prefix_len p (drop n xs)
    both true more rest = let same = rest (omega arith) in omega arith
    both false more rest = absurd (omega arith)

-- no line feed is before `n`
module _ (xs : List ℕ) (n : ℕ) (sought : n ≤ position_or_len is_feed xs) where
  pub within : n ≤ length xs
  within = let whole = prefix_len-le-length (λ x. not (is_feed x)) xs in omega arith

  on : position_or_len is_feed xs ≡ n + position_or_len is_feed (drop n xs)
  on = prefix_len-drop (λ x. not (is_feed x)) n xs sought

  pub at_feed : (at : ℕ) → position is_feed (drop n xs) ≡ Some at → first_line_len xs ≡ Some (n + at + 1)
  at_feed at found =
      let here = is_some _ _ found in
      let before : position_or_len is_feed (drop n xs) < length (drop n xs) = ltb-true _ _ here.0 in
      let long : length (drop n xs) ≡ length xs - n = length-drop n xs in
      let test : ltb (position_or_len is_feed xs) (length xs) ≡ true = lt-ltb _ _ (omega (arith, on, here.1)) in
      let place : position_or_len is_feed xs ≡ n + at = omega (arith, on, here.1) in
      rw (test, place)
    where
      is_some : (test : Bool) (place : ℕ) → cond test (Some place) None ≡ Some at → (test ≡ true) × (place ≡ at)
      is_some true place same = (refl, cc)
      is_some false place same = cc

  pub no_feed : position is_feed (drop n xs) ≡ None → position_or_len is_feed xs ≡ length xs
  no_feed found =
      let after : length (drop n xs) ≤ position_or_len is_feed (drop n xs) = ltb-false _ _ (is_none _ _ found) in
      let long : length (drop n xs) ≡ length xs - n = length-drop n xs in
      let most = prefix_len-le-length (λ x. not (is_feed x)) xs in
      omega (arith, on)
    where
      is_none : (test : Bool) (place : ℕ) → cond test (Some place) None ≡ None → test ≡ false
      is_none true place same = cc
      is_none false place same = refl

pub all_without : (xs : List ℕ) → position_or_len is_feed xs ≡ length xs → first_line_len xs ≡ None
all_without xs none = rw (le-ltb (position_or_len is_feed xs) (length xs) (omega arith))

-- bytes that go on have no line feed where they had none
pub still_without : (xs ys : List ℕ) (n : ℕ) → take (length xs) ys ≡ xs → n ≤ position_or_len is_feed xs
    → n ≤ position_or_len is_feed ys
still_without xs ys n front sought =
    let fewer = prefix_len-take (λ x. not (is_feed x)) (length xs) ys in
    let same : position_or_len is_feed (take (length xs) ys) ≡ position_or_len is_feed xs
    = ap (position_or_len is_feed) front in
    omega arith
