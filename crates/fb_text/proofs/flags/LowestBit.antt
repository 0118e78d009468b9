-- The lowest bit of a number that is set, and those behind it.
use Rattle.std.proofs.Common.{◌≡◌, ℕ, zero, suc, ◌+◌, ◌-◌, ◌*◌, ◌/◌, ◌%◌, ◌^◌, ◌<◌, ◌≤◌, ◌++◌, ◌||◌, ◌&&◌, ℤ, pos}
use Rattle.std.proofs.Common.{[], List, true, false, Bool, Option, is_some, codes, if◌then◌else◌, refl, ap, sym, ◌∙◌}
use Rattle.std.proofs.Common.{arith}
use Rattle.std.specs.Int.{bit_at, trailing_zeros, w64}
use Rattle.std.specs.Option.{unwrap_or}
use Rattle.std.proofs.lemmas.Nat.Bits.{bit_at-suc, bit_at_lowest, bit_at-trailing_zeros}
use Rattle.std.proofs.Math.Nat.{two-pow-succ, mul-add, add-mul}
use Rattle.fb_schema.specs.Schema.{Name}
use Rattle.fb_text.specs.Texts.{are_named, bits_text}

-- a name, behind a blank where another name stands before
abbrev pub name_text : Bool → Option Name → List ℕ
name_text some name = (if some then codes " " else []) ++ unwrap_or name []

-- The lowest bit that is set is at a place.
pub record IsLowest (n t : ℕ) : Type 0 where
  pub set : bit_at n t ≡ 1
  pub clear : (i : ℕ) → i < t → bit_at n i ≡ 0

abbrev pub lowest : ℕ → ℕ
lowest n = trailing_zeros w64 n

pub lowest_of : (n : ℕ) → 0 < n → n < 2 ^ 64 → (lowest n < 64) × IsLowest n (lowest n)
lowest_of n some fits =
    let (low, set, clear) = bit_at-trailing_zeros w64 n some fits in (low, record { set = set; clear = clear })

-- In the half of an even number it is one place lower.
half_lowest : (n t : ℕ) → IsLowest n (suc t) → IsLowest (n / 2) t
half_lowest n t h = record {
  set = sym (bit_at-suc n t) ∙ h.set;
  clear = λ i less. sym (bit_at-suc n i) ∙ h.clear (suc i) (omega arith);
}

odd_there : (n : ℕ) → IsLowest n 0 → n % 2 ≡ 1
odd_there n h = sym (bit_at_lowest n) ∙ h.set

even_below : (n t : ℕ) → IsLowest n (suc t) → n % 2 ≡ 0
even_below n t h = sym (bit_at_lowest n) ∙ h.clear 0 (omega arith)

-- a bit that is set is no more than the number
pub bit_within : (n t : ℕ) → IsLowest n t → 2 ^ t ≤ n
bit_within n zero h = omega (arith, odd_there n h)
bit_within n (suc t) h = omega (arith, bit_within (n / 2) t (half_lowest n t h), two-pow-succ t)

twice : (bit t : ℕ) → (bit + bit) * 2 ^ t ≡ bit * 2 ^ suc t
twice bit t =
    let power : bit * 2 ^ suc t ≡ bit * (2 ^ t + 2 ^ t) = ap (λ p. bit * p) (two-pow-succ t) in
    omega (arith, power, mul-add bit (2 ^ t) (2 ^ t), add-mul bit bit (2 ^ t))

-- the half of a number without that bit
half_without : (n t : ℕ) → IsLowest n (suc t) → (n - 2 ^ suc t) / 2 ≡ n / 2 - 2 ^ t
half_without n t h = omega (arith, even_below n t h, two-pow-succ t, bit_within n (suc t) h)

even_without : (n t : ℕ) → IsLowest n t → (n - 2 ^ t) % 2 ≡ 0
even_without n zero h = omega (arith, odd_there n h)
even_without n (suc t) h = omega (arith, even_below n t h, two-pow-succ t, bit_within n (suc t) h)

module _ (name : ℤ → Option Name) where
  -- a number whose lowest bit isn't set
  text_of_even : (k bit n : ℕ) (some : Bool) → n % 2 ≡ 0
      → bits_text name (suc k) bit n some ≡ bits_text name k (bit + bit) (n / 2) some
  unfolding bits_text
  text_of_even k bit n some even = rw even (ap (bits_text name k (bit + bit) (n / 2)) (or_false some))
    where
      or_false : (some : Bool) → (some || false) ≡ some
      or_false true = refl
      or_false false = refl

  text_of_odd : (k bit n : ℕ) (some : Bool) → n % 2 ≡ 1
      → bits_text name (suc k) bit n some ≡ name_text some (name (pos bit)) ++ bits_text name k (bit + bit) (n / 2) true
  unfolding bits_text
  text_of_odd k bit n some odd =
      let first = name_text some (name (pos bit)) in
      rw odd (ap (λ b. first ++ bits_text name k (bit + bit) (n / 2) b) (or_true some))
    where
      or_true : (some : Bool) → (some || true) ≡ true
      or_true true = refl
      or_true false = refl

  -- the lowest bit's name and those behind it
  pub lowest_written : (k bit n t : ℕ) (some : Bool) → t < k → IsLowest n t
      → name_text some (name (pos (bit * 2 ^ t))) ++ bits_text name k bit (n - 2 ^ t) true ≡ bits_text name k bit n some
  lowest_written zero bit n t some low h = absurd (omega arith)
  lowest_written (suc k) bit n zero some low h =
      let same : (n - 1) / 2 ≡ n / 2 = omega (arith, odd_there n h) in
      let here : bit * 1 ≡ bit = omega arith in
      rw (text_of_even k bit (n - 1) true (even_without n 0 h), same, here)
      (sym (text_of_odd k bit n some (odd_there n h)))
  lowest_written (suc k) bit n (suc t) some low h =
      rw (text_of_even k bit (n - 2 ^ suc t) true (even_without n (suc t) h), half_without n t h, ← twice bit t)
      (lowest_written k (bit + bit) (n / 2) t some (omega arith) (half_lowest n t h)
      ∙ sym (text_of_even k bit n some (even_below n t h)))

  named_of_even : (k bit n : ℕ) → n % 2 ≡ 0 → are_named name (suc k) bit n ≡ are_named name k (bit + bit) (n / 2)
  unfolding are_named
  named_of_even k bit n even = rw even refl

  named_of_odd : (k bit n : ℕ) → n % 2 ≡ 1
      → are_named name (suc k) bit n ≡ (is_some (name (pos bit)) && are_named name k (bit + bit) (n / 2))
  unfolding are_named
  named_of_odd k bit n odd = rw odd refl

  -- Each bit has a name where the lowest has and those behind it have.
  pub lowest_named : (k bit n t : ℕ) → t < k → IsLowest n t
      → (is_some (name (pos (bit * 2 ^ t))) && are_named name k bit (n - 2 ^ t)) ≡ are_named name k bit n
  lowest_named zero bit n t low h = absurd (omega arith)
  lowest_named (suc k) bit n zero low h =
      let same : (n - 1) / 2 ≡ n / 2 = omega (arith, odd_there n h) in
      let here : bit * 1 ≡ bit = omega arith in
      rw (named_of_even k bit (n - 1) (even_without n 0 h), same, here) (sym (named_of_odd k bit n (odd_there n h)))
  lowest_named (suc k) bit n (suc t) low h =
      rw (named_of_even k bit (n - 2 ^ suc t) (even_without n (suc t) h), half_without n t h, ← twice bit t)
      (lowest_named k (bit + bit) (n / 2) t (omega arith) (half_lowest n t h)
      ∙ sym (named_of_even k bit n (even_below n t h)))

  -- the same of a number of 64 bits
  module _ (n : ℕ) (some : 0 < n) (fits : n < 2 ^ 64) where
    at_place : 1 * 2 ^ lowest n ≡ 2 ^ lowest n
    at_place = omega arith

    pub first_written : (behind : Bool)
        → name_text behind (name (pos (2 ^ lowest n))) ++ bits_text name 64 1 (n - 2 ^ lowest n) true
        ≡ bits_text name 64 1 n behind
    unfolding at_place
    first_written behind =
        let (low, is) = lowest_of n some fits in rw at_place at (lowest_written 64 1 n (lowest n) behind low is)

    pub first_named : (named : Bool) → is_some (name (pos (2 ^ lowest n))) ≡ named
        → (named && are_named name 64 1 (n - 2 ^ lowest n)) ≡ are_named name 64 1 n
    unfolding at_place
    first_named named here =
        let (low, is) = lowest_of n some fits in
        rw here at (rw at_place at (lowest_named 64 1 n (lowest n) low is))
