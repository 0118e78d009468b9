-- Where the lowest bits have names, a number that has no others has a name for each of its bits.
use Rattle.std.proofs.Common.{◌≡◌, ℕ, zero, suc, ◌+◌, ◌*◌, ◌/◌, ◌^◌, ◌<◌, ◌||◌, ℤ, pos, Bool, true, false, not, Option}
use Rattle.std.proofs.Common.{is_some, refl, ap, sym, ◌∙◌, arith, zero-mul}
use Rattle.std.proofs.lemmas.Nat.{div-add-mod', mod_below, pow_pos}
use Rattle.std.proofs.Math.Nat.{two-pow-succ}
use Rattle.fb_schema.specs.Schema.{Name}
use Rattle.fb_text.specs.Texts.{are_named, has_name, is_odd}
use Rattle.fb_text.proofs.flags.NoBitsHaveNoNames.{none_named}

or_true : (b : Bool) → (b || true) ≡ true
or_true true = refl
or_true false = refl

-- a number without bits at a place and above
pub few_bits : (m most : ℕ) → m / 2 ^ most ≡ 0 → m < 2 ^ most
few_bits m most none =
    let low : m / 2 ^ most * 2 ^ most ≡ 0 = ap (λ d. d * 2 ^ most) none ∙ zero-mul (2 ^ most) in
    omega (arith, low, div-add-mod' m (2 ^ most), mod_below m (2 ^ most) (pow_pos most))

module _ (name : ℤ → Option Name) (most : ℕ) (each : (k : ℕ) → k < most → is_some (name (pos (2 ^ k))) ≡ true) where
  -- from the bit at a place on, of which the rest have names
  low_named_from : (left k rest m : ℕ) → k + rest ≡ most → m < 2 ^ rest → are_named name left (2 ^ k) m ≡ true
  unfolding are_named
  low_named_from zero k rest m sum less = refl
  low_named_from (suc left) k zero m sum less =
      let none : m ≡ 0 = omega (arith, less) in rw none (none_named name (suc left) (2 ^ k))
  low_named_from (suc left) k (suc rest) m sum less =
      let twice : 2 ^ k + 2 ^ k ≡ 2 ^ suc k = sym (two-pow-succ k) in
      let half : m / 2 < 2 ^ rest = omega (arith, less, two-pow-succ rest) in
      let there : is_some (name (pos (2 ^ k))) ≡ true = each k (omega (arith, sum)) in
      let first : has_name name (2 ^ k) m ≡ true =
      ap (λ b. not (is_odd m) || b) there ∙ or_true (not (is_odd m)) in
      rw (first, twice) (low_named_from left (suc k) rest (m / 2) (omega (arith, sum)) half)

  pub low_bits_named : (m : ℕ) → m < 2 ^ most → are_named name 64 1 m ≡ true
  low_bits_named m less = low_named_from 64 0 most m (omega arith) less
