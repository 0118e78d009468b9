-- Only so many of a number's bits are looked at.
use Rattle.std.proofs.Common.{◌≡◌, ℕ, zero, suc, ◌+◌, ◌*◌, ◌/◌, ◌%◌, ◌^◌, ◌&&◌, ◌||◌, ◌++◌, ◌==◌, ℤ, pos, ◌<ℤ◌}
use Rattle.std.proofs.Common.{Bool, false, Option, refl, ap, ◌∙◌, arith, ne_eqb}
use Rattle.std.proofs.lemmas.Nat.{pow_pos}
use Rattle.std.proofs.Math.Arith.{mod-mul}
use Rattle.std.proofs.Math.Nat.{pow-suc}
use Rattle.fb_schema.specs.Schema.{Name}
use Rattle.fb_text.specs.Texts.{are_named, bits_of, bit_text, bits_text, has_name, is_odd}

-- a number above zero has bits
pub some_bits : (n : ℤ) → pos 0 <ℤ n → (bits_of n == 0) ≡ false
some_bits (pos (suc m)) h = ne_eqb (suc m) 0 (λ e. omega arith)
some_bits _ h = absurd (omega arith)

-- the lowest bit, and twice those of the half
digits : (n k : ℕ) → n % 2 ^ suc k ≡ (n / 2 % 2 ^ k) * 2 + n % 2
digits n k = ap (λ m. n % m) (pow-suc 2 k) ∙ mod-mul n (pow_pos k) (omega arith)

lowest_same : (n k : ℕ) → n % 2 ^ suc k % 2 ≡ n % 2
lowest_same n k = omega (arith, digits n k)

half_same : (n k : ℕ) → n % 2 ^ suc k / 2 ≡ n / 2 % 2 ^ k
half_same n k = omega (arith, digits n k)

module _ (name : ℤ → Option Name) where
  pub low_named : (k bit n : ℕ) → are_named name k bit (n % 2 ^ k) ≡ are_named name k bit n
  unfolding are_named
  low_named zero bit n = refl
  low_named (suc k) bit n =
      rw (lowest_same n k, half_same n k) (ap (λ b. has_name name bit n && b) (low_named k (bit + bit) (n / 2)))

  pub low_written : (k bit n : ℕ) (some : Bool) → bits_text name k bit (n % 2 ^ k) some ≡ bits_text name k bit n some
  unfolding bits_text
  low_written zero bit n some = refl
  low_written (suc k) bit n some =
      rw (lowest_same n k, half_same n k)
      (ap (λ l. bit_text name bit n some ++ l) (low_written k (bit + bit) (n / 2) (some || is_odd n)))
