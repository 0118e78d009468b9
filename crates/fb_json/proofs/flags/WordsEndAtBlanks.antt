-- A text's words: what stands before its first blank, and the words behind it.
use Rattle.std.proofs.Common.{◌≡◌, ◌≢◌, ℕ, suc, ◌<◌, List, [], ◌∷◌, ◌++◌, length, get_or, Option, None, Some, ℤ, bit_or}
use Rattle.std.proofs.Common.{refl, ap, sym, arith, ne_eqb}
use Rattle.std.specs.Int.{int_bit_or, w128, cast_signed, cast_unsigned}
use Rattle.std.proofs.Math.Facts.{of_z-to_z}
use mir.Val.{Fits}
use Rattle.fb_json.specs.Flags.{blank, words, flags_named}

-- no blank stands in it
abbrev pub HasNoBlank : List ℕ → Type 0
HasNoBlank w = (i : ℕ) → i < length w → get_or w i 0 ≢ blank

pub one_word : (w : List ℕ) → HasNoBlank w → words w ≡ w ∷ []
unfolding words
one_word [] none = refl
one_word (c ∷ cs) none = rw (ne_eqb c blank (none 0 (omega arith)), one_word cs (λ i l. none (suc i) (omega arith)))
    refl

pub first_word : (w rest : List ℕ) → HasNoBlank w → words (w ++ blank ∷ rest) ≡ w ∷ words rest
unfolding words
first_word [] rest none = refl
first_word (c ∷ cs) rest none =
    rw (ne_eqb c blank (none 0 (omega arith)), first_word cs rest (λ i l. none (suc i) (omega arith))) refl

module _ (flag : List ℕ → Option ℤ) (so_far : ℤ) where
  -- one flag more
  pub flag_taken : (n : ℤ) (left name rest : List ℕ) → left ≡ name ++ blank ∷ rest → HasNoBlank name
      → Some n ≡ flag name
      → flags_named flag so_far (words left) ≡ flags_named flag (int_bit_or w128 so_far n) (words rest)
  flag_taken n left name rest split none named = rw (split, first_word name rest none, ← named) refl

  -- the last flag
  pub flag_last : (n : ℤ) (left : List ℕ) → HasNoBlank left → Some n ≡ flag left
      → flags_named flag so_far (words left) ≡ Some (int_bit_or w128 so_far n)
  flag_last n left none named = rw (one_word left none, ← named) refl

  -- a word that names no flag
  pub none_named : (left name rest : List ℕ) → left ≡ name ++ blank ∷ rest → HasNoBlank name → None ≡ flag name
      → flags_named flag so_far (words left) ≡ None
  none_named left name rest split none named = rw (split, first_word name rest none, ← named) refl

  pub none_last : (left : List ℕ) → HasNoBlank left → None ≡ flag left → flags_named flag so_far (words left) ≡ None
  none_last left none named = rw (one_word left none, ← named) refl

-- the bits of a number, joined with another's
pub or_bits : (bits : ℕ) (n : ℤ) → Fits w128 bits
    → cast_signed w128 (bit_or bits (cast_unsigned w128 n)) ≡ int_bit_or w128 (cast_signed w128 bits) n
or_bits bits n fits = ap (λ m. cast_signed w128 (bit_or m (cast_unsigned w128 n)))
    (sym (of_z-to_z {w = w128} {n = bits} fits))
