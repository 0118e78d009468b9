-- What bytes mean is a number of its type's range, and a text that keeps its rules is UTF-8.
use Rattle.std.proofs.Common.{◌≡◌, ℕ, zero, suc, ◌+◌, ◌-◌, ◌*◌, ◌<◌, ◌≤◌, Bool, true, false, cond, nat_lt, List, []}
use Rattle.std.proofs.Common.{◌∷◌, length, take, slice_index, All, pos, negsuc, ◌≤ℤ◌, ◌==◌, refl, arith, rules}
use Rattle.std.proofs.lemmas.Bool.Decides.{nat_tests}
use Rattle.std.proofs.lemmas.Int.{ints}
use Rattle.std.proofs.lemmas.List.{take_all}
use Rattle.std.proofs.lemmas.Str.{IsUtf8-from_is_utf8, IsUtf8-nil}
use Rattle.std.specs.Str.{IsUtf8, is_utf8}
use Rattle.std.specs.Str.Lossy.{utf8_valid_len, valid_len_up_to}
use Rattle.fb_schema.specs.declared.kinds.Base.{Base}
use Rattle.fb_schema.specs.declared.kinds.Base.TheVariants.{Bool as Boolean, I8, U8, I16, U16, I32, U32, I64, U64}
use Rattle.fb_schema.specs.Alignments.{base_size}
use Rattle.fb_schema.specs.WellDeclared.{InRange}
use Rattle.fb_value.specs.Num.{Bytes, num, scalar_of, signed}

-- each byte is below 256, also past the end
below : (b : Bytes) → All (λ x. x < 256) b → (k : ℕ) → slice_index b k < 256
below [] small k = omega arith
below (x ∷ b) small zero = small 0 0 (omega arith)
below (x ∷ b) small (suc k) = below b (λ j d less. small (suc j) d (omega arith)) k

-- a number of few bytes is small
num_small : (b : Bytes) → ((k : ℕ) → slice_index b k < 256) → (p : ℕ)
    → (num b p 1 < 256) × (num b p 2 < 65536) × (num b p 4 < 4294967296) × (num b p 8 < 18446744073709551616)
unfolding num
num_small b small p =
    let s0 = small (p + 0) in
    let s1 = small (p + 1) in
    let s2 = small (p + 2) in
    let s3 = small (p + 3) in
    let s4 = small (p + 4) in
    let s5 = small (p + 5) in
    let s6 = small (p + 6) in
    let s7 = small (p + 7) in (
      omega (arith, s0),
      omega (arith, s0, s1),
      omega (arith, s0, s1, s2, s3),
      omega (arith, s0, s1, s2, s3, s4, s5, s6, s7),
    )

-- two's complement in so many bytes
signed_1 : (x : ℕ) → x < 256 → InRange I8 (signed 1 x)
signed_1 x h = by_case (nat_lt (2 * x) 256) refl
  where
    by_case : (c : Bool) → nat_lt (2 * x) 256 ≡ c → InRange I8 (cond c (pos x) (negsuc ((256 - x) - 1)))
    by_case true e = (search (rules, ints), grind (arith, nat_tests, ints))
    by_case false e = (grind (arith, nat_tests, ints), search (rules, ints))

signed_2 : (x : ℕ) → x < 65536 → InRange I16 (signed 2 x)
signed_2 x h = by_case (nat_lt (2 * x) 65536) refl
  where
    by_case : (c : Bool) → nat_lt (2 * x) 65536 ≡ c → InRange I16 (cond c (pos x) (negsuc ((65536 - x) - 1)))
    by_case true e = (search (rules, ints), grind (arith, nat_tests, ints))
    by_case false e = (grind (arith, nat_tests, ints), search (rules, ints))

signed_4 : (x : ℕ) → x < 4294967296 → InRange I32 (signed 4 x)
signed_4 x h = by_case (nat_lt (2 * x) 4294967296) refl
  where
    by_case : (c : Bool) → nat_lt (2 * x) 4294967296 ≡ c → InRange I32 (cond c (pos x) (negsuc ((4294967296 - x) - 1)))
    by_case true e = (search (rules, ints), grind (arith, nat_tests, ints))
    by_case false e = (grind (arith, nat_tests, ints), search (rules, ints))

signed_8 : (x : ℕ) → x < 18446744073709551616 → InRange I64 (signed 8 x)
signed_8 x h = by_case (nat_lt (2 * x) 18446744073709551616) refl
  where
    by_case : (c : Bool) → nat_lt (2 * x) 18446744073709551616 ≡ c
        → InRange I64 (cond c (pos x) (negsuc ((18446744073709551616 - x) - 1)))
    by_case true e = (search (rules, ints), grind (arith, nat_tests, ints))
    by_case false e = (grind (arith, nat_tests, ints), search (rules, ints))

-- a `bool` is 0 or 1
truth : (c : Bool) → InRange Boolean (cond c (pos 0) (pos 1))
truth true = (search (rules, ints), search (rules, ints))
truth false = (search (rules, ints), search (rules, ints))

-- a number without a sign
unsigned : (x most : ℕ) → x ≤ most → (pos 0 ≤ℤ pos x) × (pos x ≤ℤ pos most)
unsigned x most h = (search (rules, ints), grind (arith, ints))

-- The number that stands at a position is one of its type's.
pub number_ranges : (b : Bytes) → All (λ x. x < 256) b → (base : Base) (p : ℕ)
    → InRange base (scalar_of base (num b p (base_size base)))
number_ranges b small Boolean p = truth (num b p 1 == 0)
number_ranges b small I8 p = signed_1 _ (num_small b (below b small) p).0
number_ranges b small U8 p = let h = (num_small b (below b small) p).0 in unsigned _ 255 (omega arith)
number_ranges b small I16 p = signed_2 _ (num_small b (below b small) p).1
number_ranges b small U16 p = let h = (num_small b (below b small) p).1 in unsigned _ 65535 (omega arith)
number_ranges b small I32 p = signed_4 _ (num_small b (below b small) p).2
number_ranges b small U32 p = let h = (num_small b (below b small) p).2 in unsigned _ 4294967295 (omega arith)
number_ranges b small I64 p = signed_8 _ (num_small b (below b small) p).3
number_ranges b small U64 p = let h = (num_small b (below b small) p).3 in unsigned _ 18446744073709551615 (omega arith)

-- A single byte is at most 255.
pub byte_small : (b : Bytes) → All (λ x. x < 256) b → (p : ℕ) → num b p 1 ≤ 255
byte_small b small p = let h = (num_small b (below b small) p).0 in omega arith

-- the front of UTF-8 is no longer than what was asked for
up_to : (bs : List ℕ) (n : ℕ) → valid_len_up_to bs n ≤ n
up_to bs zero = omega arith
up_to bs (suc n) = by_case (is_utf8 (take (suc n) bs)) (up_to bs n)
  where
    by_case : (c : Bool) → valid_len_up_to bs n ≤ n → cond c (suc n) (valid_len_up_to bs n) ≤ suc n
    by_case true h = omega arith
    by_case false h = omega arith

-- where it is as long, all of that is UTF-8
whole_up_to : (bs : List ℕ) (n : ℕ) → valid_len_up_to bs (suc n) ≡ suc n → is_utf8 (take (suc n) bs) ≡ true
whole_up_to bs n e = by_case (is_utf8 (take (suc n) bs)) e
  where
    by_case : (c : Bool) → cond c (suc n) (valid_len_up_to bs n) ≡ suc n → c ≡ true
    by_case true e = refl
    by_case false e = absurd (omega (arith, up_to bs n))

-- Bytes whose longest front of UTF-8 is all of them are UTF-8.
pub utf8_whole : (bs : List ℕ) → utf8_valid_len bs ≡ length bs → IsUtf8 bs
unfolding utf8_valid_len
utf8_whole [] e = IsUtf8-nil
utf8_whole (x ∷ xs) e =
    let all : take (length (x ∷ xs)) (x ∷ xs) ≡ x ∷ xs = take_all (length (x ∷ xs)) (x ∷ xs) (omega arith) in
    IsUtf8-from_is_utf8 (x ∷ xs) (rw all at (whole_up_to (x ∷ xs) (length xs) e))
