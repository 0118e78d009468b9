-- A text lies where its bytes stand.
use Rattle.std.proofs.Common.{◌≡◌, ℕ, ◌+◌, ◌-◌, ◌^◌, ◌<◌, ◌≤◌, ◌++◌, true, ◌∷◌, length, take, drop, slice_index, ap}
use Rattle.std.proofs.Common.{sym, ◌∙◌, arith, length-append}
use Rattle.std.proofs.lemmas.Bool.{le-leb, lt-ltb, eq-eqb, and_from}
use Rattle.std.proofs.lemmas.List.{get_or-append-add}
use Rattle.std.proofs.Math.Seq.{drop-append_seam, take-append_seam}
use Rattle.byteorder.specs.Endian.{little_bytes}
use Rattle.std.specs.Str.{IsUtf8}
use Rattle.std.specs.Str.Lossy.{utf8_valid_len}
use Rattle.std.proofs.lemmas.Str.{utf8_valid_len-IsUtf8}
use Rattle.fb_layout.specs.Laid.{LaidSchema}
use Rattle.fb_value.specs.Datum.{a_text}
use Rattle.fb_value.specs.Num.{Bytes, num, part_of, divides}
use Rattle.fb_value.specs.Places.{part_place, text_part}
use Rattle.fb_value.specs.Rules.{Aligned, fault_by, KeepsBy}
use Rattle.fb_value.specs.Lies.{LiesBy}
use Rattle.fb_value.specs.Tails.{from_end}
use Rattle.fb_value.proofs.rules.RulesHoldOneByOne.{hold, no_rules}
use Rattle.fb_build.specs.Tails.{LaidInTail}
use Rattle.fb_value.proofs.numbers.BytesSumToTheirNumber.{num_first}

-- a text's count, bytes and zero byte stand at p
pub record IsTextAt (b : Bytes) (p : ℕ) (bytes : Bytes) : Type 0 where
  pub count : num b p 4 ≡ length bytes
  pub bytes_are : part_of b (p + 4) (length bytes) ≡ bytes
  pub last : slice_index b ((p + 4) + length bytes) ≡ 0
  pub inside : (p + 4) + length bytes < length b

pub text_lies : (L : LaidSchema) (al : Aligned) (b : Bytes) (p : ℕ) (bytes : Bytes) → IsTextAt b p bytes → IsUtf8 bytes
    → al 4 p ≡ true → LiesBy al L b (part_place text_part) p (a_text bytes)
unfolding fault_by
text_lies L al b p bytes is utf8 aligned =
    let within : p + 4 ≤ length b = omega (arith, is.inside) in
    let whole : (p + 4) + length bytes ≤ length b = omega (arith, is.inside) in
    let valid : utf8_valid_len (part_of b (p + 4) (length bytes)) ≡ length bytes =
    ap utf8_valid_len is.bytes_are ∙ utf8_valid_len-IsUtf8 bytes utf8 in
    let keeps : KeepsBy al L b (part_place text_part) p =
    rw is.count
    (hold _ _ _ aligned
    (hold _ _ _ (and_from _ _ (le-leb _ _ within) (le-leb _ _ whole))
    (hold _ _ _ (and_from _ _ (lt-ltb _ _ is.inside) (eq-eqb _ _ is.last))
    (hold _ _ _ (eq-eqb _ _ valid) no_rules)))) in
    (keeps, rw is.count (sym is.bytes_are))

text_tail : (t : Bytes) (d : Bytes) → length t < 256 ^ 4 → IsTextAt (little_bytes 4 (length t) ++ (t ++ (0 ∷ d))) 0 t
text_tail t d short =
    let n = little_bytes 4 (length t) in
    let whole = n ++ (t ++ (0 ∷ d)) in
    let rest : drop 4 whole ≡ t ++ (0 ∷ d) = drop-append_seam n (t ++ (0 ∷ d)) in
    let last : slice_index whole ((0 + 4) + length t) ≡ 0 =
    get_or-append-add n (t ++ (0 ∷ d)) (length t) 0 ∙ ap (λ i. slice_index (t ++ (0 ∷ d)) i) (omega arith)
    ∙ get_or-append-add t (0 ∷ d) 0 0 in
    record {
      count = num_first 4 (length t) (t ++ (0 ∷ d)) short;
      bytes_are = ap (λ x. take (length t) x) rest ∙ take-append_seam t (0 ∷ d);
      last = last;
      inside = simp (length-append) (omega arith);
    }

-- a text that was laid last
pub text_end : (L : LaidSchema) (m : ℕ) (s t d : Bytes) → s ≡ little_bytes 4 (length t) ++ (t ++ (0 ∷ d))
    → length t < 256 ^ 4 → IsUtf8 t → divides 4 (length s) ≡ true → divides 4 m ≡ true
    → LaidInTail L m s (part_place text_part) (length s) (a_text t)
text_end L m s t d e short utf8 four most =
    let first : length s - length s ≡ 0 = omega arith in
    let whole : length s - 0 ≡ length s = omega arith in
    let is : IsTextAt s 0 t = rw e (text_tail t d short) in
    let aligned : from_end s m 4 0 ≡ true = and_from _ _ (rw whole four) most in
    record {
      lies = record { within = omega arith; lies = rw first (text_lies L (from_end s m) s 0 t is utf8 aligned) };
      old = tt;
      tight = tt;
      inline = tt;
    }
