-- A text, or a vector of numbers or structs, once its bytes are laid.
use Rattle.std.proofs.Common.{◌≡◌, ℕ, ◌+◌, ◌-◌, ◌*◌, ◌%◌, ◌^◌, ◌<◌, ◌≤◌, ◌++◌, true, max, List, []}
use Rattle.std.proofs.Common.{◌∷◌, length, replicate}
use Rattle.std.proofs.Common.{refl, ap, sym, ◌∙◌, subst, inl, inr, arith, append_assoc, length-append}
use Rattle.std.proofs.lemmas.Bool.{eq-eqb, both_ways}
use Rattle.std.proofs.Math.Nat.{mul-le-mul_right}
use Rattle.byteorder.specs.Endian.{little_bytes}
use Rattle.byteorder.specs.Numbers.{length-bytes_low_first}
use Rattle.fb_layout.specs.Laid.{LaidSchema, size_of, align_of}
use Rattle.fb_value.specs.Num.{Bytes, num, divides}
use Rattle.fb_value.specs.Places.{part_place, text_part}
use Rattle.fb_value.specs.Bounds.{most_bytes}
use Rattle.fb_value.proofs.tails.TailsAreKeptInFront.{through}
use Rattle.fb_tape.specs.NamedParts.{NamedPart}
use Rattle.fb_tape.specs.Tapes.{IsData, IsTextData, IsVectorData}
use Rattle.fb_build.specs.CoveredTails.{parts_in_tail}
use Rattle.fb_build.specs.Made.{Adds}
use Rattle.fb_build.specs.Pieces.{PartAt}
use Rattle.fb_build.specs.Tails.{TailSeen, LaidInTail}
use Rattle.fb_build.proofs.covered.PartAddsItself.{part_laid}
use Rattle.fb_build.proofs.covered.PartsStayAsLaid.{text_stays}
use Rattle.fb_build.proofs.tail.WhatIsLaidStaysLaid.{self_divides}
use Rattle.fb_build.proofs.taped.BytesOfAValueLieInATail.{elements_end}
use Rattle.fb_build.proofs.texts.TextFollowsItsCount.{text_end}
use Rattle.fb_build.proofs.vectors.ClosedVectorHasItsElements.{IsClosed, closed_lies, closed_adds, closed_alone}
use Rattle.fb_build.proofs.vectors.VectorHasItsElements.{element_padded, without_items}
use Rattle.fb_value.proofs.numbers.BytesSumToTheirNumber.{num_first}
use Rattle.fb_tape.proofs.stored.SizesOfWhatIsStored.{elements_long}

-- Zeros and the bytes were laid: from o to p and to b.
pub record IsDataLaid (align zeros : ℕ) (bytes : Bytes) (o p b : TailSeen) : Type 0 where
  pub padded : p.bytes ≡ replicate zeros 0 ++ o.bytes
  pub under : zeros < align
  pub widened : p.most ≡ max o.most align
  pub multiple : (length p.bytes + (length bytes - 4)) % align ≡ 0
  pub wide : divides align p.most ≡ true
  pub laid : b.bytes ≡ bytes ++ p.bytes
  pub free : b.free + length bytes ≡ p.free
  pub most : b.most ≡ p.most
  pub short : length bytes ≤ most_bytes

module _ (L : LaidSchema) (part : NamedPart) (align zeros : ℕ) (bytes : Bytes) (o p b : TailSeen)
    (c : IsDataLaid align zeros bytes o p b) (d : IsTextData part align bytes) where
  text_bytes : b.bytes ≡ little_bytes 4 (length d.text) ++ (d.text ++ (0 ∷ p.bytes))
  text_bytes =
      let t = d.text in
      let n = little_bytes 4 (length t) in
      c.laid ∙ ap (λ x. x ++ p.bytes) d.bytes_are ∙ append_assoc n (t ++ (0 ∷ [])) p.bytes
      ∙ ap (λ x. n ++ x) (append_assoc t (0 ∷ []) p.bytes)

  text_long : length bytes ≡ 4 + (length d.text + 1)
  text_long =
      let t = d.text in
      let n = little_bytes 4 (length t) in
      let whole = ap length d.bytes_are in
      let parts = length-append n (t ++ (0 ∷ [])) in
      let more = length-append t (0 ∷ []) in
      let four = length-bytes_low_first 0 4 (length t) in
      omega (arith, whole, parts, more, four)

  text_short : length d.text < 256 ^ 4
  text_short = omega (arith, text_long, c.short)

  text_lies : LaidInTail L b.most b.bytes (part_place part.target) (length b.bytes) part.value
  text_lies =
      let whole = ap length c.laid in
      let parts = length-append bytes p.bytes in
      let multiple = rw d.align_is at c.multiple in
      let wide = rw d.align_is at c.wide in
      let four : divides 4 (length b.bytes) ≡ true = eq-eqb _ _ (omega (arith, whole, parts, text_long, multiple)) in
      rw d.part_is
      (text_end L b.most b.bytes d.text p.bytes text_bytes text_short d.utf8 four (rw c.most wide))

  text_adds : (places : List ℕ) → Adds L o places b places
      (parts_in_tail L b.bytes part.target (length b.bytes) part.value)
  text_adds places =
      let t = d.text in
      let n = little_bytes 4 (length t) in
      let whole : b.bytes ≡ bytes ++ (replicate zeros 0 ++ o.bytes) = c.laid ∙ ap (λ x. bytes ++ x) c.padded in
      let number : num b.bytes 0 4 ≡ length t =
      ap (λ x. num x 0 4) text_bytes ∙ num_first 4 (length t) (t ++ (0 ∷ p.bytes)) text_short in
      let size : (4 + num b.bytes 0 4) + 1 ≡ length bytes = rw number (omega (arith, text_long)) in
      let most : b.most ≡ max o.most 4 = c.most ∙ (rw d.align_is at c.widened) in
      let first : length b.bytes - length b.bytes ≡ 0 = omega arith in
      let under = rw d.align_is at c.under in
      rw d.part_is (rw first (part_laid L o b text_part bytes zeros whole (omega (arith, most, under)) size refl
      (text_stays L b.bytes 0) (omega (arith, most)) places))

module _ (L : LaidSchema) (part : NamedPart) (align zeros : ℕ) (bytes : Bytes) (o p b : TailSeen)
    (c : IsDataLaid align zeros bytes o p b) (d : IsVectorData L part align bytes) where
  vector_long : length bytes ≡ 4 + length d.elements * size_of L d.kind
  vector_long =
      let whole = ap length d.bytes_are in
      let parts = length-append (little_bytes 4 (length d.elements)) d.element_bytes in
      let four = length-bytes_low_first 0 4 (length d.elements) in
      let all = elements_long L d.kind d.elements d.element_bytes d.stand in
      omega (arith, whole, parts, four, all)

  elements_laid : TailSeen
  elements_laid = record {
    free = b.free + 4;
    bytes = d.element_bytes ++ p.bytes;
    most = p.most;
  }

  vector_closed : IsClosed L d.kind d.elements o p elements_laid b zeros
  unfolding elements_laid
  vector_closed =
      let n = length d.elements in
      let z = size_of L d.kind in
      let padded = element_padded L d.kind d.known.element in
      let all = elements_long L d.kind d.elements d.element_bytes d.stand in
      let behind : length bytes - 4 ≡ n * z = omega (arith, vector_long) in
      let multiple : (length p.bytes + n * z) % max 4 (align_of L d.kind) ≡ 0 =
      rw (← d.align_is, ← behind) c.multiple in
      let whole : divides (max 4 (align_of L d.kind)) (length p.bytes + n * z) ≡ true = eq-eqb _ _ multiple in
      let wide : divides (max 4 (align_of L d.kind)) p.most ≡ true = rw (← d.align_is) c.wide in
      let least = mul-le-mul_right {m = 1} {n = z} n padded.some in
      let swap : z * n ≡ n * z = omega arith in
      let parts = length-append d.element_bytes p.bytes in
      let four = length-bytes_low_first 0 4 n in
      record {
        element = d.known.element;
        padded = c.padded;
        under = omega (arith, c.under, d.align_is);
        widened = c.widened ∙ ap (λ i. max o.most i) d.align_is;
        whole = whole;
        wide = wide;
        elements = record {
          front = d.element_bytes;
          grown = refl;
          spent = omega (arith, vector_long, all, c.free);
          multiple = self_divides p.most;
        };
        long = omega (arith, parts, all);
        as_wide = refl;
        items = elements_end L d.kind d.elements d.element_bytes p d.known.element d.inline d.stand
            (without_items (align_of L d.kind) z n (length p.bytes) padded.size (through _ _ _ padded.own whole))
            (through _ _ _ padded.own wide);
        counted = record {
          front = little_bytes 4 n;
          grown = c.laid ∙ ap (λ x. x ++ p.bytes) d.bytes_are
              ∙ append_assoc (little_bytes 4 n) d.element_bytes p.bytes;
          spent = omega (arith, four);
          multiple = rw c.most (self_divides p.most);
        };
        number = c.laid ∙ ap (λ x. x ++ p.bytes) d.bytes_are
            ∙ append_assoc (little_bytes 4 n) d.element_bytes p.bytes;
        most = c.most;
        short = omega (arith, least, swap, vector_long, c.short);
      }

  vector_lies : LaidInTail L b.most b.bytes (part_place part.target) (length b.bytes) part.value
  vector_lies = rw d.part_is (closed_lies vector_closed)

  vector_adds : (places : List ℕ) → Adds L o places b places
      (parts_in_tail L b.bytes part.target (length b.bytes) part.value)
  vector_adds places =
      let alone = closed_alone vector_closed (λ is. absurd (both_ways _ d.inline is)) in
      rw d.part_is (subst (λ (ps : List PartAt). Adds L o places b places ps) (sym alone)
      (closed_adds vector_closed places))

pub data_lies : (L : LaidSchema) (part : NamedPart) (align zeros : ℕ) (bytes : Bytes) (o p b : TailSeen)
    → IsDataLaid align zeros bytes o p b → IsData L part align bytes
    → LaidInTail L b.most b.bytes (part_place part.target) (length b.bytes) part.value
data_lies L part align zeros bytes o p b c is = elim is [
  | inl d ↦ text_lies L part align zeros bytes o p b c d
  | inr d ↦ vector_lies L part align zeros bytes o p b c d
]

pub data_adds : (L : LaidSchema) (part : NamedPart) (align zeros : ℕ) (bytes : Bytes) (o p b : TailSeen)
    → IsDataLaid align zeros bytes o p b → IsData L part align bytes → (places : List ℕ)
    → Adds L o places b places (parts_in_tail L b.bytes part.target (length b.bytes) part.value)
data_adds L part align zeros bytes o p b c is places = elim is [
  | inl d ↦ text_adds L part align zeros bytes o p b c d places
  | inr d ↦ vector_adds L part align zeros bytes o p b c d places
]
