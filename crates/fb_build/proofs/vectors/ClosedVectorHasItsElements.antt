-- A vector, once its elements and their count are laid.
use Rattle.std.proofs.Common.{◌≡◌, ℕ, ◌+◌, ◌-◌, ◌*◌, ◌^◌, ◌<◌, ◌++◌, true, max, List, [], ◌∷◌, length, replicate}
use Rattle.std.proofs.Common.{refl, ap, sym, ◌∙◌, arith, append_assoc, length-append}
use Rattle.std.proofs.lemmas.Option.{slice_get_within}
use Rattle.std.proofs.Math.Nat.{mul-le-mul_right}
use Rattle.byteorder.specs.Endian.{little_bytes}
use Rattle.byteorder.specs.Numbers.{length-bytes_low_first}
use Rattle.fb_layout.specs.Laid.{LaidSchema, StoredKind, one_of, size_of, align_of}
use Rattle.fb_value.specs.Datum.{Datum, a_vector}
use Rattle.fb_value.specs.Num.{num, divides}
use Rattle.fb_value.specs.Places.{part_place, vector_part}
use Rattle.fb_value.specs.View.{parts_in}
use Rattle.fb_build.specs.CoveredTails.{parts_in_tail}
use Rattle.fb_build.specs.Fields.{IsElement, is_reference, target_for}
use Rattle.fb_build.specs.Items.{ItemsEnd}
use Rattle.fb_build.specs.Made.{Adds, ItemsLead, named_items, ends_parts}
use Rattle.fb_build.specs.Tails.{TailSeen, Grows, LaidInTail}
use Rattle.fb_build.proofs.covered.PartAddsItself.{part_laid}
use Rattle.fb_build.proofs.covered.PartsStayAsLaid.{vector_stays}
use Rattle.fb_build.proofs.covered.ReferenceLeadsThereFurtherOn.{leads_grown}
use Rattle.fb_build.proofs.tables.EndsNameTheParts.{LeadAt, items_reached, none_reached}
use Rattle.fb_build.proofs.vectors.ElementLeadsToItsTarget.{times_split}
use Rattle.fb_build.proofs.vectors.VectorHasItsElements.{element_padded, vector_end}
use Rattle.fb_value.proofs.numbers.BytesSumToTheirNumber.{num_first}
use Rattle.fb_value.proofs.types.PartsByTheirIndex.{count_parts}

-- Zeros, the elements and their count were laid: from o to p, to a and to b.
pub record IsClosed (L : LaidSchema) (kind : StoredKind) (ds : List Datum) (o p a b : TailSeen) (zeros : ℕ)
    : Type 0 where
  pub element : IsElement L kind
  pub padded : p.bytes ≡ replicate zeros 0 ++ o.bytes
  pub under : zeros < max 4 (align_of L kind)
  pub widened : p.most ≡ max o.most (max 4 (align_of L kind))
  pub whole : divides (max 4 (align_of L kind)) (length p.bytes + length ds * size_of L kind) ≡ true
  pub wide : divides (max 4 (align_of L kind)) p.most ≡ true
  pub elements : Grows p a
  pub long : length a.bytes ≡ length p.bytes + length ds * size_of L kind
  pub as_wide : a.most ≡ p.most
  pub items : ItemsEnd L a.most a.bytes kind (parts_in ds)
  pub counted : Grows a b
  pub number : b.bytes ≡ little_bytes 4 (length ds) ++ a.bytes
  pub most : b.most ≡ a.most
  pub short : length ds < 256 ^ 4

module _ {L : LaidSchema} {kind : StoredKind} {ds : List Datum} {o p a b : TailSeen} {zeros : ℕ}
    (c : IsClosed L kind ds o p a b zeros) where
  pub closed_lies : LaidInTail L b.most b.bytes (part_place (vector_part kind)) (length b.bytes)
      (a_vector (parts_in ds))
  closed_lies =
      let same : b.most ≡ p.most = c.most ∙ c.as_wide in
      vector_end L a.most (length ds) a b kind (parts_in ds) c.element c.counted c.number c.short (count_parts ds)
      (rw c.long c.whole) (rw same c.wide) (element_padded L kind c.element).own (omega (arith, c.long)) c.items

  pub closed_adds : (places : List ℕ) → Adds L o places b places (record {
    target = vector_part kind;
    at = length b.bytes - length b.bytes;
  } ∷ [])
  closed_adds places =
      let n = length ds in
      let front = c.elements.front in
      let whole : b.bytes ≡ (little_bytes 4 n ++ front) ++ (replicate zeros 0 ++ o.bytes) =
      c.number ∙ ap (λ x. little_bytes 4 n ++ x) (c.elements.grown ∙ ap (λ x. front ++ x) c.padded)
      ∙ sym (append_assoc (little_bytes 4 n) front (replicate zeros 0 ++ o.bytes)) in
      let number : num b.bytes 0 4 ≡ n = ap (λ x. num x 0 4) c.number ∙ num_first 4 n a.bytes c.short in
      let long : length front ≡ n * size_of L kind =
      (let all = ap length c.elements.grown in let parts = length-append front p.bytes in
      omega (arith, all, parts, c.long)) in
      let size : 4 + num b.bytes 0 4 * size_of L kind ≡ length (little_bytes 4 n ++ front) =
      (let four = length-bytes_low_first 0 4 n in let parts = length-append (little_bytes 4 n) front in
      rw number (omega (arith, parts, four, long))) in
      let most : b.most ≡ max o.most (max 4 (align_of L kind)) = c.most ∙ c.as_wide ∙ c.widened in
      let first : length b.bytes - length b.bytes ≡ 0 = omega arith in
      rw first (part_laid L o b (vector_part kind) (little_bytes 4 n ++ front) zeros whole
      (omega (arith, most, c.under)) size refl (vector_stays L b.bytes kind 0) most places)

  length_closed : length b.bytes ≡ 4 + (length p.bytes + length ds * size_of L kind)
  length_closed =
      let all = ap length c.number in
      let parts = length-append (little_bytes 4 (length ds)) a.bytes in
      let four = length-bytes_low_first 0 4 (length ds) in
      omega (arith, all, parts, four, c.long)

  pub closed_leads : (ends : List ℕ) → ItemsLead L a.bytes (length p.bytes) kind ds ends
      → parts_in_tail L b.bytes (vector_part kind) (length b.bytes) (a_vector (parts_in ds))
      ≡ record { target = vector_part kind; at = length b.bytes - length b.bytes }
      ∷ ends_parts L b.bytes (named_items kind ds) ends
  closed_leads ends leads =
      let n = length ds in
      let z = size_of L kind in
      let first : length b.bytes - length b.bytes ≡ 0 = omega arith in
      let lead : LeadAt L b.bytes (0 + 4) kind ds ends =
      λ k d is. (
      let under = slice_get_within ds k d is in
      let split = mul-le-mul_right {m = k} {n = n} z (omega (arith, under)) in
      let both : (n - k) * z + k * z ≡ n * z = times_split k n z (omega (arith, under)) in
      let end : length b.bytes - ((0 + 4) + k * z) ≡ length p.bytes + (n - k) * z =
      omega (arith, length_closed, both) in (
        omega (arith, length_closed, split),
        rw end (leads_grown a b (target_for (one_of kind) d) _ _ c.counted (leads k d is)),
      )) in
      rw first (ap (λ zs. record { target = vector_part kind; at = 0 } ∷ zs)
      (items_reached L b.bytes kind (0 + 4) ds ends c.element lead))

  pub closed_alone : (is_reference (one_of kind) ≡ true → length ds ≡ 0)
      → parts_in_tail L b.bytes (vector_part kind) (length b.bytes) (a_vector (parts_in ds))
      ≡ record { target = vector_part kind; at = length b.bytes - length b.bytes } ∷ []
  closed_alone none =
      let first : length b.bytes - length b.bytes ≡ 0 = omega arith in
      rw first (ap (λ zs. record { target = vector_part kind; at = 0 } ∷ zs)
      (none_reached L b.bytes kind (0 + 4) ds c.element none))
