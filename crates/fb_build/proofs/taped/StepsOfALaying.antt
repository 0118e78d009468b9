-- What waits once an operation is laid.
use Rattle.std.proofs.Common.{◌≡◌, ℕ, zero, suc, ◌+◌, ◌-◌, ◌≤◌, ◌<◌, ◌⊎◌, inl, inr, ◌++◌, true, max, List, [], ◌∷◌}
use Rattle.std.proofs.Common.{length}
use Rattle.std.proofs.Common.{take, drop, slice_get, slice_index, Some, refl, ap, sym, ◌∙◌, arith, append-nil}
use Rattle.std.proofs.Common.{length-append, length-drop}
use Rattle.std.proofs.lemmas.List.{take-append-drop, get_or-drop, length-take-le}
use Rattle.fb_layout.specs.Laid.{LaidSchema, StoredKind, table_kind, union_kind}
use Rattle.fb_layout.specs.Laid.{text_kind, one_of}
use Rattle.fb_layout.specs.Sizes.{IsAlignment}
use Rattle.fb_layout.specs.Widths.{greatest}
use Rattle.fb_value.specs.Datum.{Datum, a_vector}
use Rattle.fb_value.specs.Num.{Bytes}
use Rattle.fb_value.specs.Places.{Target, part_place, table_part, text_part, vector_part}
use Rattle.fb_value.specs.View.{parts_in}
use Rattle.fb_value.proofs.tails.TailsAreKeptInFront.{through}
use Rattle.fb_tape.specs.NamedParts.{NamedPart, elements_apart}
use Rattle.fb_tape.specs.Tapes.{IsData, LaysReferences}
use Rattle.fb_build.specs.CoveredTails.{parts_in_tail}
use Rattle.fb_build.specs.Fields.{IsElement, is_reference, target_for}
use Rattle.fb_build.specs.Made.{Adds, ends_parts, named_items}
use Rattle.fb_build.specs.Referred.{AreReferred}
use Rattle.fb_build.specs.Tails.{TailSeen, Grows, LaidInTail}
use Rattle.fb_build.specs.Waiting.{AreWaiting, all_of}
use Rattle.fb_build.proofs.taped.OnePartMoreWaits.{IsLaidNow, one_more_waits}
use Rattle.fb_build.proofs.vectors.VectorHasItsElements.{element_padded}
use Rattle.fb_build.proofs.vtables.EndsAreWithinTheTable.{index_past}
use Rattle.fb_build.proofs.vtables.VtableIsLaidOnce.{shared_grown}
use Rattle.fb_layout.proofs.sizes.AlignmentsArePowersOfTwo.{lower, four_aligned}
use Rattle.fb_tape.proofs.stored.SizesOfWhatIsStored.{got}

-- ---- the parts that are taken are the last ones

taken_at : (others taken : List NamedPart) (k : ℕ) (x : NamedPart) → slice_get taken k ≡ Some x
    → slice_get (others ++ taken) (length others + k) ≡ Some x
taken_at [] taken k x is = let e : 0 + k ≡ k = omega arith in rw e is
taken_at (o ∷ others) taken k x is =
    let e : suc (length others) + k ≡ suc (length others + k) = omega arith in rw e (taken_at others taken k x is)

module _ (L : LaidSchema) (vtables : List Bytes) (ps others taken : List NamedPart) (ends places : List ℕ)
    (o : TailSeen) (h : AreWaiting L vtables ps ends places o) (takes : ps ≡ others ++ taken) where
  pub taken_count : length others ≡ length ends - length taken
  taken_count =
      let all = ap length takes in
      let parts = length-append others taken in
      omega (arith, h.each, all, parts)

  pub taken_within : length taken ≤ length ends
  taken_within =
      let all = ap length takes in
      let parts = length-append others taken in
      omega (arith, h.each, all, parts)

  pub taken_lie : (k : ℕ) (x : NamedPart) → slice_get taken k ≡ Some x → LaidInTail L o.most o.bytes
      (part_place x.target) (slice_index (drop (length ends - length taken) ends) k) x.value
  taken_lie k x is =
      let at = taken_at others taken k x is in
      let here : slice_get ps (length others + k) ≡ Some x = rw takes at in
      let index : slice_index (drop (length ends - length taken) ends) k ≡ slice_index ends (length others + k) =
      get_or-drop (length ends - length taken) ends k 0 ∙ ap (λ n. slice_index ends (n + k)) (sym taken_count) in
      rw index (h.lie (length others + k) x here)

-- each end-count is inside
pub ends_inside : (L : LaidSchema) (vtables : List Bytes) (ps : List NamedPart) (ends places : List ℕ)
    (o : TailSeen) → AreWaiting L vtables ps ends places o → (i : ℕ) → slice_index ends i ≤ length o.bytes
ends_inside L vtables ps ends places o h i = by_case (lower (suc i) (length ps))
  where
    by_case : (suc i ≤ length ps) ⊎ (length ps < suc i) → slice_index ends i ≤ length o.bytes
    by_case (inl low) = let x = got ps i (omega (arith, low)) in (h.lie i x.0 x.1).lies.within
    by_case (inr past) = omega (arith, index_past ends i (omega (arith, past, h.each)))

pub drop_inside : (n : ℕ) (ends : List ℕ) (most : ℕ) → ((i : ℕ) → slice_index ends i ≤ most) → (i : ℕ)
    → slice_index (drop n ends) i ≤ most
drop_inside n ends most h i = rw (get_or-drop n ends i 0) (h (n + i))

pub stepped : (L : LaidSchema) (vtables : List Bytes) (ps others taken : List NamedPart) (part : NamedPart) (count : ℕ)
    (ends before after : List ℕ) (e : ℕ) (a b : TailSeen) → AreWaiting L vtables ps ends before a
    → ps ≡ others ++ taken → length taken ≡ count
    → IsLaidNow L vtables taken part (drop (length ends - count) ends) before after e a b
    → AreWaiting L vtables (others ++ (part ∷ [])) (take (length ends - count) ends ++ (e ∷ [])) after b
stepped L vtables ps others taken part count ends before after e a b h takes many now =
    let n = length ends - count in
    let within = taken_within L vtables ps others taken ends before a h takes in
    let first : length (take n ends) ≡ length others =
    length-take-le n ends (omega arith)
    ∙ (let c = taken_count L vtables ps others taken ends before a h takes in omega (arith, c, many)) in
    let both : AreWaiting L vtables (others ++ taken) (take n ends ++ drop n ends) before a =
    rw (take-append-drop n ends, ← takes) h in
    one_more_waits L vtables others taken part (take n ends) (drop n ends) before after e a b first both now

-- ---- the alignment so far

pub least_most : (L : LaidSchema) (vtables : List Bytes) (ps : List NamedPart) (ends places : List ℕ)
    (o : TailSeen) → AreWaiting L vtables ps ends places o → (4 ≤ o.most) × (4 ≤ greatest L)
least_most L vtables ps ends places o h =
    let wide = h.made.widest in
    let least : 4 ≤ o.most = omega (arith, wide) in
    (least, omega (arith, least, h.bound))

-- ---- data

pub data_aligned : (L : LaidSchema) (part : NamedPart) (align : ℕ) (bytes : Bytes) → IsData L part align bytes
    → 4 ≤ greatest L → IsAlignment align × (4 ≤ length bytes) × (align ≤ greatest L)
data_aligned L part align bytes is least = elim is [
  | inl d ↦ (
      let whole = ap length d.bytes_are in
      let parts = length-append (Rattle.byteorder.specs.Endian.little_bytes 4 (length d.text)) (d.text ++ (0 ∷ [])) in
      let four = Rattle.byteorder.specs.Numbers.length-bytes_low_first 0 4 (length d.text) in
      (rw d.align_is four_aligned, omega (arith, whole, parts, four), omega (arith, d.align_is, least)))
  | inr d ↦ (
      let whole = ap length d.bytes_are in
      let parts = length-append (Rattle.byteorder.specs.Endian.little_bytes 4 (length d.elements)) d.element_bytes in
      let four = Rattle.byteorder.specs.Numbers.length-bytes_low_first 0 4 (length d.elements) in (
        rw d.align_is (element_padded L d.kind d.known.element).power,
        omega (arith, whole, parts, four),
        omega (arith, d.align_is, d.low, least),
      ))
]

pub data_now : (L : LaidSchema) (vtables : List Bytes) (ps : List NamedPart) (part : NamedPart) (align : ℕ)
    (bytes : Bytes) (ends places : List ℕ) (a b : TailSeen) → AreWaiting L vtables ps ends places a
    → IsData L part align bytes → Grows a b → b.most ≡ max a.most align
    → LaidInTail L b.most b.bytes (part_place part.target) (length b.bytes) part.value
    → Adds L a places b places (parts_in_tail L b.bytes part.target (length b.bytes) part.value)
    → (behind : List ℕ) → IsLaidNow L vtables [] part behind places places (length b.bytes) a b
data_now L vtables ps part align bytes ends places a b h is g most lies adds behind =
    let least = least_most L vtables ps ends places a h in
    let low = data_aligned L part align bytes is least.1 in
    record {
      grows = g;
      shared = shared_grown _ _ a b g h.shared;
      four = through 4 a.most b.most h.four g.multiple;
      bound = omega (arith, most, low.2, h.bound);
      lies = lies;
      own = parts_in_tail L b.bytes part.target (length b.bytes) part.value;
      adds = adds;
      whole = sym (append-nil (parts_in_tail L b.bytes part.target (length b.bytes) part.value));
    }

-- ---- references

pub record IsElementApart (L : LaidSchema) (kind : StoredKind) (ds : List Datum) : Type 0 where
  pub target : Target
  pub leads : (d : Datum) → target_for (one_of kind) d ≡ Some target
  pub at : (k : ℕ) (d : Datum) → slice_get ds k ≡ Some d
      → slice_get (elements_apart kind ds) k ≡ Some (record { target = target; value = d })
  pub named : named_items kind ds ≡ all_of (elements_apart kind ds)
  pub long : length (elements_apart kind ds) ≡ length ds

texts_at : (ds : List Datum) (j : ℕ) (d : Datum) → slice_get ds j ≡ Some d
    → slice_get (elements_apart text_kind ds) j ≡ Some (record { target = text_part; value = d })
texts_at [] j d is = cc
texts_at (y ∷ ds) zero d is = let same : y ≡ d = cc in rw same refl
texts_at (y ∷ ds) (suc j) d is = texts_at ds j d is

texts_named : (ds : List Datum) → named_items text_kind ds ≡ all_of (elements_apart text_kind ds)
texts_named [] = refl
texts_named (y ∷ ds) = ap (λ zs. Some (record { target = text_part; value = y }) ∷ zs) (texts_named ds)

texts_long : (ds : List Datum) → length (elements_apart text_kind ds) ≡ length ds
texts_long [] = refl
texts_long (y ∷ ds) = ap suc (texts_long ds)

tables_at : (t : ℕ) (ds : List Datum) (j : ℕ) (d : Datum) → slice_get ds j ≡ Some d
    → slice_get (elements_apart (table_kind t) ds) j ≡ Some (record { target = table_part t; value = d })
tables_at t [] j d is = cc
tables_at t (y ∷ ds) zero d is = let same : y ≡ d = cc in rw same refl
tables_at t (y ∷ ds) (suc j) d is = tables_at t ds j d is

tables_named : (t : ℕ) (ds : List Datum)
    → named_items (table_kind t) ds ≡ all_of (elements_apart (table_kind t) ds)
tables_named t [] = refl
tables_named t (y ∷ ds) = ap (λ zs. Some (record { target = table_part t; value = y }) ∷ zs) (tables_named t ds)

tables_long : (t : ℕ) (ds : List Datum) → length (elements_apart (table_kind t) ds) ≡ length ds
tables_long t [] = refl
tables_long t (y ∷ ds) = ap suc (tables_long t ds)

pub elements_named : (L : LaidSchema) (kind : StoredKind) (ds : List Datum) → IsElement L kind
    → is_reference (one_of kind) ≡ true → IsElementApart L kind ds
elements_named L (union_kind u) ds el is = absurd el
elements_named L text_kind ds el is = record {
  target = text_part;
  leads = λ d. refl;
  at = texts_at ds;
  named = texts_named ds;
  long = texts_long ds;
}
elements_named L (table_kind t) ds el is = record {
  target = table_part t;
  leads = λ d. refl;
  at = tables_at t ds;
  named = tables_named t ds;
  long = tables_long t ds;
}
elements_named L _ ds el is = cc

module _ (L : LaidSchema) (vtables : List Bytes) (count room : ℕ) (ps qs : List NamedPart) (ends places : List ℕ)
    (a : TailSeen) (h : AreWaiting L vtables ps ends places a) (r : LaysReferences L count room ps qs) where
  apart : IsElementApart L r.kind r.elements
  apart = elements_named L r.kind r.elements r.known.element r.references

  pub as_many : length (elements_apart r.kind r.elements) ≡ count
  as_many = apart.long ∙ sym r.count_is

  pub count_within : count ≤ length ends
  count_within = omega (
    arith,
    as_many,
    taken_within L vtables ps r.others (elements_apart r.kind r.elements) ends places a h r.takes,
  )

  pub are_referred : AreReferred L r.kind r.elements a (drop (length ends - count) ends)
  are_referred = record {
    references = r.references;
    each = omega (arith, length-drop (length ends - count) ends, count_within, r.count_is);
    known = r.known;
    targets = λ k d is. (let lies = taken_lie L vtables ps r.others (elements_apart r.kind r.elements) ends places a h
        r.takes k _ (apart.at k d is) in
        let here = rw as_many at lies in
        rw (apart.leads d) here);
  }

  pub references_now : (b : TailSeen) → Grows a b → b.most ≡ max a.most 4
      → LaidInTail L b.most b.bytes (part_place (vector_part r.kind)) (length b.bytes) (a_vector (parts_in r.elements))
      → Adds L a places b places (record { target = vector_part r.kind; at = length b.bytes - length b.bytes } ∷ [])
      → parts_in_tail L b.bytes (vector_part r.kind) (length b.bytes) (a_vector (parts_in r.elements))
      ≡ record { target = vector_part r.kind; at = length b.bytes - length b.bytes }
      ∷ ends_parts L b.bytes (named_items r.kind r.elements) (drop (length ends - count) ends)
      → AreWaiting L vtables qs (take (length ends - count) ends ++ (length b.bytes ∷ [])) places b
  references_now b g most lies adds leads =
      let least = least_most L vtables ps ends places a h in
      let now : IsLaidNow L vtables (elements_apart r.kind r.elements)
      (record { target = vector_part r.kind; value = a_vector (parts_in r.elements) }) (drop (length ends - count) ends)
      places places (length b.bytes) a b = record {
        grows = g;
        shared = shared_grown _ _ a b g h.shared;
        four = through 4 a.most b.most h.four g.multiple;
        bound = omega (arith, most, least.1, h.bound);
        lies = lies;
        own = record { target = vector_part r.kind; at = length b.bytes - length b.bytes } ∷ [];
        adds = adds;
        whole = rw (← apart.named) leads;
      } in
      rw r.leaves (stepped L vtables ps r.others (elements_apart r.kind r.elements) _ count ends places places
      (length b.bytes) a b h r.takes as_many now)
