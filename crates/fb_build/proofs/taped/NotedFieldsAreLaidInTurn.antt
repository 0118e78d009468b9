-- The fields that a tape notes of a table, one laid after the other.
use Rattle.std.proofs.Common.{◌≡◌, ℕ, ◌+◌, ◌-◌, ◌<◌, ◌≤◌, ◌++◌, Bool, true, false, ◌&&◌, List, [], ◌∷◌, length}
use Rattle.std.proofs.Common.{take, drop}
use Rattle.std.proofs.Common.{slice_get, slice_index, slice_set, Option, None, Some, refl, ap, sym, ◌∙◌}
use Rattle.std.proofs.Common.{arith, length-append}
use Rattle.std.proofs.lemmas.Option.{slice_get_within}
use Rattle.std.proofs.Common.{inl, inr}
use Rattle.fb_build.proofs.tables.TableFitsItsRoom.{stored_aligned}
use Rattle.fb_build.specs.NotesLaid.{AreToBeLaid}
use Rattle.std.proofs.Math.Seq.{drop-append_seam, take-append_seam}
use Rattle.std.proofs.lemmas.Bool.{both_ways}
use Rattle.fb_layout.specs.Laid.{LaidSchema, Slot, StoredShape, scalar_kind, struct_kind, table_kind, union_kind}
use Rattle.fb_layout.specs.Laid.{code_kind, text_kind, one_of, vector_of}
use Rattle.fb_layout.specs.Sizes.{IsAlignment}
use Rattle.fb_layout.specs.Widths.{inline_size, inline_align}
use Rattle.fb_layout.proofs.sizes.AlignmentsArePowersOfTwo.{four_aligned}
use Rattle.fb_value.specs.Datum.{Datum}
use Rattle.fb_value.specs.Num.{Bytes, divides}
use Rattle.fb_value.specs.Places.{part_place}
use Rattle.fb_value.proofs.tails.TailsAreKeptInFront.{through}
use Rattle.fb_tape.specs.NotedFields.{AreNoted, IsNoted}
use Rattle.fb_tape.specs.OpenList.{own_size}
use Rattle.fb_tape.specs.declared.ops.NotedField.{NotedField}
use Rattle.fb_tape.specs.declared.ops.NotedField.TheVariants.{Reference, Inline}
use Rattle.fb_build.specs.FieldOrder.{before, LinksNext}
use Rattle.fb_build.specs.Fields.{AreKnown, TargetEnd, is_stored, is_reference, inline_kind}
use Rattle.fb_build.specs.Fields.{target_for, sort_for, fields_size}
use Rattle.fb_build.specs.Lengths.{zeros_to}
use Rattle.fb_build.specs.Made.{FieldLeads}
use Rattle.fb_build.specs.NotesLaid.{noted_size, noted_references, MayLay, LaysField, AreReferences}
use Rattle.fb_build.specs.Tails.{TailSeen, Grows, LaidInTail}
use Rattle.fb_build.proofs.fields.AlignmentDividesTheSize.{simple_aligned, simple_some, simple_multiple}
use Rattle.fb_build.proofs.fields.ReferencesLeadInside.{leads_any, reference_there, target_inside}
use Rattle.fb_build.proofs.fields.FieldsAreLaidInOrder.{AreLaidUpTo, next_target, next_whole, next_laid_before}
use Rattle.fb_build.proofs.fields.SlotStoresItsEntry.{same_some}
use Rattle.fb_build.proofs.order.NextFieldIsNamed.{IsNamed, named, still_waits, room_of_next, align_least}
use Rattle.fb_build.proofs.tail.MultiplesAdd.{sum_divides}
use Rattle.fb_build.proofs.tail.WhatIsLaidStaysLaid.{power_divides, grown_long}
use Rattle.fb_build.proofs.taped.BytesOfAValueLieInATail.{inline_laid, inline_sort, inline_aligned, inline_sized}
use Rattle.fb_build.proofs.taped.SlotsAreInLayingOrder.{AreNext, first_link, links_next}
use Rattle.fb_tape.proofs.stored.SizesOfWhatIsStored.{reference_size}

-- The fields of the slots `left` are still to be laid, with these notes, bytes and end-counts.
pub record AreLaidSoFar (L : LaidSchema) (fs : List Slot) (xs : List (Option Datum)) (targets : List ℕ) (start : ℕ)
    (notes : List NotedField) (bytes : Bytes) (ends : List ℕ) (o : TailSeen) : Type 0 where
  pub slot_ends : List ℕ
  pub left : List ℕ
  pub upto : AreLaidUpTo L o fs xs start targets slot_ends (first_link left)
  pub next : AreNext L fs xs upto.laid left
  pub noted : AreNoted L fs xs left notes bytes
  pub references : AreReferences notes left targets ends

-- what is known of the next field before it is laid
pub record IsNoteNext (L : LaidSchema) (fs : List Slot) (xs : List (Option Datum)) (note : NotedField)
    (bytes : Bytes) (ends : List ℕ) (start : ℕ) (o : TailSeen) : Type 0 where
  pub slot : ℕ
  pub field : Slot
  pub value : Datum
  pub own : Bytes
  pub behind : Bytes
  pub is : slice_get fs slot ≡ Some field
  pub has : slice_get xs slot ≡ Some (Some value)
  pub noted : IsNoted L field value note own
  pub bytes_are : bytes ≡ own ++ behind
  pub stored : is_stored field (Some value) ≡ true
  pub whole : divides (inline_align L field.shape) (length o.bytes) ≡ true
  pub target : TargetEnd L o.most o.bytes (target_for field.shape value) (slice_index ends 0) value
  pub first : is_reference field.shape ≡ true → 0 < length ends
  pub room : length o.bytes + inline_size L field.shape ≤ start + fields_size L fs xs

inline_leads : (shape : StoredShape) (d : Datum) → is_reference shape ≡ false → target_for shape d ≡ None
inline_leads (one_of (scalar_kind b)) d is = refl
inline_leads (one_of (struct_kind s)) d is = refl
inline_leads (one_of (code_kind u)) d is = refl
inline_leads _ d is = cc

-- a field's size is what is noted
pub size_noted : (L : LaidSchema) (f : Slot) (d : Datum) (note : NotedField) (own : Bytes) → (is_reference f.shape
    ≡ true
    → inline_size L f.shape ≡ 4) → IsNoted L f d note own → noted_size note ≡ inline_size L f.shape
size_noted L f d Reference own four is = sym (four is.0)
size_noted L f d (Inline n) own four is = is.1 ∙ is.2.long ∙ sym (inline_sized L f.shape is.0)

pub reference_aligned : (L : LaidSchema) (shape : StoredShape) → is_reference shape ≡ true → inline_align L shape ≡ 4
reference_aligned L (one_of (table_kind t)) is = refl
reference_aligned L (one_of (union_kind u)) is = refl
reference_aligned L (one_of text_kind) is = refl
reference_aligned L (vector_of kind) is = refl
reference_aligned L _ is = cc

module _ (L : LaidSchema) (fs : List Slot) (xs : List (Option Datum)) (known : AreKnown L fs xs) (start : ℕ)
    (o : TailSeen) (bytes : Bytes) (ends : List ℕ) (wide : (k : ℕ) (f : Slot) (x : Option Datum)
    → slice_get fs k ≡ Some f → slice_get xs k ≡ Some x → is_stored f x ≡ true
    → divides (inline_align L f.shape) o.most ≡ true)
    (room : start + fields_size L fs xs ≤ length o.bytes + o.free) where
  -- it may be laid
  pub may_lay : (note : NotedField) → IsNoteNext L fs xs note bytes ends start o → MayLay note bytes ends o
  may_lay Reference n =
      let reference = n.noted.0 in
      let fits = (known.each n.slot n.field (Some n.value) n.is n.has).1 in
      let four = reference_aligned L n.field.shape reference in
      record {
        some = n.first reference;
        inside = target_inside L o.most o.bytes n.field.shape n.value (slice_index ends 0) reference fits.1 n.target;
        room = omega (arith, reference_size L n.field.shape reference, n.room, room);
        whole = rw four at n.whole;
        wide = rw four at (wide n.slot n.field (Some n.value) n.is n.has n.stored);
      }
  may_lay (Inline size) n =
      let long = ap length n.bytes_are in
      let parts = length-append n.own n.behind in
      let all = size_noted L n.field n.value (Inline size) n.own (reference_size L n.field.shape) n.noted in
      (omega (arith, long, parts, n.noted.1), omega (arith, all, n.room, room))

-- the value of a field that was laid
stores_now : (L : LaidSchema) (fs : List Slot) (xs : List (Option Datum)) (known : AreKnown L fs xs) (start : ℕ)
    (a b : TailSeen) (note : NotedField) (bytes : Bytes) (ends : List ℕ)
    → (n : IsNoteNext L fs xs note bytes ends start a) → divides (inline_align L n.field.shape) (length b.bytes) ≡ true
    → divides (inline_align L n.field.shape) b.most ≡ true → LaysField note bytes ends a b
    → LaidInTail L b.most b.bytes (sort_for n.field.shape n.value) (length b.bytes) n.value
stores_now L fs xs known start a b Reference bytes ends n whole wide lays =
    let fits = (known.each n.slot n.field (Some n.value) n.is n.has).1 in
    let there = reference_there L n.field.shape n.value n.noted.0 fits.1 in
    let target : LaidInTail L a.most a.bytes (part_place there.target) (slice_index ends 0) n.value =
    rw there.named at n.target in
    rw there.sort (lays.lies L there.target n.value target)
stores_now L fs xs known start a b (Inline size) bytes ends n whole wide lays =
    let first : take size bytes ≡ n.own =
    ap (take size) n.bytes_are ∙ ap (λ i. take i (n.own ++ n.behind)) n.noted.1 ∙ take-append_seam n.own n.behind in
    let is : b.bytes ≡ n.own ++ a.bytes = lays ∙ ap (λ z. z ++ a.bytes) first in
    let align = inline_aligned L n.field.shape n.noted.0 in
    let whole2 = rw (align, is) at whole in
    let wide2 = rw align at wide in
    rw (inline_sort n.field.shape n.value n.noted.0, is)
    (inline_laid L b.most a.bytes n.own (inline_kind n.field.shape) n.value n.noted.2 whole2 wide2)

-- where its reference leads
leads_now : (L : LaidSchema) (fs : List Slot) (xs : List (Option Datum)) (start : ℕ)
    (a b : TailSeen) (note : NotedField) (bytes : Bytes) (ends : List ℕ)
    → (n : IsNoteNext L fs xs note bytes ends start a) → LaysField note bytes ends a b
    → (target : ℕ) → (is_reference n.field.shape ≡ true → target ≡ slice_index ends 0)
    → FieldLeads b.bytes true n.field (Some n.value) target (length b.bytes)
leads_now L fs xs start a b Reference bytes ends n lays target same stored =
    rw (same n.noted.0) (leads_any b.bytes (target_for n.field.shape n.value) (length b.bytes) _ lays.leads)
leads_now L fs xs start a b (Inline size) bytes ends n lays target same stored =
    rw (inline_leads n.field.shape n.value n.noted.0) tt

-- ---- the next field is found

module _ (L : LaidSchema) (fs : List Slot) (xs : List (Option Datum)) (targets : List ℕ) (start : ℕ)
    (o : TailSeen) (note : NotedField) (notes : List NotedField) (bytes : Bytes) (ends : List ℕ) where
  -- before its field is laid, a slot's end-count is what it names
  still_target : (k : ℕ) (f : Slot) (d : Datum) (slot_ends : List ℕ) (link : ℕ)
      → (upto : AreLaidUpTo L o fs xs start targets slot_ends link) → slice_get fs k ≡ Some f
      → slice_get xs k ≡ Some (Some d) → IsNamed L upto.laid fs xs k f (Some d)
      → slice_index slot_ends k ≡ slice_index targets k
  still_target k f d slot_ends link upto fk xk n =
      rw waits at (upto.leads k f (Some d) fk xk)
    where
      both_false : (b : Bool) → (b && false) ≡ false
      both_false true = refl
      both_false false = refl

      waits : (is_stored f (Some d) && upto.laid k f) ≡ false
      waits = rw (still_waits L upto.laid fs xs k f (Some d) fk xk n) (both_false (is_stored f (Some d)))

  -- what a reference is to lead to
  target_by : (m : NotedField) (k : ℕ) (ks : List ℕ) (f : Slot) (d : Datum) (own : Bytes) → IsNoted L f d m own
      → AreReferences (m ∷ notes) (k ∷ ks) targets ends
      → TargetEnd L o.most o.bytes (target_for f.shape d) (slice_index targets k) d
      → TargetEnd L o.most o.bytes (target_for f.shape d) (slice_index ends 0) d
      × (is_reference f.shape ≡ true → 0 < length ends)
      × (is_reference f.shape ≡ true → slice_index targets k ≡ slice_index ends 0)
  target_by Reference k ks f d own is refs there =
      let first : slice_index ends 0 ≡ slice_index targets k = ap (λ es. slice_index es 0) refs.is in
      let long = ap length refs.is in
      (rw first there, λ _. omega (arith, long), λ _. sym first)
  target_by (Inline n) k ks f d own is refs there =
      (rw (inline_leads f.shape d is.0) tt, λ yes. absurd (both_ways _ is.0 yes), λ yes. absurd (both_ways _ is.0 yes))

  found : (left slot_ends : List ℕ) (upto : AreLaidUpTo L o fs xs start targets slot_ends (first_link left))
      → AreNoted L fs xs left (note ∷ notes) bytes → AreReferences (note ∷ notes) left targets ends
      → IsNoteNext L fs xs note bytes ends start o
  found [] slot_ends upto noted refs = let bad : note ∷ notes ≡ [] = noted.0 in cc
  found (k ∷ ks) slot_ends upto noted refs =
      let f = noted.field in
      let d = noted.value in
      let note_is : noted.note ≡ note = (let both = noted.notes_are in cc) in
      let is : IsNoted L f d note noted.own = rw note_is at noted.noted in
      let n = named L upto.laid fs xs (k + 1) k f (Some d) upto.next refl noted.is noted.has in
      let same = still_target k f d slot_ends (k + 1) upto noted.is noted.has n in
      let before = next_target L o start k (k + 1) fs xs targets slot_ends f (Some d) upto noted.is noted.has n in
      let there : TargetEnd L o.most o.bytes (target_for f.shape d) (slice_index targets k) d = rw (← same) before in
      let by = target_by note k ks f d noted.own is refs there in
      record {
        slot = k;
        field = f;
        value = d;
        own = noted.own;
        behind = noted.bytes_behind;
        is = noted.is;
        has = noted.has;
        noted = is;
        bytes_are = noted.bytes_are;
        stored = n.stored;
        whole = next_whole L o start k (k + 1) fs xs targets slot_ends f (Some d) upto noted.is noted.has n;
        target = by.0;
        first = by.1;
        room = omega (
          arith,
          room_of_next L upto.laid fs xs k f (Some d) noted.is noted.has n,
          upto.size,
        );
      }

pub note_next : (L : LaidSchema) (fs : List Slot) (xs : List (Option Datum)) (targets : List ℕ) (start : ℕ)
    (o : TailSeen) (note : NotedField) (notes : List NotedField) (bytes : Bytes) (ends : List ℕ)
    → AreLaidSoFar L fs xs targets start (note ∷ notes) bytes ends o → IsNoteNext L fs xs note bytes ends start o
note_next L fs xs targets start o note notes bytes ends h =
    found L fs xs targets start o note notes bytes ends h.left h.slot_ends h.upto h.noted h.references

-- ---- and laid

pub relinked : (L : LaidSchema) (fs : List Slot) (xs : List (Option Datum)) (t u : ℕ → Slot → Bool) (ks : List ℕ)
    → LinksNext L t fs xs (first_link ks) → AreNext L fs xs u ks → AreNext L fs xs t ks
relinked L fs xs t u [] links h = elim links [
  | inl none ↦ none.1
  | inr next ↦ absurd (omega (arith, next.is))
]
relinked L fs xs t u (k ∷ ks) links h =
    let there = h.there in
    let n = named L t fs xs (k + 1) k there.field there.entry links refl there.is there.has in
    record {
      align = h.align;
      there = there;
      behind = rw (← there.at) n.behind;
      rest = h.rest;
    }

bytes_left : (L : LaidSchema) (f : Slot) (d : Datum) (note : NotedField) (own behind bytes : Bytes)
    → IsNoted L f d note own → bytes ≡ own ++ behind → drop (own_size note) bytes ≡ behind
bytes_left L f d Reference own behind bytes is whole = rw (whole, is.1) refl
bytes_left L f d (Inline n) own behind bytes is whole = rw (whole, is.1) (drop-append_seam own behind)

ends_left : (note : NotedField) (notes : List NotedField) (k : ℕ) (ks targets ends : List ℕ)
    → AreReferences (note ∷ notes) (k ∷ ks) targets ends
    → AreReferences notes ks targets (drop (noted_references note) ends)
ends_left Reference notes k ks targets ends refs = rw refs.is refs.rest
ends_left (Inline n) notes k ks targets ends refs = refs

module _ (L : LaidSchema) (fs : List Slot) (xs : List (Option Datum)) (known : AreKnown L fs xs) (targets : List ℕ)
    (start : ℕ) (a b : TailSeen) (note : NotedField) (notes : List NotedField) (bytes : Bytes) (ends : List ℕ)
    (g : Grows a b) (free : b.free + noted_size note ≡ a.free) (wide : (k : ℕ) (f : Slot) (x : Option Datum)
    → slice_get fs k ≡ Some f → slice_get xs k ≡ Some x → is_stored f x ≡ true
    → divides (inline_align L f.shape) b.most ≡ true) (lays : LaysField note bytes ends a b) where
  laid_by : (left slot_ends : List ℕ) (upto : AreLaidUpTo L a fs xs start targets slot_ends (first_link left))
      → AreNext L fs xs upto.laid left → AreNoted L fs xs left (note ∷ notes) bytes
      → AreReferences (note ∷ notes) left targets ends
      → AreLaidSoFar L fs xs targets start notes (drop (own_size note) bytes) (drop (noted_references note) ends) b
  laid_by [] slot_ends upto next noted refs = let bad : note ∷ notes ≡ [] = noted.0 in cc
  laid_by (k ∷ ks) slot_ends upto next noted refs =
      let f = noted.field in
      let d = noted.value in
      let note_is : noted.note ≡ note = (let both = noted.notes_are in cc) in
      let notes_is : noted.notes_behind ≡ notes = (let both = noted.notes_are in cc) in
      let is : IsNoted L f d note noted.own = rw note_is at noted.noted in
      let n = named L upto.laid fs xs (k + 1) k f (Some d) upto.next refl noted.is noted.has in
      let size = size_noted L f d note noted.own (reference_size L f.shape) is in
      let now : b.free + inline_size L f.shape ≡ a.free = omega (arith, free, size) in
      let grown = grown_long a b g in
      let long : length b.bytes ≡ length a.bytes + inline_size L f.shape = omega (arith, grown, now) in
      let simple = (known.each k f (Some d) noted.is noted.has).0 in
      let some = simple_some L f.shape simple in
      let here = next_whole L a start k (k + 1) fs xs targets slot_ends f (Some d) upto noted.is noted.has n in
      let whole : divides (inline_align L f.shape) (length b.bytes) ≡ true =
      sum_divides (inline_align L f.shape) (length a.bytes) (inline_size L f.shape) (length b.bytes) here
      (simple_multiple L f.shape simple) long in
      let same = still_target L fs xs targets start a note notes bytes ends k f d slot_ends (k + 1) upto noted.is
      noted.has n in
      let before_it = next_target L a start k (k + 1) fs xs targets slot_ends f (Some d) upto noted.is noted.has n in
      let there : TargetEnd L a.most a.bytes (target_for f.shape d) (slice_index targets k) d = rw (← same) before_it in
      let by = target_by L fs xs targets start a note notes bytes ends note k ks f d noted.own is refs there in
      let i : IsNoteNext L fs xs note bytes ends start a = record {
        slot = k;
        field = f;
        value = d;
        own = noted.own;
        behind = noted.bytes_behind;
        is = noted.is;
        has = noted.has;
        noted = is;
        bytes_are = noted.bytes_are;
        stored = n.stored;
        whole = here;
        target = by.0;
        first = by.1;
        room = omega (arith, room_of_next L upto.laid fs xs k f (Some d) noted.is noted.has n, upto.size);
      } in
      let lies = stores_now L fs xs known start a b note bytes ends i whole
      (wide k f (Some d) noted.is noted.has n.stored) lays in
      let lead = leads_now L fs xs start a b note bytes ends i lays (slice_index slot_ends k) (λ yes. same ∙ by.2
      yes) in
      let align : next.align ≡ inline_align L f.shape =
      (let field = same_some (slice_get fs k) next.there.field f next.there.is noted.is in
      sym next.there.at ∙ ap (λ (h : Slot). inline_align L h.shape) field) in
      let rest : AreNext L fs xs (before L (inline_align L f.shape) (k + 1)) ks = rw (← align) next.rest in
      let upto2 = next_laid_before L a b start k (length b.bytes) (k + 1) fs xs targets slot_ends (first_link ks) f
      (Some d) known (links_next L fs xs (before L (inline_align L f.shape) (k + 1)) ks rest) upto noted.is noted.has n
      g now refl (omega (arith, upto.size, long, some), lies) lead
      (omega (arith, slice_get_within fs k f noted.is, upto.slots.each)) in
      record {
        slot_ends = slice_set slot_ends k (length b.bytes);
        left = ks;
        upto = upto2;
        next = relinked L fs xs upto2.laid (before L (inline_align L f.shape) (k + 1)) ks upto2.next rest;
        noted = rw (bytes_left L f d note noted.own noted.bytes_behind bytes is noted.bytes_are)
            (rw notes_is at noted.rest);
        references = ends_left note notes k ks targets ends refs;
      }

pub note_laid : (L : LaidSchema) (fs : List Slot) (xs : List (Option Datum)) → AreKnown L fs xs → (targets : List ℕ)
    (start : ℕ) (a b : TailSeen) (note : NotedField) (notes : List NotedField) (bytes : Bytes) (ends : List ℕ)
    → Grows a b → b.free + noted_size note ≡ a.free → ((k : ℕ) (f : Slot) (x : Option Datum)
    → slice_get fs k ≡ Some f → slice_get xs k ≡ Some x → is_stored f x ≡ true
    → divides (inline_align L f.shape) b.most ≡ true) → LaysField note bytes ends a b
    → AreLaidSoFar L fs xs targets start (note ∷ notes) bytes ends a
    → AreLaidSoFar L fs xs targets start notes (drop (own_size note) bytes) (drop (noted_references note) ends) b
note_laid L fs xs known targets start a b note notes bytes ends g free wide lays h =
    laid_by L fs xs known targets start a b note notes bytes ends g free wide lays h.left h.slot_ends h.upto h.next
    h.noted h.references

-- once none is left
pub none_noted : (L : LaidSchema) (fs : List Slot) (xs : List (Option Datum)) (left : List ℕ) (bytes : Bytes)
    → AreNoted L fs xs left [] bytes → first_link left ≡ 0
none_noted L fs xs [] bytes noted = refl
none_noted L fs xs (k ∷ ks) bytes noted = let bad = noted.notes_are in cc

-- ---- between the padding and what is laid

pub to_be_aligned : (L : LaidSchema) (fs : List Slot) (xs : List (Option Datum)) (targets : List ℕ) (align : ℕ)
    (notes : List NotedField) (bytes : Bytes) (ends : List ℕ) (o : TailSeen)
    → AreToBeLaid L fs xs targets align notes bytes ends o → IsAlignment align
to_be_aligned L fs xs targets align notes bytes ends o is =
    rw is.align_is (stored_aligned L 4 fs xs four_aligned is.known.each)

module _ (L : LaidSchema) (fs : List Slot) (xs : List (Option Datum)) (targets : List ℕ) (align zeros start : ℕ)
    (notes : List NotedField) (bytes : Bytes) (ends : List ℕ) (o p out : TailSeen)
    (is : AreToBeLaid L fs xs targets align notes bytes ends o) (padded : p.free + zeros ≡ o.free)
    (exact : zeros ≡ zeros_to align (length o.bytes)) (wide : divides align p.most ≡ true) (begin : start ≡ length
    p.bytes)
    (g : Grows p out) (most : out.most ≡ p.most) where
  pub fields_wide : (k : ℕ) (f : Slot) (x : Option Datum) → slice_get fs k ≡ Some f → slice_get xs k ≡ Some x
      → is_stored f x ≡ true → divides (inline_align L f.shape) out.most ≡ true
  fields_wide k f x fk xk stored =
      let low = align_least L k fs xs f x fk xk stored in
      rw most (through (inline_align L f.shape) align p.most
      (power_divides (inline_align L f.shape) align (simple_aligned L f.shape (is.known.each k f x fk xk).0)
      (to_be_aligned L fs xs targets align notes bytes ends o is) (omega (arith, low, is.align_is))) wide)

  pub note_may : (note : NotedField) (notes_left : List NotedField) (bytes_left : Bytes) (ends_left : List ℕ)
      → AreLaidSoFar L fs xs targets start (note ∷ notes_left) bytes_left ends_left out
      → MayLay note bytes_left ends_left out
  note_may note notes_left bytes_left ends_left h =
      let grown = grown_long p out g in
      may_lay L fs xs is.known start out bytes_left ends_left fields_wide
      (omega (arith, grown, begin, padded, exact, is.room)) note
      (note_next L fs xs targets start out note notes_left bytes_left ends_left h)
