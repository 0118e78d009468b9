-- What a tape takes once it is laid is at most the sum of its rooms.
use Rattle.std.proofs.Common.{◌≡◌, ℕ, suc, ◌+◌, ◌-◌, ◌*◌, ◌%◌, ◌≤◌, ◌<◌, ◌++◌, Bool, true, false, nat_lt}
use Rattle.std.proofs.Common.{if◌then◌else◌}
use Rattle.std.proofs.Common.{List, [], ◌∷◌, length, take, drop, flat_map, slice_get, Option, Some, refl, ap, sym, ◌∙◌}
use Rattle.std.proofs.Common.{arith, length-append}
use Rattle.std.proofs.lemmas.List.Sums.{sum_by-cons}
use Rattle.byteorder.specs.Endian.{little_bytes}
use Rattle.byteorder.specs.Numbers.{length-bytes_low_first}
use Rattle.fb_layout.specs.Laid.{LaidSchema, Slot, slots_of}
use Rattle.fb_layout.specs.Sizes.{ceil4}
use Rattle.fb_layout.specs.WellMade.{IsWellMade}
use Rattle.fb_layout.specs.Widths.{inline_align}
use Rattle.fb_value.specs.Datum.{Datum}
use Rattle.fb_value.specs.Num.{Bytes}
use Rattle.fb_tape.specs.LayingOrder.{laying_order}
use Rattle.fb_tape.specs.NamedParts.{NamedPart}
use Rattle.fb_tape.specs.NotedFields.{AreNoted, IsNoted}
use Rattle.fb_tape.specs.Tapes.{Lays, LaysTable, known_after}
use Rattle.fb_tape.specs.Vtables.{offsets_from, trimmed, vtable_of, table_size}
use Rattle.fb_tape.specs.declared.ops.NotedField.{NotedField}
use Rattle.fb_tape.specs.declared.ops.Op.{Op}
use Rattle.fb_tape.specs.Alignments.{aligned_to}
use Rattle.fb_tape.specs.declared.ops.Alignment.{Alignment}
use Rattle.fb_tape.specs.declared.ops.Op.TheVariants.{Data, References, Table}
use Rattle.fb_build.specs.FieldOrder.{before}
use Rattle.fb_build.specs.Fields.{AreKnown, fields_size, stored_in}
use Rattle.fb_build.specs.Lengths.{zeros_to}
use Rattle.fb_build.specs.NotesLaid.{noted_size, notes_size}
use Rattle.fb_build.specs.TapeLaid.{op_fields, op_end, IsCountedUpTo}
use Rattle.fb_build.proofs.fields.EntriesAreKnown.{known_in}
use Rattle.fb_build.proofs.fields.SlotStoresItsEntry.{same_some}
use Rattle.fb_build.proofs.order.LaidFieldsTakeTheirSizes.{size_from, size_retested, size_all, size_none}
use Rattle.fb_build.proofs.order.NextFieldIsNamed.{IsNamed, size_of_next}
use Rattle.fb_build.proofs.tables.TableFitsItsRoom.{table_fits_room}
use Rattle.std.proofs.Math.Nat.{mod-lt}
use Rattle.std.proofs.Math.Seq.{drop-append_seam, take-append_seam}
use Rattle.std.proofs.lemmas.Bool.{eq-eqb, eqb-true}
use Rattle.fb_layout.specs.Sizes.{IsAlignment}
use Rattle.fb_value.specs.Num.{divides}
use Rattle.fb_value.proofs.tails.TailsAreKeptInFront.{through}
use Rattle.fb_build.proofs.tables.TableFitsItsRoom.{stored_aligned}
use Rattle.fb_build.proofs.tail.PaddingIsZero.{padded}
use Rattle.fb_build.proofs.tail.WhatIsLaidStaysLaid.{power_divides}
use Rattle.fb_build.proofs.taped.NotedFieldsAreLaidInTurn.{size_noted}
use Rattle.fb_build.proofs.taped.SlotsAreInLayingOrder.{AreNext, slots_ordered}
use Rattle.fb_build.proofs.taped.StepsOfALaying.{data_aligned}
use Rattle.fb_build.proofs.taped.TapeIsLaidInTurn.{own_fields}
use Rattle.fb_layout.proofs.sizes.AlignmentsArePowersOfTwo.{alignment_positive, four_aligned}
use Rattle.fb_tape.proofs.stored.OffsetsAreTrimmed.{trimmed_short}
use Rattle.fb_tape.proofs.stored.SizesOfWhatIsStored.{reference_size}

-- ---- the fields of a table

sizes_left : (L : LaidSchema) (fs : List Slot) (zs : List (Option Datum)) (laid : ℕ → Slot → Bool) (ks : List ℕ)
    (notes : List NotedField) (bytes : Bytes) → AreNext L fs zs laid ks → AreNoted L fs zs ks notes bytes
    → size_from L laid 0 fs zs + notes_size notes ≡ fields_size L fs zs
sizes_left L fs zs laid [] [] bytes next noted =
    omega (arith, size_retested L laid (λ k f. true) fs zs next, size_all L 0 fs zs)
sizes_left L fs zs laid [] (note ∷ notes) bytes next noted = let bad : note ∷ notes ≡ [] = noted.0 in cc
sizes_left L fs zs laid (k ∷ ks) [] bytes next noted = let bad = noted.notes_are in cc
sizes_left L fs zs laid (k ∷ ks) (note ∷ notes) bytes next noted =
    let f = noted.field in
    let d = noted.value in
    let note_is : noted.note ≡ note = (let both = noted.notes_are in cc) in
    let notes_is : noted.notes_behind ≡ notes = (let both = noted.notes_are in cc) in
    let is : IsNoted L f d note noted.own = rw note_is at noted.noted in
    let field : next.there.field ≡ f = same_some (slice_get fs k) next.there.field f next.there.is noted.is in
    let entry : next.there.entry ≡ Some d = same_some (slice_get zs k) next.there.entry (Some d) next.there.has
    noted.has in
    let align : next.align ≡ inline_align L f.shape =
    sym next.there.at ∙ ap (λ (h : Slot). inline_align L h.shape) field in
    let named : IsNamed L laid fs zs k f (Some d) =
    record { stored = rw (field, entry) at next.there.stored; behind = rw align at next.behind } in
    let behind : AreNext L fs zs (before L (inline_align L f.shape) (k + 1)) ks = rw align at next.rest in
    let rest = sizes_left L fs zs (before L (inline_align L f.shape) (k + 1)) ks notes noted.bytes_behind behind
    (rw notes_is at noted.rest) in
    let one = size_of_next L laid fs zs k f (Some d) noted.is noted.has named in
    let size = size_noted L f d note noted.own (reference_size L f.shape) is in
    let sum = sum_by-cons noted_size note notes in
    omega (arith, rest, one, size, sum)

pub sizes_noted : (L : LaidSchema) (fs : List Slot) (zs : List (Option Datum)) (notes : List NotedField) (bytes : Bytes)
    → AreKnown L fs zs → AreNoted L fs zs (laying_order L fs zs) notes bytes → notes_size notes ≡ fields_size L fs zs
sizes_noted L fs zs notes bytes known noted =
    let all = sizes_left L fs zs (λ k f. false) (laying_order L fs zs) notes bytes (slots_ordered L fs zs known)
    noted in
    omega (arith, all, size_none L 0 fs zs)

-- ---- its vtable

offsets_few : (L : LaidSchema) (fs : List Slot) (zs : List (Option Datum)) (k : ℕ) (gs : List Slot)
    (ys : List (Option Datum)) → length (offsets_from L fs zs k gs ys) ≤ length gs
unfolding offsets_from
offsets_few L fs zs k [] ys = omega arith
offsets_few L fs zs k (g ∷ gs) [] = omega arith
offsets_few L fs zs k (g ∷ gs) (y ∷ ys) = omega (arith, offsets_few L fs zs (suc k) gs ys)

numbers_long : (ns : List ℕ) → length (flat_map (little_bytes 2) ns) ≡ 2 * length ns
numbers_long [] = refl
numbers_long (n ∷ ns) =
    let parts = length-append (little_bytes 2 n) (flat_map (little_bytes 2) ns) in
    let two = length-bytes_low_first 0 2 n in
    omega (arith, parts, two, numbers_long ns)

vtable_few : (L : LaidSchema) (fs : List Slot) (zs : List (Option Datum)) → length (vtable_of L fs zs) ≤ 4 + 2 *
    length fs
vtable_few L fs zs =
    let os = offsets_from L fs zs 0 fs zs in
    let numbers = flat_map (little_bytes 2) (trimmed os) in
    let first = little_bytes 2 (4 + 2 * length (trimmed os)) in
    let second = little_bytes 2 (table_size L fs zs) in
    let whole = length-append first (second ++ numbers) in
    let parts = length-append second numbers in
    let two = length-bytes_low_first 0 2 (4 + 2 * length (trimmed os)) in
    let four = length-bytes_low_first 0 2 (table_size L fs zs) in
    let all = numbers_long (trimmed os) in
    let low = trimmed_short os in
    let few = offsets_few L fs zs 0 fs zs in
    omega (arith, whole, parts, two, four, all, low, few)

-- ---- one operation

zeros_few : (align n : ℕ) → 0 < align → zeros_to align n ≤ align - 1
zeros_few align n some = let low = mod-lt (align - n % align) some in omega (arith, low)

vtable_most : (t : Bool) (size : ℕ) → (if t then 4 else 4 + size) ≤ 4 + size
vtable_most true size = omega arith
vtable_most false size = omega arith

pub fields_padded : (align fs laid : ℕ) → IsAlignment align → 4 ≤ align
    → zeros_to 4 (laid + (zeros_to align laid + fs)) + fs ≡ ceil4 fs
fields_padded align fs laid power least =
    let start = laid + zeros_to align laid in
    let multiple : divides align start ≡ true = eq-eqb _ _ (padded align laid (alignment_positive align power)) in
    let four : divides 4 start ≡ true = through 4 align start (power_divides 4 align four_aligned power least) multiple in
    let whole : start % 4 ≡ 0 = eqb-true _ _ four in
    let all : laid + (zeros_to align laid + fs) ≡ start + fs = omega arith in
    rw all (rounded start fs whole)
  where
    rounded : (start fs : ℕ) → start % 4 ≡ 0 → zeros_to 4 (start + fs) + fs ≡ ceil4 fs
    rounded start fs whole = omega (arith, whole)

table_sum : (z fs z4 one size n room table laid align : ℕ) → z ≤ align - 1 → z4 + fs ≡ ceil4 fs → one ≤ 4 + size
    → size ≤ 4 + 2 * n → ((align - 1) + fs) + (ceil4 fs + (8 + 2 * n)) ≤ table + fs → table ≤ room
    → (laid + (z + fs)) + z4 + one ≤ laid + room
table_sum z fs z4 one size n room table laid align a b c d e f = omega (arith, a, b, c, d, e, f)

table_bound : (L : LaidSchema) (vtables : List Bytes) (known fields : ℕ) (align : Alignment) (number room : ℕ)
    (ps : List NamedPart)
    (notes : List NotedField) (bytes : Bytes) (qs : List NamedPart) (laid : ℕ) → IsWellMade L
    → LaysTable L vtables fields (aligned_to align) number room ps notes bytes qs
    → op_end vtables known (Table align fields number) notes laid ≤ laid + room
table_bound L vtables known fields align number room ps notes bytes qs laid made t =
    let fs = slots_of L t.table in
    let zs = stored_in fs t.entries in
    let table = known_in L t.table t.entries made t.fits t.whole in
    let power : IsAlignment (aligned_to align) = rw t.align_is (stored_aligned L 4 fs zs four_aligned table.known.each) in
    let least : 4 ≤ aligned_to align = omega (arith, t.align_is) in
    let size = sizes_noted L fs zs notes bytes table.known t.noted in
    let first = zeros_few (aligned_to align) laid (alignment_positive (aligned_to align) power) in
    let second = fields_padded (aligned_to align) (fields_size L fs zs) laid power least in
    let few = vtable_few L fs zs in
    let fits = table_fits_room L t.table zs table.known in
    let fits2 : ((aligned_to align - 1) + fields_size L fs zs) + (ceil4 (fields_size L fs zs) + (8 + 2 * length fs))
    ≤ Rattle.fb_value.specs.Room.table_room L t.table + fields_size L fs zs = omega (arith, fits, t.align_is) in
    let one = vtable_most (nat_lt number known) (length (vtable_of L fs zs)) in
    rw (t.vtable_is, size) (table_sum (zeros_to (aligned_to align) laid) (fields_size L fs zs) _ _
    (length (vtable_of L fs zs))
    (length fs) room _ laid (aligned_to align) first second one few fits2 t.enough)

op_bound : (L : LaidSchema) (vtables : List Bytes) (known : ℕ) (op : Op) (room : ℕ) (ps : List NamedPart)
    (notes : List NotedField) (bytes : Bytes) (qs : List NamedPart) (laid : ℕ) → IsWellMade L
    → Lays L vtables op room ps notes bytes qs → op_end vtables known op notes laid ≤ laid + room
op_bound L vtables known (Data align size) room ps notes bytes qs laid made lays =
    let d = lays.1 in
    let is = data_aligned L d.part (aligned_to align) bytes d.is (omega arith) in
    let few = zeros_few (aligned_to align) (laid + (size - 4)) (alignment_positive (aligned_to align) is.0) in
    omega (arith, few, d.enough)
op_bound L vtables known (References count) room ps notes bytes qs laid made lays =
    let few = zeros_few 4 (laid + ((4 + count * 4) - 4)) (omega arith) in
    omega (arith, few, lays.2.enough)
op_bound L vtables known (Table align fields number) room ps notes bytes qs laid made lays =
    table_bound L vtables known fields align number room ps notes bytes qs laid made lays

-- ---- the next operation

module _ {L : LaidSchema} {vtables : List Bytes} {most known : ℕ} {op : Op} {ops : List Op} {notes : List NotedField}
    {laid : ℕ} (made : IsWellMade L) (h : IsCountedUpTo L vtables most known (op ∷ ops) notes laid) where
  own_count : length h.lay.own_notes ≡ op_fields op
  own_count = own_fields L vtables op _ _ _ _ _ h.lay.lays

  pub taken : take (op_fields op) notes ≡ h.lay.own_notes
  taken = ap (take (op_fields op)) h.lay.notes_are
      ∙ ap (λ n. take n (h.lay.own_notes ++ h.lay.notes_behind)) (sym own_count)
      ∙ take-append_seam h.lay.own_notes h.lay.notes_behind

  left : drop (op_fields op) notes ≡ h.lay.notes_behind
  left = ap (drop (op_fields op)) h.lay.notes_are
      ∙ ap (λ n. drop n (h.lay.own_notes ++ h.lay.notes_behind)) (sym own_count)
      ∙ drop-append_seam h.lay.own_notes h.lay.notes_behind

  pub counted : IsCountedUpTo L vtables most (known_after known op) ops (drop (op_fields op) notes)
      (op_end vtables known op (take (op_fields op) notes) laid)
  counted = rw (left, taken) (record {
    bytes = h.lay.bytes_behind;
    parts = h.lay.waiting;
    behind = h.behind;
    room_left = h.lay.room_behind;
    lay = h.lay.rest;
    enough = (let bound = op_bound L vtables known op _ _ _ _ _ laid made h.lay.lays in
        omega (arith, bound, h.lay.room_is, h.enough));
  })
