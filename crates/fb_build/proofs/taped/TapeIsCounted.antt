-- How long a tape is, counted by what the vtables of its tables tell.
use Rattle.std.proofs.Common.{◌≡◌, ◌∙◌, ℕ, ◌+◌, ◌*◌, ◌^◌, ◌≤◌, ◌<◌, ◌++◌, ap, sym, arith, nat_lt}
use Rattle.std.proofs.Common.{Bool, true, false, if◌then◌else◌, List, length, take, drop, flat_map}
use Rattle.std.proofs.Common.{slice_get, Option, Some}
use Rattle.std.proofs.Math.Seq.{drop-append_seam}
use Rattle.byteorder.specs.Endian.{little_bytes, little_number}
use Rattle.byteorder.specs.Numbers.{length-bytes_low_first, little_from-take, little_number-reads_back}
use Rattle.fb_layout.specs.Laid.{LaidSchema, Slot, slots_of}
use Rattle.fb_layout.specs.Sizes.{ceil4, IsAlignment}
use Rattle.fb_layout.specs.WellMade.{IsWellMade}
use Rattle.fb_layout.proofs.sizes.AlignmentsArePowersOfTwo.{four_aligned}
use Rattle.fb_value.specs.Datum.{Datum}
use Rattle.fb_value.specs.Num.{Bytes}
use Rattle.fb_tape.specs.Alignments.{aligned_to}
use Rattle.fb_tape.specs.NamedParts.{NamedPart}
use Rattle.fb_tape.specs.Tapes.{LaysTable}
use Rattle.fb_tape.specs.Vtables.{offsets_from, trimmed, vtable_of, table_size}
use Rattle.fb_tape.specs.declared.ops.Alignment.{Alignment}
use Rattle.fb_tape.specs.declared.ops.NotedField.{NotedField}
use Rattle.fb_tape.specs.declared.ops.Op.TheVariants.{Table}
use Rattle.fb_build.specs.Fields.{fields_size, stored_in}
use Rattle.fb_build.specs.Lengths.{sized_end, zeros_to}
use Rattle.fb_build.specs.TapeLaid.{op_end}
use Rattle.fb_build.proofs.fields.EntriesAreKnown.{known_in}
use Rattle.fb_build.proofs.fields.SlotStoresItsEntry.{same_some}
use Rattle.fb_build.proofs.tables.TableFitsItsRoom.{fields_narrow, stored_aligned}
use Rattle.fb_build.proofs.taped.TapeFitsItsRoom.{fields_padded, sizes_noted}

-- ---- what a vtable tells

size_told : (L : LaidSchema) (fs : List Slot) (zs : List (Option Datum)) → table_size L fs zs < 256 ^ 2
    → little_number 2 (take 2 (drop 2 (vtable_of L fs zs))) ≡ table_size L fs zs
size_told L fs zs small =
    let os = trimmed (offsets_from L fs zs 0 fs zs) in
    let first = little_bytes 2 (4 + 2 * length os) in
    let offsets = flat_map (little_bytes 2) os in
    let rest = little_bytes 2 (table_size L fs zs) ++ offsets in
    let two : length first ≡ 2 = length-bytes_low_first 0 2 (4 + 2 * length os) in
    let behind : drop 2 (first ++ rest) ≡ rest =
    ap (λ n. drop n (first ++ rest)) (sym two) ∙ drop-append_seam first rest in
    little_from-take 0 2 2 (drop 2 (first ++ rest)) (omega arith) ∙ ap (little_number 2) behind
    ∙ little_number-reads_back 2 (table_size L fs zs) offsets small

-- ---- a table

table_sum : (known : Bool) (front size padding laid more : ℕ) → padding + size ≡ ceil4 size
    → laid + (front + (4 + ceil4 size)) + (if known then 0 else more)
    ≡ ((laid + (front + size)) + padding) + (if known then 4 else 4 + more)
table_sum true front size padding laid more padded = omega (arith, padded)
table_sum false front size padding laid more padded = omega (arith, padded)

module _ {L : LaidSchema} {vtables : List Bytes} {fields : ℕ} (align : Alignment) {number room : ℕ}
    {ps : List NamedPart} {notes : List NotedField} {bytes : Bytes} {qs : List NamedPart} (made : IsWellMade L)
    (t : LaysTable L vtables fields (aligned_to align) number room ps notes bytes qs) where
  abbrev own : List Slot
  own = slots_of L t.table

  abbrev stored : List (Option Datum)
  stored = stored_in own t.entries

  pub table_aligned : IsAlignment (aligned_to align)
  table_aligned =
      let table = known_in L t.table t.entries made t.fits t.whole in
      rw t.align_is (stored_aligned L 4 own stored four_aligned table.known.each)

  table_least : 4 ≤ aligned_to align
  table_least = omega (arith, t.align_is)

  module _ (vtable : Bytes) (is : slice_get vtables number ≡ Some vtable) where
    same : vtable ≡ vtable_of L own stored
    same = same_some (slice_get vtables number) vtable (vtable_of L own stored) is t.vtable_is

    pub table_counted : (known laid : ℕ)
        → sized_end (aligned_to align) (little_number 2 (take 2 (drop 2 vtable))) (length vtable)
        (nat_lt number known) laid
        ≡ op_end vtables known (Table align fields number) notes laid
    table_counted known laid =
        let table = known_in L t.table t.entries made t.fits t.whole in
        let narrow = fields_narrow L t.table stored table.known (made.tables t.table).wide in
        let size = sizes_noted L own stored notes bytes table.known t.noted in
        let padded = fields_padded (aligned_to align) (fields_size L own stored) laid table_aligned table_least in
        rw (same, size_told L own stored (omega (arith, narrow)), t.vtable_is, size)
        (table_sum (nat_lt number known) (zeros_to (aligned_to align) laid) (fields_size L own stored) _ laid
        (length (vtable_of L own stored)) padded)
