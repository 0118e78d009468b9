-- A table is laid.
use Rattle.std.proofs.Common.{ℕ, suc, ◌+◌, ◌-◌, ◌*◌, ◌%◌, ◌^◌, ◌≡◌, ◌≤◌, ◌<◌, ◌++◌, ◌∙◌, ◌⊎◌, inl, inr, List, [], ◌∷◌}
use Rattle.std.proofs.Common.{Option, Some, length, max, map}
use Rattle.std.proofs.Common.{slice_get, refl, sym, ap, arith, cond}
use Rattle.std.proofs.lemmas.List.{length-map}
use Rattle.std.proofs.lemmas.Option.{slice_get_within}
use Rattle.fb_schema.specs.Alignments.{greatest_in}
use Rattle.fb_layout.specs.Laid.{LaidSchema, Slot, slots_of}
use Rattle.fb_layout.specs.WellMade.{IsWellMade}
use Rattle.fb_value.specs.Datum.{Datum, a_table}
use Rattle.fb_value.specs.Num.{Bytes}
use Rattle.fb_value.specs.Places.{table_part}
use Rattle.fb_value.specs.Room.{table_room}
use Rattle.fb_value.specs.View.{entries_in}
use Rattle.fb_tape.specs.Alignments.{aligned_to}
use Rattle.fb_tape.specs.KnownVtables.{IsNumbered}
use Rattle.fb_tape.specs.LayingOrder.{laying_order}
use Rattle.fb_tape.specs.NamedParts.{NamedPart, entries_apart}
use Rattle.fb_tape.specs.NotedFields.{AreNoted}
use Rattle.fb_tape.specs.OpenFields.{OpenField, IsOpenTable, IsOpenIf, AreOpen}
use Rattle.fb_tape.specs.StoredFields.{stored_in}
use Rattle.fb_tape.specs.Defaults.{is_stored}
use Rattle.fb_tape.specs.StoredTables.{notes_of, bytes_of, in_order, StoredAligned}
use Rattle.fb_tape.specs.Tapes.{Taped, Waits, Lay}
use Rattle.fb_tape.specs.Vtables.{vtable_of}
use Rattle.fb_tape.specs.declared.ops.Alignment.{Alignment}
use Rattle.fb_tape.specs.declared.ops.NotedField.{NotedField}
use Rattle.fb_tape.specs.declared.ops.Op.{Op}
use Rattle.fb_tape.specs.declared.ops.Op.TheVariants.{Table, Data, References}
use Rattle.fb_tape.proofs.stored_tables.OpenFieldsAreStored.{greatest_is, all_aligned}
use Rattle.fb_tape.proofs.laying_order.AllIsInOrder.{all_counted}
use Rattle.fb_tape.proofs.tape.OneMoreIsLaid.{AddsOne, table_waits}

-- how many fields there are
fields_few : (L : LaidSchema) (k : ℕ) (fs : List Slot) (xs : List (Option Datum)) (opens : List OpenField)
    → AreOpen L k fs xs opens → length opens ≤ length fs
fields_few L k [] xs opens h = rw h (omega arith)
fields_few L k (f ∷ fs) [] opens h = rw h (omega arith)
fields_few L k (f ∷ fs) (x ∷ xs) opens h = by_test (λ os o. fields_few L (suc k) fs xs os o) (is_stored f x) h
  where
    by_test : ((os : List OpenField) → AreOpen L (suc k) fs xs os → length os ≤ length fs)
        → (t : Rattle.std.proofs.Common.Bool) → IsOpenIf t L k f x opens (λ behind. AreOpen L (suc k) fs xs behind)
        → length opens ≤ suc (length fs)
    by_test again Rattle.std.proofs.Common.true h =
        let rest = again h.behind h.rest in rw h.opens_are (omega (arith, rest))
    by_test again Rattle.std.proofs.Common.false h = let rest = again opens h in omega (arith, rest)

pub open_few : (L : LaidSchema) (t : ℕ) (opens : List OpenField) (xs : List (Option Datum)) → IsWellMade L
    → IsOpenTable L t opens xs → length opens ≤ 32765
open_few L t opens xs made h = omega (
  arith,
  fields_few L 0 (slots_of L t) (stored_in (slots_of L t) xs) opens h.stored,
  (made.tables t).few,
)

-- Each table takes room, so vtables are fewer than bytes.
vtables_few : (L : LaidSchema) (vtables : List Bytes) (n room : ℕ) (ps : List NamedPart) (ops : List Op)
    (notes : List NotedField) (bytes : Bytes) (qs : List NamedPart) → Lay L vtables n room ps ops notes bytes qs
    → length vtables ≤ n + room
vtables_few L vtables n room ps [] notes bytes qs h = omega (arith, h.0)
vtables_few L vtables n room ps (Data align size ∷ ops) notes bytes qs h =
    let rest = vtables_few L vtables n h.room_behind h.waiting ops h.notes_behind h.bytes_behind qs h.rest in
    omega (arith, rest, h.room_is)
vtables_few L vtables n room ps (References count ∷ ops) notes bytes qs h =
    let rest = vtables_few L vtables n h.room_behind h.waiting ops h.notes_behind h.bytes_behind qs h.rest in
    omega (arith, rest, h.room_is)
vtables_few L vtables n room ps (Table align fields vtable ∷ ops) notes bytes qs h =
    let rest = vtables_few L vtables (max n (suc vtable)) h.room_behind h.waiting ops h.notes_behind h.bytes_behind qs
    h.rest in
    omega (arith, rest, h.room_is, h.turn, h.lays.enough)

number_low : (before after : List Bytes) (vtable : Bytes) (number : ℕ) → IsNumbered before after vtable number
    → number ≤ length before
number_low before after vtable number h = by_case h.known
  where
    by_case : (after ≡ before) ⊎ ((after ≡ before ++ (vtable ∷ [])) × (number ≡ length before)) → number ≤ length before
    by_case (inl same) = let low = slice_get_within after number vtable h.is in omega (arith, low, ap length same)
    by_case (inr new) = omega (arith, new.1)

-- each field is noted once
noted_long : (L : LaidSchema) (fs : List Slot) (xs : List (Option Datum)) (opens : List OpenField)
    → StoredAligned L fs xs → AreOpen L 0 fs xs opens → length (notes_of (in_order opens)) ≡ length opens
noted_long L fs xs opens aligned h =
    length-map (in_order opens) (λ x. x.note) ∙ all_counted opens (all_aligned L 0 fs xs opens aligned h)

pub table_laid : (before after : Taped) (t number : ℕ) (align : Alignment) (others : List NamedPart)
    (xs : List (Option Datum)) (opens : List OpenField)
    → aligned_to align ≡ max 4 (greatest_in (map (λ x. x.align) opens))
    → AddsOne before after (Table align (length opens) (number % 2 ^ 32))
    (table_room before.layout t) (notes_of (in_order opens)) (bytes_of (in_order opens))
    → IsNumbered before.vtables after.vtables
    (vtable_of before.layout (slots_of before.layout t) (stored_in (slots_of before.layout t) xs)) number
    → IsOpenTable before.layout t opens xs
    → StoredAligned before.layout (slots_of before.layout t) (stored_in (slots_of before.layout t) xs)
    → AreNoted before.layout (slots_of before.layout t)
    (stored_in (slots_of before.layout t) xs)
    (laying_order before.layout (slots_of before.layout t) (stored_in (slots_of before.layout t) xs))
    (notes_of (in_order opens)) (bytes_of (in_order opens))
    → Waits before (others ++ entries_apart (slots_of before.layout t) xs)
    → Waits after (others ++ (record { target = table_part t; value = a_table t (entries_in xs) } ∷ []))
table_laid before after t number align others xs opens widest adds numbered h aligned noted waits small =
    let L = before.layout in
    let lay = waits (omega (arith, small, adds.room)) in
    let few = vtables_few L before.vtables 0 before.room [] before.ops before.notes before.bytes _ lay in
    let low = number_low before.vtables after.vtables _ number numbered in
    let same : number % 2 ^ 32 ≡ number = omega (arith, low, few, small, adds.room) in
    table_waits before after _ align number (length opens) (table_room L t) (notes_of (in_order opens))
    (bytes_of (in_order opens)) _ _ (rw same at adds) numbered (record {
      table = t;
      entries = xs;
      others = others;
      fits = h.fits;
      whole = h.whole;
      fields_are = sym (noted_long L (slots_of L t) (stored_in (slots_of L t) xs) opens aligned h.stored);
      noted = noted;
      align_is = widest ∙ ap (max 4) (greatest_is L 0 (slots_of L t) (stored_in (slots_of L t) xs) opens h.stored);
      vtable_is = numbered.is;
      enough = omega arith;
      takes = refl;
      leaves = refl;
    }) waits small
