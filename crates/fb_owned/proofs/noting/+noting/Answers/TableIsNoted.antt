-- A table is noted slot by slot.
use Rattle.std.proofs.Common.{◌≡◌, ◌∙◌, ◌<◌, ◌≤◌, ◌++◌, ℕ, suc, List, Option, Some, true, length, get_or}
use Rattle.std.proofs.Common.{drop, option_map, slice_get, ap}
use Rattle.std.proofs.Common.{arith, rules}
use Rattle.std.proofs.Math.Seq.{drop-append_seam, take-append_seam}
use Rattle.std.proofs.lemmas.List.{length-append}
use Rattle.fb_schema.specs.Seen.{field_seen}
use Rattle.fb_schema.specs.declared.types.FieldInfo.{FieldInfo}
use Rattle.fb_layout.specs.Laid.{LaidSchema, Slot, slot_of, slots_of}
use Rattle.fb_layout.specs.WellMade.{IsWellMade}
use Rattle.fb_value.specs.Counts.{entries_whole}
use Rattle.fb_value.specs.Datum.{Datum}
use Rattle.fb_value.specs.Fits.{EntriesFit}
use Rattle.fb_value.specs.View.{view, entries_view}
use Rattle.fb_value.specs.declared.values.Value.{Value, the_lemmas}
use Rattle.fb_tape.specs.OpenFields.{OpenField, IsOpenTable}
use Rattle.fb_build.specs.Fields.{slots_seen, stored_here, stored_in, next_code, entries_seen}
use Rattle.fb_build.specs.Noted.{AddsSlots}
use Rattle.fb_build.specs.Parts.{TableKnown}
use Rattle.fb_build.proofs.fields.EntriesAreKnown.{known_in}
use Rattle.fb_owned.proofs.noting.SlotsAreNoted.{none_noted, next_noted, all_noted}
use Rattle.fb_build.proofs.tables.CodeSlotHasNoEntry.{stored_get}
use Rattle.fb_owned.proofs.noting.PartsFitTheirSlots.{entries_at, entries_long, slots_are, slots_at}
use Rattle.fb_layout.proofs.slots.SlotsAreAsManyAsFields.{seen_long}
use Rattle.fb_owned.proofs.noting.+noting.Goals as goal

-- what a slot stores
stored_there : (fs : List Slot) (xs : List (Option Datum)) (k : ℕ) (f : Slot) (x : Option Datum)
    → slice_get fs k ≡ Some f → slice_get xs k ≡ Some x
    → (y : Option Datum) × (slice_get (stored_in fs xs) k ≡ Some y)
stored_there fs xs k f x fk xk = (stored_here f.shape (next_code (drop (suc k) xs)) x, stored_get fs xs k f x fk xk)

pub no_slot_yet : goal.note_entries-loop-k-init
no_slot_yet t c = none_noted _ _ _ _ _ c.requires.whole

-- the slot and the entry at the index of a loop
at_slot : (L : LaidSchema) (slots : List FieldInfo) (es : List (Option Value)) (k : ℕ) (r : FieldInfo)
    (v : Option Value) → TableKnown L (slots_seen L slots) (entries_seen es) → k < length slots → r ≡ get_or slots k r
    → v ≡ get_or es k v
    → (slice_get (slots_seen L slots) k ≡ Some (slot_of L.schema (field_seen r)))
    × (slice_get (entries_seen es) k ≡ Some (option_map view v))
at_slot L slots es k r v known low is1 is2 =
    let within : k < length es = omega (arith, low, seen_long L slots, entries_long es, known.long) in
    (slots_at L slots k r low is1, entries_at es k v within is2)

pub next_entry_fits : goal.note_entries-note_entry-requires
next_entry_fits t c =
    let L = c.args.layout.now in
    let k = c.loop-k.k in
    let known = c.requires.known in
    let inv = c.loop-k.invariant in
    let low : k < length c.args.entries.now = omega (
      arith,
      c.loop-k-test.true,
      seen_long L c.args.slots.now,
      entries_long c.args.entries.now,
      known.long,
    ) in
    let there = at_slot L c.args.slots.now c.args.entries.now k c.index-slots-k.result c.index-entries-k.result known
    c.loop-k-test.true c.index-slots-k.is c.index-entries-k.is in
    let yk = stored_there (slots_seen L c.args.slots.now) (entries_seen c.args.entries.now) k _ _ there.0 there.1 in (
      search (rules, the_lemmas),
      (
        inv.adds.layout ∙ c.requires.layout,
        (
          inv.adds.whole,
          (
            (known.known.each k _ _ there.0 yk.1).0,
            (
              known.known.low k _ there.0,
              (
                known.fits k _ _ there.0 there.1,
                (
                  known.whole k _ there.1,
                  λ u shape. (let led = known.paired.led k _ u there.0 shape in omega (arith, led.2)),
                ),
              ),
            ),
          ),
        ),
      ),
    )

pub next_entry_noted : goal.note_entries-loop-k-preserved
next_entry_noted t c =
    let L = c.args.layout.now in
    let k = c.loop-k.k in
    let known = c.requires.known in
    let there = at_slot L c.args.slots.now c.args.entries.now k c.index-slots-k.result c.index-entries-k.result known
    c.loop-k-test.true c.index-slots-k.is c.index-entries-k.is in
    next_noted L (slots_seen L c.args.slots.now) (entries_seen c.args.entries.now) k _ _ _ _ _ _ _ _ there.0 there.1
    known.paired known.fits c.loop-k.invariant c.in_ok-note_entry.ensures.adds c.in_ok-note_entry.ensures.fields

pub all_slots_noted : goal.note_entries-returns-clause-slots
all_slots_noted t c =
    let L = c.args.layout.now in
    let low : length (entries_seen c.args.entries.now) ≤ c.loop-k.k = omega (
      arith,
      c.loop-k-test.false,
      seen_long L c.args.slots.now,
      c.requires.known.long,
    ) in
    (all_noted L (slots_seen L c.args.slots.now) (entries_seen c.args.entries.now) c.loop-k.k _ _ _ _ low
    c.loop-k.invariant).1

pub entries_known : goal.note_table-note_entries-requires
entries_known t c =
    let L = c.args.layout.now in
    let known = known_in L c.args.table.0 (entries_seen c.args.entries.now) c.layout_is_well_made.ensures
    c.requires.fits
    c.requires.known in
    let seen = slots_are L c.args.table.0 c.slots_of.result.now c.slots_of.ensures.slots in (
      search (rules, the_lemmas),
      (c.requires.layout, (c.requires.whole, (c.slots_of.ensures.few, rw seen known))),
    )

-- the stored fields that the slots of a table added
open_table : (L : LaidSchema) (t : ℕ) (es : List (Option Value)) (before now : List OpenField) → IsWellMade L
    → EntriesFit L (slots_of L t) (entries_view es) → entries_whole (entries_view es) ≡ true
    → AddsSlots L (slots_of L t) (stored_in (slots_of L t) (entries_seen es)) before now
    → IsOpenTable L t (drop (length before) now) (entries_seen es)
open_table L t es before now made fits whole added =
    let known = known_in L t (entries_seen es) made fits whole in
    let own : drop (length before) now ≡ added.0 = rw added.1 (drop-append_seam before added.0) in
    rw own (record { fits = fits; whole = whole; known = known.known; stored = added.2 })

pub fields_are_stored : goal.note_table-close_table-requires-clause-stored
fields_are_stored t c =
    let L = c.args.layout.now in
    let es = c.args.entries.now in
    let seen = slots_are L c.args.table.0 c.slots_of.result.now c.slots_of.ensures.slots in
    let same = c.in_ok-note_entries.ensures.adds.layout ∙ c.requires.layout in (
      entries_seen es,
      rw (same, c.len-first.ensures.exact) (open_table L c.args.table.0 es _ _ c.layout_is_well_made.ensures
          c.requires.fits c.requires.known (rw seen at c.in_ok-note_entries.ensures.slots)),
    )

pub table_adds_itself : goal.note_table-returns-clause-adds
table_adds_itself t c =
    let L = c.args.layout.now in
    let es = c.args.entries.now in
    let seen = slots_are L c.args.table.0 c.slots_of.result.now c.slots_of.ensures.slots in
    let adds = rw seen at c.in_ok-note_entries.ensures.adds in
    let same = adds.layout ∙ c.requires.layout in
    let closed = rw same at c.in_ok-close_table.ensures.waits in
    let sum = rw same at c.in_ok-close_table.ensures.room in
    let stored = open_table L c.args.table.0 es _ _ c.layout_is_well_made.ensures c.requires.fits c.requires.known
    (rw seen at c.in_ok-note_entries.ensures.slots) in
    record {
      waits = λ others w. closed others (entries_seen es) (rw c.len-first.ensures.exact stored)
          (rw same at (adds.waits others w));
      sum = omega (arith, adds.sum, sum);
      layout = c.in_ok-close_table.ensures.layout ∙ adds.layout;
      whole = c.in_ok-close_table.ensures.whole;
    }

pub entry_there : goal.note_entries-bounds-entries-k
entry_there t c = omega (
  arith,
  c.loop-k-test.true,
  seen_long c.args.layout.now c.args.slots.now,
  entries_long c.args.entries.now,
  c.requires.known.long,
)

pub all_parts_added : goal.note_entries-returns-clause-adds
all_parts_added t c =
    let L = c.args.layout.now in
    let low : length (entries_seen c.args.entries.now) ≤ c.loop-k.k = omega (
      arith,
      c.loop-k-test.false,
      seen_long L c.args.slots.now,
      c.requires.known.long,
    ) in
    (all_noted L (slots_seen L c.args.slots.now) (entries_seen c.args.entries.now) c.loop-k.k _ _ _ _ low
    c.loop-k.invariant).0

-- the fields that were open stand in front of those that a table added
opened_before : (before now own : List OpenField) → now ≡ before ++ own → length before ≤ length now
opened_before before now own added = let long = ap length added ∙ length-append before own in omega (arith, long)

pub first_within : goal.note_table-close_table-requires-clause-within
first_within t c =
    let added = c.in_ok-note_entries.ensures.slots in
    rw c.len-first.ensures.exact (opened_before _ _ added.0 added.1)

pub first_kept : goal.note_table-truncate-requires
first_kept t c =
    let added = c.in_ok-note_entries.ensures.slots in
    record { within = rw c.len-first.ensures.exact (opened_before _ _ added.0 added.1) }

pub opened_again : goal.note_table-returns-clause-opened
opened_again t c =
    let before = c.args.noting.now.opened in
    let added = c.in_ok-note_entries.ensures.slots in
    c.truncate.ensures.first ∙ rw (c.len-first.ensures.exact, added.1) (take-append_seam before added.0)
