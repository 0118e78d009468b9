-- A table that is laid takes the parts that its references lead to.
use Rattle.std.proofs.Common.{◌≡◌, ℕ, ◌+◌, ◌-◌, ◌*◌, ◌≤◌, ◌<◌, ◌++◌, true, false, max, List, []}
use Rattle.std.proofs.Common.{◌∷◌, length, take, drop, replicate, slice_get, slice_index, Option, Some, refl, ap, ◌∙◌}
use Rattle.std.proofs.Common.{arith, length-drop}
use Rattle.std.proofs.lemmas.List.{length-replicate}
use Rattle.std.proofs.lemmas.List.Sums.{sum_by-cons}
use Rattle.fb_layout.specs.Laid.{LaidSchema, Slot, slots_of}
use Rattle.fb_value.specs.Datum.{Datum, a_table}
use Rattle.fb_value.specs.Num.{Bytes}
use Rattle.fb_value.specs.Places.{part_place, table_part}
use Rattle.fb_value.specs.View.{entries_in}
use Rattle.fb_value.proofs.tails.TailsAreKeptInFront.{through}
use Rattle.fb_tape.specs.LayingOrder.{laying_order}
use Rattle.fb_tape.specs.NamedParts.{NamedPart, entries_apart}
use Rattle.fb_tape.specs.NotedFields.{AreNoted, IsNoted}
use Rattle.fb_tape.specs.Vtables.{table_size}
use Rattle.fb_tape.specs.declared.ops.NotedField.{NotedField}
use Rattle.fb_tape.specs.declared.ops.NotedField.TheVariants.{Reference, Inline}
use Rattle.fb_tape.specs.Alignments.{aligned_to}
use Rattle.fb_tape.specs.declared.ops.Alignment.{Alignment}
use Rattle.fb_tape.specs.declared.ops.Op.TheVariants.{Table}
use Rattle.fb_build.specs.Fields.{stored_in, stored_align}
use Rattle.fb_build.specs.Lengths.{fields_end, table_end}
use Rattle.fb_build.specs.NotesLaid.{notes_size}
use Rattle.fb_build.proofs.taped.TapeFitsItsRoom.{sizes_noted}
use Rattle.fb_build.specs.Made.{FieldsFront}
use Rattle.fb_build.specs.NotesLaid.{AreToBeLaid, AreLaidNow, noted_references, notes_references}
use Rattle.fb_build.specs.NumberedVtables.{IsTableOpen, IsTableClosed}
use Rattle.fb_build.specs.Parts.{TableKnown}
use Rattle.fb_build.specs.Tails.{TailSeen, Grows, LaidInTail}
use Rattle.fb_build.specs.Waiting.{AreWaiting, MayStep}
use Rattle.fb_build.proofs.fields.EntriesAreKnown.{known_in}
use Rattle.fb_build.proofs.fields.AlignmentDividesTheSize.{inline_low}
use Rattle.fb_build.proofs.fields.SlotStoresItsEntry.{same_some}
use Rattle.fb_build.proofs.tables.TableFitsItsRoom.{fields_narrow, stored_low}
use Rattle.fb_build.proofs.tail.WhatIsLaidStaysLaid.{then_grows, grown_long}
use Rattle.fb_build.proofs.taped.OnePartMoreWaits.{IsLaidNow}
use Rattle.fb_build.proofs.taped.PartsOfATable.{AllFit, spread, spread_long, spread_state, spread_parts}
use Rattle.fb_build.proofs.taped.PartsOfATable.{refer_count, apart_many}
use Rattle.fb_build.proofs.taped.ReferencesComeInOrder.{spread_references, refer_ends, refers_at}
use Rattle.fb_build.proofs.taped.ReferencesComeInOrder.{noted_references as in_order}
use Rattle.fb_build.proofs.taped.StepsOfALaying.{taken_lie, taken_within, stepped, least_most}
use Rattle.fb_build.proofs.taped.VtableOfTheEnds.{slots_used, vtable_told_by}
use Rattle.fb_build.proofs.vtables.ClosedTableHasItsValue.{vtable_long}
use Rattle.fb_build.proofs.vtables.EndsAreWithinTheTable.{ends_under}
use Rattle.fb_build.proofs.vtables.VtableIsLaidOnce.{shared_grown}
use Rattle.fb_tape.proofs.stored.SizesOfWhatIsStored.{got}

-- ---- as many parts are taken as there are references

notes_many : (L : LaidSchema) (fs : List Slot) (zs : List (Option Datum)) (targets ks : List ℕ)
    (notes : List NotedField) (bytes : Bytes) → AreNoted L fs zs ks notes bytes
    → length (refer_ends fs zs targets ks) ≡ notes_references notes
notes_many L fs zs targets [] [] bytes noted = refl
notes_many L fs zs targets [] (note ∷ notes) bytes noted = let bad : note ∷ notes ≡ [] = noted.0 in cc
notes_many L fs zs targets (k ∷ ks) [] bytes noted = let bad = noted.notes_are in cc
notes_many L fs zs targets (k ∷ ks) (Reference ∷ notes) bytes noted =
    let note_is : noted.note ≡ Reference = (let both = noted.notes_are in cc) in
    let notes_is : noted.notes_behind ≡ notes = (let both = noted.notes_are in cc) in
    let is : IsNoted L noted.field noted.value Reference noted.own = rw note_is at noted.noted in
    let rest = notes_many L fs zs targets ks notes noted.bytes_behind (rw notes_is at noted.rest) in
    let there : refers_at (slice_get fs k) (slice_get zs k) ≡ true = rw (noted.is, noted.has) is.0 in
    let sum = sum_by-cons noted_references Reference notes in
    rw there (omega (arith, rest, sum))
notes_many L fs zs targets (k ∷ ks) (Inline n ∷ notes) bytes noted =
    let note_is : noted.note ≡ Inline n = (let both = noted.notes_are in cc) in
    let notes_is : noted.notes_behind ≡ notes = (let both = noted.notes_are in cc) in
    let is : IsNoted L noted.field noted.value (Inline n) noted.own = rw note_is at noted.noted in
    let rest = notes_many L fs zs targets ks notes noted.bytes_behind (rw notes_is at noted.rest) in
    let out : refers_at (slice_get fs k) (slice_get zs k) ≡ false = rw (noted.is, noted.has) is.0 in
    let sum = sum_by-cons noted_references (Inline n) notes in
    rw out (omega (arith, rest, sum))

-- ---- the places of vtables

pub places_some : (known : List Bytes) (places : List ℕ) (s : Bytes) → Rattle.fb_build.specs.Vtables.AreLaid
    known places s
    → (i : ℕ) → i < length places → 0 < slice_index places i
places_some known places s h i low =
    let vt = got known i (omega (arith, low, h.each)) in (h.stand i vt.0 vt.1).0

-- ---- a vtable takes two bytes for each slot at most, behind its first four

pub vtable_short : (L : LaidSchema) (vtables : List Bytes) (t : ℕ) (entries : List (Option Datum)) (start : ℕ)
    (targets places : List ℕ) (number : ℕ) (vt : Bytes) (o : TailSeen)
    → IsTableOpen L vtables t entries start targets places number vt o
    → length vt ≤ 4 + 2 * length (slots_of L t)
vtable_short L vtables t entries start targets places number vt o w =
    let fs = slots_of L t in
    let xs = stored_in fs entries in
    let laid = w.laid.laid in
    let place = start + table_size L fs xs in
    let under = ends_under L start o.most o.bytes fs xs w.laid.ends w.known.known laid.slots.each laid.slots.state in
    let told = vtable_told_by L fs xs start place o.most o.bytes w.laid.ends refl laid.slots.state laid.slots.counted
    w.known.known.long laid.slots.each (λ k. omega (arith, under k, laid.size)) in
    let long : length vt ≡ 4 + 2 * slots_used L fs xs =
    ap length (w.vtable_is ∙ told.is) ∙ vtable_long place (table_size L fs xs) (slots_used L fs xs) w.laid.ends
    told.within in
    omega (arith, long, told.within, laid.slots.each)

-- ---- a table is laid: from a its fields, to o, and what is before them, to b

module _ {L : LaidSchema} {vtables : List Bytes} {fields : ℕ} {align : Alignment} {number room : ℕ}
    {ps : List NamedPart} {vt : Bytes} {notes : List NotedField} {bytes : Bytes} {qs : List NamedPart}
    {ends places : List ℕ} {a : TailSeen}
    (m : MayStep L vtables (Table align fields number) room ps vt notes bytes qs ends places a) where
  abbrev t : ℕ
  t = m.lays.table

  abbrev fs : List Slot
  fs = slots_of L m.lays.table

  abbrev xs : List (Option Datum)
  xs = stored_in (slots_of L m.lays.table) m.lays.entries

  abbrev es : List ℕ
  es = drop (length ends - notes_references notes) ends

  abbrev targets : List ℕ
  targets = spread (slots_of L m.lays.table) (stored_in (slots_of L m.lays.table) m.lays.entries)
      (drop (length ends - notes_references notes) ends)

  known : TableKnown L fs m.lays.entries
  known = known_in L t m.lays.entries m.made m.lays.fits m.lays.whole

  fit : AllFit L fs xs
  fit k f z fk zk = (known.known.each k f z fk zk).1

  pub taken_many : length (entries_apart fs m.lays.entries) ≡ notes_references notes
  taken_many =
      let many = apart_many L fs m.lays.entries fit in
      let n = refer_count fs xs in
      let some : length (replicate {A = ℕ} n 0) ≡ n = length-replicate n 0 in
      let order = spread_references L fs xs (replicate n 0) fit known.known.long some in
      let notes_long = notes_many L fs xs (spread fs xs (replicate n 0)) (laying_order L fs xs) notes bytes
      m.lays.noted in
      omega (arith, many, some, ap length order, notes_long)

  within : length (entries_apart fs m.lays.entries) ≤ length ends
  within = taken_within L vtables ps m.lays.others (entries_apart fs m.lays.entries) ends places a m.waiting
      m.lays.takes

  pub references_within : notes_references notes ≤ length ends
  references_within = omega (arith, within, taken_many)

  es_long : length es ≡ refer_count fs xs
  es_long = omega (
    arith,
    length-drop (length ends - notes_references notes) ends,
    references_within,
    taken_many,
    apart_many L fs m.lays.entries fit,
  )

  there : (k : ℕ) (p : NamedPart) → slice_get (entries_apart fs m.lays.entries) k ≡ Some p
      → LaidInTail L a.most a.bytes (part_place p.target) (slice_index es k) p.value
  there k p is =
      let lies = taken_lie L vtables ps m.lays.others (entries_apart fs m.lays.entries) ends places a m.waiting
      m.lays.takes k p is in
      rw taken_many at lies

  pub vtable_room : (o : TailSeen) → Grows a o
      → length o.bytes ≡ fields_end (aligned_to align) (notes_size notes) (length a.bytes)
      → table_end (length vt) number (length places) (length o.bytes) ≤ length o.bytes + o.free
  vtable_room o g long =
      let enough = rw m.has at m.enough in
      let grown = grown_long a o g in
      rw long (omega (arith, enough, grown))

  pub to_be_laid : AreToBeLaid L fs xs targets (aligned_to align) notes bytes es a
  to_be_laid = record {
    known = known.known;
    noted = m.lays.noted;
    references = rw (spread_references L fs xs es fit known.known.long es_long) at
        (in_order L fs xs targets (laying_order L fs xs) notes bytes m.lays.noted);
    align_is = m.lays.align_is;
    each = spread_long fs xs es known.known.long;
    state = spread_state L a.most a.bytes fs m.lays.entries es fit there;
    room = omega (arith, m.enough, sizes_noted L fs xs notes bytes known.known m.lays.noted);
  }

  module _ {start : ℕ} {o : TailSeen} (laid : AreLaidNow L fs xs targets start o)
      (front : FieldsFront a o start (aligned_to align)) (g : Grows a o) where
    pub table_open : IsTableOpen L vtables t m.lays.entries start targets places number vt o
    table_open = record {
      known = known;
      few = (m.made.tables t).few;
      laid = laid;
      narrow = omega (arith, laid.laid.size, fields_narrow L t xs known.known (m.made.tables t).wide);
      vtable_is = same_some (slice_get vtables number) vt _ m.has m.lays.vtable_is;
      is = m.has;
      turn = m.turn;
      shared = shared_grown _ _ a o g m.waiting.shared;
      different = m.different;
    }

    pub short_vtable : length vt ≤ 65534
    short_vtable = omega (
      arith,
      vtable_short L vtables t m.lays.entries start targets places number vt o table_open,
      (m.made.tables t).few,
    )

    pub table_waits : (after : List ℕ) (e : ℕ) (b : TailSeen) → Grows o b → o.most ≡ max a.most (aligned_to align)
        → b.most ≡ max o.most 4 → IsTableClosed L vtables t m.lays.entries start targets places after e o b
        → AreWaiting L vtables qs (take (length ends - notes_references notes) ends ++ (e ∷ [])) after b
    table_waits after e b g2 most most2 c =
        let grows = then_grows a o b g g2 in
        let least = least_most L vtables ps ends places a m.waiting in
        let low = stored_low L fs xs (λ k f at. inline_low L f.shape (known.known.low k f at)) in
        let front2 : FieldsFront a o start (max 4 (stored_align L fs xs)) = rw m.lays.align_is at front in
        let now : IsLaidNow L vtables (entries_apart fs m.lays.entries)
        (record { target = table_part t; value = a_table t (entries_in m.lays.entries) }) es places after e a b =
        record {
          grows = grows;
          shared = c.shared;
          four = through 4 a.most b.most m.waiting.four grows.multiple;
          bound = omega (arith, most, most2, m.lays.align_is, low, least.1, m.waiting.bound);
          lies = c.lies;
          own = record { target = table_part t; at = length b.bytes - e } ∷ [];
          adds = c.adds a front2;
          whole = c.leads ∙ ap (λ zs. record { target = table_part t; at = length b.bytes - e } ∷ zs)
              (spread_parts L b.bytes fs m.lays.entries es fit);
        } in
        rw m.lays.leaves (stepped L vtables ps m.lays.others (entries_apart fs m.lays.entries) _ (notes_references
        notes)
        ends places after e a b m.waiting m.lays.takes taken_many now)
