use Rattle.std.proofs.Common.{ℕ, List, ◌≡◌, ◌≤◌, ◌-◌, [], ◌∷◌, ap, length, slice_index, take, drop, arith}
use Rattle.std.proofs.Common.{length-append}
use Rattle.std.proofs.lemmas.List.{length-take-le, take_rest}
use Rattle.fb_layout.specs.Laid.{slots_of}
use Rattle.fb_build.specs.Fields.{stored_in}
use Rattle.fb_build.specs.NotesLaid.{AreToBeLaid, notes_references}
use Rattle.fb_build.specs.Tails.{TailSeen, Grows}
use Rattle.fb_build.proofs.tail.WhatIsLaidStaysLaid.{then_grows}
use Rattle.fb_build.proofs.taped.PartsOfATable.{spread}
use Rattle.fb_build.proofs.taped.TableTakesItsParts.{to_be_laid, table_open, table_waits, vtable_room}
use Rattle.fb_build.proofs.taped.TableTakesItsParts.{short_vtable, references_within, places_some}
use Rattle.fb_build.proofs.laying.lay_table.Goals as goal

slice_is : (ends seen : List ℕ) (len count n : ℕ) → seen ≡ ends → len ≡ length ends → count ≡ n
    → take (length seen - (len - count)) (drop (len - count) seen) ≡ drop (length ends - n) ends
slice_is ends seen len count n value long many = rw (value, long, many) (take_rest ends (length ends - n))

pub overflow_sub-first : goal.overflow_sub-first
overflow_sub-first c =
    let w = c.requires.ready in
    let few = references_within w.may in
    omega (arith, few, c.len.ensures, c.requires.taken)

pub lay_fields-start-requires : goal.lay_fields-start-requires
lay_fields-start-requires c =
    let w = c.requires.ready in
    let ends = c.args.laying.now.waiting.items in
    record {
      ready = rw (
        slice_is ends c.deref.result.now c.len.result c.args.fields.references
            (notes_references c.args.fields.notes.now) c.deref.ensures.value (omega (arith, c.len.ensures))
            c.requires.taken,
        c.bytes.ensures,
      ) (record {
        layout = w.layout;
        slots = slots_of w.layout w.may.lays.table;
        stored = stored_in (slots_of w.layout w.may.lays.table) w.may.lays.entries;
        targets = spread (slots_of w.layout w.may.lays.table)
            (stored_in (slots_of w.layout w.may.lays.table) w.may.lays.entries)
            (drop (length ends - notes_references c.args.fields.notes.now) ends);
        are = to_be_laid w.may;
      });
    }

-- the fields as they are given to be laid
given : (c : goal.After-close_table-arg-2-1) → let w = c.requires.ready in
    AreToBeLaid w.layout (slots_of w.layout w.may.lays.table)
    (stored_in (slots_of w.layout w.may.lays.table) w.may.lays.entries)
    (spread (slots_of w.layout w.may.lays.table) (stored_in (slots_of w.layout w.may.lays.table) w.may.lays.entries)
    (drop (length c.args.laying.now.waiting.items - notes_references c.args.fields.notes.now)
    c.args.laying.now.waiting.items))
    c.bytes.result c.args.fields.notes.now c.args.fields.bytes.now
    (take (length c.deref.result.now - (c.len.result - c.args.fields.references))
    (drop (c.len.result - c.args.fields.references) c.deref.result.now)) c.args.laying.now.tail
given c =
    let w = c.requires.ready in
    let ends = c.args.laying.now.waiting.items in
    rw (
      slice_is ends c.deref.result.now c.len.result c.args.fields.references
          (notes_references c.args.fields.notes.now) c.deref.ensures.value (omega (arith, c.len.ensures))
          c.requires.taken,
      c.bytes.ensures,
    ) (to_be_laid w.may)

pub close_table-end-requires-clause-room : goal.close_table-end-requires-clause-room
close_table-end-requires-clause-room c =
    vtable_room c.requires.ready.may _ c.lay_fields-start.ensures.grows
    (rw c.bytes.ensures at c.lay_fields-start.ensures.long)

pub close_table-end-requires-clause-short : goal.close_table-end-requires-clause-short
close_table-end-requires-clause-short c =
    short_vtable c.requires.ready.may
    (c.lay_fields-start.ensures.laid _ _ _ _ (given c)) (rw c.bytes.ensures at c.lay_fields-start.ensures.front)
    c.lay_fields-start.ensures.grows

pub close_table-end-requires-clause-there : goal.close_table-end-requires-clause-there
close_table-end-requires-clause-there c i low =
    places_some _ _ _ c.requires.ready.may.waiting.shared i low

places_inside : (places : List ℕ) (a b : TailSeen) → ((i : ℕ) → slice_index places i ≤ length a.bytes) → Grows a b
    → (i : ℕ) → slice_index places i ≤ length b.bytes
places_inside places a b inside grows i =
    omega (arith, inside i, ap length grows.grown, length-append grows.front a.bytes)

pub close_table-end-requires-clause-inside : goal.close_table-end-requires-clause-inside
close_table-end-requires-clause-inside c =
    places_inside c.args.laying.now.places.items c.args.laying.now.tail c.lay_fields-start.new.out
    c.requires.ready.may.waiting.made.within c.lay_fields-start.ensures.grows

pub wait-requires-clause-within : goal.wait-requires-clause-within
wait-requires-clause-within c =
    let w = c.requires.ready in
    let few = references_within w.may in
    omega (arith, few, c.requires.taken)

pub returns-clause-laid : goal.returns-clause-laid
returns-clause-laid c =
    let ends = c.args.laying.now.waiting.items in
    let places = c.args.laying.now.places.items in
    let notes = c.args.fields.notes.now in
    let a = c.args.laying.now.tail in
    let o = c.lay_fields-start.new.out in
    let b = c.close_table-end.new.out in
    let fields = c.lay_fields-start.ensures in
    let front = rw c.bytes.ensures at fields.front in
    let most = rw c.bytes.ensures at fields.most in
    let closing = c.close_table-end.ensures in
    let slice = slice_is ends c.deref.result.now c.len.result c.args.fields.references (notes_references notes)
    c.deref.ensures.value (omega (arith, c.len.ensures)) c.requires.taken in
    record {
      waits = λ L vtables room ps qs m. (let to_be : AreToBeLaid L (slots_of L m.lays.table)
          (stored_in (slots_of L m.lays.table) m.lays.entries)
          (spread (slots_of L m.lays.table) (stored_in (slots_of L m.lays.table) m.lays.entries)
          (drop (length ends - notes_references notes) ends)) c.bytes.result notes c.args.fields.bytes.now
          (take (length c.deref.result.now - (c.len.result - c.args.fields.references))
          (drop (c.len.result - c.args.fields.references) c.deref.result.now)) a =
          rw (slice, c.bytes.ensures) (to_be_laid m) in
          let laid = fields.laid _ _ _ _ to_be in
          let open_now = table_open m laid front fields.grows in
          rw (c.wait.ensures.items, c.requires.taken)
          (table_waits m laid front fields.grows _ _ _ closing.grows most
          closing.most (closing.closed _ _ _ _ _ _ open_now)));
      come = omega (arith, closing.come);
      most_waiting = omega (
        arith,
        ap length c.wait.ensures.items,
        length-append (take (length ends - c.args.fields.references) ends) (c.close_table-end.result ∷ []),
        length-take-le (length ends - c.args.fields.references) ends (omega arith),
      );
      reserved_waiting = c.wait.ensures.reserved;
      reserved_places = closing.capacity;
      grows = then_grows _ _ _ fields.grows closing.grows;
    }
