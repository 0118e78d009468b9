use Rattle.std.proofs.Common.{◌≡◌, ◌≤◌, ◌∙◌, ◌+◌, ◌-◌, ◌++◌, ℕ, List, [], length, drop, take, ap, sym, arith}
use Rattle.std.proofs.Common.{subst, refl}
use Rattle.std.proofs.lemmas.List.{length-drop, append-nil, take-append-drop, drop_all}
use Rattle.fb_layout.specs.WellMade.{IsWellMade}
use Rattle.fb_value.specs.Room.{table_room}
use Rattle.fb_value.specs.UpTo.{at_most_usize}
use Rattle.fb_tape.specs.StoredTables.{notes_of, bytes_of, in_order}
use Rattle.fb_tape.specs.TapeHeld.{tape_seen}
use Rattle.fb_tape.specs.Tapes.{Taped}
use Rattle.fb_tape.specs.declared.ops.NotedField.{NotedField}
use Rattle.fb_tape.proofs.tape.RoomsAreSummedUp.{room_known, room_is, over_fits}
use Rattle.fb_layout.specs.Laid.{slots_of}
use Rattle.fb_tape.specs.StoredFields.{stored_in}
use Rattle.fb_tape.proofs.stored.StoredFieldsFit.{open_stored}
use Rattle.fb_tape.proofs.stored_tables.OpenFieldsAreStored.{all_aligned}
use Rattle.fb_tape.proofs.tape.AlignmentsFit.{fields_fit}
use Rattle.fb_tape.proofs.tape.TableIsLaid.{open_few, table_laid}
use Rattle.fb_tape.proofs.tape.Tape.close_table.Goals as goal

pub note_table-requires-clause-some : goal.note_table-requires-clause-some
note_table-requires-clause-some c =
    let L = c.args.self.now.layout in
    let t = c.args.table.0 in
    let xs = c.requires.stored.0 in (
      L,
      slots_of L t,
      stored_in (slots_of L t) xs,
      open_stored L t (drop c.args.from c.args.opened.now) xs
          (subst IsWellMade (ap (λ (t : Taped). t.layout) c.self.view_is) c.layout_is_well_made.ensures)
          c.requires.stored.1,
    )

pub invariant_of-self : goal.invariant_of-self
invariant_of-self c = record { within = omega (arith, c.self-2.invariant.within, c.note_table.ensures.grown) }

pub invariant_of-self-in_err-vtable : goal.invariant_of-self-in_err-vtable
invariant_of-self-in_err-vtable c =
    record { within = omega (arith, c.self-2.invariant.within, c.note_table.ensures.grown) }

pub of-requires-clause-few : goal.of-requires-clause-few
of-requires-clause-few c =
    let L = c.args.self.now.layout in
    let t = c.args.table.0 in
    let opens = drop c.args.from c.args.opened.now in
    let xs = c.requires.stored.0 in
    let made = subst IsWellMade (ap (λ (t : Taped). t.layout) c.self.view_is) c.layout_is_well_made.ensures in
    let stored = open_stored L t opens xs made c.requires.stored.1 in
    let few = fields_fit opens (all_aligned L 0 (slots_of L t) (stored_in (slots_of L t) xs) opens stored.aligned
    stored.are) in
    omega (arith, few, c.in_ok-align.ensures.align)

pub overflow_cast-len : goal.overflow_cast-len
overflow_cast-len c =
    let few = open_few c.args.self.now.layout c.args.table.0 (drop c.args.from c.args.opened.now) c.requires.stored.0
    (subst IsWellMade (ap (λ (t : Taped). t.layout) c.self.view_is) c.layout_is_well_made.ensures) c.requires.stored.1
    in
    omega (arith, few, length-drop c.args.from c.args.opened.now, c.len-self-inside.ensures)

whole_taken : (n : ℕ) (xs : List ℕ) → drop n xs ≡ [] → take n xs ≡ xs
whole_taken n xs none =
    sym (append-nil (take n xs)) ∙ ap (λ ys. take n xs ++ ys) (sym none) ∙ take-append-drop n xs

all_taken : (n : ℕ) (xs : List ℕ) → n ≡ length xs → take n xs ≡ xs
all_taken n xs is = whole_taken n xs (drop_all n xs (omega (arith, is)))

pub returns-clause-waits : goal.returns-clause-waits
returns-clause-waits c others xs h waits =
    let before = c.args.self.now in
    let inside = c.self-2.inside in
    let opens = drop c.args.from c.args.opened.now in
    let t = c.args.table.0 in
    let fs = slots_of before.layout t in
    let made = subst IsWellMade (ap (λ (t : Taped). t.layout) c.self.view_is) c.layout_is_well_made.ensures in
    let seen : tape_seen inside ≡ record before { room = at_most_usize (before.room + c.table_room.result) } =
    c.self-2.view_is ∙ c.add_room.ensures.adds in
    let stored = open_stored before.layout t opens xs made h in
    let adds = c.in_ok-align.ensures.notes before.layout fs (stored_in fs xs) stored in
    let vtable = c.in_ok-align.ensures.vtable before.layout fs (stored_in fs xs) stored in
    let after = record (tape_seen inside) {
      ops = c.push_reserved.new.self.items;
      notes = c.note_table.new.notes.items;
      bytes = take c.len-self-inside.result c.note_table.new.bytes.items;
      vtables = c.number_of.new.self;
    } in
    let numbered =
    rw (c.as_slice.ensures.value, ap (λ (t : Taped). t.vtables) seen) at c.in_ok-vtable.ensures.numbered in
    let count : c.len.result - c.args.from ≡ length opens =
    omega (arith, length-drop c.args.from c.args.opened.now, c.len.ensures) in
    let whole = whole_taken inside.finished inside.bytes.items
    (ap (λ (t : Taped). t.unfinished) seen ∙ c.requires.whole) in
    let layout = ap (λ (t : Taped). t.layout) c.self.view_is in
    let own : c.table_room.result ≡ at_most_usize (table_room before.layout t) =
    omega (arith, rw layout at c.table_room.ensures, c.table_room.type_inv) in
    table_laid before after t c.in_ok-vtable.vtable c.of.result others xs opens
    (c.of.ensures ∙ c.in_ok-align.ensures.align) (record {
      layout = ap (λ (t : Taped). t.layout) seen;
      ops = rw (← count, ← ap (λ (t : Taped). t.ops) seen)
          (rw c.reserve.ensures.items at c.push_reserved.ensures.items);
      notes = adds.notes_are
          ∙ ap (λ (ns : List NotedField). ns ++ notes_of (in_order opens)) (ap (λ (t : Taped). t.notes) seen);
      bytes = all_taken c.len-self-inside.result c.note_table.new.bytes.items
          (c.len-self-inside.ensures ∙ c.note_table.new.bytes.ok.0) ∙ adds.bytes_are
          ∙ ap (λ (bs : List ℕ). bs ++ bytes_of (in_order opens)) (sym whole ∙ ap (λ (t : Taped). t.bytes) seen);
      room = ap (λ (t : Taped). t.room) seen ∙ room_known before c.add_room.new.self c.table_room.result
          (table_room before.layout t) c.add_room.ensures.adds own c.if-is_over.ensures.exact;
    }) (rw (← vtable) numbered) h stored.aligned adds.noted waits

pub returns-then-is_over-clause-waits : goal.returns-then-is_over-clause-waits
returns-then-is_over-clause-waits c others xs h waits fits =
    over_fits c.add_room.new.self.room c.add_room.new.self.room c.if-is_over.ensures.exact refl fits

pub returns-then-is_over-clause-room : goal.returns-then-is_over-clause-room
returns-then-is_over-clause-room c =
    room_is c.args.self.now c.add_room.new.self _ _ c.add_room.ensures.adds
    (rw (ap (λ (t : Taped). t.layout) c.self.view_is) at c.table_room.ensures)

pub returns-then-is_over-clause-whole : goal.returns-then-is_over-clause-whole
returns-then-is_over-clause-whole c = ap (λ (t : Taped). t.unfinished) c.add_room.ensures.adds ∙ c.requires.whole

pub returns-then-is_over-clause-layout : goal.returns-then-is_over-clause-layout
returns-then-is_over-clause-layout c = ap (λ (t : Taped). t.layout) c.add_room.ensures.adds

pub note_table-requires-clause-within : goal.note_table-requires-clause-within
note_table-requires-clause-within c = c.requires.within

pub returns-in_err-align-clause-layout : goal.returns-in_err-align-clause-layout
returns-in_err-align-clause-layout c = ap (λ (t : Taped). t.layout) (c.self-2.view_is ∙ c.add_room.ensures.adds)

pub returns-in_err-vtable-clause-layout : goal.returns-in_err-vtable-clause-layout
returns-in_err-vtable-clause-layout c = ap (λ (t : Taped). t.layout) (c.self-2.view_is ∙ c.add_room.ensures.adds)

pub returns-in_err-reserve-clause-layout : goal.returns-in_err-reserve-clause-layout
returns-in_err-reserve-clause-layout c = ap (λ (t : Taped). t.layout) (c.self-2.view_is ∙ c.add_room.ensures.adds)

within_all : (n long : ℕ) → n ≡ long → n ≤ long
within_all n long is = omega (arith, is)

pub invariant_of-self-in_err-reserve : goal.invariant_of-self-in_err-reserve
invariant_of-self-in_err-reserve c =
    record { within = within_all _ _ (c.len-self-inside.ensures ∙ c.note_table.new.bytes.ok.0) }

pub invariant_of-self-2 : goal.invariant_of-self-2
invariant_of-self-2 c =
    record { within = within_all _ _ (c.len-self-inside.ensures ∙ c.note_table.new.bytes.ok.0) }

from_within : (from long len : ℕ) → from ≤ long → len ≡ long → from ≤ len
from_within from long len low is = omega (arith, low, is)

pub overflow_sub-len : goal.overflow_sub-len
overflow_sub-len c = from_within _ _ _ c.requires.within c.len.ensures.exact

pub returns-clause-room : goal.returns-clause-room
returns-clause-room c =
    ap (λ (t : Taped). t.room) c.self-2.view_is ∙ room_is c.args.self.now c.add_room.new.self _ _
    c.add_room.ensures.adds (rw (ap (λ (t : Taped). t.layout) c.self.view_is) at c.table_room.ensures)

all_dropped : (n : ℕ) (xs : List ℕ) → n ≡ length xs → drop n xs ≡ []
all_dropped n xs is = drop_all n xs (omega (arith, is))

pub returns-clause-whole : goal.returns-clause-whole
returns-clause-whole c = all_dropped _ _ (c.len-self-inside.ensures ∙ c.note_table.new.bytes.ok.0)

pub returns-clause-layout : goal.returns-clause-layout
returns-clause-layout c = ap (λ (t : Taped). t.layout) (c.self-2.view_is ∙ c.add_room.ensures.adds)
