use Rattle.std.proofs.Common.{◌≡◌, ◌∙◌, ◌+◌, ℕ, drop, length, replicate, ap, arith}
use Rattle.std.proofs.lemmas.List.{length-replicate}
use Rattle.fb_layout.specs.Sizes.{ceil4}
use Rattle.fb_layout.proofs.sizes.AlignmentsArePowersOfTwo.{four_aligned}
use Rattle.fb_tape.specs.StoredTables.{in_order}
use Rattle.fb_tape.specs.Vtables.{offsets_from, trimmed, table_size}
use Rattle.fb_tape.proofs.laying_order.AllIsInOrder.{all_taken}
use Rattle.fb_tape.proofs.laying_order.LowAlignmentsAreLeft.{greatest_aligned}
use Rattle.fb_tape.proofs.laying_order.NotesFollowTheOrder.{all_in_order}
use Rattle.fb_tape.proofs.stored_tables.OffsetsArePut.{all_put, vtable_long}
use Rattle.fb_tape.proofs.stored_tables.OpenFieldsAreStored.{taken_is, all_aligned}
use Rattle.fb_tape.proofs.stored_tables.TableIsNoted.{low_slots, used_few, all_placed}
use Rattle.fb_tape.proofs.stored_tables.note_table.Goals as goal

pub extent_of-extent-requires-clause-small : goal.extent_of-extent-requires-clause-small
extent_of-extent-requires-clause-small c =
    let some = c.requires.some in
    let taken = taken_is some.0 0 some.1 some.2 (drop c.args.first c.args.opened.now) some.3.are in
    omega (arith, taken, some.3.small)

pub begin-requires-clause-small : goal.begin-requires-clause-small
begin-requires-clause-small c =
    let some = c.requires.some in
    let taken = taken_is some.0 0 some.1 some.2 (drop c.args.first c.args.opened.now) some.3.are in
    omega (arith, taken, some.3.small, c.extent_of-extent.ensures.size)

pub begin-requires-clause-few : goal.begin-requires-clause-few
begin-requires-clause-few c =
    let some = c.requires.some in
    let few = used_few some.0 some.1 some.2 (drop c.args.first c.args.opened.now) some.3.aligned some.3.are in
    omega (arith, few, some.3.few, c.slots_used-slots.ensures some.0 some.1 some.2 some.3)

pub note_fields-requires-clause-room : goal.note_fields-requires-clause-room
note_fields-requires-clause-room c =
    let some = c.requires.some in
    let opens = drop c.args.first c.args.opened.now in
    let all = all_taken opens (all_aligned some.0 0 some.1 some.2 opens some.3.aligned some.3.are) in
    omega (arith, c.begin.ensures.laid, c.begin.ensures.size, c.extent_of-extent.ensures.size, all)

pub note_fields-requires-clause-aligned : goal.note_fields-requires-clause-aligned
note_fields-requires-clause-aligned c =
    let some = c.requires.some in
    all_aligned some.0 0 some.1 some.2 (drop c.args.first c.args.opened.now) some.3.aligned some.3.are

pub note_fields-requires-clause-power : goal.note_fields-requires-clause-power
note_fields-requires-clause-power c =
    let some = c.requires.some in
    let opens = drop c.args.first c.args.opened.now in
    rw c.extent_of-extent.ensures.align (greatest_aligned 4 four_aligned opens
    (all_aligned some.0 0 some.1 some.2 opens some.3.aligned some.3.are))

pub note_fields-requires-clause-slots : goal.note_fields-requires-clause-slots
note_fields-requires-clause-slots c k d low =
    let some = c.requires.some in
    let opens = drop c.args.first c.args.opened.now in
    let slots = c.slots_used-slots.result in
    let zeros : length (replicate {A = ℕ} slots 0) ≡ slots = length-replicate slots 0 in
    omega (
      arith,
      ap length c.in_ok-begin.ensures.begun,
      vtable_long c.begin.new.self.size (replicate slots 0),
      zeros,
      c.slots_used-slots.ensures some.0 some.1 some.2 some.3,
      low_slots some.0 some.1 some.2 opens some.3.aligned some.3.are k d low,
    )

pub returns-clause-notes : goal.returns-clause-notes
returns-clause-notes c L fs xs h = record {
  notes_are = c.in_ok-note_fields.ensures.notes;
  bytes_are = c.in_ok-note_fields.ensures.bytes;
  noted = all_in_order L fs xs (drop c.args.first c.args.opened.now) h.are;
}

pub returns-clause-vtable : goal.returns-clause-vtable
returns-clause-vtable c L fs xs h =
    let opens = drop c.args.first c.args.opened.now in
    let size : c.begin.new.self.size ≡ table_size L fs xs =
    c.begin.ensures.size
    ∙ ap (λ (n : ℕ). 4 + ceil4 n) (c.extent_of-extent.ensures.size ∙ taken_is L 0 fs xs opens h.are) in
    let told = rw (c.begin.ensures.laid, c.in_ok-begin.ensures.begun, size, c.slots_used-slots.ensures L fs xs h)
    at c.in_ok-note_fields.ensures.told in
    let put = all_put (table_size L fs xs) 0 (in_order opens)
    (replicate (length (trimmed (offsets_from L fs xs 0 fs xs))) 0) in
    told ∙ rw (all_placed L fs xs opens h.aligned h.are) at put
