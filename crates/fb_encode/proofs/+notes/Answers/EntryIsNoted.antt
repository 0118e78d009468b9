-- An entry of a table is noted as its tree means it.
use Rattle.std.proofs.Common.{◌∙◌, ◌++◌, ◌∷◌, [], refl, sym, ap, arith, rules}
use Rattle.std.proofs.lemmas.Result.{err_from_is_err_and}
use Rattle.serde_json.specs.View.{view as tree_view}
use Rattle.fb_schema.specs.Seen.{field_seen}
use Rattle.fb_schema.specs.declared.kinds.Kind.TheVariants.{Table}
use Rattle.fb_schema.specs.declared.kinds.Shape.TheVariants.{One}
use Rattle.fb_layout.specs.Laid.{stored_shape}
use Rattle.fb_layout.specs.Seen.{slot_seen}
use Rattle.fb_layout.proofs.sizes.AlignmentsArePowersOfTwo.{slot_below}
use Rattle.fb_tape.specs.OpenFields.{reference_field}
use Rattle.fb_json.specs.Meant.{meant, slot_place}
use Rattle.fb_json.specs.SlotMembers.{tree_seen}
use Rattle.fb_build.proofs.fields.AlignmentDividesTheSize.{all_known}
use Rattle.fb_build.proofs.fields.CodeIsBeforeItsUnion.{slots_paired}
use Rattle.fb_encode.proofs.entries.PresentEntryIsNoted.{inline_of, member_given, member_noted, member_refused}
use Rattle.fb_encode.proofs.entries.PresentEntryIsNoted.{mismatch_refused, part_of, part_plain, plain_given}
use Rattle.fb_encode.proofs.entries.PresentEntryIsNoted.{plain_refused, reference_noted}
use Rattle.fb_encode.proofs.entries.SlotStoresNothing.{absent_noted}
use Rattle.fb_encode.specs.TreesNoted.{entry_given}
use Rattle.fb_encode.proofs.+notes.Goals as goal

pub no_member_refused : goal.entries::note_member-returns-in_default-clause-refused
no_member_refused t c =
    let L = c.args.source.layout.now in
    let slot = c.args.slot in
    let none = rw c.schema.ensures.schema at (sym c.in_default.ensures) in
    rw c.place-place.ensures (mismatch_refused L (field_seen slot.field.now) slot.code
    (meant L c.args.source.unknown (tree_view c.args.tree.now)) (slot_place slot.owner.0 slot.number) c.args.levels
    c.args.left c.args.union c.requires.union none)

pub code_is_before_its_union : goal.entries::note_member-overflow_sub-slot
code_is_before_its_union t c =
    let L = c.args.source.layout.now in
    let slot = c.args.slot in
    let paired = slots_paired L c.layout_is_well_made.ensures.declared slot.owner.0 in
    let led = paired.led slot.number (slot_seen L slot.field.now) c.args.union.0 c.requires.slot
    (ap (stored_shape L.schema) c.requires.union) in
    omega (arith, led.2)

pub member_fault_refused : goal.entries::note_member-returns-in_err-left-clause-refused
member_fault_refused t c =
    let L = c.args.source.layout.now in
    let slot = c.args.slot in
    let found = rw c.schema.ensures.schema at (sym c.in-Some.ensures) in
    let p = err_from_is_err_and c.from_residual-in_err-left.result c.from_residual-in_err-left.ensures.1 in
    rw (p.1, p.2) (member_refused L (field_seen slot.field.now) slot.code
    (meant L c.args.source.unknown (tree_view c.args.tree.now)) (slot_place slot.owner.0 slot.number) c.args.levels
    c.args.left c.args.union c.requires.union c.in-Some.table.0 found c.in_err-left.field-0.0
    (rw c.place-place.ensures at c.in_err-left.ensures.refused))

pub member_adds_itself : goal.entries::note_member-returns-clause-noted
member_adds_itself t c =
    let L = c.args.source.layout.now in
    let slot = c.args.slot in
    let m = meant L c.args.source.unknown (tree_view c.args.tree.now) in
    let at = slot_place slot.owner.0 slot.number in
    let found = rw c.schema.ensures.schema at (sym c.in-Some.ensures) in
    let noted = rw c.place-place.ensures at c.in_ok-left.ensures.noted in
    member_noted L slot.number (field_seen slot.field.now) c.requires.used _ _ _ _ _ c.in_ok-left.left
    (m (One (Table c.in-Some.table)) at c.args.levels c.args.left) c.args.union c.in-Some.table.0 slot.code
    c.requires.union found
    (λ d h. member_given L (field_seen slot.field.now) slot.code m at c.args.levels c.args.left c.args.union
    c.requires.union c.in-Some.table.0 found d c.in_ok-left.left h) noted c.push_code.new.self
    (c.in_ok-push_code.ensures.adds L)
    (c.in_ok-push_reference.ensures.adds
    ∙ ap (λ os. os ++ (reference_field slot.number ∷ [])) c.in_ok-left.ensures.opened)

pub reference_has_a_part : goal.entries::note_present-note_reference-requires
reference_has_a_part t c =
    let L = c.args.source.layout.now in
    let slot = c.args.slot in
    let simple = all_known L c.layout_is_well_made.ensures slot.owner.0 slot.number (slot_seen L slot.field.now)
    c.requires.slot in
    let low = slot_below L slot.owner.0 slot.number (slot_seen L slot.field.now) c.requires.slot in
    let is = c.in-Reference.ensures in (
      search rules,
      (
        c.requires.layout,
        (c.requires.whole, (c.requires.used, part_of L slot.field.now.shape simple low is.0 (is.1 L.schema))),
      ),
    )

pub inline_is_plain : goal.entries::note_present-note_inline-requires
inline_is_plain t c =
    let L = c.args.source.layout.now in
    let slot = c.args.slot in
    let is = c.in-Inline.ensures in
    let simple = all_known L c.layout_is_well_made.ensures slot.owner.0 slot.number (slot_seen L slot.field.now)
    c.requires.slot in
    record {
      used = c.requires.used;
      kind = is.0;
      plain = is.1;
      inline = inline_of L c.in-Inline.kind (rw is.0 at simple) (rw is.0 at is.1) (rw is.0 at (is.2 L.schema));
    }

pub reference_fault_refused : goal.entries::note_reference-returns-in_err-left-clause-refused
reference_fault_refused t c =
    let L = c.args.source.layout.now in
    let slot = c.args.slot in
    let p = err_from_is_err_and c.from_residual.result c.from_residual.ensures.1 in
    rw (p.1, p.2) (plain_refused L (field_seen slot.field.now) slot.code
    (meant L c.args.source.unknown (tree_view c.args.tree.now)) (slot_place slot.owner.0 slot.number) c.args.levels
    c.args.left (part_plain L slot.field.now.shape c.requires.part) c.in_err-left.field-0.0
    (rw c.place-place.ensures at c.in_err-left.ensures.refused))

pub reference_adds_itself : goal.entries::note_reference-returns-clause-noted
reference_adds_itself t c =
    let L = c.args.source.layout.now in
    let slot = c.args.slot in
    let m = meant L c.args.source.unknown (tree_view c.args.tree.now) in
    let at = slot_place slot.owner.0 slot.number in
    let noted = rw c.place-place.ensures at c.in_ok-left.ensures.noted in
    reference_noted L slot.number (field_seen slot.field.now) c.requires.used _ _ _ _ _ c.in_ok-left.left
    (m slot.field.now.shape at c.args.levels c.args.left) c.requires.part
    (λ d h. plain_given L (field_seen slot.field.now) slot.code m at c.args.levels c.args.left
    (part_plain L slot.field.now.shape c.requires.part) d c.in_ok-left.left h) noted
    (c.in_ok-push_reference.ensures.adds
    ∙ ap (λ os. os ++ (reference_field slot.number ∷ [])) c.in_ok-left.ensures.opened)

pub absent_adds_nothing : goal.entries::note_slot-returns-in_default-clause-noted
absent_adds_nothing t c =
    let L = c.args.source.layout.now in
    let slot = c.args.slot in
    rw c.left_of.ensures (absent_noted L (field_seen slot.field.now) c.requires.marks slot.number slot.code
    (slot_place slot.owner.0 slot.number) c.args.levels c.args.left
    (entry_given L c.args.source.unknown (field_seen slot.field.now) (tree_seen c.args.tree)
    (slot_place slot.owner.0 slot.number) slot.code c.args.levels c.args.left)
    (rw (c.in_default.is, c.if-slot.false) refl)
    c.args.noting.now.tape c.args.noting.now.opened c.requires.whole c.entry_without_member.result
    (rw (← c.place.ensures) (c.entry_without_member.ensures L c.args.levels)))

pub null_adds_nothing : goal.entries::note_slot-returns-then-is_null-clause-noted
null_adds_nothing t c =
    let L = c.args.source.layout.now in
    let slot = c.args.slot in
    let null = sym c.is_null.ensures ∙ c.if-is_null.true in
    rw c.left_of-then-is_null.ensures (absent_noted L (field_seen slot.field.now) c.requires.marks slot.number slot.code
    (slot_place slot.owner.0 slot.number) c.args.levels c.args.left
    (entry_given L c.args.source.unknown (field_seen slot.field.now) (tree_seen c.args.tree)
    (slot_place slot.owner.0 slot.number) slot.code c.args.levels c.args.left)
    (rw (c.in-Some.is, c.if-slot.false, null) refl)
    c.args.noting.now.tape c.args.noting.now.opened c.requires.whole c.entry_without_member-then-is_null.result
    (rw (← c.place-then-is_null.ensures) (c.entry_without_member-then-is_null.ensures L c.args.levels)))
