-- The next slot of a long table is noted from its text.
use Rattle.std.proofs.Common.{◌∙◌, Some, ap, arith, option_map, refl, sym}
use Rattle.std.proofs.lemmas.Result.{err_from_is_err_and}
use Rattle.serde_json.specs.View.{view as tree_view}
use Rattle.fb_schema.specs.Seen.{field_seen}
use Rattle.fb_layout.specs.Laid.{slot_of, stored_shape}
use Rattle.fb_layout.specs.Seen.{slot_seen}
use Rattle.fb_layout.proofs.sizes.AlignmentsArePowersOfTwo.{slot_below}
use Rattle.fb_value.specs.Datum.{a_number}
use Rattle.fb_json.specs.Meant.{Look, meant, slot_place}
use Rattle.fb_build.proofs.fields.AlignmentDividesTheSize.{all_known}
use Rattle.fb_build.proofs.fields.CodeIsBeforeItsUnion.{slots_paired}
use Rattle.fb_encode.proofs.entries.PresentEntryIsNoted.{part_of}
use Rattle.fb_encode.proofs.objects.NextSlotIsNoted.{absent_next, old_next, reference_fails, reference_next}
use Rattle.fb_encode.proofs.objects.NextSlotIsNoted.{member_fails, member_next, mismatch_fails, used_by}
use Rattle.fb_encode.proofs.stand_ins.SlotIsNotedByItsStandIn.{noted_by_stand_in}
use Rattle.fb_encode.proofs.excerpts.NotedOrRefused.{fault_then, found_holds, if_found_all, if_found_then}
use Rattle.fb_encode.proofs.slot_texts.PiecesAreRead.{inner_is_read, tree_is}
use Rattle.fb_encode.proofs.objects.SlotsAreFound.{brackets_in}
use Rattle.fb_encode.proofs.+reads.Goals.{objects::note_slot_text-then-slot-via-then-slot}
use Rattle.fb_encode.proofs.+reads.Goals.{objects::note_slot_text-then-slot-via-else-slot+then-is_absent}
use Rattle.fb_encode.proofs.+reads.Goals as goal

pub next_noted : goal.objects::note_next-returns-clause-noted
next_noted t c seen found =
    if_found_then c.after_step.result _ _ (λ now same.
    found_holds c.note_slot_text-noted.result _ now same (c.note_slot_text-noted.ensures.noted seen found))
    c.after_step.ensures

pub next_read : goal.objects::note_next-returns-clause-read
next_read t c =
    if_found_then c.after_step.result _ _ (λ now same.
    found_holds c.note_slot_text-noted.result _ now same c.note_slot_text-noted.ensures.read) c.after_step.ensures

pub reference_adds_itself : goal.objects::note_reference-returns-clause-noted
reference_adds_itself t c seen found =
    let L = c.args.source.layout.now in
    let unknown = c.args.source.unknown in
    let slot = c.args.slot in
    let text = c.args.text in
    let noted = rw c.place.ensures at c.in_ok-left.ensures.noted in
    let is = tree_is text.brackets text.text.now noted.0 noted.1 in
    reference_next L (field_seen slot.field.now) seen slot.number c.args.after.code c.args.levels
    c.args.after.left (slot_place slot.owner.0 slot.number) c.requires.used unknown noted.0
    (λ null. c.requires.bracketed text.brackets (noted.1.read ∙ ap Some null))
    (found ∙ ap (λ d. Some (d, meant L unknown d)) is) c.requires.part _ _ _ _ c.in_ok-left.left noted.2
    c.in_ok-left.ensures.opened

pub reference_fault_found : goal.objects::note_reference-returns-in_err-left-clause-noted
reference_fault_found t c seen found =
    let L = c.args.source.layout.now in
    let unknown = c.args.source.unknown in
    let slot = c.args.slot in
    let text = c.args.text in
    let p = err_from_is_err_and c.from_residual.result c.from_residual.ensures.1 in
    rw (p.1, p.2) (fault_then c.in_err-left.field-0.0 _ _ (λ f noted.
    let is = tree_is text.brackets text.text.now noted.0 noted.1 in
    reference_fails L (field_seen slot.field.now) seen slot.number c.args.after.code c.args.levels
    c.args.after.left (slot_place slot.owner.0 slot.number) c.requires.used unknown noted.0
    (λ null. c.requires.bracketed text.brackets (noted.1.read ∙ ap Some null))
    (found ∙ ap (λ d. Some (d, meant L unknown d)) is) c.requires.part f noted.2)
    (rw c.place.ensures at c.in_err-left.ensures.noted))

pub reference_read : goal.objects::note_reference-returns-clause-read
reference_read t c = (c.in_ok-left.ensures.noted.0, c.in_ok-left.ensures.noted.1)

pub reference_fault_read : goal.objects::note_reference-returns-in_err-left-clause-read
reference_fault_read t c =
    let p = err_from_is_err_and c.from_residual.result c.from_residual.ensures.1 in
    rw (p.1, p.2) (fault_then c.in_err-left.field-0.0 _ _ (λ f noted. (noted.0, noted.1)) c.in_err-left.ensures.noted)

pub absent_adds_nothing : goal.objects::note_slot_text-returns-then-slot-clause-noted
absent_adds_nothing t c seen found =
    let L = c.args.source.layout.now in
    let slot = c.args.slot in
    let f = field_seen slot.field.now in
    let at = slot_place slot.owner.0 slot.number in
    let after = c.args.after in
    let opens = c.args.walk.now.noting.opened in
    let tape = c.args.walk.now.noting.tape in
    let whole = c.requires.whole in
    elim c.then-slot.branch [
      | objects::note_slot_text-then-slot-via-then-slot w ↦ old_next L f seen slot.number after.code c.args.levels
          after.left at w.if-slot.true tape opens whole
      | objects::note_slot_text-then-slot-via-else-slot+then-is_absent w ↦
          let none = rw c.in_default.is at (found w.if-slot.false) in
          absent_next L f seen slot.number after.code c.args.levels after.left at c.requires.marks
          c.args.source.unknown none
          (w.is_absent.ensures.code L.schema seen at after.code w.if-is_absent.true)
          (option_map a_number (slot_of L.schema f).if_absent)
          (w.is_absent.ensures.entry L seen at after.code c.args.levels after.left w.if-is_absent.true none)
          tape opens whole
    ]

pub slot_without_text_noted : goal.objects::note_slot_text-returns-in_default-clause-noted
slot_without_text_noted t c seen found =
    let none = rw c.in_default.is at (found c.if-slot.false) in
    c.note_tree.ensures.noted seen none

pub bracketed_has_a_part : goal.objects::note_slot_text-note_reference-requires
bracketed_has_a_part t c =
    let L = c.args.source.layout.now in
    let slot = c.args.slot in
    let simple = all_known L c.layout_is_well_made.ensures slot.owner.0 slot.number (slot_seen L slot.field.now)
    c.requires.slot in
    let low = slot_below L slot.owner.0 slot.number (slot_seen L slot.field.now) c.requires.slot in
    let brackets = ap brackets_in c.in-Some.is in
    let is = c.is_in_pieces.ensures c.if-is_in_pieces.true in (
      omega (arith, c.decreases, brackets),
      (
        c.requires.layout,
        (
          c.requires.whole,
          (
            used_by slot.field.now.deprecated c.args.text c.in-Some.text c.requires.old c.in-Some.is,
            (
              part_of L slot.field.now.shape simple low is.0 (is.1 L.schema),
              (rw c.in-Some.is at c.requires.brackets, c.is_enclosed.ensures c.if-is_enclosed.true),
            ),
          ),
        ),
      ),
    )

pub bracketed_noted : goal.objects::note_slot_text-returns-then-is_enclosed-clause-noted
bracketed_noted t c seen found =
    let used = used_by c.args.slot.field.now.deprecated c.args.text c.in-Some.text c.requires.old c.in-Some.is in
    c.note_reference.ensures.noted seen (rw c.in-Some.is at (found used))

pub text_read : goal.objects::note_slot_text-returns-clause-read
text_read t c =
    let text = c.in-Some.text in
    let low = rw c.in-Some.is at c.requires.brackets in
    let is = inner_is_read c.text_is_read_without_brackets.ensures text.brackets text.text.now low
    c.in_ok-read.ensures.utf8 c.in_ok-read.read c.in-Some-innermost.tree.now c.in_ok-read.ensures.tree
    c.in-Some-innermost.ensures in
    rw c.in-Some.is (if_found_all c.note_tree-2.result _ (λ now. (tree_view c.in-Some-innermost.tree.now, is)))

pub text_noted : goal.objects::note_slot_text-returns-clause-noted
text_noted t c seen found =
    let L = c.args.source.layout.now in
    let unknown = c.args.source.unknown in
    let text = c.in-Some.text in
    let low = rw c.in-Some.is at c.requires.brackets in
    let is = inner_is_read c.text_is_read_without_brackets.ensures text.brackets text.text.now low
    c.in_ok-read.ensures.utf8 c.in_ok-read.read c.in-Some-innermost.tree.now c.in_ok-read.ensures.tree
    c.in-Some-innermost.ensures in
    let used = used_by c.args.slot.field.now.deprecated c.args.text text c.requires.old c.in-Some.is in
    let here = rw c.in-Some.is at (found used) in
    c.note_tree-2.ensures.noted seen
    (here ∙ ap (λ d. Some (d, meant L unknown d)) (tree_is text.brackets text.text.now _ is))

-- ---- a union's member

pub member_unknown : goal.objects::note_union-returns-in_default-clause-noted
member_unknown t c seen found =
    let L = c.args.source.layout.now in
    let unknown = c.args.source.unknown in
    let slot = c.args.slot in
    let text = c.args.text in
    let read = c.in_ok-pass_by.ensures in
    let is = tree_is text.brackets text.text.now read.0 read.1 in
    let none = rw c.schema.ensures.schema at (sym c.in_default.ensures) in
    rw c.place-place.ensures (mismatch_fails L (field_seen slot.field.now) seen slot.number c.args.after.code
    c.args.levels c.args.after.left (slot_place slot.owner.0 slot.number) c.requires.used unknown read.0
    (λ null. c.requires.bracketed text.brackets (read.1.read ∙ ap Some null))
    (found ∙ ap (λ d. Some (d, meant L unknown d)) is) c.args.union c.requires.union none)

pub code_is_before_its_union : goal.objects::note_union-overflow_sub-slot
code_is_before_its_union t c =
    let L = c.args.source.layout.now in
    let slot = c.args.slot in
    let paired = slots_paired L c.layout_is_well_made.ensures.declared slot.owner.0 in
    let led = paired.led slot.number (slot_seen L slot.field.now) c.args.union.0 c.requires.slot
    (ap (stored_shape L.schema) c.requires.union) in
    omega (arith, led.2)

pub member_adds_itself : goal.objects::note_union-returns-clause-noted
member_adds_itself t c seen found =
    let L = c.args.source.layout.now in
    let unknown = c.args.source.unknown in
    let slot = c.args.slot in
    let text = c.args.text in
    let noted = rw c.place-place.ensures at c.in_ok-left.ensures.noted in
    let is = tree_is text.brackets text.text.now noted.0 noted.1 in
    let known = rw c.schema.ensures.schema at (sym c.in-Some.ensures) in
    member_next L (field_seen slot.field.now) seen slot.number c.args.after.code c.args.levels
    c.args.after.left (slot_place slot.owner.0 slot.number) c.requires.used unknown noted.0
    (λ null. c.requires.bracketed text.brackets (noted.1.read ∙ ap Some null))
    (found ∙ ap (λ d. Some (d, meant L unknown d)) is) c.args.union c.requires.union c.in-Some.table.0 known _ _ _
    c.push_code.new.self _ c.in_ok-left.left noted.2 (c.in_ok-push_code.ensures.adds L) c.in_ok-left.ensures.opened

pub member_fault_found : goal.objects::note_union-returns-in_err-left-clause-noted
member_fault_found t c seen found =
    let L = c.args.source.layout.now in
    let unknown = c.args.source.unknown in
    let slot = c.args.slot in
    let text = c.args.text in
    let known = rw c.schema.ensures.schema at (sym c.in-Some.ensures) in
    let residual = c.from_residual-in_err-left in
    let p = err_from_is_err_and residual.result residual.ensures.1 in
    rw (p.1, p.2) (fault_then c.in_err-left.field-0.0 _ _ (λ f noted.
    let is = tree_is text.brackets text.text.now noted.0 noted.1 in
    member_fails L (field_seen slot.field.now) seen slot.number c.args.after.code c.args.levels
    c.args.after.left (slot_place slot.owner.0 slot.number) c.requires.used unknown noted.0
    (λ null. c.requires.bracketed text.brackets (noted.1.read ∙ ap Some null))
    (found ∙ ap (λ d. Some (d, meant L unknown d)) is) c.args.union c.requires.union c.in-Some.table.0 known f noted.2)
    (rw c.place-place.ensures at c.in_err-left.ensures.noted))

pub member_read : goal.objects::note_union-returns-clause-read
member_read t c = (c.in_ok-left.ensures.noted.0, c.in_ok-left.ensures.noted.1)

pub member_fault_read : goal.objects::note_union-returns-in_err-left-clause-read
member_fault_read t c =
    let residual = c.from_residual-in_err-left in
    let p = err_from_is_err_and residual.result residual.ensures.1 in
    rw (p.1, p.2) (fault_then c.in_err-left.field-0.0 _ _ (λ f noted. (noted.0, noted.1)) c.in_err-left.ensures.noted)

pub union_noted : goal.objects::note_slot_text-returns-then-is_enclosed-2-clause-noted
union_noted t c seen found =
    let used = used_by c.args.slot.field.now.deprecated c.args.text c.in-Some.text c.requires.old c.in-Some.is in
    c.note_union.ensures.noted seen (rw c.in-Some.is at (found used))

-- ---- a text with a tree in its place

pub stand_in_noted : goal.objects::note_slot_text-returns-in-Some-2-clause-noted
stand_in_noted t c seen found =
    let L = c.args.source.layout.now in
    let unknown = c.args.source.unknown in
    let slot = c.args.slot in
    let text = c.in-Some.text in
    let o = rw c.in-Some-2.is at c.in_ok-tree.ensures in
    let used = used_by slot.field.now.deprecated c.args.text text c.requires.old c.in-Some.is in
    let here = rw c.in-Some.is at (found used) in
    let is = tree_is text.brackets text.text.now o.tree o.read in
    let d = tree_view c.in-Some-2.tree in
    let bare : Look = λ name. Some (d, meant L unknown d) in
    let noted = c.note_tree-in-Some-2.ensures.noted bare refl in
    if_found_then c.note_tree-in-Some-2.result _ _ (noted_by_stand_in L unknown seen bare slot o.tree d
    (here ∙ ap (λ d. Some (d, meant L unknown d)) is) refl o.alike c.args.levels c.args.after
    c.args.walk.now.noting c.note_tree-in-Some-2.new.walk.noting) noted
