mod EntryIsNoted
mod TableIsNoted
mod TargetIsNoted
mod VectorIsNoted
use Rattle.fb_encode.proofs.+notes.Answers.EntryIsNoted.{no_member_refused, code_is_before_its_union}
use Rattle.fb_encode.proofs.+notes.Answers.EntryIsNoted.{member_fault_refused, member_adds_itself, reference_has_a_part}
use Rattle.fb_encode.proofs.+notes.Answers.EntryIsNoted.{inline_is_plain, reference_fault_refused}
use Rattle.fb_encode.proofs.+notes.Answers.EntryIsNoted.{reference_adds_itself, absent_adds_nothing, null_adds_nothing}
use Rattle.fb_encode.proofs.+notes.Answers.TableIsNoted.{deep_table_refused, last_table_refused, slots_are_those}
use Rattle.fb_encode.proofs.+notes.Answers.TableIsNoted.{unknown_member_refused, no_slot_yet, next_absent_noted}
use Rattle.fb_encode.proofs.+notes.Answers.TableIsNoted.{code_fault_refused, next_slot_fits, slot_fault_refused}
use Rattle.fb_encode.proofs.+notes.Answers.TableIsNoted.{next_slot_noted, fields_are_stored, table_adds_itself}
use Rattle.fb_encode.proofs.+notes.Answers.TargetIsNoted.{no_object_refused, object_adds_itself, object_fault_refused}
use Rattle.fb_encode.proofs.+notes.Answers.TargetIsNoted.{text_adds_itself, text_fault_refused}
use Rattle.fb_encode.proofs.+notes.Answers.VectorIsNoted.{no_array_refused, long_array_refused, elements_add}
use Rattle.fb_encode.proofs.+notes.Answers.VectorIsNoted.{element_fault_refused, target_fault_refused, references_add}
use Rattle.fb_encode.proofs.+notes.Answers.VectorIsNoted.{next_target_adds}
use Rattle.fb_encode.proofs.+notes.Answers.TableIsNoted.{slot_has_a_tree, first_within, first_kept, fields_are_closed}
use Rattle.fb_encode.proofs.+notes.Goals as goal

pub entries::note_member-returns-in_default-clause-refused : goal.entries::note_member-returns-in_default-clause-refused
entries::note_member-returns-in_default-clause-refused = no_member_refused

pub entries::note_member-overflow_sub-slot : goal.entries::note_member-overflow_sub-slot
entries::note_member-overflow_sub-slot = code_is_before_its_union

pub entries::note_member-returns-in_err-left-clause-refused
    : goal.entries::note_member-returns-in_err-left-clause-refused
entries::note_member-returns-in_err-left-clause-refused = member_fault_refused

pub entries::note_member-returns-clause-noted : goal.entries::note_member-returns-clause-noted
entries::note_member-returns-clause-noted = member_adds_itself

pub entries::note_present-note_reference-requires : goal.entries::note_present-note_reference-requires
entries::note_present-note_reference-requires = reference_has_a_part

pub entries::note_present-note_inline-requires : goal.entries::note_present-note_inline-requires
entries::note_present-note_inline-requires = inline_is_plain

pub entries::note_reference-returns-in_err-left-clause-refused
    : goal.entries::note_reference-returns-in_err-left-clause-refused
entries::note_reference-returns-in_err-left-clause-refused = reference_fault_refused

pub entries::note_reference-returns-clause-noted : goal.entries::note_reference-returns-clause-noted
entries::note_reference-returns-clause-noted = reference_adds_itself

pub entries::note_slot-returns-in_default-clause-noted : goal.entries::note_slot-returns-in_default-clause-noted
entries::note_slot-returns-in_default-clause-noted = absent_adds_nothing

pub entries::note_slot-returns-then-is_null-clause-noted : goal.entries::note_slot-returns-then-is_null-clause-noted
entries::note_slot-returns-then-is_null-clause-noted = null_adds_nothing

pub parts::note_array-returns-in_default-clause-refused : goal.parts::note_array-returns-in_default-clause-refused
parts::note_array-returns-in_default-clause-refused = no_array_refused

pub parts::note_array-returns-then-len-left-clause-refused : goal.parts::note_array-returns-then-len-left-clause-refused
parts::note_array-returns-then-len-left-clause-refused = long_array_refused

pub parts::note_array-returns-then-not-is_reference-clause-noted
    : goal.parts::note_array-returns-then-not-is_reference-clause-noted
parts::note_array-returns-then-not-is_reference-clause-noted = elements_add

pub parts::note_array-returns-then-not-is_reference-clause-refused
    : goal.parts::note_array-returns-then-not-is_reference-clause-refused
parts::note_array-returns-then-not-is_reference-clause-refused = element_fault_refused

pub parts::note_array-returns-in_err-rest-clause-refused : goal.parts::note_array-returns-in_err-rest-clause-refused
parts::note_array-returns-in_err-rest-clause-refused = target_fault_refused

pub parts::note_array-returns-clause-noted : goal.parts::note_array-returns-clause-noted
parts::note_array-returns-clause-noted = references_add

pub parts::note_targets-loop-element-preserved : goal.parts::note_targets-loop-element-preserved
parts::note_targets-loop-element-preserved = next_target_adds

pub parts::note_object-returns-in_default-clause-refused : goal.parts::note_object-returns-in_default-clause-refused
parts::note_object-returns-in_default-clause-refused = no_object_refused

pub parts::note_object-returns-clause-noted : goal.parts::note_object-returns-clause-noted
parts::note_object-returns-clause-noted = object_adds_itself

pub parts::note_object-returns-clause-refused : goal.parts::note_object-returns-clause-refused
parts::note_object-returns-clause-refused = object_fault_refused

pub parts::note_target-returns-in-Text-clause-noted : goal.parts::note_target-returns-in-Text-clause-noted
parts::note_target-returns-in-Text-clause-noted = text_adds_itself

pub parts::note_target-returns-in-Text-clause-refused : goal.parts::note_target-returns-in-Text-clause-refused
parts::note_target-returns-in-Text-clause-refused = text_fault_refused

pub tables::note_table-returns-then-levels-eq0-clause-refused
    : goal.tables::note_table-returns-then-levels-eq0-clause-refused
tables::note_table-returns-then-levels-eq0-clause-refused = deep_table_refused

pub tables::note_table-returns-then-left-eq0-clause-refused
    : goal.tables::note_table-returns-then-left-eq0-clause-refused
tables::note_table-returns-then-left-eq0-clause-refused = last_table_refused

pub tables::note_table-members_by_slot-requires : goal.tables::note_table-members_by_slot-requires
tables::note_table-members_by_slot-requires = slots_are_those

pub tables::note_table-returns-in_err-members_by_slot-clause-refused
    : goal.tables::note_table-returns-in_err-members_by_slot-clause-refused
tables::note_table-returns-in_err-members_by_slot-clause-refused = unknown_member_refused

pub tables::note_table-loop-k-init : goal.tables::note_table-loop-k-init
tables::note_table-loop-k-init = no_slot_yet

pub tables::note_table-loop-k-preserved-then-is_absent : goal.tables::note_table-loop-k-preserved-then-is_absent
tables::note_table-loop-k-preserved-then-is_absent = next_absent_noted

pub tables::note_table-returns-in_err-code-clause-refused : goal.tables::note_table-returns-in_err-code-clause-refused
tables::note_table-returns-in_err-code-clause-refused = code_fault_refused

pub tables::note_table-note_slot-requires : goal.tables::note_table-note_slot-requires
tables::note_table-note_slot-requires = next_slot_fits

pub tables::note_table-returns-in_err-left-clause-refused : goal.tables::note_table-returns-in_err-left-clause-refused
tables::note_table-returns-in_err-left-clause-refused = slot_fault_refused

pub tables::note_table-loop-k-preserved : goal.tables::note_table-loop-k-preserved
tables::note_table-loop-k-preserved = next_slot_noted

pub tables::note_table-close_table-requires-clause-stored : goal.tables::note_table-close_table-requires-clause-stored
tables::note_table-close_table-requires-clause-stored = fields_are_stored

pub tables::note_table-returns-clause-noted : goal.tables::note_table-returns-clause-noted
tables::note_table-returns-clause-noted = table_adds_itself

pub tables::note_table-get-tree-requires : goal.tables::note_table-get-tree-requires
tables::note_table-get-tree-requires = slot_has_a_tree

pub tables::note_table-close_table-requires-clause-within : goal.tables::note_table-close_table-requires-clause-within
tables::note_table-close_table-requires-clause-within = first_within

pub tables::note_table-truncate-requires : goal.tables::note_table-truncate-requires
tables::note_table-truncate-requires = first_kept

pub tables::note_table-returns-clause-opened : goal.tables::note_table-returns-clause-opened
tables::note_table-returns-clause-opened = fields_are_closed
