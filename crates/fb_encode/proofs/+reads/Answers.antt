mod LongTableIsNoted
mod LongVectorIsNoted
mod SlotIsNoted
use Rattle.fb_encode.proofs.+reads.Answers.LongTableIsNoted.{no_slot_yet, no_slot_refused, next_slot_fits}
use Rattle.fb_encode.proofs.+reads.Answers.LongTableIsNoted.{next_slot_noted, slot_fault_refused, table_is_whole}
use Rattle.fb_encode.proofs.+reads.Answers.LongTableIsNoted.{fields_are_stored, table_adds_itself, slot_has_a_text}
use Rattle.fb_encode.proofs.+reads.Answers.LongTableIsNoted.{first_within, first_kept, fields_are_closed}
use Rattle.fb_encode.proofs.+reads.Answers.LongVectorIsNoted.{element_noted, lone_element_noted, run_noted}
use Rattle.fb_encode.proofs.+reads.Answers.LongVectorIsNoted.{no_run_yet, first_runs_within, later_runs_within}
use Rattle.fb_encode.proofs.+reads.Answers.LongVectorIsNoted.{next_run_fits, next_run_noted, no_cells_for_the_vector}
use Rattle.fb_encode.proofs.+reads.Answers.LongVectorIsNoted.{run_fault_refused, references_add}
use Rattle.fb_encode.proofs.+reads.Answers.SlotIsNoted.{next_noted, next_read, reference_adds_itself}
use Rattle.fb_encode.proofs.+reads.Answers.SlotIsNoted.{reference_fault_found, reference_read, reference_fault_read}
use Rattle.fb_encode.proofs.+reads.Answers.SlotIsNoted.{absent_adds_nothing, slot_without_text_noted}
use Rattle.fb_encode.proofs.+reads.Answers.SlotIsNoted.{bracketed_has_a_part, bracketed_noted, text_read, text_noted}
use Rattle.fb_encode.proofs.+reads.Answers.SlotIsNoted.{member_unknown, code_is_before_its_union, member_adds_itself}
use Rattle.fb_encode.proofs.+reads.Answers.SlotIsNoted.{member_fault_found, member_read, member_fault_read}
use Rattle.fb_encode.proofs.+reads.Answers.SlotIsNoted.{union_noted, stand_in_noted}
use Rattle.fb_encode.proofs.+reads.Goals as goal

pub objects::note_members-loop-k-init : goal.objects::note_members-loop-k-init
objects::note_members-loop-k-init = no_slot_yet

pub objects::note_members-returns-in_err-after-clause-noted :
    goal.objects::note_members-returns-in_err-after-clause-noted
objects::note_members-returns-in_err-after-clause-noted = no_slot_refused

pub objects::note_members-note_next-noted-requires : goal.objects::note_members-note_next-noted-requires
objects::note_members-note_next-noted-requires = next_slot_fits

pub objects::note_members-loop-k-preserved : goal.objects::note_members-loop-k-preserved
objects::note_members-loop-k-preserved = next_slot_noted

pub objects::note_members-returns-in_err-after-2-clause-noted :
    goal.objects::note_members-returns-in_err-after-2-clause-noted
objects::note_members-returns-in_err-after-2-clause-noted = slot_fault_refused

pub objects::note_members-close_table-requires-clause-whole :
    goal.objects::note_members-close_table-requires-clause-whole
objects::note_members-close_table-requires-clause-whole = table_is_whole

pub objects::note_members-close_table-requires-clause-stored :
    goal.objects::note_members-close_table-requires-clause-stored
objects::note_members-close_table-requires-clause-stored = fields_are_stored

pub objects::note_members-returns-clause-noted : goal.objects::note_members-returns-clause-noted
objects::note_members-returns-clause-noted = table_adds_itself

pub objects::note_members-index-requires : goal.objects::note_members-index-requires
objects::note_members-index-requires = slot_has_a_text

pub objects::note_members-close_table-requires-clause-within :
    goal.objects::note_members-close_table-requires-clause-within
objects::note_members-close_table-requires-clause-within = first_within

pub objects::note_members-truncate-requires : goal.objects::note_members-truncate-requires
objects::note_members-truncate-requires = first_kept

pub objects::note_members-returns-clause-opened : goal.objects::note_members-returns-clause-opened
objects::note_members-returns-clause-opened = fields_are_closed

pub vectors::note_element-returns-clause-noted : goal.vectors::note_element-returns-clause-noted
vectors::note_element-returns-clause-noted = element_noted

pub vectors::note_run-returns-then-reads_alone-clause-noted :
    goal.vectors::note_run-returns-then-reads_alone-clause-noted
vectors::note_run-returns-then-reads_alone-clause-noted = lone_element_noted

pub vectors::note_run-returns-clause-noted : goal.vectors::note_run-returns-clause-noted
vectors::note_run-returns-clause-noted = run_noted

pub vectors::note_runs-loop-i-init : goal.vectors::note_runs-loop-i-init
vectors::note_runs-loop-i-init = no_run_yet

pub vectors::note_runs-once_runs_read-requires-clause-within :
    goal.vectors::note_runs-once_runs_read-requires-clause-within
vectors::note_runs-once_runs_read-requires-clause-within = first_runs_within

pub vectors::note_runs-once_runs_read-requires-in-loop-i-clause-within :
    goal.vectors::note_runs-once_runs_read-requires-in-loop-i-clause-within
vectors::note_runs-once_runs_read-requires-in-loop-i-clause-within = later_runs_within

pub vectors::note_runs-note_run-noted-requires : goal.vectors::note_runs-note_run-noted-requires
vectors::note_runs-note_run-noted-requires = next_run_fits

pub vectors::note_runs-loop-i-preserved : goal.vectors::note_runs-loop-i-preserved
vectors::note_runs-loop-i-preserved = next_run_noted

pub vectors::note_runs-returns-in_err-once_runs_read-clause-noted :
    goal.vectors::note_runs-returns-in_err-once_runs_read-clause-noted
vectors::note_runs-returns-in_err-once_runs_read-clause-noted = no_cells_for_the_vector

pub vectors::note_runs-returns-in_err-once_runs_read-2-clause-noted :
    goal.vectors::note_runs-returns-in_err-once_runs_read-2-clause-noted
vectors::note_runs-returns-in_err-once_runs_read-2-clause-noted = run_fault_refused

pub vectors::note_runs-returns-clause-noted : goal.vectors::note_runs-returns-clause-noted
vectors::note_runs-returns-clause-noted = references_add

pub objects::note_next-returns-clause-noted : goal.objects::note_next-returns-clause-noted
objects::note_next-returns-clause-noted = next_noted

pub objects::note_next-returns-clause-read : goal.objects::note_next-returns-clause-read
objects::note_next-returns-clause-read = next_read

pub objects::note_reference-returns-clause-noted : goal.objects::note_reference-returns-clause-noted
objects::note_reference-returns-clause-noted = reference_adds_itself

pub objects::note_reference-returns-in_err-left-clause-noted :
    goal.objects::note_reference-returns-in_err-left-clause-noted
objects::note_reference-returns-in_err-left-clause-noted = reference_fault_found

pub objects::note_reference-returns-clause-read : goal.objects::note_reference-returns-clause-read
objects::note_reference-returns-clause-read = reference_read

pub objects::note_reference-returns-in_err-left-clause-read :
    goal.objects::note_reference-returns-in_err-left-clause-read
objects::note_reference-returns-in_err-left-clause-read = reference_fault_read

pub objects::note_slot_text-returns-then-slot-clause-noted : goal.objects::note_slot_text-returns-then-slot-clause-noted
objects::note_slot_text-returns-then-slot-clause-noted = absent_adds_nothing

pub objects::note_slot_text-returns-in_default-clause-noted :
    goal.objects::note_slot_text-returns-in_default-clause-noted
objects::note_slot_text-returns-in_default-clause-noted = slot_without_text_noted

pub objects::note_slot_text-note_reference-requires : goal.objects::note_slot_text-note_reference-requires
objects::note_slot_text-note_reference-requires = bracketed_has_a_part

pub objects::note_slot_text-returns-then-is_enclosed-clause-noted :
    goal.objects::note_slot_text-returns-then-is_enclosed-clause-noted
objects::note_slot_text-returns-then-is_enclosed-clause-noted = bracketed_noted

pub objects::note_slot_text-returns-clause-read : goal.objects::note_slot_text-returns-clause-read
objects::note_slot_text-returns-clause-read = text_read

pub objects::note_slot_text-returns-clause-noted : goal.objects::note_slot_text-returns-clause-noted
objects::note_slot_text-returns-clause-noted = text_noted

pub objects::note_union-returns-in_default-clause-noted : goal.objects::note_union-returns-in_default-clause-noted
objects::note_union-returns-in_default-clause-noted = member_unknown

pub objects::note_union-overflow_sub-slot : goal.objects::note_union-overflow_sub-slot
objects::note_union-overflow_sub-slot = code_is_before_its_union

pub objects::note_union-returns-clause-noted : goal.objects::note_union-returns-clause-noted
objects::note_union-returns-clause-noted = member_adds_itself

pub objects::note_union-returns-in_err-left-clause-noted : goal.objects::note_union-returns-in_err-left-clause-noted
objects::note_union-returns-in_err-left-clause-noted = member_fault_found

pub objects::note_union-returns-clause-read : goal.objects::note_union-returns-clause-read
objects::note_union-returns-clause-read = member_read

pub objects::note_union-returns-in_err-left-clause-read : goal.objects::note_union-returns-in_err-left-clause-read
objects::note_union-returns-in_err-left-clause-read = member_fault_read

pub objects::note_slot_text-returns-then-is_enclosed-2-clause-noted :
    goal.objects::note_slot_text-returns-then-is_enclosed-2-clause-noted
objects::note_slot_text-returns-then-is_enclosed-2-clause-noted = union_noted

pub objects::note_slot_text-returns-in-Some-2-clause-noted : goal.objects::note_slot_text-returns-in-Some-2-clause-noted
objects::note_slot_text-returns-in-Some-2-clause-noted = stand_in_noted
