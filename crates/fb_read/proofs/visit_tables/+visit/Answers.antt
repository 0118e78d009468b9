mod CallsKeepTheLimits
mod SlotsEnd
mod TablesEnd
mod VectorsEnd
mod VisitGoesOn
use Rattle.fb_read.proofs.visit_tables.+visit.Answers.CallsKeepTheLimits.{table_behind_element, element_behind}
use Rattle.fb_read.proofs.visit_tables.+visit.Answers.CallsKeepTheLimits.{vector_behind, table_behind, union_behind}
use Rattle.fb_read.proofs.visit_tables.+visit.Answers.CallsKeepTheLimits.{member_behind, slot_in_turn, slots_entered}
use Rattle.fb_read.proofs.visit_tables.+visit.Answers.CallsKeepTheLimits.{table_entered, elements_entered}
use Rattle.fb_read.proofs.visit_tables.+visit.Answers.CallsKeepTheLimits.{vector_entered}
use Rattle.fb_read.proofs.visit_tables.+visit.Answers.SlotsEnd.{a_slot_refused, slots_passed, deprecated_passed}
use Rattle.fb_read.proofs.visit_tables.+visit.Answers.SlotsEnd.{absent_passed, vector_slot_ends, text_slot_ends}
use Rattle.fb_read.proofs.visit_tables.+visit.Answers.SlotsEnd.{table_slot_ends, union_slot_ends, code_slot_ends}
use Rattle.fb_read.proofs.visit_tables.+visit.Answers.SlotsEnd.{number_slot_ends, enum_slot_ends, struct_slot_ends}
use Rattle.fb_read.proofs.visit_tables.+visit.Answers.SlotsEnd.{member_value_ends, no_member_passed}
use Rattle.fb_read.proofs.visit_tables.+visit.Answers.TablesEnd.{table_reference_refused, table_passed_over, table_left}
use Rattle.fb_read.proofs.visit_tables.+visit.Answers.TablesEnd.{table_behind_ends, table_refused, deep_table_refused}
use Rattle.fb_read.proofs.visit_tables.+visit.Answers.TablesEnd.{last_table_refused, table_ends}
use Rattle.fb_read.proofs.visit_tables.+visit.Answers.VectorsEnd.{vector_reference_refused, vector_passed_over}
use Rattle.fb_read.proofs.visit_tables.+visit.Answers.VectorsEnd.{vector_left, vector_behind_ends, vector_refused}
use Rattle.fb_read.proofs.visit_tables.+visit.Answers.VectorsEnd.{long_vector_refused, references_end, inlines_passed}
use Rattle.fb_read.proofs.visit_tables.+visit.Answers.VectorsEnd.{element_refused, elements_passed}
use Rattle.fb_read.proofs.visit_tables.+visit.Answers.VisitGoesOn.{next_element_visited, next_slot_visited}
use Rattle.fb_read.proofs.visit_tables.+visit.Answers.VisitGoesOn.{next_slot_passed_by, no_slot_yet, no_element_yet}
use Rattle.fb_read.proofs.visit_tables.+visit.Goals as goal

pub visit_slots-returns-in_err-visited : goal.visit_slots-returns-in_err-visited
visit_slots-returns-in_err-visited = a_slot_refused

pub visit_slots-returns : goal.visit_slots-returns
visit_slots-returns = slots_passed

pub visit_slot-returns-then-slot : goal.visit_slot-returns-then-slot
visit_slot-returns-then-slot = deprecated_passed

pub visit_slot-returns-then-offset-eq0 : goal.visit_slot-returns-then-offset-eq0
visit_slot-returns-then-offset-eq0 = absent_passed

pub visit_slot-returns-in-Many : goal.visit_slot-returns-in-Many
visit_slot-returns-in-Many = vector_slot_ends

pub visit_slot-returns-in-One-Text : goal.visit_slot-returns-in-One-Text
visit_slot-returns-in-One-Text = text_slot_ends

pub visit_slot-returns-in-One-Table : goal.visit_slot-returns-in-One-Table
visit_slot-returns-in-One-Table = table_slot_ends

pub visit_slot-returns-in-One-Union : goal.visit_slot-returns-in-One-Union
visit_slot-returns-in-One-Union = union_slot_ends

pub visit_slot-returns-in-One-Code : goal.visit_slot-returns-in-One-Code
visit_slot-returns-in-One-Code = code_slot_ends

pub visit_slot-returns-in-One-Scalar : goal.visit_slot-returns-in-One-Scalar
visit_slot-returns-in-One-Scalar = number_slot_ends

pub visit_slot-returns-in-One-Enum : goal.visit_slot-returns-in-One-Enum
visit_slot-returns-in-One-Enum = enum_slot_ends

pub visit_slot-returns-in-One-Struct : goal.visit_slot-returns-in-One-Struct
visit_slot-returns-in-One-Struct = struct_slot_ends

pub visit_union-returns-in-Some : goal.visit_union-returns-in-Some
visit_union-returns-in-Some = member_value_ends

pub visit_union-returns-in-None : goal.visit_union-returns-in-None
visit_union-returns-in-None = no_member_passed

pub visit_table_behind-returns-in_err-target : goal.visit_table_behind-returns-in_err-target
visit_table_behind-returns-in_err-target = table_reference_refused

pub visit_table_behind-returns-then-pass_over : goal.visit_table_behind-returns-then-pass_over
visit_table_behind-returns-then-pass_over = table_passed_over

pub visit_table_behind-leave-requires : goal.visit_table_behind-leave-requires
visit_table_behind-leave-requires = table_left

pub visit_table_behind-returns : goal.visit_table_behind-returns
visit_table_behind-returns = table_behind_ends

pub visit_table-returns-in_err-vtable_at : goal.visit_table-returns-in_err-vtable_at
visit_table-returns-in_err-vtable_at = table_refused

pub visit_table-returns-then-tables-buffer : goal.visit_table-returns-then-tables-buffer
visit_table-returns-then-tables-buffer = deep_table_refused

pub visit_table-returns-then-walk-from : goal.visit_table-returns-then-walk-from
visit_table-returns-then-walk-from = last_table_refused

pub visit_table-returns : goal.visit_table-returns
visit_table-returns = table_ends

pub visit_vector_behind-returns-in_err-target : goal.visit_vector_behind-returns-in_err-target
visit_vector_behind-returns-in_err-target = vector_reference_refused

pub visit_vector_behind-returns-then-pass_over : goal.visit_vector_behind-returns-then-pass_over
visit_vector_behind-returns-then-pass_over = vector_passed_over

pub visit_vector_behind-leave-requires : goal.visit_vector_behind-leave-requires
visit_vector_behind-leave-requires = vector_left

pub visit_vector_behind-returns : goal.visit_vector_behind-returns
visit_vector_behind-returns = vector_behind_ends

pub visit_vector-returns-in_err-count : goal.visit_vector-returns-in_err-count
visit_vector-returns-in_err-count = vector_refused

pub visit_vector-returns-then-after-most : goal.visit_vector-returns-then-after-most
visit_vector-returns-then-after-most = long_vector_refused

pub visit_vector-returns-in-Some : goal.visit_vector-returns-in-Some
visit_vector-returns-in-Some = references_end

pub visit_vector-returns-in-None : goal.visit_vector-returns-in-None
visit_vector-returns-in-None = inlines_passed

pub visit_elements-returns-in_err-visited : goal.visit_elements-returns-in_err-visited
visit_elements-returns-in_err-visited = element_refused

pub visit_elements-returns : goal.visit_elements-returns
visit_elements-returns = elements_passed

pub visit_elements-loop-i-preserved : goal.visit_elements-loop-i-preserved
visit_elements-loop-i-preserved = next_element_visited

pub visit_slots-loop-slot-preserved : goal.visit_slots-loop-slot-preserved
visit_slots-loop-slot-preserved = next_slot_visited

pub visit_slots-loop-slot-preserved-then-is_settled : goal.visit_slots-loop-slot-preserved-then-is_settled
visit_slots-loop-slot-preserved-then-is_settled = next_slot_passed_by

pub visit_slots-loop-slot-init : goal.visit_slots-loop-slot-init
visit_slots-loop-slot-init = no_slot_yet

pub visit_elements-loop-i-init : goal.visit_elements-loop-i-init
visit_elements-loop-i-init = no_element_yet

pub visit_behind-visit_table_behind-requires : goal.visit_behind-visit_table_behind-requires
visit_behind-visit_table_behind-requires = table_behind_element

pub visit_elements-visit_behind-visited-requires : goal.visit_elements-visit_behind-visited-requires
visit_elements-visit_behind-visited-requires = element_behind

pub visit_slot-visit_vector_behind-requires : goal.visit_slot-visit_vector_behind-requires
visit_slot-visit_vector_behind-requires = vector_behind

pub visit_slot-visit_table_behind-requires : goal.visit_slot-visit_table_behind-requires
visit_slot-visit_table_behind-requires = table_behind

pub visit_slot-visit_union-requires : goal.visit_slot-visit_union-requires
visit_slot-visit_union-requires = union_behind

pub visit_union-visit_table_behind-requires : goal.visit_union-visit_table_behind-requires
visit_union-visit_table_behind-requires = member_behind

pub visit_slots-visit_slot-visited-requires : goal.visit_slots-visit_slot-visited-requires
visit_slots-visit_slot-visited-requires = slot_in_turn

pub visit_table-visit_slots-requires : goal.visit_table-visit_slots-requires
visit_table-visit_slots-requires = slots_entered

pub visit_table_behind-visit_table-visited-requires : goal.visit_table_behind-visit_table-visited-requires
visit_table_behind-visit_table-visited-requires = table_entered

pub visit_vector-visit_elements-requires : goal.visit_vector-visit_elements-requires
visit_vector-visit_elements-requires = elements_entered

pub visit_vector_behind-visit_vector-visited-requires : goal.visit_vector_behind-visit_vector-visited-requires
visit_vector_behind-visit_vector-visited-requires = vector_entered

pub visit_behind-returns-in-ToText : goal.visit_behind-returns-in-ToText
visit_behind-returns-in-ToText g t c = rw c.in-ToText.is c.visit_text_behind.ensures

pub visit_behind-returns-in-ToTable : goal.visit_behind-returns-in-ToTable
visit_behind-returns-in-ToTable g t c = rw c.in-ToTable.is c.visit_table_behind.ensures
