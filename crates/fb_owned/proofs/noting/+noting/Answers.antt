mod DefaultIsNotStored
mod EntryIsNoted
mod TableIsNoted
mod VectorIsNoted
use Rattle.fb_owned.proofs.noting.+noting.Answers.DefaultIsNotStored.{default_adds_nothing}
use Rattle.fb_owned.proofs.noting.+noting.Answers.EntryIsNoted.{inline_adds_itself, reference_adds_itself}
use Rattle.fb_owned.proofs.noting.+noting.Answers.TableIsNoted.{no_slot_yet, next_entry_fits, next_entry_noted}
use Rattle.fb_owned.proofs.noting.+noting.Answers.TableIsNoted.{all_slots_noted, entries_known}
use Rattle.fb_owned.proofs.noting.+noting.Answers.TableIsNoted.{fields_are_stored, table_adds_itself}
use Rattle.fb_owned.proofs.noting.+noting.Answers.TableIsNoted.{entry_there, all_parts_added, first_within}
use Rattle.fb_owned.proofs.noting.+noting.Answers.TableIsNoted.{first_kept, opened_again}
use Rattle.fb_owned.proofs.noting.+noting.Answers.VectorIsNoted.{elements_add, references_add, member_fits}
use Rattle.fb_owned.proofs.noting.+noting.Answers.VectorIsNoted.{member_adds, table_fits, fields_add, item_fits}
use Rattle.fb_owned.proofs.noting.+noting.Answers.VectorIsNoted.{item_adds, all_items_added, union_member_known}
use Rattle.fb_owned.proofs.noting.+noting.Answers.VectorIsNoted.{items_fit}
use Rattle.fb_owned.proofs.noting.+noting.Goals as goal

pub note_entries-loop-k-init : goal.note_entries-loop-k-init
note_entries-loop-k-init = no_slot_yet

pub note_entries-note_entry-requires : goal.note_entries-note_entry-requires
note_entries-note_entry-requires = next_entry_fits

pub note_entries-loop-k-preserved : goal.note_entries-loop-k-preserved
note_entries-loop-k-preserved = next_entry_noted

pub note_entries-returns-clause-slots : goal.note_entries-returns-clause-slots
note_entries-returns-clause-slots = all_slots_noted

pub note_items-returns-then-not-is_reference-clause-adds : goal.note_items-returns-then-not-is_reference-clause-adds
note_items-returns-then-not-is_reference-clause-adds = elements_add

pub note_items-returns-clause-adds : goal.note_items-returns-clause-adds
note_items-returns-clause-adds = references_add

pub note_member-note_table-requires : goal.note_member-note_table-requires
note_member-note_table-requires = member_fits

pub note_member-returns-clause-adds : goal.note_member-returns-clause-adds
note_member-returns-clause-adds = member_adds

pub note_part-note_table-requires : goal.note_part-note_table-requires
note_part-note_table-requires = table_fits

pub note_part-returns-in-Fields-default-clause-adds : goal.note_part-returns-in-Fields-default-clause-adds
note_part-returns-in-Fields-default-clause-adds = fields_add

pub note_table-note_entries-requires : goal.note_table-note_entries-requires
note_table-note_entries-requires = entries_known

pub note_table-close_table-requires-clause-stored : goal.note_table-close_table-requires-clause-stored
note_table-close_table-requires-clause-stored = fields_are_stored

pub note_table-returns-clause-adds : goal.note_table-returns-clause-adds
note_table-returns-clause-adds = table_adds_itself

pub note_targets-note_part-requires : goal.note_targets-note_part-requires
note_targets-note_part-requires = item_fits

pub note_targets-loop-item-preserved : goal.note_targets-loop-item-preserved
note_targets-loop-item-preserved = item_adds

pub note_entry-returns-then-is_reference-clause-fields : goal.note_entry-returns-then-is_reference-clause-fields
note_entry-returns-then-is_reference-clause-fields = reference_adds_itself

pub note_entry-returns-then-is_default-clause-fields : goal.note_entry-returns-then-is_default-clause-fields
note_entry-returns-then-is_default-clause-fields = default_adds_nothing

pub note_entry-returns-clause-fields : goal.note_entry-returns-clause-fields
note_entry-returns-clause-fields = inline_adds_itself

pub note_entries-bounds-entries-k : goal.note_entries-bounds-entries-k
note_entries-bounds-entries-k = entry_there

pub note_entries-returns-clause-adds : goal.note_entries-returns-clause-adds
note_entries-returns-clause-adds = all_parts_added

pub note_table-close_table-requires-clause-within : goal.note_table-close_table-requires-clause-within
note_table-close_table-requires-clause-within = first_within

pub note_table-truncate-requires : goal.note_table-truncate-requires
note_table-truncate-requires = first_kept

pub note_table-returns-clause-opened : goal.note_table-returns-clause-opened
note_table-returns-clause-opened = opened_again

pub note_targets-returns-clause-adds : goal.note_targets-returns-clause-adds
note_targets-returns-clause-adds = all_items_added

pub note_part-note_member-requires : goal.note_part-note_member-requires
note_part-note_member-requires = union_member_known

pub note_part-note_items-requires : goal.note_part-note_items-requires
note_part-note_items-requires = items_fit
