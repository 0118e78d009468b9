-- Texts in bytes, whole and damaged.
use Rattle.std.specs.Prelude.{◌≡◌, [], ◌∷◌, false, None, Some, refl, set}
use Rattle.std.specs.Str.Lossy.{utf8_valid_len}
use Rattle.std.specs.Str.{is_utf8, chars}
use Rattle.std.proofs.Common.{lit≤}
use Rattle.fb_value.specs.declared.faults.ReadFault.TheVariants.{OutOfBounds, NoTerminator, BadUtf8}
use Rattle.fb_value.specs.Datum.{Datum, a_text, a_table, no_entries, present_entry}
use Rattle.fb_value.specs.Counts.{cells, depth}
use Rattle.fb_value.specs.Num.{Bytes, num}
use Rattle.fb_value.specs.Places.{slot_number, named_slots, named_elements}
use Rattle.fb_value.specs.Rules.{first_failing, fault_by}
use Rattle.fb_value.specs.Faults.{all_within, all, limited_fault, first_fault, fault_from}
use Rattle.fb_value.specs.Holds.{header_fault, Holds, computed_fault}
use Rattle.fb_value.specs.ExampleLayouts.{usual, one_text}

-- a table whose one slot names the text `hi`
abbrev pub hi_bytes : Bytes
hi_bytes = 0x0c ∷ 0 ∷ 0 ∷ 0 ∷ 0 ∷ 0 ∷ 6 ∷ 0 ∷ 8 ∷ 0 ∷ 4 ∷ 0 ∷ 6 ∷ 0 ∷ 0 ∷ 0 ∷ 4 ∷ 0 ∷ 0 ∷ 0 ∷ 2 ∷ 0 ∷ 0 ∷ 0 ∷ 0x68
    ∷ 0x69 ∷ 0 ∷ 0 ∷ []

-- the text `hi` in the one slot
abbrev pub hi : Datum
hi = a_table 0 (present_entry (a_text (0x68 ∷ 0x69 ∷ [])) no_entries)

-- A text is the counted bytes behind its reference.
pub hi_held : Holds one_text usual false hi_bytes hi
unfolding num slot_number named_slots first_failing fault_by header_fault utf8_valid_len is_utf8 chars lib.Utf8.encode
hi_held = record {
  header = refl;
  lies = (refl, (refl, refl, ((refl, (refl, refl)), tt)));
  deep = lit≤ tt;
  small = lit≤ tt;
}

-- The computing program finds no fault there.
pub hi_kept : computed_fault one_text usual false hi_bytes ≡ None
unfolding num slot_number named_slots named_elements first_failing fault_by all_within all limited_fault first_fault
    fault_from header_fault utf8_valid_len is_utf8 chars lib.Utf8.encode
hi_kept = refl

-- A zero byte stands after a text.
pub no_zero_behind : computed_fault one_text usual false (set hi_bytes 26 0x21) ≡ Some (NoTerminator 26)
unfolding num slot_number named_slots named_elements first_failing fault_by all_within all limited_fault first_fault
    fault_from header_fault utf8_valid_len is_utf8 chars lib.Utf8.encode
no_zero_behind = refl

-- A text is UTF-8: the fault stands at the first byte that isn't.
pub not_utf8 : computed_fault one_text usual false (set hi_bytes 25 0xff) ≡ Some (BadUtf8 25)
unfolding num slot_number named_slots named_elements first_failing fault_by all_within all limited_fault first_fault
    fault_from header_fault utf8_valid_len is_utf8 chars lib.Utf8.encode
not_utf8 = refl

-- Where both fail, the zero byte is told first.
pub zero_before_utf8 : computed_fault one_text usual false (set (set hi_bytes 25 0xff) 26 0x21) ≡ Some (NoTerminator 26)
unfolding num slot_number named_slots named_elements first_failing fault_by all_within all limited_fault first_fault
    fault_from header_fault utf8_valid_len is_utf8 chars lib.Utf8.encode
zero_before_utf8 = refl

-- the same with the greatest count
abbrev pub endless_bytes : Bytes
endless_bytes = 0x0c ∷ 0 ∷ 0 ∷ 0 ∷ 0 ∷ 0 ∷ 6 ∷ 0 ∷ 8 ∷ 0 ∷ 4 ∷ 0 ∷ 6 ∷ 0 ∷ 0 ∷ 0 ∷ 4 ∷ 0 ∷ 0 ∷ 0 ∷ 0xff ∷ 0xff ∷ 0xff
    ∷ 0xff ∷ 0x68 ∷ 0x69 ∷ 0 ∷ 0 ∷ []

-- A count that leads past the end is refused where it stands.
pub endless_text : computed_fault one_text usual false endless_bytes ≡ Some (OutOfBounds 20)
unfolding num slot_number named_slots named_elements first_failing fault_by all_within all limited_fault first_fault
    fault_from header_fault utf8_valid_len is_utf8 chars lib.Utf8.encode
endless_text = refl

-- a table, a text, and its two bytes
pub hi_cells : cells hi ≡ 4
hi_cells = refl

-- one table
pub hi_depth : depth hi ≡ 1
hi_depth = refl
