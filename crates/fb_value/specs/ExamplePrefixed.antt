-- A buffer with a size prefix.
use Rattle.std.specs.Prelude.{◌≡◌, ◌++◌, [], ◌∷◌, set, take, true, false, pos, None, Some, refl}
use Rattle.std.proofs.Common.{lit≤}
use Rattle.fb_value.specs.declared.faults.ReadFault.TheVariants.{Short, OutOfBounds, WrongIdentifier}
use Rattle.fb_value.specs.Num.{Bytes, num}
use Rattle.fb_value.specs.Places.{slot_number, named_slots, named_elements}
use Rattle.fb_value.specs.Rules.{first_failing, fault_by}
use Rattle.fb_value.specs.Faults.{all_within, all, limited_fault, first_fault, fault_from}
use Rattle.fb_value.specs.Holds.{prefixed_fault, HoldsFramed, framed_fault}
use Rattle.fb_value.specs.ExampleLayouts.{usual, identified_int}
use Rattle.fb_value.specs.ExampleTables.{one_number}
use Rattle.fb_value.specs.ExampleIdentifier.{test_bytes}

-- 16 bytes after their size prefix
abbrev pub prefixed_bytes : Bytes
prefixed_bytes = 16 ∷ 0 ∷ 0 ∷ 0 ∷ test_bytes

-- They hold what the buffer after the size prefix holds.
pub prefixed_held : HoldsFramed true identified_int usual false prefixed_bytes (one_number 0)
unfolding num slot_number named_slots first_failing fault_by prefixed_fault
prefixed_held = record {
  header = refl;
  lies = (refl, (refl, refl, ((pos 0, refl, refl), tt)));
  deep = lit≤ tt;
  small = lit≤ tt;
}

-- The computing program finds no fault there.
pub prefixed_kept : framed_fault true identified_int usual false prefixed_bytes ≡ None
unfolding num slot_number named_slots named_elements first_failing fault_by all_within all limited_fault first_fault
    fault_from prefixed_fault
prefixed_kept = refl

-- A size prefix of more than what follows is refused at its position.
pub prefix_too_large : framed_fault true identified_int usual false (set prefixed_bytes 0 17) ≡ Some (OutOfBounds 0)
unfolding num first_failing fault_from prefixed_fault
prefix_too_large = refl

-- So is a byte after the message, where it stands.
pub byte_behind : framed_fault true identified_int usual false (prefixed_bytes ++ (0 ∷ [])) ≡ Some (OutOfBounds 20)
unfolding num first_failing fault_from prefixed_fault
byte_behind = refl

-- Three bytes have no size prefix.
pub prefix_cut : framed_fault true identified_int usual false (take 3 prefixed_bytes) ≡ Some (Short 3)
unfolding num first_failing fault_from prefixed_fault
prefix_cut = refl

-- Eight bytes have no identifier.
pub identifier_cut : framed_fault true identified_int usual false (4 ∷ 0 ∷ 0 ∷ 0 ∷ 4 ∷ 0 ∷ 0 ∷ 0 ∷ []) ≡ Some (Short 8)
unfolding num first_failing fault_from prefixed_fault
identifier_cut = refl

-- Another identifier is refused where it stands.
pub other_identifier : framed_fault true identified_int usual false (set prefixed_bytes 8 0x55)
    ≡ Some (WrongIdentifier 8)
unfolding num first_failing fault_from prefixed_fault
other_identifier = refl
