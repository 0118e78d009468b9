-- Bools in bytes: in a struct of a struct, in a vector of such structs, and in a vector.
use Rattle.std.specs.Prelude.{◌≡◌, [], ◌∷◌, false, None, refl, ℕ, set}
use Rattle.std.proofs.Common.{lit≤}
use Rattle.fb_value.specs.Datum.{Datum, a_vector, a_struct, a_table, no_parts, more_parts, no_entries, present_entry}
use Rattle.fb_value.specs.Num.{Bytes, num}
use Rattle.fb_value.specs.Places.{slot_number, named_slots, named_elements}
use Rattle.fb_value.specs.Rules.{first_failing, fault_by}
use Rattle.fb_value.specs.Faults.{all_within, all, limited_fault, first_fault, fault_from}
use Rattle.fb_value.specs.Holds.{header_fault, Holds, computed_fault}
use Rattle.fb_value.specs.ExampleLayouts.{usual, bools_everywhere}
use Rattle.fb_value.specs.ExampleStructs.{part}

-- true in bytes 22, 36, 38 and 46, false in 37 and 50
abbrev pub bools_bytes : Bytes
bools_bytes =
    0x10 ∷ 0 ∷ 0 ∷ 0 ∷ 0 ∷ 0 ∷ 0x0a ∷ 0 ∷ 0x10 ∷ 0 ∷ 4 ∷ 0 ∷ 0x0c ∷ 0 ∷ 8 ∷ 0
    ∷ 0x0a ∷ 0 ∷ 0 ∷ 0 ∷ 5 ∷ 0 ∷ 1 ∷ 0 ∷ 8 ∷ 0 ∷ 0 ∷ 0 ∷ 0x0c ∷ 0 ∷ 0 ∷ 0
    ∷ 3 ∷ 0 ∷ 0 ∷ 0 ∷ 1 ∷ 0 ∷ 1 ∷ 0 ∷ 2 ∷ 0 ∷ 0 ∷ 0 ∷ 6 ∷ 0 ∷ 1 ∷ 0 ∷ 7 ∷ 0 ∷ 0 ∷ 0 ∷ []

-- a struct of a number and of a struct of a bool
abbrev pub struct_of : ℕ → ℕ → Datum
struct_of n b = a_struct (part n (more_parts (a_struct (part b no_parts)) no_parts))

-- a struct, a vector of two, and a vector of three bools
abbrev pub bools : Datum
bools = a_table 2 (
    present_entry (struct_of 5 1)
    (present_entry (a_vector (more_parts (struct_of 6 1) (more_parts (struct_of 7 0) no_parts)))
    (present_entry (a_vector (part 1 (part 0 (part 1 no_parts)))) no_entries)))

-- Each bool takes one byte, wherever it stands.
pub bools_held : Holds bools_everywhere usual false bools_bytes bools
unfolding num slot_number named_slots first_failing fault_by header_fault
bools_held = record {
  header = refl;
  lies = (
    refl,
    (
      refl,
      refl,
      (
        (refl, (refl, ((refl, tt), tt))),
        (
          (refl, (refl, refl, ((refl, ((refl, tt), tt)), ((refl, ((refl, tt), tt)), tt)))),
          ((refl, (refl, refl, (refl, (refl, (refl, tt))))), tt),
        ),
      ),
    ),
  );
  deep = lit≤ tt;
  small = lit≤ tt;
}

-- The computing program finds no fault there.
pub bools_kept : computed_fault bools_everywhere usual false bools_bytes ≡ None
unfolding num slot_number named_slots named_elements first_failing fault_by all_within all limited_fault first_fault
    fault_from header_fault
bools_kept = refl

-- A byte other than 0 is read as true, in a struct too.
pub odd_in_struct : Holds bools_everywhere usual false (set bools_bytes 22 0xff) bools
unfolding num slot_number named_slots first_failing fault_by header_fault
odd_in_struct = record {
  header = refl;
  lies = (
    refl,
    (
      refl,
      refl,
      (
        (refl, (refl, ((refl, tt), tt))),
        (
          (refl, (refl, refl, ((refl, ((refl, tt), tt)), ((refl, ((refl, tt), tt)), tt)))),
          ((refl, (refl, refl, (refl, (refl, (refl, tt))))), tt),
        ),
      ),
    ),
  );
  deep = lit≤ tt;
  small = lit≤ tt;
}

-- In a vector too.
pub odd_in_vector : Holds bools_everywhere usual false (set bools_bytes 38 0xff) bools
unfolding num slot_number named_slots first_failing fault_by header_fault
odd_in_vector = record {
  header = refl;
  lies = (
    refl,
    (
      refl,
      refl,
      (
        (refl, (refl, ((refl, tt), tt))),
        (
          (refl, (refl, refl, ((refl, ((refl, tt), tt)), ((refl, ((refl, tt), tt)), tt)))),
          ((refl, (refl, refl, (refl, (refl, (refl, tt))))), tt),
        ),
      ),
    ),
  );
  deep = lit≤ tt;
  small = lit≤ tt;
}

-- In a struct of a vector too.
pub odd_in_element : Holds bools_everywhere usual false (set bools_bytes 46 0xff) bools
unfolding num slot_number named_slots first_failing fault_by header_fault
odd_in_element = record {
  header = refl;
  lies = (
    refl,
    (
      refl,
      refl,
      (
        (refl, (refl, ((refl, tt), tt))),
        (
          (refl, (refl, refl, ((refl, ((refl, tt), tt)), ((refl, ((refl, tt), tt)), tt)))),
          ((refl, (refl, refl, (refl, (refl, (refl, tt))))), tt),
        ),
      ),
    ),
  );
  deep = lit≤ tt;
  small = lit≤ tt;
}
