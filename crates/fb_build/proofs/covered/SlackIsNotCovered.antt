-- Worked buffers that hold their value have something to spare: for each kind of slack one that isn't covered.
use Rattle.std.specs.Prelude.{ℕ, ◌≡◌, ◌+◌, ◌<◌, ◌≤◌, List, pos, refl, set, nat_lt}
use Rattle.std.specs.List.{AllPass}
use Rattle.std.proofs.Common.{lit≤, arith, zero, suc, ◌⊎◌, inl, inr}
use Rattle.std.proofs.lemmas.List.Sums.{AllPass-from_list_all}
use Rattle.fb_value.specs.Num.{num}
use Rattle.fb_value.specs.Places.{slot_number, named_slots, named_elements}
use Rattle.fb_value.specs.Rules.{first_failing, fault_by}
use Rattle.fb_value.specs.Lies.{LiesAt}
use Rattle.fb_value.specs.Holds.{root_place}
use Rattle.fb_value.specs.ExampleLayouts.{one_int, one_bool, two_ints, one_struct, bools_everywhere, table_vector}
use Rattle.fb_value.specs.ExampleLayouts.{two_members}
use Rattle.fb_value.specs.ExampleTables.{seven_bytes, one_number, two_numbers, zero_held, bool_bytes, bool_held}
use Rattle.fb_value.specs.ExampleUnions.{second_member, no_member}
use Rattle.fb_value.specs.ExampleStructs.{struct_inline}
use Rattle.fb_value.specs.ExampleBools.{bools_bytes, bools, odd_in_struct, odd_in_vector, odd_in_element}
use Rattle.fb_build.specs.Stored.{stored_from}
use Rattle.fb_build.specs.Pieces.{Piece, reached_parts, pieces_of, each_once}
use Rattle.fb_build.specs.Covered.{Covered}
use Rattle.fb_build.specs.CoveredLaws.{is_outside}
use Rattle.fb_build.specs.ExampleBuffersHaveSlack.{untrimmed_bytes, wide_table_bytes, one_place_bytes}
use Rattle.fb_build.specs.ExampleBuffersHaveSlack.{value_alone_bytes, rubbish_in_table_bytes, rubbish_in_struct_bytes}
use Rattle.fb_build.specs.ExampleBuffersHaveSlack.{twice_bytes, single, discarded_bytes, spare_bytes}
use Rattle.fb_build.specs.ExampleBuffersHaveSlack.{ExamplesHaveSlack}
use Rattle.fb_build.proofs.covered.UncoveredBytesAreZero.{by_its_value_shown, zero_outside_shown, few_outside_shown}

-- A stored default.
stored_default : ¬ (Covered one_int (set seven_bytes 16 0))
unfolding num slot_number named_slots stored_from
stored_default h =
    let covered = by_its_value_shown one_int (set seven_bytes 16 0) (one_number 0) zero_held.lies h in
    covered.tables.0.defaults.0 (pos 0) refl refl

-- The value is there.
untrimmed_lies : LiesAt two_ints untrimmed_bytes (root_place two_ints).sort 0 (two_numbers 7 0)
unfolding num slot_number named_slots first_failing fault_by
untrimmed_lies = (refl, (refl, refl, ((refl, refl), ((pos 0, refl, refl), tt))))

-- An untrimmed vtable.
untrimmed_vtable : ¬ (Covered two_ints untrimmed_bytes)
unfolding num slot_number named_slots stored_from
untrimmed_vtable h =
    let covered = by_its_value_shown two_ints untrimmed_bytes (two_numbers 7 0) untrimmed_lies h in
    no_end 8 4 0 (lit≤ tt) covered.tables.0.trimmed
  where
    no_end : (m n k : ℕ) → n < m → (m ≡ n) ⊎ (k < k) → ⊥
    no_end m n k more (inl e) = omega (arith, more, e)
    no_end m n k more (inr low) = omega (arith, low)

-- The value is there.
wide_table_lies : LiesAt one_int wide_table_bytes (root_place one_int).sort 0 (one_number 7)
unfolding num slot_number named_slots first_failing fault_by
wide_table_lies = (refl, (refl, refl, ((refl, refl), tt)))

-- A vtable's wrong second number.
wrong_size : ¬ (Covered one_int wide_table_bytes)
unfolding num slot_number named_slots stored_from
wrong_size h =
    let covered = by_its_value_shown one_int wide_table_bytes (one_number 7) wide_table_lies h in
    let is : 12 ≡ 8 = covered.tables.0.size in
    omega (arith, is)

-- what is 2 or more isn't below 2
no_bit : (n : ℕ) → 2 ≤ n → n < 2 → ⊥
no_bit n high low = omega (arith, high, low)

-- A `bool` that is neither 0 nor 1.
odd_bool : ¬ (Covered one_bool bool_bytes)
unfolding num slot_number named_slots stored_from
odd_bool h =
    let covered = by_its_value_shown one_bool bool_bytes (one_number 1) bool_held.lies h in
    no_bit 2 (lit≤ tt) covered.tables.0.bits.0

-- A `bool` in a struct of a struct that is neither 0 nor 1,
odd_bool_in_struct : ¬ (Covered bools_everywhere (set bools_bytes 22 0xff))
unfolding num slot_number named_slots stored_from
odd_bool_in_struct h =
    let covered = by_its_value_shown bools_everywhere (set bools_bytes 22 0xff) bools odd_in_struct.lies h in
    no_bit 0xff (lit≤ tt) covered.inline.0.1.1.0.1.0

-- one in a vector,
odd_bool_in_vector : ¬ (Covered bools_everywhere (set bools_bytes 38 0xff))
unfolding num slot_number named_slots stored_from
odd_bool_in_vector h =
    let covered = by_its_value_shown bools_everywhere (set bools_bytes 38 0xff) bools odd_in_vector.lies h in
    no_bit 0xff (lit≤ tt) covered.inline.1.1.0.1.1.0

-- and one in a struct of a vector.
odd_bool_in_element : ¬ (Covered bools_everywhere (set bools_bytes 46 0xff))
unfolding num slot_number named_slots stored_from
odd_bool_in_element h =
    let covered = by_its_value_shown bools_everywhere (set bools_bytes 46 0xff) bools odd_in_element.lies h in
    no_bit 0xff (lit≤ tt) covered.inline.1.0.0.1.1.0.1.0

-- The value is there.
one_place_lies : LiesAt two_ints one_place_bytes (root_place two_ints).sort 0 (two_numbers 7 7)
unfolding num slot_number named_slots first_failing fault_by
one_place_lies = (refl, (refl, refl, ((refl, refl), ((refl, refl), tt))))

-- Two fields that share their bytes.
one_place : ¬ (Covered two_ints one_place_bytes)
unfolding num slot_number named_slots stored_from
one_place h =
    let covered = by_its_value_shown two_ints one_place_bytes (two_numbers 7 7) one_place_lies h in
    no_side 8 4 (lit≤ tt) covered.tables.0.own.2.0
  where
    no_side : (m n : ℕ) → n < m → (m ≤ n) ⊎ (m ≤ n) → ⊥
    no_side m n more (inl low) = omega (arith, more, low)
    no_side m n more (inr low) = omega (arith, more, low)

-- The value is there: no member, since the value's slot isn't looked at.
value_alone_lies : LiesAt two_members value_alone_bytes (root_place two_members).sort 0 no_member
unfolding num slot_number named_slots first_failing fault_by
value_alone_lies = (refl, (refl, refl, (refl, (refl, tt))))

-- A union's value without its code.
value_alone : ¬ (Covered two_members value_alone_bytes)
unfolding num slot_number named_slots
value_alone h =
    let covered = by_its_value_shown two_members value_alone_bytes no_member value_alone_lies h in
    covered.tables.0.coded 1 _ 2 refl refl refl refl

-- The value is there.
rubbish_in_table_lies : LiesAt two_members rubbish_in_table_bytes (root_place two_members).sort 0 second_member
unfolding num slot_number named_slots first_failing fault_by
rubbish_in_table_lies = (refl, (refl, refl, (refl, ((refl, (refl, (refl, refl, tt))), tt))))

-- Rubbish in a table's padding.
rubbish_in_table : ¬ (Covered two_members rubbish_in_table_bytes)
unfolding num slot_number named_slots stored_from
rubbish_in_table h =
    let covered = by_its_value_shown two_members rubbish_in_table_bytes second_member rubbish_in_table_lies h in
    let is : 9 ≡ 0 = covered.tables.0.padded 5 (lit≤ tt) refl in
    omega (arith, is)

-- The value is there.
rubbish_in_struct_lies : LiesAt one_struct rubbish_in_struct_bytes (root_place one_struct).sort 0 struct_inline
unfolding num slot_number named_slots first_failing fault_by
rubbish_in_struct_lies = (refl, (refl, refl, ((refl, (refl, (refl, (refl, tt)))), tt)))

-- Rubbish in a struct's padding.
rubbish_in_struct : ¬ (Covered one_struct rubbish_in_struct_bytes)
unfolding num slot_number named_slots stored_from
rubbish_in_struct h =
    let covered = by_its_value_shown one_struct rubbish_in_struct_bytes struct_inline rubbish_in_struct_lies h in
    let is : 9 ≡ 0 = covered.inline.0.0 1 (lit≤ tt) refl in
    omega (arith, is)

-- The value is there.
twice_lies : LiesAt table_vector twice_bytes (root_place table_vector).sort 0 single
unfolding num slot_number named_slots first_failing fault_by named_elements
twice_lies = (refl, (refl, refl, ((refl, (refl, refl, ((refl, (refl, refl, ((refl, refl), tt))), tt))), tt)))

-- An equal vtable laid twice.
vtable_twice : ¬ (Covered table_vector twice_bytes)
unfolding num slot_number named_slots each_once
vtable_twice h =
    let covered = by_its_value_shown table_vector twice_bytes single twice_lies h in
    let is : 6 ≡ 30 = covered.shared 6 30 refl refl refl in
    omega (arith, is)

-- The value is there.
discarded_lies : LiesAt one_int discarded_bytes (root_place one_int).sort 0 (one_number 7)
unfolding num slot_number named_slots first_failing fault_by
discarded_lies = (refl, (refl, refl, ((refl, refl), tt)))

-- A discarded vtable that was left.
discarded_vtable : ¬ (Covered one_int discarded_bytes)
unfolding num slot_number named_slots stored_from each_once
discarded_vtable h =
    let covered = by_its_value_shown one_int discarded_bytes (one_number 7) discarded_lies h in
    let is : 6 ≡ 0 = zero_outside_shown one_int discarded_bytes (one_number 7) covered 4
    (AllPass-from_list_all (is_outside 4)
    (pieces_of one_int discarded_bytes (reached_parts one_int discarded_bytes (one_number 7))) refl) in
    omega (arith, is)

-- The value is there.
spare_lies : LiesAt one_int spare_bytes (root_place one_int).sort 0 (one_number 7)
unfolding num slot_number named_slots first_failing fault_by
spare_lies = (refl, (refl, refl, ((refl, refl), tt)))

-- Spare zeros at the front.
spare_zeros : ¬ (Covered one_int spare_bytes)
unfolding num slot_number named_slots stored_from each_once
spare_zeros h =
    let covered = by_its_value_shown one_int spare_bytes (one_number 7) spare_lies h in
    few_outside_shown one_int spare_bytes (one_number 7) covered
    (AllPass-from_list_all (λ x. nat_lt 0 x.size) pieces refl) 4 (lit≤ tt) outside
  where
    pieces : List Piece
    pieces = pieces_of one_int spare_bytes (reached_parts one_int spare_bytes (one_number 7))

    outside : (j : ℕ) → j < 4 → AllPass (is_outside (4 + j))
        (pieces_of one_int spare_bytes (reached_parts one_int spare_bytes (one_number 7)))
    outside zero low = AllPass-from_list_all (is_outside 4) pieces refl
    outside (suc zero) low = AllPass-from_list_all (is_outside 5) pieces refl
    outside (suc (suc zero)) low = AllPass-from_list_all (is_outside 6) pieces refl
    outside (suc (suc (suc zero))) low = AllPass-from_list_all (is_outside 7) pieces refl
    outside (suc (suc (suc (suc j)))) low = absurd (omega (arith, low))

pub examples_shown : ExamplesHaveSlack
examples_shown = record {
  stored_default = record { lies = zero_held.lies; uncovered = stored_default };
  untrimmed_vtable = record { lies = untrimmed_lies; uncovered = untrimmed_vtable };
  wrong_size = record { lies = wide_table_lies; uncovered = wrong_size };
  odd_bool = record { lies = bool_held.lies; uncovered = odd_bool };
  odd_bool_in_struct = record { lies = odd_in_struct.lies; uncovered = odd_bool_in_struct };
  odd_bool_in_vector = record { lies = odd_in_vector.lies; uncovered = odd_bool_in_vector };
  odd_bool_in_element = record { lies = odd_in_element.lies; uncovered = odd_bool_in_element };
  one_place = record { lies = one_place_lies; uncovered = one_place };
  value_alone = record { lies = value_alone_lies; uncovered = value_alone };
  rubbish_in_table = record { lies = rubbish_in_table_lies; uncovered = rubbish_in_table };
  rubbish_in_struct = record { lies = rubbish_in_struct_lies; uncovered = rubbish_in_struct };
  vtable_twice = record { lies = twice_lies; uncovered = vtable_twice };
  discarded_vtable = record { lies = discarded_lies; uncovered = discarded_vtable };
  spare_zeros = record { lies = spare_lies; uncovered = spare_zeros };
}
