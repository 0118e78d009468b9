-- Bytes with a number in a slot that their schema doesn't know, or has deprecated.
use Rattle.std.specs.Prelude.{ℕ, suc, ◌≡◌, [], ◌∷◌, refl}
use Rattle.std.proofs.Common.{arith}
use Rattle.fb_value.specs.Num.{num}
use Rattle.fb_value.specs.Places.{table_part, part_place, slot_number}
use Rattle.fb_value.specs.Rules.{first_failing, fault_by}
use Rattle.fb_value.specs.OldSlots.{OnlyOld}
use Rattle.fb_value.specs.ExampleLayouts.{one_int, deprecated_int}
use Rattle.fb_value.specs.ExampleTables.{two_slots_bytes}

not_zero : (n : ℕ) → suc n ≡ 0 → ⊥
not_zero n e = omega (arith, e)

-- The second slot isn't the schema's.
pub newer_slot : ¬ (OnlyOld one_int two_slots_bytes)
unfolding num slot_number first_failing fault_by
newer_slot h = not_zero 3
    (h (0 ∷ []) (table_part 0) 12 0 1 (refl, record { sort = part_place (table_part 0); at = 12 }, refl, refl) refl
    refl)

-- The first slot is deprecated.
pub deprecated_slot : ¬ (OnlyOld deprecated_int two_slots_bytes)
unfolding num slot_number first_failing fault_by
deprecated_slot h = not_zero 7
    (h (0 ∷ []) (table_part 0) 12 0 0 (refl, record { sort = part_place (table_part 0); at = 12 }, refl, refl) refl
    refl)
