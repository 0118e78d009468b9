-- A worked example: bytes with numbers in slots in use alone.
use Rattle.std.proofs.Common.{◌≡◌, ℕ, zero, suc, ◌+◌, ◌*◌, ◌<◌, false, refl, arith}
use Rattle.std.specs.Prelude.{nat_le, slice_get}
use Rattle.std.proofs.lemmas.Bool.{lt-leb}
use Rattle.fb_layout.specs.Laid.{slots_of}
use Rattle.fb_value.specs.Num.{num}
use Rattle.fb_value.specs.Places.{slot_number, named_slots}
use Rattle.fb_value.specs.Rules.{first_failing, fault_by}
use Rattle.fb_value.specs.OldSlots.{is_in_use, OnlyOld}
use Rattle.fb_value.specs.ExampleLayouts.{one_int}
use Rattle.fb_value.specs.ExampleTables.{seven_bytes, one_number, seven_held}
use Rattle.fb_value.proofs.reached.EachTableIsReached.{only_old_shown}

-- Behind the end of its vtable a table has no number.
no_later : (k : ℕ) → is_in_use (slice_get (slots_of one_int 0) k) ≡ false → slot_number seven_bytes 12 k ≡ 0
unfolding num slot_number
no_later zero h = cc
no_later (suc k) h =
    let over : 6 < 6 + 2 * suc k = omega arith in
    let past : nat_le (6 + 2 * suc k) 6 ≡ false = lt-leb (6 + 2 * suc k) 6 over in
    rw past refl

-- Where the vtable ends with the schema's last slot, only slots in use have numbers.
pub slots_in_use : OnlyOld one_int seven_bytes
unfolding num slot_number named_slots first_failing fault_by
slots_in_use = only_old_shown one_int seven_bytes 0 (one_number 7) seven_held.lies (no_later, (tt, tt))
