-- That bytes have nothing in slots that their schema doesn't know or has deprecated.
-- From the FlatBuffers documentation, "Evolution": new fields stand in new slots, old ones are deprecated.
use Rattle.std.specs.Prelude.{ℕ, ◌≡◌, Bool, false, not, Option, None, Some, slice_get}
use Rattle.fb_layout.specs.Laid.{LaidSchema, Slot, slots_of}
use Rattle.fb_value.specs.Num.{Bytes}
use Rattle.fb_value.specs.Places.{Target, table_part, member_part, part_place, slot_number}
use Rattle.fb_value.specs.Reached.{Path, Leads}
use Rattle.fb_value.specs.Holds.{root_at}

-- the table that a target is, if it is one
abbrev pub table_of : Target → Option ℕ
table_of (table_part t) = Some t
table_of (member_part c t) = Some t
table_of _ = None

abbrev pub is_in_use : Option Slot → Bool
is_in_use None = false
is_in_use (Some f) = not f.deprecated

-- No table that is reached from the root's reference at a position has a number for a slot that isn't in use.
abbrev pub OnlyOldBehind : ℕ → LaidSchema → Bytes → Type 0
OnlyOldBehind start L b =
    (path : Path) (X : Target) (p t k : ℕ) → Leads L b (root_at L start) path (record { sort = part_place X; at = p })
    → table_of X ≡ Some t
    → is_in_use (slice_get (slots_of L t) k) ≡ false → slot_number b p k ≡ 0

-- in a buffer alone
abbrev pub OnlyOld : LaidSchema → Bytes → Type 0
OnlyOld L b = OnlyOldBehind 0 L b
