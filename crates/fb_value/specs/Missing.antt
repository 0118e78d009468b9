-- The least required slot that is absent, found among the required slots alone.
-- From the FlatBuffers documentation, "Writing a schema": Attributes (`required`).
use Rattle.std.specs.Prelude.{ℕ, ◌≡◌, Bool, false, Option, None, Some, find, slice_get}
use Rattle.fb_layout.specs.Laid.{LaidSchema, Slot, slots_of}
use Rattle.fb_layout.specs.Required.{required_slots}
use Rattle.fb_value.specs.Num.{Bytes}
use Rattle.fb_value.specs.Rules.{is_missing, first_missing}

-- the same of slot k, if there is one
abbrev pub is_missing_slot : Bytes → ℕ → ℕ → Option Slot → Bool
is_missing_slot b p k None = false
is_missing_slot b p k (Some f) = is_missing b p k f

-- The least required slot that is absent is the first of the required ones that is.
abbrev pub FirstMissing : Type 0
FirstMissing = (L : LaidSchema) (b : Bytes) (t p : ℕ)
    → first_missing b p 0 (slots_of L t) ≡ find (λ k. is_missing_slot b p k (slice_get (slots_of L t) k))
    (required_slots L t)
