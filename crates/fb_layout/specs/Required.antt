-- The slots that a table must have.
-- From the FlatBuffers documentation, "Writing a schema": Attributes (`required`, `deprecated`).
use Rattle.std.specs.Prelude.{ℕ, ◌≡◌, ◌<◌, List, length, map, filter, Bool, false, not, ◌&&◌, Option, None, Some}
use Rattle.std.specs.Prelude.{slice_get}
use Rattle.std.specs.List.{range_with_len}
use Rattle.fb_schema.specs.Schema.{DeclaredField}
use Rattle.fb_layout.specs.Laid.{LaidSchema, Slot, slots_of}

abbrev pub is_required : Option Slot → Bool
is_required None = false
is_required (Some f) = f.required

-- the numbers of a table's required slots, in rising order
abbrev pub required_slots : LaidSchema → ℕ → List ℕ
required_slots L t = filter (λ k. is_required (slice_get (slots_of L t) k)) (range_with_len 0 (length (slots_of L t)))

-- the same numbers, as the fields of a declared table have them
abbrev pub required_numbers : List DeclaredField → List ℕ
required_numbers fs = map (λ f. f.slot) (filter (λ f. f.required && not f.deprecated) fs)

-- their numbers fit 16 bits
abbrev pub HaveSmallNumbers : List DeclaredField → Type 0
HaveSmallNumbers fs = (k : ℕ) (f : DeclaredField) → slice_get fs k ≡ Some f → f.slot < 65536
