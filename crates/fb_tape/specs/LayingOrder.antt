-- A table's fields are laid by falling alignment.
-- From the FlatBuffers documentation, "FlatBuffer Internals": Tables. The order is this project's own.
use Rattle.std.specs.Prelude.{ℕ, suc, List, [], ◌∷◌, Option, if◌then◌else◌, flat_map}
use Rattle.fb_layout.specs.Laid.{LaidSchema, Slot}
use Rattle.fb_value.specs.Datum.{Datum}
use Rattle.fb_tape.specs.StoredFields.{is_at}

-- the slots, from k on, that are stored at an alignment
unfoldable pub slots_at : LaidSchema → ℕ → ℕ → List Slot → List (Option Datum) → List ℕ
slots_at L a k (f ∷ fs) (x ∷ xs) =
    if is_at L a f x then k ∷ slots_at L a (suc k) fs xs else slots_at L a (suc k) fs xs
slots_at L a k _ _ = []

abbrev pub falling_alignments : List ℕ
falling_alignments = 256 ∷ 128 ∷ 64 ∷ 32 ∷ 16 ∷ 8 ∷ 4 ∷ 2 ∷ 1 ∷ []

-- By falling alignment, fields of one alignment in the order of their slots.
abbrev pub laying_order : LaidSchema → List Slot → List (Option Datum) → List ℕ
laying_order L fs xs = flat_map (λ a. slots_at L a 0 fs xs) falling_alignments
