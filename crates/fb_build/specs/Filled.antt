-- The bytes of a table that its stored fields take, while they are laid.
use Rattle.std.specs.Prelude.{ℕ, ◌+◌, ◌≡◌, ◌≤◌, ◌<◌, ◌⊎◌, Bool, true, List, Option, Some, slice_get, slice_index}
use Rattle.fb_layout.specs.Laid.{LaidSchema, Slot}
use Rattle.fb_layout.specs.Widths.{inline_size}
use Rattle.fb_value.specs.Datum.{Datum}
use Rattle.fb_build.specs.Fields.{is_stored}

-- slot k is stored, and laid by a test
pub record IsLaidSlot (done : ℕ → Slot → Bool) (fs : List Slot) (xs : List (Option Datum)) (k : ℕ) (f : Slot)
    (x : Option Datum) : Type 0 where
  pub is : slice_get fs k ≡ Some f
  pub has : slice_get xs k ≡ Some x
  pub stored : is_stored f x ≡ true
  pub laid : done k f ≡ true

-- The byte e before the end is one of a stored field that is laid.
pub record IsFilled (L : LaidSchema)
    (done : ℕ → Slot → Bool) (fs : List Slot) (xs : List (Option Datum)) (ends : List ℕ) (e : ℕ) : Type 0 where
  pub slot : ℕ
  pub field : Slot
  pub entry : Option Datum
  pub there : IsLaidSlot done fs xs slot field entry
  pub behind : slice_index ends slot < e + inline_size L field.shape
  pub before : e ≤ slice_index ends slot

-- The fields that are laid fill what stands in front of the last `start` of `count` bytes: each byte is one of a field,
-- and no two fields share one.
pub record AreFilled (L : LaidSchema) (start count : ℕ)
    (done : ℕ → Slot → Bool) (fs : List Slot) (xs : List (Option Datum)) (ends : List ℕ) : Type 0 where
  pub each : (e : ℕ) → start < e → e ≤ count → IsFilled L done fs xs ends e
  pub between : (k : ℕ) (f : Slot) (x : Option Datum) → IsLaidSlot done fs xs k f x
      → (start + inline_size L f.shape ≤ slice_index ends k) × (slice_index ends k ≤ count)
  pub apart : (j k : ℕ) (f g : Slot) (x y : Option Datum) → IsLaidSlot done fs xs j f x → IsLaidSlot done fs xs k g y
      → (j ≡ k → ⊥)
      → (slice_index ends j + inline_size L g.shape ≤ slice_index ends k)
      ⊎ (slice_index ends k + inline_size L f.shape ≤ slice_index ends j)
