-- In which order the stored fields of a table are laid, and how their slots are linked in it.
-- From the FlatBuffers documentation, "FlatBuffer Internals": Tables. The order is this project's own: by descending
-- alignment, fields of one alignment in the order of their slots.
use Rattle.std.specs.Prelude.{ℕ, ◌+◌, ◌≡◌, ◌⊎◌, Bool, true, cond, nat_lt, List}
use Rattle.std.specs.Prelude.{Option, Some, slice_get}
use Rattle.fb_layout.specs.Laid.{LaidSchema, Slot}
use Rattle.fb_layout.specs.Widths.{inline_align}
use Rattle.fb_value.specs.Datum.{Datum}
use Rattle.fb_build.specs.Fields.{is_stored, above, from}

-- whether a slot comes before slot k of an alignment
abbrev pub before : LaidSchema → ℕ → ℕ → ℕ → Slot → Bool
before L a k j f = cond (nat_lt j k) (from L a f) (above L a f)

-- slot k is stored at an alignment
pub record IsStoredAt (L : LaidSchema) (a : ℕ) (fs : List Slot) (xs : List (Option Datum)) (k : ℕ) : Type 0 where
  pub field : Slot
  pub entry : Option Datum
  pub is : slice_get fs k ≡ Some field
  pub has : slice_get xs k ≡ Some entry
  pub stored : is_stored field entry ≡ true
  pub at : inline_align L field.shape ≡ a

-- Two tests say the same of all that is stored.
abbrev pub SameOfStored : (ℕ → Slot → Bool) → (ℕ → Slot → Bool) → List Slot → List (Option Datum) → Type 0
SameOfStored t u fs xs = (k : ℕ) (f : Slot) (x : Option Datum) → slice_get fs k ≡ Some f → slice_get xs k ≡ Some x
    → is_stored f x ≡ true → t k f ≡ u k f

-- A link is a slot plus one: the next slot after all those that pass a test.
pub record NamesNextSlot (L : LaidSchema) (laid : ℕ → Slot → Bool) (fs : List Slot) (xs : List (Option Datum))
    (link : ℕ) : Type 0 where
  pub slot : ℕ
  pub is : link ≡ slot + 1
  pub align : ℕ
  pub there : IsStoredAt L align fs xs slot
  pub behind : SameOfStored laid (before L align slot) fs xs

-- Or it is 0, and all that is stored passes.
abbrev pub LinksNext : LaidSchema → (ℕ → Slot → Bool) → List Slot → List (Option Datum) → ℕ → Type 0
LinksNext L laid fs xs link = ((link ≡ 0) × SameOfStored laid (λ k f. true) fs xs) ⊎ NamesNextSlot L laid fs xs link

-- ---- while the slots below m are linked, those of each alignment for themselves
