-- The fields that a table stores, told by its vtable.
-- From the FlatBuffers documentation, "FlatBuffer Internals": Tables (a vtable's first numbers are its own size and the
-- table's, and a field that isn't stored has 0), Unions (a code, 0 for no member, and the member after it).
use Rattle.std.specs.Prelude.{ℕ, suc, ◌+◌, ◌-◌, ◌≡◌, ◌≢◌, ◌<◌, ◌≤◌, ◌⊎◌, Bool, true, false, ◌||◌, nat_lt, List, [], ◌∷◌}
use Rattle.std.specs.Prelude.{slice_get, sum_by, if◌then◌else◌, Option, None, Some, ℤ, pos}
use Rattle.fb_schema.specs.Alignments.{base_size}
use Rattle.fb_layout.specs.Laid.{LaidSchema, Slot, scalar_kind, union_kind, code_kind, StoredShape, one_of, slots_of}
use Rattle.fb_layout.specs.Sizes.{ceil4}
use Rattle.fb_layout.specs.Widths.{inline_size}
use Rattle.fb_value.specs.Num.{Bytes, num, scalar_of}
use Rattle.fb_value.specs.Places.{vtable, slot_number, is_present, code_at}
pub use Rattle.fb_tape.specs.InlineBytes.{IsBit}
use Rattle.fb_tape.specs.Taken.{is_within, ZeroUnless}

-- a slot whose number isn't 0, deprecated ones too, and that number: where the field stands in its table
pub record StoredSlot : Type 0 where
  pub slot : Slot
  pub at : ℕ

-- those of the table at p, from slot k on
unfoldable pub stored_from : Bytes → ℕ → ℕ → List Slot → List StoredSlot
stored_from b p k [] = []
stored_from b p k (f ∷ fs) = if is_present b p k then record {
  slot = f;
  at = slot_number b p k;
} ∷ stored_from b p (suc k) fs else stored_from b p (suc k) fs

abbrev pub stored_of : LaidSchema → Bytes → ℕ → ℕ → List StoredSlot
stored_of L b t p = stored_from b p 0 (slots_of L t)

-- A vtable's second number is the first number of its table and the sizes of what that stores, up to a multiple of 4.
abbrev pub TellsItsSize : LaidSchema → Bytes → ℕ → ℕ → Type 0
TellsItsSize L b t p = num b (vtable b p + 2) 2
    ≡ 4 + ceil4 (sum_by (λ x. inline_size L x.slot.shape) (stored_of L b t p))

-- A vtable that has slots ends with one that isn't 0.
abbrev pub EndsWithAField : Bytes → ℕ → Type 0
EndsWithAField b p = let q = vtable b p in let z = num b q 2 in (z ≡ 4) ⊎ (0 < num b (q + (z - 2)) 2)

-- whether a table's byte i is one of a stored field
abbrev pub is_in_field : LaidSchema → List StoredSlot → ℕ → Bool
is_in_field L [] i = false
is_in_field L (x ∷ xs) i = is_within x.at (inline_size L x.slot.shape) i || is_in_field L xs i

-- The bytes of a table that neither its first number nor a stored field takes are 0.
abbrev pub PadsTableWithZeros : LaidSchema → Bytes → ℕ → ℕ → Type 0
PadsTableWithZeros L b t p = ZeroUnless (λ i. nat_lt i 4 || is_in_field L (stored_of L b t p) i) b p
    (num b (vtable b p + 2) 2)

-- the number that an absent slot stands for, if it stands for one: without its code a union has none of its members
abbrev pub absent_number : Slot → StoredShape → Option ℤ
absent_number f (one_of (code_kind u)) = if f.deprecated then None else Some (pos 0)
absent_number f _ = f.if_absent

-- the number that a field of a shape holds; 0 of one that holds none
abbrev pub stored_number : Bytes → ℕ → StoredShape → ℤ
stored_number b q (one_of (scalar_kind base)) = scalar_of base (num b q (base_size base))
stored_number b q (one_of (code_kind u)) = pos (num b q 1)
stored_number b q _ = pos 0

abbrev pub NoneIsDefault : Bytes → ℕ → List StoredSlot → Type 0
NoneIsDefault b p [] = Unit {0}
NoneIsDefault b p (x ∷ xs) = ((n : ℤ) → absent_number x.slot x.slot.shape ≡ Some n
    → stored_number b (p + x.at) x.slot.shape ≢ n) × NoneIsDefault b p xs

-- No stored field holds the number that an absent one would have.
abbrev pub StoresNoDefault : LaidSchema → Bytes → ℕ → ℕ → Type 0
StoresNoDefault L b t p = NoneIsDefault b p (stored_of L b t p)

-- Two fields share no byte.
abbrev pub StandApart : LaidSchema → StoredSlot → StoredSlot → Type 0
StandApart L x y = (x.at + inline_size L x.slot.shape ≤ y.at) ⊎ (y.at + inline_size L y.slot.shape ≤ x.at)

abbrev pub StandsApartFrom : LaidSchema → StoredSlot → List StoredSlot → Type 0
StandsApartFrom L x [] = Unit {0}
StandsApartFrom L x (y ∷ ys) = StandApart L x y × StandsApartFrom L x ys

-- Fields stand after the first number of a table of a size and inside of it, and no two share a byte.
abbrev pub AllStandApart : LaidSchema → ℕ → List StoredSlot → Type 0
AllStandApart L size [] = Unit {0}
AllStandApart L size (x ∷ xs) = (4 ≤ x.at) × (x.at + inline_size L x.slot.shape ≤ size) × StandsApartFrom L x xs
    × AllStandApart L size xs

-- Each stored field has bytes of its own in the table.
abbrev pub HasItsOwnBytes : LaidSchema → Bytes → ℕ → ℕ → Type 0
HasItsOwnBytes L b t p = AllStandApart L (num b (vtable b p + 2) 2) (stored_of L b t p)

abbrev pub HoldsBit : Bytes → ℕ → StoredShape → Type 0
HoldsBit b q (one_of (scalar_kind base)) = IsBit base (num b q 1)
HoldsBit b q _ = Unit {0}

abbrev pub AllHoldBits : Bytes → ℕ → List StoredSlot → Type 0
AllHoldBits b p [] = Unit {0}
AllHoldBits b p (x ∷ xs) = HoldsBit b (p + x.at) x.slot.shape × AllHoldBits b p xs

-- Each `bool` that a slot stores is 0 or 1, also where the slot is deprecated.
abbrev pub HoldsBits : LaidSchema → Bytes → ℕ → ℕ → Type 0
HoldsBits L b t p = AllHoldBits b p (stored_of L b t p)

-- A union's value is stored only after a stored code other than 0.
abbrev pub CodesItsMembers : LaidSchema → Bytes → ℕ → ℕ → Type 0
CodesItsMembers L b t p = (k : ℕ) (f : Slot) (u : ℕ) → slice_get (slots_of L t) k ≡ Some f
    → f.shape ≡ one_of (union_kind u) → is_present b p k ≡ true → code_at b p (k - 1) ≢ 0

-- A table and its vtable have no slack.
pub record IsTightTable (L : LaidSchema) (b : Bytes) (t p : ℕ) : Type 0 where
  pub size : TellsItsSize L b t p
  pub trimmed : EndsWithAField b p
  pub padded : PadsTableWithZeros L b t p
  pub defaults : StoresNoDefault L b t p
  pub own : HasItsOwnBytes L b t p
  pub bits : HoldsBits L b t p
  pub coded : CodesItsMembers L b t p
