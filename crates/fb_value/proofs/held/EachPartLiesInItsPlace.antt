-- What lies in one slot, as one element, as one field.
use Rattle.std.proofs.Common.{◌≡◌, ℕ, zero, suc, ◌+◌, ◌*◌, List, [], ◌∷◌, length, drop, Some, slice_get, refl, arith}
use Rattle.fb_layout.specs.Laid.{LaidSchema, Slot, StoredKind, size_of}
use Rattle.fb_value.specs.Datum.{Parts, no_parts, more_parts, SlotEntries, no_entries, absent_entry, present_entry}
use Rattle.fb_value.specs.Datum.{count}
use Rattle.fb_value.specs.Num.{Bytes}
use Rattle.fb_value.specs.Places.{named_slots}
use Rattle.fb_value.specs.Lies.{LiesParts, LiesSlots}
use Rattle.fb_value.specs.Nth.{nth_entry, slot_place, LiesInSlot, EntryLies, ElementLies, PartLies}

-- What lies in a slot, from the slots from j on.
pub slot_lies : (L : LaidSchema) (b : Bytes) (p j : ℕ) (fs : List Slot) (es : SlotEntries) (k : ℕ) (f : Slot)
    → LiesSlots L b fs (named_slots L b p j fs) es → slice_get fs k ≡ Some f
    → LiesInSlot L b f (slot_place L b p (j + k) (drop (suc k) fs) f) (nth_entry es k)
unfolding named_slots
slot_lies L b p j [] es k f lies e = cc
slot_lies L b p j (g ∷ fs) no_entries k f lies e = absurd lies
slot_lies L b p j (g ∷ fs) (absent_entry es) zero f lies e =
    let is : g ≡ f = cc in
    let here : j + 0 ≡ j = omega arith in
    rw (here, ← is) lies.0
slot_lies L b p j (g ∷ fs) (present_entry d es) zero f lies e =
    let is : g ≡ f = cc in
    let here : j + 0 ≡ j = omega arith in
    rw (here, ← is) lies.0
slot_lies L b p j (g ∷ fs) (absent_entry es) (suc k) f lies e =
    let there : j + suc k ≡ suc j + k = omega arith in
    rw there (slot_lies L b p (suc j) fs es k f lies.1 e)
slot_lies L b p j (g ∷ fs) (present_entry d es) (suc k) f lies e =
    let there : j + suc k ≡ suc j + k = omega arith in
    rw there (slot_lies L b p (suc j) fs es k f lies.1 e)

-- The entry of slot k lies in its slot.
pub entry_lies_shown : EntryLies
entry_lies_shown L b p fs es k f lies e = let here : 0 + k ≡ k = omega arith in
    rw here at (slot_lies L b p 0 fs es k f lies e)

-- Element i lies at its place.
pub element_lies_shown : ElementLies
element_lies_shown L b kind p no_parts i lies less = absurd (omega arith)
element_lies_shown L b kind p (more_parts d ds) zero lies less =
    let here : p + 0 * size_of L kind ≡ p = omega arith in
    (d, refl, rw here lies.0)
element_lies_shown L b kind p (more_parts d ds) (suc i) lies less =
    let found = element_lies_shown L b kind (p + size_of L kind) ds i lies.1 (omega arith) in
    let there : p + suc i * size_of L kind ≡ (p + size_of L kind) + i * size_of L kind = omega arith in
    (found.0, found.1, rw there found.2)

-- Field i lies at its offset.
pub part_lies_shown : PartLies
part_lies_shown L b (k ∷ ks) (o ∷ os) p (more_parts d ds) zero kind offset lies kind_is offset_is =
    let one : k ≡ kind = cc in
    let two : o ≡ offset = cc in
    (d, refl, rw (← one, ← two) lies.0)
part_lies_shown L b (k ∷ ks) (o ∷ os) p (more_parts d ds) (suc i) kind offset lies kind_is offset_is =
    part_lies_shown L b ks os p ds i kind offset lies.1 kind_is offset_is
part_lies_shown L b [] os p no_parts i kind offset lies kind_is offset_is = cc
part_lies_shown L b _ _ p _ i kind offset lies kind_is offset_is = absurd lies

-- A struct has as many fields as kinds.
pub parts_long : (L : LaidSchema) (b : Bytes) (ks : List StoredKind) (os : List ℕ) (p : ℕ) (ds : Parts)
    → LiesParts L b ks os p ds → count ds ≡ length ks
parts_long L b [] os p no_parts lies = refl
parts_long L b (k ∷ ks) (o ∷ os) p (more_parts d ds) lies = rw (parts_long L b ks os p ds lies.1)
parts_long L b _ _ p _ lies = absurd lies
