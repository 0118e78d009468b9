-- Entry k of a table, part i of a vector or struct, and what lies there where the whole lies.
-- From the FlatBuffers documentation, "FlatBuffer Internals": Tables (a vtable has a number for each slot), Strings and
-- vectors (elements stand one after another), Structs (fields stand at fixed offsets).
use Rattle.std.specs.Prelude.{ℕ, zero, suc, ◌+◌, ◌*◌, ◌≡◌, ◌<◌, List, drop, Option, None, Some, slice_get}
use Rattle.std.specs.Prelude.{if◌then◌else◌}
use Rattle.fb_layout.specs.Laid.{LaidSchema, Slot, StoredKind, size_of}
use Rattle.fb_value.specs.Datum.{Datum, Parts, no_parts, more_parts, SlotEntries, no_entries, absent_entry}
use Rattle.fb_value.specs.Datum.{present_entry, count}
use Rattle.fb_value.specs.Num.{Bytes}
use Rattle.fb_value.specs.Places.{Place, named_slot, named_slots, target_of}
use Rattle.fb_value.specs.Lies.{AbsentEntry, PresentEntry, Element, Lies, LiesInline, LiesParts, LiesItems, LiesSlots}

-- the entry of slot k, if it has one
abbrev pub nth_entry : SlotEntries → ℕ → Option Datum
nth_entry no_entries k = None
nth_entry (absent_entry es) zero = None
nth_entry (absent_entry es) (suc k) = nth_entry es k
nth_entry (present_entry d es) zero = Some d
nth_entry (present_entry d es) (suc k) = nth_entry es k

-- the element or field i, if there are so many
abbrev pub nth_part : Parts → ℕ → Option Datum
nth_part no_parts i = None
nth_part (more_parts d ds) zero = Some d
nth_part (more_parts d ds) (suc i) = nth_part ds i

-- the place that slot k of the table at p names; a deprecated one names none; fs are the slots after it
abbrev pub slot_place : LaidSchema → Bytes → ℕ → ℕ → List Slot → Slot → Option Place
slot_place L b p k fs f = if f.deprecated then None else named_slot L b p k fs f.shape

-- what lies in a slot, with an entry or without one
abbrev pub LiesInSlot : LaidSchema → Bytes → Slot → Option Place → Option Datum → Type 0
LiesInSlot L b f x None = AbsentEntry L b f x
LiesInSlot L b f x (Some d) = PresentEntry L b f x d (λ sort q. Lies L b sort q d)

-- Where the entries of the table at p lie, that of slot k lies in its slot.
abbrev pub EntryLies : Type 0
EntryLies =
    (L : LaidSchema) (b : Bytes) (p : ℕ) (fs : List Slot) (es : SlotEntries) (k : ℕ) (f : Slot)
    → LiesSlots L b fs (named_slots L b p 0 fs) es → slice_get fs k ≡ Some f
    → LiesInSlot L b f (slot_place L b p k (drop (suc k) fs) f) (nth_entry es k)

-- Where elements lie from p on, element i lies at its place.
abbrev pub ElementLies : Type 0
ElementLies =
    (L : LaidSchema) (b : Bytes) (kind : StoredKind) (p : ℕ) (ds : Parts) (i : ℕ) → LiesItems L b kind p ds
    → i < count ds
    → (d : Datum) × (nth_part ds i ≡ Some d) × Element L b kind (p + i * size_of L kind) (target_of kind) d
    (λ sort q. Lies L b sort q d)

-- Where the fields of a struct lie at p, field i lies at its offset.
abbrev pub PartLies : Type 0
PartLies =
    (L : LaidSchema) (b : Bytes) (kinds : List StoredKind) (offsets : List ℕ) (p : ℕ) (ds : Parts) (i : ℕ)
    (kind : StoredKind) (o : ℕ)
    → LiesParts L b kinds offsets p ds → slice_get kinds i ≡ Some kind → slice_get offsets i ≡ Some o
    → (d : Datum) × (nth_part ds i ≡ Some d) × LiesInline L b kind (p + o) d
