-- The ids of a table's fields name each slot once, or are wrong.
-- From the FlatBuffers documentation, "Writing a schema": Tables, Unions, Attributes (`id`).
use Rattle.std.specs.Prelude.{ℕ, suc, ◌==◌, ◌≡◌, ◌≤◌, ◌<◌, ◌&&◌, not, Bool, true, false, List, length, map, count_by}
use Rattle.std.specs.Prelude.{Option, None, Some, slice_get, if◌then◌else◌}
use Rattle.std.specs.List.{list_any, list_all, flat_map, position, range_with_len}
use Rattle.std.specs.List.Sorted.{IsPermutation}
use Rattle.std.specs.Option.{is_some, unwrap_or}
use Rattle.fb_schema.specs.Schema.{DeclaredField}
use Rattle.fb_resolve.specs.ResolvedFields.{ResolvedField}
use Rattle.fb_schema.specs.declared.kinds.TypeId.{TypeId}
use Rattle.fb_resolve.specs.declared.ids.Slots.{Slots}
use Rattle.fb_resolve.specs.declared.ids.Slots.TheVariants.{InOrder, ById, Wrong}
use Rattle.fb_resolve.specs.declared.ids.WrongIds.{WrongIds}
use Rattle.fb_resolve.specs.declared.ids.WrongIds.TheVariants.{NoSlot, Twice, Missing}
use Rattle.fb_resolve.specs.SlotsRead.{union_in, slots_of_field, slots_in_order}

-- A field's id is that of its value, so a union's first slot is the one before it.
abbrev pub first_slot : Option TypeId → Option ℕ → Option ℕ
first_slot None (Some n) = Some n
first_slot (Some u) (Some (suc n)) = Some n
first_slot _ _ = None

-- the first slot of a field by its id
unfoldable pub slot_by_id : ResolvedField → Option ℕ
slot_by_id r = first_slot (union_in r) r.attributes.id

abbrev pub slots_by_id : List ResolvedField → List DeclaredField
slots_by_id rs = flat_map (λ r. slots_of_field r (unwrap_or (slot_by_id r) 0)) rs

abbrev pub have_ids : List ResolvedField → Bool
have_ids rs = list_any (λ r. r.attributes.has_id) rs

-- the slots of a table, in the order of declaration
abbrev pub slots_read : List ResolvedField → List DeclaredField
slots_read rs = if have_ids rs then slots_by_id rs else slots_in_order 0 rs

-- The same slots stand at the places of their numbers.
pub record AreInPlace (read placed : List DeclaredField) : Type 0 where
  pub same : IsPermutation read placed
  pub slots : (k : ℕ) (f : DeclaredField) → slice_get placed k ≡ Some f → f.slot ≡ k

-- The numbers are 0, 1, .. without gap or repeat, in any order: each that is below their count is among them.
abbrev pub are_places : List ℕ → Bool
are_places ns = list_all (λ k. list_any (λ n. k == n) ns) (range_with_len 0 (length ns))

abbrev pub have_all_ids : List ResolvedField → Bool
have_all_ids rs = list_all (λ r. is_some (slot_by_id r)) rs

-- the numbers of the slots that fields take by their ids
abbrev pub numbers_by_id : List ResolvedField → List ℕ
numbers_by_id rs = map (λ s. s.slot) (slots_by_id rs)

-- some field has an id, but not each has one that gives it a slot, or the slots aren't 0, 1, .. each once
unfoldable pub are_ids_wrong : List ResolvedField → Bool
are_ids_wrong rs = have_ids rs && not (have_all_ids rs && are_places (numbers_by_id rs))

abbrev pub has_no_slot : ResolvedField → Bool
has_no_slot r = not (is_some (slot_by_id r))

-- why the numbers aren't places: a number is there more than once, or one that is below their count isn't there
abbrev pub IsWrongNumber : List ℕ → WrongIds → Type 0
IsWrongNumber ns (NoSlot k) = ⊥
IsWrongNumber ns (Twice s) = (are_places ns ≡ false) × (2 ≤ count_by (λ n. s == n) ns)
IsWrongNumber ns (Missing s) =
    (are_places ns ≡ false) × (s < length ns) × (list_any (λ n. s == n) ns ≡ false)

-- Why the ids of fields are wrong: the first field without a slot, or else one of their numbers.
abbrev pub AreWrongBy : List ResolvedField → WrongIds → Type 0
AreWrongBy rs (NoSlot k) = position has_no_slot rs ≡ Some k
AreWrongBy rs (Twice s) = (position has_no_slot rs ≡ None) × IsWrongNumber (numbers_by_id rs) (Twice s)
AreWrongBy rs (Missing s) = (position has_no_slot rs ≡ None) × IsWrongNumber (numbers_by_id rs) (Missing s)

-- what the slots of a table's fields are: numbered in the order of declaration, or by their ids
abbrev pub AreSlots : List ResolvedField → Slots → Type 0
AreSlots rs InOrder = have_ids rs ≡ false
AreSlots rs ById = (have_ids rs ≡ true) × (are_ids_wrong rs ≡ false)
AreSlots rs (Wrong w) = (are_ids_wrong rs ≡ true) × AreWrongBy rs w
