-- The places of a buffer, and which places each names.
-- From the FlatBuffers documentation, "FlatBuffer Internals": Tables, Unions, Strings and vectors.
use Rattle.std.specs.Prelude.{ℕ, zero, suc, ◌+◌, ◌-◌, ◌*◌, ◌^◌, List, [], ◌∷◌, Bool, false, not, ◌&&◌, ◌==◌, nat_lt}
use Rattle.std.specs.Prelude.{nat_le, if◌then◌else◌, Option, None, Some}
use Rattle.fb_layout.specs.Laid.{LaidSchema, Slot, StoredKind, table_kind, union_kind, code_kind, text_kind}
use Rattle.fb_layout.specs.Laid.{StoredShape, one_of, vector_of, slots_of, member_by_code}
use Rattle.fb_value.specs.Num.{Bytes, num}

-- what a reference leads to; a member is a table under its code
pub data Target : Type 0 where
  table_part : ℕ → Target
  member_part : ℕ → ℕ → Target
  text_part : Target
  vector_part : StoredKind → Target

pub data Sort : Type 0 where
  -- a reference
  ref_place : Target → Sort
  -- a table, text or vector
  part_place : Target → Sort
  -- a number or struct
  inline_place : StoredKind → Sort
  -- a union's code: its union, its value's slot, and whether that is required and present
  code_place : ℕ → ℕ → Bool → Bool → Sort
  -- the value of a code that no member has: nothing is read there
  unknown_place : ℕ → Sort

pub record Place : Type 0 where
  pub sort : Sort
  pub at : ℕ

-- A table begins with a signed number, and its vtable stands at the table's position less that.
abbrev pub vtable : Bytes → ℕ → ℕ
vtable b p = let s = num b p 4 in if nat_lt s (2 ^ 31) then p - s else p + (2 ^ 32 - s)

-- The vtable's number for slot k, counted from the table. It is 0 where the vtable ends before.
unfoldable pub slot_number : Bytes → ℕ → ℕ → ℕ
slot_number b p k = let q = vtable b p in if nat_le (6 + 2 * k) (num b q 2) then num b (q + (4 + 2 * k)) 2 else 0

abbrev pub is_present : Bytes → ℕ → ℕ → Bool
is_present b p k = nat_lt 0 (slot_number b p k)

-- the code that stands in slot k, 0 for an absent one
abbrev pub code_at : Bytes → ℕ → ℕ → ℕ
code_at b p k = if is_present b p k then num b (p + slot_number b p k) 1 else 0

-- A union's value is the table of its code's member. Where no member has the code, nothing behind it is read.
abbrev pub named_union : Bytes → ℕ → ℕ → ℕ → Option ℕ → Option Place
named_union b p k c None =
    if not (c == 0) && is_present b p k then Some (record { sort = unknown_place c; at = p + slot_number b p k })
    else None
named_union b p k c (Some t) =
    if is_present b p k then Some (record { sort = ref_place (member_part c t); at = p + slot_number b p k }) else None

-- whether the next slot is required
abbrev pub next_required : List Slot → Bool
next_required [] = false
next_required (f ∷ fs) = f.required

-- what stands where slot k's number leads; fs are the slots after it
abbrev pub sort_of : Bytes → ℕ → ℕ → List Slot → StoredShape → Sort
sort_of b p k fs (vector_of kind) = ref_place (vector_part kind)
sort_of b p k fs (one_of text_kind) = ref_place text_part
sort_of b p k fs (one_of (table_kind t)) = ref_place (table_part t)
sort_of b p k fs (one_of (code_kind u)) = code_place u (suc k) (next_required fs) (is_present b p (suc k))
sort_of b p k fs (one_of kind) = inline_place kind

-- the place that slot k of the table at p names, if it is present
abbrev pub named_slot : LaidSchema → Bytes → ℕ → ℕ → List Slot → StoredShape → Option Place
named_slot L b p k fs (one_of (union_kind u)) = let c = code_at b p (k - 1) in
    named_union b p k c (member_by_code L u c)
named_slot L b p k fs shape =
    if is_present b p k then Some (record { sort = sort_of b p k fs shape; at = p + slot_number b p k }) else None

-- One entry a slot, from slot k on. Deprecated slots aren't looked at.
unfoldable pub named_slots : LaidSchema → Bytes → ℕ → ℕ → List Slot → List (Option Place)
named_slots L b p k [] = []
named_slots L b p k (f ∷ fs) =
    (if f.deprecated then None else named_slot L b p k fs f.shape) ∷ named_slots L b p (suc k) fs

-- texts and tables are elements by reference
abbrev pub target_of : StoredKind → Option Target
target_of text_kind = Some text_part
target_of (table_kind t) = Some (table_part t)
target_of _ = None

-- n references from p on
unfoldable pub named_elements : Target → ℕ → ℕ → List (Option Place)
named_elements X p zero = []
named_elements X p (suc n) = Some (record { sort = ref_place X; at = p }) ∷ named_elements X (p + 4) n

abbrev pub named_vector : Bytes → ℕ → Option Target → List (Option Place)
named_vector b p None = []
named_vector b p (Some X) = named_elements X (p + 4) (num b p 4)

abbrev pub named_part : LaidSchema → Bytes → Target → ℕ → List (Option Place)
named_part L b (table_part t) p = named_slots L b p 0 (slots_of L t)
named_part L b (member_part c t) p = named_slots L b p 0 (slots_of L t)
named_part L b text_part p = []
named_part L b (vector_part kind) p = named_vector b p (target_of kind)

-- The places that a place names: the entry at k is what it names by step k.
abbrev pub named : LaidSchema → Bytes → Sort → ℕ → List (Option Place)
named L b (ref_place X) p = Some (record { sort = part_place X; at = p + num b p 4 }) ∷ []
named L b (part_place X) p = named_part L b X p
named L b (inline_place kind) p = []
named L b (code_place u k required present) p = []
named L b (unknown_place c) p = []
