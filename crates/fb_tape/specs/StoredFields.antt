-- What of a table's entries its slots store, and what of that stands outside of the table.
-- From the FlatBuffers documentation, "FlatBuffer Internals": Tables, Unions; "Writing a schema": Structs.
use Rattle.std.specs.Prelude.{ℕ, ◌+◌, ◌-◌, ◌≡◌, ◌≢◌, ◌<◌, ◌≤◌, max, IsTrue, ◌==◌, ◌&&◌, List, [], ◌∷◌}
use Rattle.std.specs.Prelude.{Bool, true, false, nat_lt, nat_le, if◌then◌else◌, Option, None, Some, ℤ, pos, slice_get}
use Rattle.std.specs.Prelude.{map, option_map, length}
use Rattle.fb_schema.specs.declared.kinds.Base.{Base}
use Rattle.fb_schema.specs.declared.kinds.Kind.TheVariants.{Code}
use Rattle.fb_schema.specs.declared.kinds.Shape.{Shape}
use Rattle.fb_schema.specs.declared.kinds.Shape.TheVariants.{One}
use Rattle.fb_schema.specs.declared.types.FieldInfo.{FieldInfo}
use Rattle.fb_schema.specs.declared.kinds.Base.TheVariants.{U8}
use Rattle.fb_schema.specs.WellDeclared.{InRange}
use Rattle.fb_schema.specs.Schema.{body_at, is_struct}
use Rattle.fb_layout.specs.Sizes.{IsAlignment}
pub use Rattle.fb_layout.specs.Seen.{shape_seen, kind_seen, slot_seen, slots_seen}
use Rattle.fb_layout.specs.Laid.{stored_shape, kind_in, struct_at, align_of, LaidSchema, Slot, StoredKind}
use Rattle.fb_layout.specs.Laid.{scalar_kind, struct_kind, table_kind, union_kind, code_kind, text_kind, StoredShape}
use Rattle.fb_layout.specs.Laid.{one_of, vector_of}
use Rattle.fb_layout.specs.Widths.{inline_size, inline_align, greatest}
use Rattle.fb_value.specs.Datum.{Datum, a_number, a_table, a_member, an_unknown}
use Rattle.fb_value.specs.declared.values.Value.{Value}
use Rattle.fb_value.specs.View.{view}
use Rattle.fb_value.specs.Fits.{Fits}
use Rattle.fb_value.specs.Num.{divides}
use Rattle.fb_value.specs.Places.{Target, table_part, member_part, text_part, vector_part, Sort, ref_place}
use Rattle.fb_value.specs.Places.{inline_place}
use Rattle.fb_tape.specs.Defaults.{is_stored, HasDefault}

-- a declared struct, with what is known of its alignment
pub record IsStructThere (L : LaidSchema) (s : ℕ) : Type 0 where
  pub is : IsTrue (is_struct (body_at L.schema s))
  pub some : 0 < (struct_at L s).size
  pub align : IsAlignment (struct_at L s).align
  pub multiple : divides (struct_at L s).align (struct_at L s).size ≡ true

-- the kinds that a vector's elements may have
abbrev pub IsElement : LaidSchema → StoredKind → Type 0
IsElement L (scalar_kind base) = Unit {0}
IsElement L (struct_kind s) = IsStructThere L s
IsElement L text_kind = Unit {0}
IsElement L (table_kind t) = Unit {0}
IsElement L _ = ⊥

-- the shapes that a table's slot may have
abbrev pub IsSimple : LaidSchema → StoredShape → Type 0
IsSimple L (one_of (struct_kind s)) = IsStructThere L s
IsSimple L (one_of kind) = Unit {0}
IsSimple L (vector_of kind) = IsElement L kind

-- ---- what is stored: a union's code slot has no entry, and stores the code of the entry after it

abbrev pub code_in : Option Datum → Option ℕ
code_in (Some (a_member c d)) = Some c
code_in _ = None

-- the code in the first of some entries
abbrev pub next_code : List (Option Datum) → Option ℕ
next_code [] = None
next_code (x ∷ xs) = code_in x

abbrev pub coded : Option ℕ → Option Datum
coded None = None
coded (Some c) = Some (a_number (pos c))

-- what a slot of a shape stores, whose entry is x, where the entry after it has this code
abbrev pub stored_here : StoredShape → Option ℕ → Option Datum → Option Datum
stored_here (one_of (code_kind u)) code x = coded code
stored_here _ code x = x

abbrev pub stored_in : List Slot → List (Option Datum) → List (Option Datum)
stored_in (f ∷ fs) (x ∷ xs) = stored_here f.shape (next_code xs) x ∷ stored_in fs xs
stored_in _ _ = []

-- what a stored member's reference names
abbrev pub member_target : Datum → Option Target
member_target (a_member c (a_table t es)) = Some (member_part c t)
member_target _ = None

-- what the slot's reference names, if it is one
abbrev pub target_for : StoredShape → Datum → Option Target
target_for (vector_of kind) d = Some (vector_part kind)
target_for (one_of text_kind) d = Some text_part
target_for (one_of (table_kind t)) d = Some (table_part t)
target_for (one_of (union_kind u)) d = member_target d
target_for _ d = None

-- what stands inline for a slot: a code is a number of one byte
abbrev pub inline_kind : StoredShape → StoredKind
inline_kind (one_of (code_kind u)) = scalar_kind U8
inline_kind (one_of kind) = kind
inline_kind (vector_of kind) = kind

-- the shapes of which a reference stands in a table
abbrev pub is_reference : StoredShape → Bool
is_reference (vector_of kind) = true
is_reference (one_of text_kind) = true
is_reference (one_of (table_kind t)) = true
is_reference (one_of (union_kind u)) = true
is_reference _ = false

abbrev pub ref_or : StoredShape → Option Target → Sort
ref_or shape None = inline_place (inline_kind shape)
ref_or shape (Some X) = ref_place X

-- what stands in a table for a stored slot of a shape
abbrev pub sort_for : StoredShape → Datum → Sort
sort_for shape d = ref_or shape (target_for shape d)

-- the basic type of a number's slot
abbrev pub scalar_in : StoredShape → Option Base
scalar_in (one_of (scalar_kind base)) = Some base
scalar_in (one_of (code_kind u)) = Some U8
scalar_in _ = None

abbrev pub number_in : Option Datum → ℤ
number_in (Some (a_number n)) = n
number_in _ = pos 0

abbrev pub number_of_datum : Datum → ℤ
number_of_datum d = number_in (Some d)

-- Slots of an alignment above a are laid, or also those of a.
abbrev pub above : LaidSchema → ℕ → Slot → Bool
above L a f = nat_lt a (inline_align L f.shape)

abbrev pub from : LaidSchema → ℕ → Slot → Bool
from L a f = nat_le a (inline_align L f.shape)

-- stored at an alignment
abbrev pub is_at : LaidSchema → ℕ → Slot → Option Datum → Bool
is_at L a f x = is_stored f x && (inline_align L f.shape == a)

-- what a slot takes that is stored at an alignment
abbrev pub size_if_at : LaidSchema → ℕ → Slot → Option Datum → ℕ
size_if_at L a f x = if is_at L a f x then inline_size L f.shape else 0

-- the alignment of a slot that is stored
abbrev pub align_if_stored : LaidSchema → Slot → Option Datum → ℕ
align_if_stored L f x = if is_stored f x then inline_align L f.shape else 0

-- what the fields take that are stored at an alignment
abbrev pub size_at : LaidSchema → ℕ → List Slot → List (Option Datum) → ℕ
size_at L a (f ∷ fs) (x ∷ xs) = size_if_at L a f x + size_at L a fs xs
size_at L a _ _ = 0

-- or above it
abbrev pub size_above : LaidSchema → ℕ → List Slot → List (Option Datum) → ℕ
size_above L a (f ∷ fs) (x ∷ xs) =
    (if is_stored f x && nat_lt a (inline_align L f.shape) then inline_size L f.shape else 0) + size_above L a fs xs
size_above L a _ _ = 0

-- what a slot stores whose entry is some value, where the entry after it has this code
abbrev pub entry_stored : LaidSchema → FieldInfo → Option ℕ → Option Value → Option Datum
entry_stored L f code e = stored_here (stored_shape L.schema f.shape) code (option_map view e)

-- whether a field is a union's code
abbrev pub is_coded : Shape → Bool
is_coded (One (Code u)) = true
is_coded _ = false

-- the entries of some values
abbrev pub entries_seen : List (Option Value) → List (Option Datum)
entries_seen es = map (option_map view) es

-- what the slots of some fields store, whose entries are some values
abbrev pub stored_seen : LaidSchema → List FieldInfo → List (Option Value) → List (Option Datum)
stored_seen L fs es = stored_in (slots_seen L fs) (entries_seen es)

-- a number in range, a code that isn't 0, a text, a table, a vector, or a member whose code the union has
abbrev pub SlotFits : LaidSchema → StoredShape → Datum → Type 0
SlotFits L (one_of (code_kind u)) (a_number n) = InRange U8 n × (n ≢ pos 0)
SlotFits L (one_of (union_kind u)) (an_unknown c) = ⊥
SlotFits L shape d = Fits L shape d

abbrev pub StoredFits : LaidSchema → Slot → Option Datum → Type 0
StoredFits L f None = Unit {0}
StoredFits L f (Some d) = (f.deprecated ≡ false) × SlotFits L f.shape d

-- Each slot's shape is one that a field has.
abbrev pub AreSimple : LaidSchema → List Slot → Type 0
AreSimple L fs = (k : ℕ) (f : Slot) → slice_get fs k ≡ Some f → IsSimple L f.shape

-- What each slot stores fits, and is aligned to the greatest alignment at most.
pub record AreKnown (L : LaidSchema) (fs : List Slot) (xs : List (Option Datum)) : Type 0 where
  pub long : length fs ≡ length xs
  pub each : (k : ℕ) (f : Slot) (x : Option Datum) → slice_get fs k ≡ Some f → slice_get xs k ≡ Some x
      → IsSimple L f.shape × StoredFits L f x
  pub low : (k : ℕ) (f : Slot) → slice_get fs k ≡ Some f → align_of L (kind_in f.shape) ≤ greatest L
  pub defaults : (k : ℕ) (f : Slot) (n : ℤ) → slice_get fs k ≡ Some f → f.if_absent ≡ Some n → HasDefault f

-- the bytes of all stored fields
abbrev pub fields_size : LaidSchema → List Slot → List (Option Datum) → ℕ
fields_size L (f ∷ fs) (x ∷ xs) = (if is_stored f x then inline_size L f.shape else 0) + fields_size L fs xs
fields_size L _ _ = 0

-- the greatest of the stored fields' alignments; 0 where there is none
abbrev pub stored_align : LaidSchema → List Slot → List (Option Datum) → ℕ
stored_align L (f ∷ fs) (x ∷ xs) = max (align_if_stored L f x) (stored_align L fs xs)
stored_align L _ _ = 0

-- the bytes of all stored fields, with what is padded before them
abbrev pub stored_room : LaidSchema → List Slot → List (Option Datum) → ℕ
stored_room L fs xs = (max 4 (stored_align L fs xs) - 1) + fields_size L fs xs

-- What a vector holds fits, and is of a kind that an element has.
pub record ItemsKnown (L : LaidSchema) (kind : StoredKind) (ds : List Datum) : Type 0 where
  pub element : IsElement L kind
  pub each : (k : ℕ) (d : Datum) → slice_get ds k ≡ Some d → SlotFits L (one_of kind) d
