-- What a tree adds to a tape while it is read: the value that it gives waits there, and its cells are spent.
use Rattle.std.specs.Prelude.{ℕ, ◌≡◌, ◌≤◌, ◌++◌, ◌∷◌, [], true, Bool, List, Option, None, Some, Ok, Err, length}
use Rattle.std.specs.Prelude.{slice_get}
use Rattle.std.specs.Prelude.{if◌then◌else◌}
use Rattle.serde_json.specs.Data.{Data}
use Rattle.fb_schema.specs.Schema.{DeclaredField}
use Rattle.fb_layout.specs.Laid.{LaidSchema, Slot, StoredKind, StoredShape, align_of, one_of, slots_of, vector_of}
use Rattle.fb_layout.specs.Widths.{greatest}
use Rattle.fb_value.specs.Counts.{is_whole}
use Rattle.fb_value.specs.Datum.{Datum, a_vector}
use Rattle.fb_value.specs.Entries.{EntryFits, entry_room}
use Rattle.fb_value.specs.Fits.{Fits}
use Rattle.fb_value.specs.Room.{room, parts_room}
use Rattle.fb_value.specs.View.{parts_in}
use Rattle.fb_tape.specs.NamedParts.{NamedPart, apart_of, as_list, elements_apart, entry_apart}
use Rattle.fb_tape.specs.OpenFields.{OpenField}
use Rattle.fb_tape.specs.Tapes.{IsUnfinished, Taped, Waits}
use Rattle.fb_json.specs.declared.faults.Place.{Place}
use Rattle.fb_json.specs.Meant.{Meaner, meant, unless_null, used_meant}
use Rattle.fb_json.specs.Outcome.{Counted}
use Rattle.fb_build.specs.OneByOne.{EachElementFits}
use Rattle.fb_build.specs.Fields.{IsElement, is_reference}
use Rattle.fb_build.specs.Noted.{AddsFields, AddsParts}
use Rattle.fb_build.specs.Parts.{EntryWhole}

-- The value that is given waits after what waited, and so many cells are left.
pub record IsNoted (L : LaidSchema) (shape : StoredShape) (given : Counted Datum) (a b : Taped) (rest : ℕ) : Type 0
  where
    pub value : Datum
    pub given_is : given ≡ Ok (value, rest)
    pub fits : Fits L shape value
    pub whole : is_whole value ≡ true
    pub adds : AddsParts a b (as_list (apart_of shape value)) (room L shape value)

-- The entry that slot k is given: what its reference names waits, and its fields are open.
pub record IsEntryNoted (L : LaidSchema) (k : ℕ) (f : Slot) (given : Counted (Option Datum)) (a b : Taped)
    (before now : List OpenField) (rest : ℕ) : Type 0 where
  pub entry : Option Datum
  pub given_is : given ≡ Ok (entry, rest)
  pub fits : EntryFits L f entry
  pub whole : EntryWhole entry
  pub adds : AddsParts a b (as_list (entry_apart f entry)) (entry_room L f entry)
  pub fields : AddsFields L k f entry before now

-- The values that a vector's elements are given are on the tape in this way, and so many cells are left.
pub record AreElementsAdded (L : LaidSchema) (kind : StoredKind) (AddsAll : Taped → Taped → List Datum → Type 0)
    (given : Counted (List Datum)) (count : ℕ) (a b : Taped) (rest : ℕ) : Type 0 where
  pub elements : List Datum
  pub given_is : given ≡ Ok (elements, rest)
  pub count_is : length elements ≡ count
  pub fits : EachElementFits L kind elements
  pub adds : AddsAll a b elements

-- What these elements name waits, one after the other.
abbrev pub AddsTargets : LaidSchema → StoredKind → Taped → Taped → List Datum → Type 0
AddsTargets L kind a b ds = AddsParts a b (elements_apart kind ds) (parts_room L kind (parts_in ds))

-- What the values name that a vector's elements are given waits.
abbrev pub AreElementsNoted : LaidSchema → StoredKind → Counted (List Datum) → ℕ → Taped → Taped → ℕ → Type 0
AreElementsNoted L kind given count a b rest = AreElementsAdded L kind (AddsTargets L kind) given count a b rest

-- These numbers or structs follow those of the vector that isn't finished, and what waited waits.
pub record AddsInline (L : LaidSchema) (kind : StoredKind) (a b : Taped) (ds : List Datum) : Type 0 where
  pub unfinished : (count : ℕ) (before : List Datum) → IsUnfinished L kind count before a.unfinished
      → IsUnfinished L kind count (before ++ ds) b.unfinished
  pub waits : (others : List NamedPart) → Waits a others → Waits b others
  pub room : b.room ≡ a.room
  pub layout : b.layout ≡ a.layout

-- The number or struct that is given follows those of the vector, and so many cells are left.
pub record IsElementAdded (L : LaidSchema) (kind : StoredKind) (given : Counted Datum) (a b : Taped) (rest : ℕ) : Type 0
  where
    pub value : Datum
    pub given_is : given ≡ Ok (value, rest)
    pub fits : Fits L (one_of kind) value
    pub whole : is_whole value ≡ true
    pub adds : AddsInline L kind a b (value ∷ [])

-- what the member of a slot gives, if it has one that isn't null
abbrev pub member_meant : LaidSchema → Bool → Option Data → Option Meaner
member_meant L unknown None = None
member_meant L unknown (Some t) = unless_null t (meant L unknown t)

-- the entry of a slot by its member
abbrev pub entry_given : LaidSchema → Bool → DeclaredField → Option Data → Place → ℕ → ℕ → ℕ → Counted (Option Datum)
entry_given L unknown f o at code levels left = if f.deprecated then Ok (None, left)
    else used_meant L f code (member_meant L unknown o) at levels left f.shape

-- The shapes of what a reference names, but for a union's value.
abbrev pub IsPart : LaidSchema → StoredShape → Type 0
IsPart L (one_of kind) = IsElement L kind × (is_reference (one_of kind) ≡ true)
IsPart L (vector_of kind) = IsElement L kind × (align_of L kind ≤ greatest L)

-- slot k of a table
abbrev pub IsSlot : LaidSchema → ℕ → ℕ → Slot → Type 0
IsSlot L t k f = slice_get (slots_of L t) k ≡ Some f

-- the vector of what its elements give
abbrev pub vector_given : Counted (List Datum) → Counted Datum
vector_given (Ok xs) = Ok (a_vector (parts_in xs.0), xs.1)
vector_given (Err e) = Err e
