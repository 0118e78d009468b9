-- Which value a JSON tree means under a type.
-- From the FlatBuffers documentation, "JSON parsing". An object is a finite map from names to trees.
use Rattle.std.specs.Prelude.{ℕ, zero, suc, ◌≡◌, ◌≤◌, ◌||◌, List, [], ◌∷◌, Bool, true, false, ℤ, pos, Option, None}
use Rattle.std.specs.Prelude.{Some, is_some, if◌then◌else◌}
use Rattle.serde_json.specs.Data.{Data, null, boolean, number, string, array, object, Items, no_items, item, Members}
use Rattle.serde_json.specs.Find.{as_integer, get_member}
use Rattle.fb_schema.specs.declared.kinds.Base.{Base}
use Rattle.fb_schema.specs.declared.kinds.Base.TheVariants.{Bool as Boolean}
use Rattle.fb_schema.specs.declared.kinds.Kind.{Kind}
use Rattle.fb_schema.specs.declared.kinds.Kind.TheVariants.{Scalar, Enum, Struct, Table, Union, Code, Text}
use Rattle.fb_schema.specs.declared.kinds.Shape.{Shape}
use Rattle.fb_schema.specs.declared.kinds.Shape.TheVariants.{One, Many}
use Rattle.fb_schema.specs.Schema.{Name, DeclaredField, DeclaredSchema, body_at, base_in, slots_in, parts_in}
use Rattle.fb_schema.specs.Found.{member_coded}
use Rattle.fb_schema.specs.Paths.{code_by_path}
use Rattle.fb_schema.specs.WellDeclared.{InRange}
use Rattle.fb_layout.specs.Laid.{LaidSchema, Slot, slot_of, member_by_code}
use Rattle.fb_value.specs.Bounds.{Bounds}
use Rattle.fb_value.specs.Counts.{cells, depth}
use Rattle.fb_value.specs.Datum.{Datum, a_number, a_text, a_vector, a_struct, a_table, a_member, Parts, no_parts}
use Rattle.fb_value.specs.Datum.{more_parts, SlotEntries, no_entries, absent_entry, present_entry}
use Rattle.fb_json.specs.Flags.{number_told}
use Rattle.fb_json.specs.Meant.{names_known}

-- ---- numbers

abbrev pub ScalarMeans : Base → Data → ℤ → Type 0
ScalarMeans base (number x) n = (as_integer x ≡ Some n) × InRange base n
ScalarMeans Boolean (boolean b) n = n ≡ (if b then pos 1 else pos 0)
ScalarMeans _ _ n = ⊥

-- a number of the underlying type, or a text that names one
abbrev pub EnumMeans : DeclaredSchema → ℕ → Data → ℤ → Type 0
EnumMeans S e (number x) n = (as_integer x ≡ Some n) × InRange (base_in (body_at S e)) n
EnumMeans S e (string s) n = number_told S e s ≡ Some n
EnumMeans S e _ n = ⊥

-- ---- unions

-- a union's code, as its `_type` member tells it: 0 where there is none
abbrev pub CodeMeans : DeclaredSchema → ℕ → Option Data → ℕ → Type 0
CodeMeans S u None c = c ≡ 0
CodeMeans S u (Some null) c = c ≡ 0
CodeMeans S u (Some (number x)) zero = as_integer x ≡ Some (pos 0)
CodeMeans S u (Some (number x)) (suc c) = (as_integer x ≡ Some (pos (suc c))) × (suc c ≤ 255)
    × (is_some (member_coded (body_at S u) (suc c)) ≡ true)
CodeMeans S u (Some (string s)) c = code_by_path S u s ≡ Some c
CodeMeans S u (Some _) c = ⊥

-- the code that is told at a slot, or was told at the slot before
abbrev pub CodeAt : DeclaredSchema → Members → DeclaredField → Bool → Shape → ℕ → ℕ → Type 0
CodeAt S ms f false (One (Code u)) before c = CodeMeans S u.0 (get_member f.name ms) c
CodeAt S ms f _ _ before c = c ≡ before

-- ---- members

-- `null` is as if the member weren't there
abbrev pub unless_null : Option Data → Option Data
unless_null (Some null) = None
unless_null o = o

abbrev pub member_called : Name → Members → Option Data
member_called name ms = unless_null (get_member name ms)

-- each member has the name of a field in use, unless any name is let through
abbrev pub IsKnown : LaidSchema → Bool → ℕ → Members → Type 0
IsKnown L unknown t ms = (unknown || names_known (body_at L.schema t) ms) ≡ true

-- a union has a member exactly where its code isn't 0; all else may be absent where it has no default and isn't
-- required
abbrev pub AbsentMeans : LaidSchema → DeclaredField → ℕ → Option Data → Shape → Type 0
AbsentMeans L f c o (One (Code u)) = Unit {0}
AbsentMeans L f c o (One (Union u)) = (c ≡ 0) × (o ≡ None) × ((slot_of L.schema f).if_absent ≡ None)
    × ((slot_of L.schema f).required ≡ false)
AbsentMeans L f c o _ = (o ≡ None) × ((slot_of L.schema f).if_absent ≡ None) × ((slot_of L.schema f).required ≡ false)

abbrev pub AbsentAt : LaidSchema → DeclaredField → ℕ → Option Data → Bool → Type 0
AbsentAt L f c o true = Unit {0}
AbsentAt L f c o false = AbsentMeans L f c o f.shape

-- A union's member stands under its code, and nothing at the code's own slot.
abbrev pub PresentAs : Shape → Type 0 → (ℕ → Type 0) → Type 0
PresentAs (One (Code u)) Own Member = ⊥
PresentAs (One (Union u)) Own Member = Member u.0
PresentAs _ Own Member = Own

-- what a member means, or the default where there is none
abbrev pub PresentMeans : Slot → Shape → Option Data → Datum → (Data → Type 0) → (Data → ℕ → Type 0) → Type 0
PresentMeans s shape (Some t) d own member = PresentAs shape (own t) (member t)
PresentMeans s shape None d own member = (n : ℤ) × (s.if_absent ≡ Some n) × (d ≡ a_number n)

abbrev mutual
  pub MeansAs : LaidSchema → Bool → Data → Shape → Datum → Type 0
  MeansAs L unknown t (One (Scalar base)) (a_number n) = ScalarMeans base t n
  MeansAs L unknown t (One (Enum e)) (a_number n) = EnumMeans L.schema e.0 t n
  MeansAs L unknown t (One Text) (a_text bytes) = t ≡ string bytes
  MeansAs L unknown t (One (Struct s)) (a_struct ds) = (ms : Members) × (t ≡ object ms) × IsKnown L unknown s.0 ms
      × PartsMean L unknown ms (parts_in (body_at L.schema s.0)) ds
  MeansAs L unknown t (One (Table id)) (a_table type es) = (ms : Members) × (t ≡ object ms) × (type ≡ id.0)
      × IsKnown L unknown type ms × SlotsMean L unknown ms 0 (slots_in (body_at L.schema type)) es
  MeansAs L unknown t (Many kind) (a_vector ds) = (ts : Items) × (t ≡ array ts) × EachMeans L unknown ts kind ds
  MeansAs L unknown t _ _ = ⊥

  -- a union's member, of the table that its code names
  pub MemberMeans : LaidSchema → Bool → Data → ℕ → ℕ → Datum → Type 0
  MemberMeans L unknown t u c (a_member k d) =
      (k ≡ c) × ((table : ℕ) × (member_by_code L u c ≡ Some table)
      × MeansAs L unknown t (One (Table (record { 0 = table }))) d)
  MemberMeans L unknown t u c _ = ⊥

  -- one value for each field
  pub PartsMean : LaidSchema → Bool → Members → List DeclaredField → Parts → Type 0
  PartsMean L unknown ms [] no_parts = Unit {0}
  PartsMean L unknown ms (f ∷ fs) (more_parts d ds) = (t : Data) × (get_member f.name ms ≡ Some t)
      × MeansAs L unknown t f.shape d × PartsMean L unknown ms fs ds
  PartsMean L unknown ms _ _ = ⊥

  -- one value for each element
  pub EachMeans : LaidSchema → Bool → Items → Kind → Parts → Type 0
  EachMeans L unknown no_items kind no_parts = Unit {0}
  EachMeans L unknown (item t ts) kind (more_parts d ds) = MeansAs L unknown t (One kind) d
      × EachMeans L unknown ts kind ds
  EachMeans L unknown _ kind _ = ⊥

  -- one entry for each slot, after the code that was told last
  pub SlotsMean : LaidSchema → Bool → Members → ℕ → List DeclaredField → SlotEntries → Type 0
  SlotsMean L unknown ms before [] no_entries = Unit {0}
  SlotsMean L unknown ms before (f ∷ fs) (absent_entry es) =
      (c : ℕ) × CodeAt L.schema ms f f.deprecated f.shape before c × AbsentAt L f c (member_called f.name ms)
      f.deprecated × SlotsMean L unknown ms c fs es
  SlotsMean L unknown ms before (f ∷ fs) (present_entry d es) =
      (c : ℕ) × CodeAt L.schema ms f f.deprecated f.shape before c × (f.deprecated ≡ false)
      × PresentMeans (slot_of L.schema f) f.shape (member_called f.name ms) d (λ t. MeansAs L unknown t f.shape d)
      (λ t u. MemberMeans L unknown t u c d) × SlotsMean L unknown ms c fs es
  SlotsMean L unknown ms before _ _ = ⊥

-- The tree means the value as one of the root table, within the limits.
abbrev pub Means : LaidSchema → Bounds → Bool → Data → Datum → Type 0
Means L most unknown t d = MeansAs L unknown t (One (Table (record { 0 = L.schema.root }))) d × (depth d ≤ most.depth)
    × (cells d ≤ most.cells)
