-- Which rule a JSON tree breaks, and at which declared place.
-- From the FlatBuffers documentation, "JSON parsing".
use Rattle.std.specs.Prelude.{ℕ, zero, suc, ◌≡◌, ◌≢◌, List, [], ◌∷◌, Bool, true, false, ℤ, pos, Option, None, Some}
use Rattle.std.specs.Prelude.{slice_get}
use Rattle.serde_json.specs.Data.{Data, boolean, number, string, array, object, Items, Members}
use Rattle.serde_json.specs.Find.{as_integer, get_member, get_item}
use Rattle.fb_schema.specs.declared.kinds.Base.{Base}
use Rattle.fb_schema.specs.declared.kinds.Base.TheVariants.{Bool as Boolean, U8}
use Rattle.fb_schema.specs.declared.kinds.TypeId.{TypeId}
use Rattle.fb_schema.specs.declared.kinds.Kind.{Kind}
use Rattle.fb_schema.specs.declared.kinds.Kind.TheVariants.{Scalar, Enum, Struct, Table, Union, Code, Text}
use Rattle.fb_schema.specs.declared.kinds.Shape.{Shape}
use Rattle.fb_schema.specs.declared.kinds.Shape.TheVariants.{One, Many}
use Rattle.fb_schema.specs.Schema.{DeclaredField, DeclaredSchema, body_at, base_in, slots_in, parts_in}
use Rattle.fb_schema.specs.Found.{member_coded}
use Rattle.fb_schema.specs.Paths.{code_by_path}
use Rattle.fb_schema.specs.WellDeclared.{InRange}
use Rattle.fb_layout.specs.Laid.{LaidSchema, slot_of, member_by_code}
use Rattle.fb_json.specs.declared.faults.Place.{Place}
use Rattle.fb_json.specs.declared.faults.JsonFault.{JsonFault}
use Rattle.fb_json.specs.declared.faults.JsonFault.TheVariants.{WrongShape, NotWhole, OutOfRange, UnknownName}
use Rattle.fb_json.specs.declared.faults.JsonFault.TheVariants.{UnknownMember, MissingMember, MissingRequired}
use Rattle.fb_json.specs.declared.faults.JsonFault.TheVariants.{UnionMismatch}
use Rattle.fb_json.specs.Meant.{type_place, slot_place, names_known}
use Rattle.fb_json.specs.Flags.{number_told}
use Rattle.fb_json.specs.Means.{CodeAt, member_called}

-- ---- trees without members and elements

-- whether a tree may be of a shape at all
abbrev pub may_be : Data → Shape → Bool
may_be (boolean b) (One (Scalar Boolean)) = true
may_be (number x) (One (Scalar base)) = true
may_be (number x) (One (Enum e)) = true
may_be (string s) (One (Enum e)) = true
may_be (string s) (One Text) = true
may_be (array ts) (Many kind) = true
may_be (object ms) (One (Struct s)) = true
may_be (object ms) (One (Table t)) = true
may_be _ _ = false

-- the basic type that a number is read as
abbrev pub base_of : DeclaredSchema → Shape → Option Base
base_of S (One (Scalar base)) = Some base
base_of S (One (Enum e)) = Some (base_in (body_at S e.0))
base_of S _ = None

abbrev pub IsNoWhole : Data → Type 0
IsNoWhole (number x) = as_integer x ≡ None
IsNoWhole _ = ⊥

abbrev pub IsOutside : Base → Data → Type 0
IsOutside base (number x) = (n : ℤ) × (as_integer x ≡ Some n) × ¬ InRange base n
IsOutside base _ = ⊥

-- a text that names no number of an enum
abbrev pub NamesNothing : DeclaredSchema → Shape → Data → Type 0
NamesNothing S (One (Enum e)) (string s) = number_told S e.0 s ≡ None
NamesNothing S _ _ = ⊥

-- the rule that a tree itself breaks
abbrev pub OwnBreaks : DeclaredSchema → Data → Shape → Place → JsonFault → Type 0
OwnBreaks S t shape at (WrongShape p) = (p ≡ at) × (may_be t shape ≡ false)
OwnBreaks S t shape at (NotWhole p) = (p ≡ at) × ((base : Base) × (base_of S shape ≡ Some base) × IsNoWhole t)
OwnBreaks S t shape at (OutOfRange p) = (p ≡ at) × ((base : Base) × (base_of S shape ≡ Some base) × IsOutside base t)
OwnBreaks S t shape at (UnknownName p) = (p ≡ at) × NamesNothing S shape t
OwnBreaks S t shape at _ = ⊥

-- ---- slots

-- the rule that a union's `_type` member breaks
abbrev pub ToldBreaks : DeclaredSchema → ℕ → Data → Place → JsonFault → Type 0
ToldBreaks S u (number x) at (WrongShape p) = (p ≡ at) × (as_integer x ≡ None)
ToldBreaks S u (number x) at (OutOfRange p) = (p ≡ at) × ((n : ℤ) × (as_integer x ≡ Some n) × ¬ InRange U8 n)
ToldBreaks S u (number x) at (UnknownName p) =
    (p ≡ at) × ((c : ℕ) × (as_integer x ≡ Some (pos (suc c))) × (member_coded (body_at S u) (suc c) ≡ None))
ToldBreaks S u (string s) at (UnknownName p) = (p ≡ at) × (code_by_path S u s ≡ None)
ToldBreaks S u (boolean b) at (WrongShape p) = p ≡ at
ToldBreaks S u (array ts) at (WrongShape p) = p ≡ at
ToldBreaks S u (object ms) at (WrongShape p) = p ≡ at
ToldBreaks S u _ at _ = ⊥

-- the code that is told after slot k, where one was told before these slots
abbrev pub ToldBehind : DeclaredSchema → Members → ℕ → List DeclaredField → ℕ → ℕ → Type 0
ToldBehind S ms before [] k c = ⊥
ToldBehind S ms before (f ∷ fs) zero c = CodeAt S ms f f.deprecated f.shape before c
ToldBehind S ms before (f ∷ fs) (suc k) c = (b : ℕ) × CodeAt S ms f f.deprecated f.shape before b
    × ToldBehind S ms b fs k c

-- a union's member is missing only where no code is told: another code without a member is a mismatch
abbrev pub HasNoCode : Shape → ℕ → Type 0
HasNoCode (One (Union u)) c = c ≡ 0
HasNoCode _ c = Unit {0}

-- the rule that a slot breaks by its member's being there or not
abbrev pub EntryBreaks : LaidSchema → DeclaredField → ℕ → Option Data → Place → JsonFault → Type 0
EntryBreaks L f c o at (MissingRequired p) = (p ≡ at) × (o ≡ None) × ((slot_of L.schema f).required ≡ true)
    × HasNoCode f.shape c
EntryBreaks L f c None at (UnionMismatch p) = (p ≡ at) × ((u : TypeId) × (f.shape ≡ One (Union u)) × (c ≢ 0))
EntryBreaks L f c (Some t) at (UnionMismatch p) =
    (p ≡ at) × ((u : TypeId) × (f.shape ≡ One (Union u)) × (member_by_code L u.0 c ≡ None))
EntryBreaks L f c o at _ = ⊥

-- a shape whose member is a value of its own
abbrev pub is_own : Shape → Bool
is_own (One (Code u)) = false
is_own (One (Union u)) = false
is_own _ = true

-- ---- trees

abbrev pub slots_at : LaidSchema → TypeId → List DeclaredField
slots_at L id = slots_in (body_at L.schema id.0)

abbrev pub parts_at : LaidSchema → TypeId → List DeclaredField
parts_at L id = parts_in (body_at L.schema id.0)

-- a slot in use
pub record IsSlot (L : LaidSchema) (id : TypeId) (k : ℕ) (f : DeclaredField) : Type 0 where
  pub stands : slice_get (slots_at L id) k ≡ Some f
  pub used : f.deprecated ≡ false

pub data Breaks (L : LaidSchema) (unknown : Bool) : Data → Shape → Place → JsonFault → Type 0 where
  here : (t : Data) (shape : Shape) (at : Place) (f : JsonFault) → OwnBreaks L.schema t shape at f
      → Breaks L unknown t shape at f
  unknown_in_table : (ms : Members) (id : TypeId) (at : Place) → unknown ≡ false
      → names_known (body_at L.schema id.0) ms ≡ false
      → Breaks L unknown (object ms) (One (Table id)) at (UnknownMember (type_place id.0))
  unknown_in_struct : (ms : Members) (id : TypeId) (at : Place) → unknown ≡ false
      → names_known (body_at L.schema id.0) ms ≡ false
      → Breaks L unknown (object ms) (One (Struct id)) at (UnknownMember (type_place id.0))
  in_code : (ms : Members) (id : TypeId) (at : Place) (k : ℕ) (s : DeclaredField) (u : TypeId) (t : Data)
      (f : JsonFault) → IsSlot L id k s → s.shape ≡ One (Code u) → get_member s.name ms ≡ Some t
      → ToldBreaks L.schema u.0 t (slot_place id.0 k) f → Breaks L unknown (object ms) (One (Table id)) at f
  in_entry : (ms : Members) (id : TypeId) (at : Place) (k : ℕ) (s : DeclaredField) (c : ℕ) (f : JsonFault)
      → IsSlot L id k s → ToldBehind L.schema ms 0 (slots_at L id) k c
      → EntryBreaks L s c (member_called s.name ms) (slot_place id.0 k) f
      → Breaks L unknown (object ms) (One (Table id)) at f
  in_slot : (ms : Members) (id : TypeId) (at : Place) (k : ℕ) (s : DeclaredField) (t : Data) (f : JsonFault)
      → IsSlot L id k s → is_own s.shape ≡ true → member_called s.name ms ≡ Some t
      → Breaks L unknown t s.shape (slot_place id.0 k) f → Breaks L unknown (object ms) (One (Table id)) at f
  in_member : (ms : Members) (id : TypeId) (at : Place) (k : ℕ) (s : DeclaredField) (u : TypeId) (c table : ℕ)
      (t : Data) (f : JsonFault) → IsSlot L id k s → s.shape ≡ One (Union u)
      → ToldBehind L.schema ms 0 (slots_at L id) k c → member_by_code L u.0 c ≡ Some table
      → member_called s.name ms ≡ Some t → Breaks L unknown t (One (Table (record { 0 = table }))) (slot_place id.0 k) f
      → Breaks L unknown (object ms) (One (Table id)) at f
  missing_part : (ms : Members) (id : TypeId) (at : Place) (k : ℕ) (s : DeclaredField)
      → slice_get (parts_at L id) k ≡ Some s → get_member s.name ms ≡ None
      → Breaks L unknown (object ms) (One (Struct id)) at (MissingMember (slot_place id.0 k))
  in_part : (ms : Members) (id : TypeId) (at : Place) (k : ℕ) (s : DeclaredField) (t : Data) (f : JsonFault)
      → slice_get (parts_at L id) k ≡ Some s → get_member s.name ms ≡ Some t
      → Breaks L unknown t s.shape (slot_place id.0 k) f → Breaks L unknown (object ms) (One (Struct id)) at f
  in_element : (ts : Items) (kind : Kind) (at : Place) (i : ℕ) (t : Data) (f : JsonFault) → get_item i ts ≡ Some t
      → Breaks L unknown t (One kind) at f → Breaks L unknown (array ts) (Many kind) at f
