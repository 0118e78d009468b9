-- Where each name in a JSON tree still stands for something in use in a new schema.
-- From the FlatBuffers documentation, "JSON parsing": members of objects are named after fields, and a union's `_type`
-- member names one of the union's members.
use Rattle.std.specs.Prelude.{ℕ, ◌≡◌, List, ◌∷◌, true, Option, Some, IfSome, is_some}
use Rattle.serde_json.specs.Data.{Data, string, array, object, Items, no_items, item, Members}
use Rattle.serde_json.specs.Data.{no_members}
use Rattle.serde_json.specs.Find.{get_member}
use Rattle.fb_schema.specs.declared.kinds.Kind.{Kind}
use Rattle.fb_schema.specs.declared.kinds.Kind.TheVariants.{Struct, Table, Union, Code}
use Rattle.fb_schema.specs.declared.kinds.Shape.{Shape}
use Rattle.fb_schema.specs.declared.kinds.Shape.TheVariants.{One, Many}
use Rattle.fb_schema.specs.Schema.{DeclaredField, body_at, slots_in, parts_in}
use Rattle.fb_schema.specs.Paths.{code_by_path}
use Rattle.fb_layout.specs.Laid.{LaidSchema, member_by_code}
use Rattle.fb_value.specs.Datum.{Datum, a_vector, a_struct, a_table, a_member, Parts, more_parts, SlotEntries}
use Rattle.fb_value.specs.Datum.{absent_entry, present_entry}
use Rattle.fb_json.specs.Meant.{names_known}
use Rattle.fb_json.specs.Means.{member_called}
use Rattle.fb_conform.specs.Twins.{to_new}

-- the members of an object
abbrev pub members_of : Data → Members
members_of (object ms) = ms
members_of _ = no_members

-- the elements of an array
abbrev pub elements_of : Data → Items
elements_of (array ts) = ts
elements_of _ = no_items

-- each member of an object has the name of a field in use of the new type
abbrev pub FieldsStay : LaidSchema → LaidSchema → Data → ℕ → Type 0
FieldsStay A B t type = names_known (body_at B.schema (to_new A B type)) (members_of t) ≡ true

-- a text that tells a union's code names a member of the new union
abbrev pub CodeStays : LaidSchema → LaidSchema → Shape → Option Data → Type 0
CodeStays A B (One (Code u)) (Some (string s)) = is_some (code_by_path B.schema (to_new A B u.0) s) ≡ true
CodeStays A B _ _ = Unit {0}

-- Where the tree means the value under the old schema, each of its names still stands for a field in use or a member.
abbrev mutual
  pub NamesStay : LaidSchema → LaidSchema → Data → Shape → Datum → Type 0
  NamesStay A B t (One (Struct s)) (a_struct ds) = FieldsStay A B t s.0
      × PartsStay A B (members_of t) (parts_in (body_at A.schema s.0)) ds
  NamesStay A B t (One (Table id)) (a_table type es) = FieldsStay A B t id.0
      × SlotsStay A B (members_of t) (slots_in (body_at A.schema id.0)) es
  NamesStay A B t (One (Union u)) (a_member c d) = IfSome (member_by_code A u.0 c)
      (λ table. NamesStay A B t (One (Table (record { 0 = table }))) d)
  NamesStay A B t (Many kind) (a_vector ds) = EachStays A B (elements_of t) kind ds
  NamesStay A B t _ _ = Unit {0}

  pub PartsStay : LaidSchema → LaidSchema → Members → List DeclaredField → Parts → Type 0
  PartsStay A B ms (f ∷ fs) (more_parts d ds) = IfSome (get_member f.name ms) (λ t. NamesStay A B t f.shape d)
      × PartsStay A B ms fs ds
  PartsStay A B ms _ _ = Unit {0}

  pub EachStays : LaidSchema → LaidSchema → Items → Kind → Parts → Type 0
  EachStays A B (item t ts) kind (more_parts d ds) = NamesStay A B t (One kind) d × EachStays A B ts kind ds
  EachStays A B _ kind _ = Unit {0}

  pub SlotsStay : LaidSchema → LaidSchema → Members → List DeclaredField → SlotEntries → Type 0
  SlotsStay A B ms (f ∷ fs) (absent_entry es) = CodeStays A B f.shape (get_member f.name ms) × SlotsStay A B ms fs es
  SlotsStay A B ms (f ∷ fs) (present_entry d es) =
      IfSome (member_called f.name ms) (λ t. NamesStay A B t f.shape d) × SlotsStay A B ms fs es
  SlotsStay A B ms _ _ = Unit {0}
