-- A layout as contracts see it: a schema, and beside it what each struct takes.
-- From the FlatBuffers documentation, "FlatBuffer Internals": Structs, Tables, Vectors, Unions.
use Rattle.std.specs.Prelude.{ℕ, List, [], Bool, false, not, ◌&&◌, ◌||◌, ℤ, Option, None, Some, map, slice_index_or}
use Rattle.fb_schema.specs.declared.kinds.Base.{Base}
use Rattle.fb_schema.specs.declared.kinds.Kind.{Kind}
use Rattle.fb_schema.specs.declared.kinds.Kind.TheVariants.{Scalar, Enum, Struct, Table, Union, Code, Text}
use Rattle.fb_schema.specs.declared.kinds.Shape.{Shape}
use Rattle.fb_schema.specs.declared.kinds.Shape.TheVariants.{One, Many}
use Rattle.fb_schema.specs.Schema.{DeclaredField, DeclaredSchema, body_at, slots_in, parts_in, base_in}
use Rattle.fb_schema.specs.Found.{member_coded}
use Rattle.fb_schema.specs.Alignments.{base_size}

-- what a struct takes: its size and alignment in bytes, and where its fields stand
pub record StructLayout : Type 0 where
  pub size : ℕ
  pub align : ℕ
  pub offsets : List ℕ

-- a schema, and one entry for each of its types, which counts where the type is a struct
pub record LaidSchema : Type 0 where
  pub schema : DeclaredSchema
  pub structs : List StructLayout

-- what is stored for a kind: an enum is its underlying type
pub data StoredKind : Type 0 where
  scalar_kind : Base → StoredKind
  struct_kind : ℕ → StoredKind
  table_kind : ℕ → StoredKind
  union_kind : ℕ → StoredKind
  code_kind : ℕ → StoredKind
  text_kind : StoredKind

pub data StoredShape : Type 0 where
  one_of : StoredKind → StoredShape
  vector_of : StoredKind → StoredShape

-- a slot of a table, its marks as they count
pub record Slot : Type 0 where
  pub shape : StoredShape
  -- the number that the slot has where nothing is stored, if it has one
  pub if_absent : Option ℤ
  -- `required`, and not `deprecated`
  pub required : Bool
  pub deprecated : Bool

abbrev pub stored_kind : DeclaredSchema → Kind → StoredKind
stored_kind S (Scalar base) = scalar_kind base
stored_kind S (Enum e) = scalar_kind (base_in (body_at S e.0))
stored_kind S (Struct s) = struct_kind s.0
stored_kind S (Table t) = table_kind t.0
stored_kind S (Union u) = union_kind u.0
stored_kind S (Code u) = code_kind u.0
stored_kind S Text = text_kind

abbrev pub stored_shape : DeclaredSchema → Shape → StoredShape
stored_shape S (One kind) = one_of (stored_kind S kind)
stored_shape S (Many kind) = vector_of (stored_kind S kind)

-- A number has its default; an optional one has none, nor has a deprecated slot or anything else.
abbrev pub default_of : Bool → ℤ → StoredShape → Option ℤ
default_of false n (one_of (scalar_kind base)) = Some n
default_of _ n _ = None

abbrev pub slot_of : DeclaredSchema → DeclaredField → Slot
slot_of S f = record {
  shape = stored_shape S f.shape;
  if_absent = default_of (f.deprecated || f.optional) f.default (stored_shape S f.shape);
  required = f.required && not f.deprecated;
  deprecated = f.deprecated;
}

-- the slots of the table of a number
abbrev pub slots_of : LaidSchema → ℕ → List Slot
slots_of L t = map (slot_of L.schema) (slots_in (body_at L.schema t))

abbrev pub kind_in : StoredShape → StoredKind
kind_in (one_of kind) = kind
kind_in (vector_of kind) = kind

-- the kinds of some fields
abbrev pub kinds_of : DeclaredSchema → List DeclaredField → List StoredKind
kinds_of S fs = map (λ f. kind_in (stored_shape S f.shape)) fs

-- the kinds of a struct's fields
abbrev pub parts_of : LaidSchema → ℕ → List StoredKind
parts_of L s = kinds_of L.schema (parts_in (body_at L.schema s))

abbrev pub no_struct : StructLayout
no_struct = record { size = 0; align = 1; offsets = [] }

abbrev pub struct_at : LaidSchema → ℕ → StructLayout
struct_at L s = slice_index_or L.structs s no_struct

-- A string, a table and a union's value are stored as references of 4 bytes.
abbrev pub size_of : LaidSchema → StoredKind → ℕ
size_of L (scalar_kind base) = base_size base
size_of L (struct_kind s) = (struct_at L s).size
size_of L (table_kind t) = 4
size_of L (union_kind u) = 4
size_of L (code_kind u) = 1
size_of L text_kind = 4

abbrev pub align_of : LaidSchema → StoredKind → ℕ
align_of L (scalar_kind base) = base_size base
align_of L (struct_kind s) = (struct_at L s).align
align_of L (table_kind t) = 4
align_of L (union_kind u) = 4
align_of L (code_kind u) = 1
align_of L text_kind = 4

-- the table that a union's code names, if it names one: 0 is `NONE`
abbrev pub member_by_code : LaidSchema → ℕ → ℕ → Option ℕ
member_by_code L u c = member_coded (body_at L.schema u) c
