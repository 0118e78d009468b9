-- The slots that a field of a table takes.
-- From the FlatBuffers documentation, "Writing a schema": Tables, Unions, Attributes (`required`, `deprecated`).
use Rattle.std.specs.Prelude.{ℕ, ◌+◌, ◌≡◌, ◌++◌, Bool, true, false, List, [], ◌∷◌, length}
use Rattle.std.specs.Prelude.{Option, None, Some, ℤ, pos, codes, string_bytes, IfSome}
use Rattle.std.specs.Option.{option_map}
use Rattle.fb_syntax.specs.FieldRead.{FieldRead}
use Rattle.fb_syntax.specs.declared.declarations.FieldType.{FieldType}
use Rattle.fb_syntax.specs.declared.declarations.FieldType.TheVariants as types_read
use Rattle.fb_schema.specs.Schema.{Name, DeclaredField}
use Rattle.fb_resolve.specs.ResolvedFields.{ResolvedField}
use Rattle.fb_schema.specs.declared.kinds.TypeId.{TypeId}
use Rattle.fb_schema.specs.declared.kinds.Kind.{Kind}
use Rattle.fb_schema.specs.declared.kinds.Kind.TheVariants.{Union, Code, Text}
use Rattle.fb_schema.specs.declared.kinds.Shape.{Shape}
use Rattle.fb_schema.specs.declared.kinds.Shape.TheVariants.{One, Many}
use Rattle.fb_resolve.specs.declared.meanings.Meaning.{Meaning}
use Rattle.fb_resolve.specs.declared.meanings.Meaning.TheVariants.{Known}
use Rattle.fb_resolve.specs.declared.defaults.Given.{Given}
use Rattle.fb_resolve.specs.declared.defaults.Given.TheVariants.{Number, Null}
use Rattle.fb_resolve.specs.declared.resolved.UnionCodeSlot.{UnionCodeSlot}

-- the union of a union's use
abbrev pub union_of : FieldType → Meaning → Option TypeId
union_of (types_read.One n) (Known (Union u)) = Some u
union_of _ _ = None

abbrev pub union_in : ResolvedField → Option TypeId
union_in r = union_of r.field.kind r.meaning

-- a type at fault stands as a text
abbrev pub kind_or_text : Meaning → Kind
kind_or_text (Known kind) = kind
kind_or_text _ = Text

abbrev pub shape_of : FieldType → Meaning → Shape
shape_of (types_read.One n) m = One (kind_or_text m)
shape_of (types_read.Many at n) m = Many (kind_or_text m)

abbrev pub number_given : Given → ℤ
number_given (Number n) = n
number_given _ = pos 0

abbrev pub is_null : Given → Bool
is_null Null = true
is_null _ = false

-- the slot of a field's value
abbrev pub value_slot : ResolvedField → ℕ → DeclaredField
value_slot r slot = record {
  name = r.field.name.bytes;
  shape = shape_of r.field.kind r.meaning;
  default = number_given r.given;
  optional = is_null r.given;
  required = r.attributes.required;
  deprecated = r.attributes.deprecated;
  slot = slot;
}

-- of a union field `x`, the name of its code
abbrev pub name_of_code : Name → Name
name_of_code name = name ++ codes "_type"

-- the slot of a union's code
abbrev pub code_slot : ResolvedField → TypeId → ℕ → DeclaredField
code_slot r u slot = record {
  name = name_of_code r.field.name.bytes;
  shape = One (Code u);
  default = pos 0;
  optional = false;
  required = false;
  deprecated = r.attributes.deprecated;
  slot = slot;
}

-- of a union's field the union, and the name of its code's slot; nothing of another field
pub record IsCodeOf (f : FieldRead) (m : Meaning) (code : Option UnionCodeSlot) : Type 0 where
  pub union : option_map (λ c. c.union) code ≡ union_of f.kind m
  pub name : IfSome code (λ c. string_bytes c.name ≡ name_of_code f.name.bytes)

abbrev pub slots_by_union : ResolvedField → Option TypeId → ℕ → List DeclaredField
slots_by_union r None slot = value_slot r slot ∷ []
slots_by_union r (Some u) slot = code_slot r u slot ∷ value_slot r (slot + 1) ∷ []

-- the slots of a field, from this one on: a union's code comes before its value
unfoldable pub slots_of_field : ResolvedField → ℕ → List DeclaredField
slots_of_field r slot = slots_by_union r (union_in r) slot

-- without ids the slots are numbered in the order of declaration
unfoldable pub slots_in_order : ℕ → List ResolvedField → List DeclaredField
slots_in_order slot [] = []
slots_in_order slot (r ∷ rs) = slots_of_field r slot
    ++ slots_in_order (slot + length (slots_of_field r slot)) rs
