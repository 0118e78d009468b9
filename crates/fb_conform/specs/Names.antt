-- Names that stand for what they stood for.
-- From the FlatBuffers documentation, "Evolution" and "JSON parsing": stored bytes go by slots and codes, JSON texts by
-- names. So where a name gets another slot, old JSON texts mean something else.
use Rattle.std.specs.Prelude.{ℕ, zero, suc, ◌≡◌, ◌≢◌, ◌<◌, ◌⊎◌, Option, None, Some, option_map, position}
use Rattle.std.specs.Prelude.{bytes_eq, slice_get}
use Rattle.fb_schema.specs.Schema.{Name, DeclaredBody, union_body, body_at}
use Rattle.fb_schema.specs.Found.{fields_in, field_named}
use Rattle.fb_layout.specs.Laid.{LaidSchema}
use Rattle.fb_conform.specs.declared.names.MovedName.{MovedName}
use Rattle.fb_conform.specs.Twins.{Twins}

-- what a name stands for in a type: the slot of a table's field, the place of a struct's, the code of a union's member.
-- An enum's names keep their numbers where a schema conforms.
abbrev pub slot_named : DeclaredBody → Name → Option ℕ
slot_named (union_body members) name = option_map (λ k. suc k) (position (λ m. bytes_eq name m.0) members)
slot_named body name = option_map (λ f. f.slot) (field_named body name)

-- the name that stands in a place of a type: the other way round
abbrev pub name_in : DeclaredBody → ℕ → Option Name
name_in (union_body members) zero = None
name_in (union_body members) (suc k) = option_map (λ m. m.0) (slice_get members k)
name_in body k = option_map (λ f. f.name) (slice_get (fields_in body) k)

-- A name that both versions of a type have stands for one slot.
abbrev pub KeepsNames : LaidSchema → LaidSchema → Type 0
KeepsNames A B = (t u k j : ℕ) (name : Name) → Twins A.schema B.schema t u
    → slot_named (body_at A.schema t) name ≡ Some k → slot_named (body_at B.schema u) name ≡ Some j → j ≡ k

-- The name of an old slot stands for another one in the new type.
pub record IsMoved (A B : LaidSchema) (m : MovedName) : Type 0 where
  pub name : Name
  pub type : ℕ
  pub slot : ℕ
  pub twins : Twins A.schema B.schema m.type_id.0 type
  pub old : slot_named (body_at A.schema m.type_id.0) name ≡ Some m.slot
  pub new : slot_named (body_at B.schema type) name ≡ Some slot
  pub moved : slot ≢ m.slot

-- in a lower type, or in this one in a lower slot
abbrev pub IsUnder : ℕ → ℕ → MovedName → Type 0
IsUnder t s m = (m.type_id.0 < t) ⊎ ((m.type_id.0 ≡ t) × (m.slot < s))

abbrev pub IsBefore : MovedName → MovedName → Type 0
IsBefore m n = IsUnder n.type_id.0 n.slot m

-- The name is moved, and none before it.
pub record IsFirstMoved (A B : LaidSchema) (m : MovedName) : Type 0 where
  pub moved : IsMoved A B m
  pub first : (n : MovedName) → IsBefore n m → ¬ (IsMoved A B n)
