-- Which schemas may follow a schema: one condition for each breach.
-- From the FlatBuffers documentation, "Evolution": fields are added at a table's end and never removed, a default
-- stays, and a union's or an enum's numbers stay. It is stricter where a value would be lost otherwise, as for structs
-- and required fields.
use Rattle.std.specs.Prelude.{ℕ, ◌≡◌, ◌<◌, length, Bool, true, false, IsTrue, not, ◌&&◌, None, Some, slice_get, All}
use Rattle.std.specs.Prelude.{Contains}
use Rattle.fb_schema.specs.declared.kinds.Kind.TheVariants.{Scalar, Enum}
use Rattle.fb_schema.specs.declared.kinds.Shape.{Shape}
use Rattle.fb_schema.specs.declared.kinds.Shape.TheVariants.{One}
use Rattle.fb_schema.specs.Schema.{DeclaredField, DeclaredBody, table_body, struct_body, enum_body, union_body}
use Rattle.fb_schema.specs.Schema.{DeclaredSchema, body_at, slots_in, is_table}
use Rattle.fb_schema.specs.Found.{member_coded}
use Rattle.fb_layout.specs.Laid.{LaidSchema, struct_at}
use Rattle.fb_conform.specs.declared.breaches.Breach.{Breach}
use Rattle.fb_conform.specs.declared.breaches.Breach.TheVariants.{RootChanged, IdentifierChanged, TypeGone, KindChanged}
use Rattle.fb_conform.specs.declared.breaches.Breach.TheVariants.{StructChanged, SlotGone, FieldTypeChanged}
use Rattle.fb_conform.specs.declared.breaches.Breach.TheVariants.{DefaultChanged, RequiredChanged, DeprecatedTakenBack}
use Rattle.fb_conform.specs.declared.breaches.Breach.TheVariants.{NewRequired, EnumChanged, UnionChanged}
use Rattle.fb_conform.specs.Twins.{SameName, Twins, SlotTwins}
use Rattle.fb_conform.specs.ByName.{SameShape, SameFields}

-- both are tables, or structs, enums or unions
abbrev pub SameKind : DeclaredBody → DeclaredBody → Type 0
SameKind (table_body fs) (table_body gs) = Unit {0}
SameKind (struct_body fs m) (struct_body gs n) = Unit {0}
SameKind (enum_body b flags values) (enum_body c marks others) = Unit {0}
SameKind (union_body ms) (union_body ns) = Unit {0}
SameKind _ _ = ⊥

-- a scalar or an enum
abbrev pub is_number : Shape → Bool
is_number (One (Scalar b)) = true
is_number (One (Enum e)) = true
is_number _ = false

-- `required` counts where the field is in use
abbrev pub is_required : DeclaredField → Bool
is_required f = f.required && not f.deprecated

-- Two numbers have one default, or neither has one since both are optional.
abbrev pub SameDefault : DeclaredField → DeclaredField → Type 0
SameDefault f g = is_number f.shape ≡ true → is_number g.shape ≡ true → (g.default ≡ f.default)
    × (g.optional ≡ f.optional)

-- A struct's fields have their old types, and it is aligned as it was.
abbrev pub SameStruct : LaidSchema → LaidSchema → ℕ → ℕ → DeclaredBody → DeclaredBody → Type 0
SameStruct A B t u (struct_body fs m) (struct_body gs n) = SameFields A.schema B.schema fs gs
    × ((struct_at B u).align ≡ (struct_at A t).align)
SameStruct A B t u _ _ = Unit {0}

-- An enum has its old underlying type and mark, and each old name its number.
abbrev pub KeepsValues : DeclaredBody → DeclaredBody → Type 0
KeepsValues (enum_body b flags values) (enum_body c marks others) = (c ≡ b) × (marks ≡ flags)
    × All (Contains others) values
KeepsValues _ _ = Unit {0}

-- The new union has the code, and there the table of the old one's full name.
abbrev pub CodeKept : DeclaredSchema → DeclaredSchema → DeclaredBody → ℕ → ℕ → Type 0
CodeKept S T body c t = (u : ℕ) × (member_coded body c ≡ Some u) × SameName S T t u

-- Each old code of a union keeps its table.
abbrev pub KeepsMembers : DeclaredSchema → DeclaredSchema → DeclaredBody → DeclaredBody → Type 0
KeepsMembers S T (union_body ms) (union_body ns) = (c t : ℕ) → member_coded (union_body ms) c ≡ Some t
    → CodeKept S T (union_body ns) c t
KeepsMembers S T _ _ = Unit {0}

-- what has to hold that a breach doesn't stand
abbrev pub Kept : LaidSchema → LaidSchema → Breach → Type 0
Kept A B RootChanged = SameName A.schema B.schema A.schema.root B.schema.root
Kept A B IdentifierChanged = B.schema.identifier ≡ A.schema.identifier
Kept A B (TypeGone t) = t.0 < length A.schema.types → (u : ℕ) × Twins A.schema B.schema t.0 u
Kept A B (KindChanged t) = (u : ℕ) → Twins A.schema B.schema t.0 u
    → SameKind (body_at A.schema t.0) (body_at B.schema u)
Kept A B (StructChanged t) = (u : ℕ) → Twins A.schema B.schema t.0 u
    → SameStruct A B t.0 u (body_at A.schema t.0) (body_at B.schema u)
Kept A B (SlotGone t k) =
    (u : ℕ) (f : DeclaredField) → Twins A.schema B.schema t.0 u → IsTrue (is_table (body_at B.schema u))
    → slice_get (slots_in (body_at A.schema t.0)) k ≡ Some f
    → (g : DeclaredField) × (slice_get (slots_in (body_at B.schema u)) k ≡ Some g)
Kept A B (FieldTypeChanged t k) = (f g : DeclaredField) → SlotTwins A.schema B.schema t.0 k f g
    → SameShape A.schema B.schema f.shape g.shape
Kept A B (DefaultChanged t k) = (f g : DeclaredField) → SlotTwins A.schema B.schema t.0 k f g → SameDefault f g
Kept A B (RequiredChanged t k) = (f g : DeclaredField) → SlotTwins A.schema B.schema t.0 k f g
    → is_required g ≡ is_required f
Kept A B (DeprecatedTakenBack t k) = (f g : DeclaredField) → SlotTwins A.schema B.schema t.0 k f g → f.deprecated ≡ true
    → g.deprecated ≡ true
Kept A B (NewRequired t k) =
    (u : ℕ) (g : DeclaredField) → Twins A.schema B.schema t.0 u → IsTrue (is_table (body_at A.schema t.0))
    → slice_get (slots_in (body_at A.schema t.0)) k ≡ None
    → slice_get (slots_in (body_at B.schema u)) k ≡ Some g → is_required g ≡ false
Kept A B (EnumChanged t) = (u : ℕ) → Twins A.schema B.schema t.0 u
    → KeepsValues (body_at A.schema t.0) (body_at B.schema u)
Kept A B (UnionChanged t) = (u : ℕ) → Twins A.schema B.schema t.0 u
    → KeepsMembers A.schema B.schema (body_at A.schema t.0) (body_at B.schema u)

-- The new schema conforms: no breach stands.
abbrev pub Conforms : LaidSchema → LaidSchema → Type 0
Conforms A B = (r : Breach) → Kept A B r

abbrev pub Stands : LaidSchema → LaidSchema → Breach → Type 0
Stands A B r = ¬ (Kept A B r)
