-- What a layout keeps of stored kinds: structs hold numbers and lower structs, and vectors no unions.
use Rattle.std.proofs.Common.{◌≡◌, ℕ, suc, ◌+◌, ◌<◌, List, [], ◌∷◌, length, map, IsTrue, Option, None, Some, slice_get}
use Rattle.std.proofs.Common.{refl}
use Rattle.fb_schema.specs.declared.kinds.Kind.{Kind}
use Rattle.fb_schema.specs.declared.kinds.Kind.TheVariants.{Scalar, Enum, Struct, Table, Text}
use Rattle.fb_schema.specs.declared.kinds.Shape.{Shape}
use Rattle.fb_schema.specs.declared.kinds.Shape.TheVariants.{One, Many}
use Rattle.fb_schema.specs.Schema.{DeclaredField, DeclaredBody, table_body, struct_body}
use Rattle.fb_schema.specs.Schema.{DeclaredType, DeclaredSchema, body_at, slots_in, parts_in, is_struct}
use Rattle.fb_schema.specs.WellDeclared.{IsBody, IsPart, IsShape, KindNames, MayBeElement}
use Rattle.fb_layout.specs.Laid.{LaidSchema, Slot, StoredKind, scalar_kind, struct_kind, table_kind, text_kind}
use Rattle.fb_layout.specs.Laid.{StoredShape, one_of, vector_of, stored_kind, stored_shape, slot_of, slots_of, kind_in}
use Rattle.fb_layout.specs.Laid.{kinds_of, parts_of, struct_at, size_of}
use Rattle.fb_layout.specs.WellMade.{StandInOrder, IsWellMade}
use Rattle.fb_value.specs.Places.{Target, vector_part, Sort, ref_place, part_place, inline_place}

-- a struct's parts are numbers and structs below it, and each has its offset
abbrev pub LowerParts : ℕ → List StoredKind → List ℕ → Type 0
LowerParts s [] os = Unit {0}
LowerParts s (scalar_kind base ∷ ks) (o ∷ os) = LowerParts s ks os
LowerParts s (struct_kind t ∷ ks) (o ∷ os) = (t < s) × LowerParts s ks os
LowerParts s _ _ = ⊥

-- what may be an element: no union, and a struct below the number of types
abbrev pub IsElement : ℕ → StoredKind → Type 0
IsElement most (scalar_kind base) = Unit {0}
IsElement most (struct_kind s) = s < most
IsElement most (table_kind t) = Unit {0}
IsElement most text_kind = Unit {0}
IsElement most _ = ⊥

-- what may be in a slot
abbrev pub IsStored : ℕ → StoredShape → Type 0
IsStored most (vector_of kind) = IsElement most kind
IsStored most (one_of (struct_kind s)) = s < most
IsStored most (one_of _) = Unit {0}

-- what may be in the slots of a table
abbrev pub AreStored : ℕ → List Slot → Type 0
AreStored most [] = Unit {0}
AreStored most (f ∷ fs) = IsStored most f.shape × AreStored most fs

pub record IsResolved (L : LaidSchema) (most : ℕ) : Type 0 where
  pub lower : (s : ℕ) → LowerParts s (parts_of L s) (struct_at L s).offsets
  pub stored : (t : ℕ) → AreStored most (slots_of L t)

-- what may stand in its place
abbrev pub IsInline : ℕ → StoredKind → Type 0
IsInline most (scalar_kind base) = Unit {0}
IsInline most (struct_kind s) = s < most
IsInline most _ = ⊥

-- what a reference may lead to
abbrev pub IsTarget : ℕ → Target → Type 0
IsTarget most (vector_part kind) = IsElement most kind
IsTarget most _ = Unit {0}

-- a slot or an element names a reference, or what stands in its place
abbrev pub IsGood : ℕ → Sort → Type 0
IsGood most (ref_place X) = IsTarget most X
IsGood most (part_place X) = ⊥
IsGood most (inline_place kind) = IsInline most kind
IsGood most _ = Unit {0}

-- One declared part of a struct, in front of lower ones.
part_lower : (S : DeclaredSchema) (s o : ℕ) (shape : Shape) (ks : List StoredKind) (os : List ℕ) → IsPart S s shape
    → LowerParts s ks os → LowerParts s (kind_in (stored_shape S shape) ∷ ks) (o ∷ os)
part_lower S s o (One (Scalar base)) ks os is rest = rest
part_lower S s o (One (Enum e)) ks os is rest = rest
part_lower S s o (One (Struct t)) ks os is rest = (is.0, rest)
part_lower S s o _ ks os is rest = absurd is

-- The declared parts of a struct that stand in order are lower ones.
parts_lower : (L : LaidSchema) (s p end : ℕ) (fs : List DeclaredField) (os : List ℕ)
    → ((k : ℕ) (f : DeclaredField) → slice_get fs k ≡ Some f → IsPart L.schema s f.shape)
    → StandInOrder L p (kinds_of L.schema fs) os end → LowerParts s (kinds_of L.schema fs) os
parts_lower L s p end [] os are stand = tt
parts_lower L s p end (f ∷ fs) [] are stand = absurd stand
parts_lower L s p end (f ∷ fs) (o ∷ os) are stand =
    part_lower L.schema s o f.shape _ os (are 0 f refl)
    (parts_lower L s (o + size_of L (kind_in (stored_shape L.schema f.shape))) end fs os (λ k g e. are (suc k) g e)
    stand.1)

-- A declared kind that names a type, as an element.
element_stored : (S : DeclaredSchema) (kind : Kind) → KindNames S kind → MayBeElement kind
    → IsElement (length S.types) (stored_kind S kind)
element_stored S (Scalar base) names may = tt
element_stored S (Enum e) names may = tt
element_stored S (Struct s) names may = names.0
element_stored S (Table t) names may = tt
element_stored S Text names may = tt
element_stored S _ names may = absurd may

-- A declared shape, as a slot's.
pub shape_stored : (S : DeclaredSchema) (shape : Shape) → IsShape S shape
    → IsStored (length S.types) (stored_shape S shape)
shape_stored S (Many kind) is = element_stored S kind is.0 is.1
shape_stored S (One (Struct s)) is = is.0
shape_stored S _ is = tt

-- The declared fields of a table, as its slots.
pub fields_stored : (S : DeclaredSchema) (fs : List DeclaredField)
    → ((k : ℕ) (f : DeclaredField) → slice_get fs k ≡ Some f → IsShape S f.shape)
    → AreStored (length S.types) (map (slot_of S) fs)
fields_stored S [] are = tt
fields_stored S (f ∷ fs) are = (shape_stored S f.shape (are 0 f refl), fields_stored S fs (λ k g e. are (suc k) g e))

module _ (L : LaidSchema) (made : IsWellMade L) where
  -- The parts of a declared type are lower, whatever its body.
  body_lower : (s : ℕ) (body : DeclaredBody) → body_at L.schema s ≡ body → IsBody L.schema s body
      → LowerParts s (map (λ f. kind_in (stored_shape L.schema f.shape)) (parts_in body)) (struct_at L s).offsets
  body_lower s (struct_body fs align) e is =
      let struct : IsTrue (is_struct (body_at L.schema s)) = rw e refl in
      let laid = made.sized.structs s struct in
      parts_lower L s 0 laid.end fs (struct_at L s).offsets (λ k f h. (is.parts k f h).0)
      (rw e at laid.fields)
  body_lower s _ e is = tt

  -- The slots of a declared type are stored ones, whatever its body.
  body_stored : (t : ℕ) (body : DeclaredBody) → IsBody L.schema t body
      → AreStored (length L.schema.types) (map (slot_of L.schema) (slots_in body))
  body_stored t (table_body fs) is = fields_stored L.schema fs (λ k f h. (is.shapes k f h).0)
  body_stored t _ is = tt

  -- The parts of each number are lower, also past the types.
  type_lower : (s : ℕ) (o : Option DeclaredType) → slice_get L.schema.types s ≡ o
      → LowerParts s (parts_of L s) (struct_at L s).offsets
  type_lower s None e = rw e tt
  type_lower s (Some type) e = rw e (body_lower s type.body (rw e refl) (made.declared.bodies s type e))

  -- The slots of each number are stored ones, also past the types.
  type_stored : (t : ℕ) (o : Option DeclaredType) → slice_get L.schema.types t ≡ o
      → AreStored (length L.schema.types) (slots_of L t)
  type_stored t None e = rw e tt
  type_stored t (Some type) e = rw e (body_stored t type.body (made.declared.bodies t type e))

  -- The structs in use are below the number of types.
  pub resolved : IsResolved L (length L.schema.types)
  resolved = record { lower = λ s. type_lower s _ refl; stored = λ t. type_stored t _ refl }
