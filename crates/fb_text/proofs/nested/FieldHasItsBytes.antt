-- In a well-made layout each field of a struct has its bytes for itself, and one at least.
use Rattle.std.proofs.Common.{◌≡◌, ℕ, zero, suc, ◌+◌, ◌<◌, ◌≤◌, inl, inr, List, [], ◌∷◌, length, map, slice_get}
use Rattle.std.proofs.Common.{slice_index, Some, IsTrue, refl, ap, ◌∙◌, arith}
use Rattle.std.specs.Option.{option_map}
use Rattle.std.proofs.lemmas.Option.{slice_get-map}
use Rattle.fb_schema.specs.declared.kinds.TypeId.{TypeId}
use Rattle.fb_schema.specs.declared.kinds.Shape.{Shape}
use Rattle.fb_schema.specs.Schema.{DeclaredField, DeclaredBody, struct_body, body_at}
use Rattle.fb_schema.specs.Schema.{parts_in, is_struct}
use Rattle.fb_layout.specs.Laid.{LaidSchema, StoredKind, kind_in, stored_shape, parts_of, struct_at, size_of}
use Rattle.fb_layout.specs.WellMade.{StandInOrder, IsWellMade}
use Rattle.fb_layout.proofs.sizes.StructsAreDeclared.{struct_told, body_told}
use Rattle.fb_layout.proofs.sizes.EachFieldTakesAByte.{struct_filled}
use Rattle.fb_value.specs.Datum.{Parts}
use Rattle.fb_text.specs.Nested.{HasByte, HasStruct}
use Rattle.std.proofs.lemmas.Bool.{cases_lt}

-- a field ends before the end, and before a later one begins
field_behind : (L : LaidSchema) (p : ℕ) (kinds : List StoredKind) (os : List ℕ) (end k : ℕ) (kind : StoredKind)
    → StandInOrder L p kinds os end → slice_get kinds k ≡ Some kind
    → (p ≤ slice_index os k) × (slice_index os k + size_of L kind ≤ end)
field_behind L p [] os end k kind is at = cc
field_behind L p (x ∷ kinds) [] end k kind is at = absurd is
field_behind L p (x ∷ kinds) (o ∷ os) end zero kind is at =
    let same : x ≡ kind = cc in
    let last = ends L (o + size_of L x) kinds os end is.1 in
    (is.0.above, rw (← same) last)
  where
    ends : (L : LaidSchema) (q : ℕ) (ks : List StoredKind) (qs : List ℕ) (e : ℕ) → StandInOrder L q ks qs e → q ≤ e
    ends L q [] [] e is = omega (arith, is)
    ends L q [] (o ∷ qs) e is = absurd is
    ends L q (x ∷ ks) [] e is = absurd is
    ends L q (x ∷ ks) (o ∷ qs) e is = let rest = ends L (o + size_of L x) ks qs e is.1 in
        omega (arith, rest, is.0.above)
field_behind L p (x ∷ kinds) (o ∷ os) end (suc k) kind is at =
    let rest = field_behind L (o + size_of L x) kinds os end k kind is.1 at in
    (omega (arith, rest.0, is.0.above), rest.1)

field_before : (L : LaidSchema) (p : ℕ) (kinds : List StoredKind) (os : List ℕ) (end j k : ℕ) (a b : StoredKind)
    → StandInOrder L p kinds os end → j < k → slice_get kinds j ≡ Some a → slice_get kinds k ≡ Some b
    → slice_index os j + size_of L a ≤ slice_index os k
field_before L p [] os end j k a b is less at behind = cc
field_before L p (x ∷ kinds) [] end j k a b is less at behind = absurd is
field_before L p (x ∷ kinds) (o ∷ os) end j zero a b is less at behind = absurd (omega (arith, less))
field_before L p (x ∷ kinds) (o ∷ os) end zero (suc k) a b is less at behind =
    let same : x ≡ a = cc in
    rw (← same) (field_behind L (o + size_of L x) kinds os end k b is.1 behind).0
field_before L p (x ∷ kinds) (o ∷ os) end (suc j) (suc k) a b is less at behind =
    field_before L (o + size_of L x) kinds os end j k a b is.1 (omega (arith, less)) at behind

struct_with : (b : DeclaredBody) (k : ℕ) (f : DeclaredField) → slice_get (parts_in b) k ≡ Some f → IsTrue (is_struct b)
struct_with (struct_body fs align) k f e = refl
struct_with _ k f e = cc

abbrev field_kind : LaidSchema → DeclaredField → StoredKind
field_kind L f = kind_in (stored_shape L.schema f.shape)

kind_there : (L : LaidSchema) (fs : List DeclaredField) (k : ℕ) (f : DeclaredField) → slice_get fs k ≡ Some f
    → slice_get (map (field_kind L) fs) k ≡ Some (field_kind L f)
kind_there L fs k f e = slice_get-map (field_kind L) fs k ∙ ap (option_map (field_kind L)) e

field_there : (fs : List DeclaredField) (k : ℕ) → k < length fs → (f : DeclaredField) × (slice_get fs k ≡ Some f)
field_there [] k less = absurd (omega (arith, less))
field_there (f ∷ fs) zero less = (f, refl)
field_there (f ∷ fs) (suc k) less = field_there fs k (omega (arith, less))

module _ (L : LaidSchema) (made : IsWellMade L) (t : TypeId) where
  -- where two fields stand
  in_order : (j k : ℕ) (f g : DeclaredField) → j < k → slice_get (parts_in (body_at L.schema t.0)) j ≡ Some f
      → slice_get (parts_in (body_at L.schema t.0)) k ≡ Some g
      → slice_index (struct_at L t.0).offsets j + size_of L (field_kind L f) ≤ slice_index (struct_at L t.0).offsets k
  in_order j k f g less at behind =
      let fs = parts_in (body_at L.schema t.0) in
      let laid = made.sized.structs t.0 (struct_with (body_at L.schema t.0) j f at) in
      field_before L 0 (parts_of L t.0) (struct_at L t.0).offsets laid.end j k _ _ laid.fields less
      (kind_there L fs j f at) (kind_there L fs k g behind)

  -- a field that begins at a byte or before it isn't behind the field that has it, nor the other way round
  pub begins_before : (m k : ℕ) (f : DeclaredField) (byte : ℕ) → m < length (parts_in (body_at L.schema t.0))
      → slice_get (parts_in (body_at L.schema t.0)) k ≡ Some f → HasByte L t k f byte
      → slice_index (struct_at L t.0).offsets m ≤ byte → m ≤ k
  begins_before m k f byte within at has begins = elim (cases_lt k m) [
    | inl less ↦ absurd (let other = field_there (parts_in (body_at L.schema t.0)) m within in
        let order = in_order k m f other.0 less at other.1 in
        omega (arith, order, has.1, begins))
    | inr below ↦ below
  ]

  pub begins_behind : (m k : ℕ) (f : DeclaredField) (byte : ℕ) → m < length (parts_in (body_at L.schema t.0))
      → slice_get (parts_in (body_at L.schema t.0)) k ≡ Some f → HasByte L t k f byte
      → byte < slice_index (struct_at L t.0).offsets m → k < m
  begins_behind m k f byte within at has begins = elim (cases_lt k m) [
    | inl less ↦ less
    | inr below ↦ absurd (elim (cases_lt m k) [
      | inl less ↦ (let other = field_there (parts_in (body_at L.schema t.0)) m within in
          let order = in_order m k other.0 f less other.1 at in
          omega (arith, order, has.0, begins))
      | inr above ↦ (let same : m ≡ k = omega (arith, below, above) in
          let begin : slice_index (struct_at L t.0).offsets m ≡ slice_index (struct_at L t.0).offsets k =
          ap (slice_index (struct_at L t.0).offsets) same in
          omega (arith, begin, has.0, begins))
    ])
  ]

  -- a struct in a struct has a byte, and ends within it
  module _ (ds : Parts) (k : ℕ) (u : TypeId) (es : Parts) (has : HasStruct L t ds k u es) where
    pub is_filled : 1 ≤ (struct_at L u.0).size
    is_filled =
        let at = struct_told L.schema t.0 (struct_with (body_at L.schema t.0) k has.field has.there) in
        let own = body_told L.schema made.declared t.0 at in
        let there = rw at.at at has.there in
        let part = rw has.shape at (own.parts k has.field there).0 in
        struct_filled L made u.0 part.1.1

    pub ends_within : slice_index (struct_at L t.0).offsets k + (struct_at L u.0).size ≤ (struct_at L t.0).size
    ends_within =
        let laid = made.sized.structs t.0 (struct_with (body_at L.schema t.0) k has.field has.there) in
        let kind = kind_there L (parts_in (body_at L.schema t.0)) k has.field has.there in
        let ends = field_behind L 0 (parts_of L t.0) (struct_at L t.0).offsets laid.end k _ laid.fields kind in
        let size : size_of L (field_kind L has.field) ≡ (struct_at L u.0).size =
        ap (λ (shape : Shape). size_of L (kind_in (stored_shape L.schema shape))) has.shape in
        omega (arith, ends.1, size, laid.sized.above)

    -- it has each byte behind its begin that is below its size
    pub has_byte : (more : ℕ) → more < (struct_at L u.0).size
        → HasByte L t k has.field (slice_index (struct_at L t.0).offsets k + more)
    has_byte more less =
        let size : size_of L (field_kind L has.field) ≡ (struct_at L u.0).size =
        ap (λ (shape : Shape). size_of L (kind_in (stored_shape L.schema shape))) has.shape in
        (omega arith, omega (arith, less, size))
