-- What is known of a declared struct and of its values.
use Rattle.std.proofs.Common.{◌≡◌, ℕ, zero, suc, ◌+◌, ◌<◌, ◌≤◌, IsTrue, List, [], ◌∷◌, length, map}
use Rattle.std.proofs.Common.{get_or, slice_get, slice_index, slice_index_or, Some, refl, ap, sym, ◌∙◌, subst, arith}
use Rattle.std.proofs.lemmas.List.{length-map}
use Rattle.fb_schema.specs.declared.kinds.Kind.TheVariants.{Scalar, Enum, Struct}
use Rattle.fb_schema.specs.declared.kinds.Shape.{Shape}
use Rattle.fb_schema.specs.declared.kinds.Shape.TheVariants.{One}
use Rattle.fb_schema.specs.Schema.{DeclaredField, body_at, parts_in, is_struct}
use Rattle.fb_schema.specs.Seen.{field_seen}
use Rattle.fb_schema.specs.WellDeclared.{IsPart}
use Rattle.fb_schema.specs.declared.types.FieldInfo.{FieldInfo}
use Rattle.fb_layout.specs.Laid.{LaidSchema, StoredKind, one_of, kind_in, stored_shape, parts_of, struct_at, size_of}
use Rattle.fb_layout.specs.Seen.{kinds_seen}
use Rattle.fb_layout.specs.WellMade.{StandInOrder, IsWellMade}
use Rattle.fb_layout.proofs.sizes.FieldsStandInOrder.{order_rises}
use Rattle.fb_layout.proofs.sizes.StructsAreDeclared.{struct_told, body_told}
use Rattle.fb_value.specs.Fits.{Fits, PartsFit}
use Rattle.fb_value.specs.View.{view, parts_view}
use Rattle.fb_value.specs.declared.values.Value.{Value}
use Rattle.fb_tape.specs.InlineBytes.{IsInline}

-- ---- offsets

pub offsets_long : (L : LaidSchema) (p : ℕ) (kinds : List StoredKind) (os : List ℕ) (end : ℕ)
    → StandInOrder L p kinds os end → length os ≡ length kinds
offsets_long L p [] [] end h = refl
offsets_long L p [] (o ∷ os) end h = absurd h
offsets_long L p (kind ∷ kinds) [] end h = absurd h
offsets_long L p (kind ∷ kinds) (o ∷ os) end h = ap suc (offsets_long L (o + size_of L kind) kinds os end h.1)

-- A field ends before the next begins, and the last before the struct does.
pub stand_apart : (L : LaidSchema) (p : ℕ) (kinds : List StoredKind) (os : List ℕ) (end size i : ℕ) (kind : StoredKind)
    → StandInOrder L p kinds os end → end ≤ size → slice_get kinds i ≡ Some kind
    → slice_index os i + size_of L kind ≤ slice_index_or os (suc i) size
stand_apart L p [] [] end size i kind h low at = cc
stand_apart L p [] (o ∷ os) end size i kind h low at = absurd h
stand_apart L p (k ∷ kinds) [] end size i kind h low at = absurd h
stand_apart L p (k ∷ []) (o ∷ []) end size zero kind h low at =
    let same : k ≡ kind = cc in rw (← same) (omega (arith, h.1, low))
stand_apart L p (k ∷ []) (o ∷ (q ∷ os)) end size zero kind h low at = absurd h.1
stand_apart L p (k ∷ (l ∷ kinds)) (o ∷ []) end size zero kind h low at = absurd h.1
stand_apart L p (k ∷ (l ∷ kinds)) (o ∷ (q ∷ os)) end size zero kind h low at =
    let same : k ≡ kind = cc in rw (← same) h.1.0.above
stand_apart L p (k ∷ kinds) (o ∷ os) end size (suc i) kind h low at =
    stand_apart L (o + size_of L k) kinds os end size i kind h.1 low at

-- Each field begins before the last ends.
begins_within : (L : LaidSchema) (p : ℕ) (kinds : List StoredKind) (os : List ℕ) (end i : ℕ)
    → StandInOrder L p kinds os end → i < length kinds → slice_index os i ≤ end
begins_within L p [] os end i h low = absurd (omega (arith, low))
begins_within L p (kind ∷ kinds) [] end i h low = absurd h
begins_within L p (kind ∷ kinds) (o ∷ os) end zero h low =
    let rest = order_rises L (o + size_of L kind) kinds os end h.1 in omega (arith, rest)
begins_within L p (kind ∷ kinds) (o ∷ os) end (suc i) h low =
    begins_within L (o + size_of L kind) kinds os end i h.1 (omega (arith, low))

-- ---- the fields of a declared struct

pub kinds_at : (L : LaidSchema) (fields : List FieldInfo) (i : ℕ) (f : FieldInfo) → i < length fields
    → f ≡ get_or fields i f → slice_get (kinds_seen L fields) i ≡ Some (kind_in (stored_shape L.schema f.shape))
kinds_at L [] i f low is = absurd (omega (arith, low))
kinds_at L (g ∷ fields) zero f low is = ap (λ x. Some (kind_in (stored_shape L.schema x.shape))) (sym is)
kinds_at L (g ∷ fields) (suc i) f low is = kinds_at L fields i f (omega (arith, low)) is

part_inline : (L : LaidSchema) (s : ℕ) (shape : Shape) → IsPart L.schema s shape
    → IsInline L (kind_in (stored_shape L.schema shape))
part_inline L s (One (Scalar b)) h = tt
part_inline L s (One (Enum e)) h = tt
part_inline L s (One (Struct t)) h = h.1.1
part_inline L s _ h = absurd h

inline_at : (L : LaidSchema) (s : ℕ) (fs : List DeclaredField) (i : ℕ) (kind : StoredKind)
    → ((k : ℕ) (f : DeclaredField) → slice_get fs k ≡ Some f → IsPart L.schema s f.shape)
    → slice_get (map (λ f. kind_in (stored_shape L.schema f.shape)) fs) i ≡ Some kind → IsInline L kind
inline_at L s [] i kind each at = cc
inline_at L s (f ∷ fs) zero kind each at = let same : kind_in (stored_shape L.schema f.shape) ≡ kind = cc in
    rw (← same) (part_inline L s f.shape (each 0 f refl))
inline_at L s (f ∷ fs) (suc i) kind each at = inline_at L s fs i kind (λ k g e. each (suc k) g e) at

-- A struct's field is a number or a declared struct.
pub field_inline : (L : LaidSchema) (s : ℕ) → IsWellMade L → IsTrue (is_struct (body_at L.schema s))
    → (i : ℕ) (kind : StoredKind) → slice_get (parts_of L s) i ≡ Some kind → IsInline L kind
field_inline L s made is i kind at =
    let told = struct_told L.schema s is in
    let own = body_told L.schema made.declared s told in
    let same : parts_of L s ≡ map (λ f. kind_in (stored_shape L.schema f.shape)) told.fs =
    ap (λ b. map (λ f. kind_in (stored_shape L.schema f.shape)) (parts_in b)) told.at in
    inline_at L s told.fs i kind (λ k f e. (own.parts k f e).0) (rw same at at)

-- ---- values

pub parts_long : (L : LaidSchema) (kinds : List StoredKind) (items : List Value) → PartsFit L kinds (parts_view items)
    → length items ≡ length kinds
parts_long L [] [] h = refl
parts_long L [] (v ∷ items) h = absurd h
parts_long L (k ∷ kinds) [] h = absurd h
parts_long L (k ∷ kinds) (v ∷ items) h = ap suc (parts_long L kinds items h.1)

pub part_fits_at : (L : LaidSchema) (kinds : List StoredKind) (items : List Value) (i : ℕ) (kind : StoredKind)
    (v : Value) → PartsFit L kinds (parts_view items) → slice_get kinds i ≡ Some kind → i < length items
    → v ≡ get_or items i v → Fits L (one_of kind) (view v)
part_fits_at L [] items i kind v h at low is = cc
part_fits_at L (k ∷ kinds) [] i kind v h at low is = absurd h
part_fits_at L (k ∷ kinds) (w ∷ items) zero kind v h at low is =
    let same : k ≡ kind = cc in
    subst (λ (x : StoredKind). Fits L (one_of x) (view v)) same
    (rw is h.0)
part_fits_at L (k ∷ kinds) (w ∷ items) (suc i) kind v h at low is =
    part_fits_at L kinds items i kind v h.1 at (omega (arith, low)) is

-- ---- a struct with its values

-- an index within a list needs no default
pub index_or : (xs : List ℕ) (i d : ℕ) → i < length xs → slice_index_or xs i d ≡ slice_index xs i
index_or [] i d low = absurd (omega (arith, low))
index_or (x ∷ xs) zero d low = refl
index_or (x ∷ xs) (suc i) d low = index_or xs i d (omega (arith, low))

pub index_past : (xs : List ℕ) (i d : ℕ) → length xs ≤ i → slice_index_or xs i d ≡ d
index_past [] i d past = refl
index_past (x ∷ xs) zero d past = absurd (omega (arith, past))
index_past (x ∷ xs) (suc i) d past = index_past xs i d (omega (arith, past))

-- where field i begins, or the struct's end
abbrev pub begin_at : LaidSchema → ℕ → ℕ → ℕ
begin_at L s i = slice_index_or (struct_at L s).offsets i (struct_at L s).size

pub record StructKnown (L : LaidSchema) (s n : ℕ) (items : List Value) : Type 0 where
  pub many : length (parts_of L s) ≡ n
  pub offsets : length (struct_at L s).offsets ≡ n
  pub long : length items ≡ n
  pub fits : PartsFit L (parts_of L s) (parts_view items)
  pub inline : (i : ℕ) (kind : StoredKind) → slice_get (parts_of L s) i ≡ Some kind → IsInline L kind
  pub apart : (i : ℕ) (kind : StoredKind) → slice_get (parts_of L s) i ≡ Some kind
      → slice_index (struct_at L s).offsets i + size_of L kind ≤ begin_at L s (suc i)
  pub within : (i : ℕ) → i < n → slice_index (struct_at L s).offsets i ≤ 65535

pub struct_known : (L : LaidSchema) (s : ℕ) (fields : List FieldInfo) (items : List Value) → IsWellMade L
    → IsTrue (is_struct (body_at L.schema s)) → map field_seen fields ≡ parts_in (body_at L.schema s)
    → PartsFit L (parts_of L s) (parts_view items)
    → StructKnown L s (length fields) items
struct_known L s fields items made is seen fits =
    let laid = made.sized.structs s is in
    let many : length (parts_of L s) ≡ length fields =
    length-map (parts_in (body_at L.schema s)) _ ∙ ap length (sym seen) ∙ length-map fields _ in
    record {
      many = many;
      offsets = offsets_long L 0 (parts_of L s) (struct_at L s).offsets laid.end laid.fields ∙ many;
      long = parts_long L (parts_of L s) items fits ∙ many;
      fits = fits;
      inline = field_inline L s made is;
      apart = λ i kind at. stand_apart L 0 (parts_of L s) (struct_at L s).offsets laid.end (struct_at L s).size i kind
          laid.fields laid.sized.above at;
      within = λ i low.
          let begin = begins_within L 0 (parts_of L s) (struct_at L s).offsets laid.end i laid.fields
          (omega (arith, many, low)) in
          omega (arith, begin, laid.sized.above, made.small s);
    }

-- the kind of a field that is looked up
pub kind_found : (L : LaidSchema) (s : ℕ) (fields : List FieldInfo) (i : ℕ) (f : FieldInfo) (kind : StoredKind)
    → map field_seen fields ≡ parts_in (body_at L.schema s) → i < length fields → f ≡ get_or fields i f
    → kind ≡ kind_in (stored_shape L.schema (get_or fields i f).shape)
    → slice_get (parts_of L s) i ≡ Some kind
kind_found L s fields i f kind seen low is e =
    let same : kinds_seen L fields ≡ parts_of L s = ap (map (λ f. kind_in (stored_shape L.schema f.shape))) seen in
    ap (λ kinds. slice_get kinds i) (sym same) ∙ kinds_at L fields i f low is
    ∙ ap (λ k. Some k) (ap (λ (g : FieldInfo). kind_in (stored_shape L.schema g.shape)) is ∙ sym e)

pub index_at : (xs : List ℕ) (i : ℕ) → i < length xs → slice_get xs i ≡ Some (slice_index xs i)
index_at [] i low = absurd (omega (arith, low))
index_at (x ∷ xs) zero low = refl
index_at (x ∷ xs) (suc i) low = index_at xs i (omega (arith, low))
