-- Each field of a struct takes a byte at least, so that a struct has few.
use Rattle.std.proofs.Common.{◌≡◌, ℕ, zero, suc, ◌+◌, ◌<◌, ◌≤◌, Bool, true, false, List, [], ◌∷◌, length, map}
use Rattle.std.proofs.Common.{slice_get, Some, IsTrue, refl, ap, sym, ◌∙◌, arith}
use Rattle.std.proofs.lemmas.List.{length-map}
use Rattle.fb_schema.specs.declared.kinds.Base.{Base}
use Rattle.fb_schema.specs.declared.kinds.Kind.TheVariants.{Scalar, Enum, Struct, Table, Union, Code, Text}
use Rattle.fb_schema.specs.declared.kinds.Shape.{Shape}
use Rattle.fb_schema.specs.declared.kinds.Shape.TheVariants.{One, Many}
use Rattle.fb_schema.specs.Schema.{DeclaredField, DeclaredBody, table_body, struct_body, enum_body, union_body, body_at}
use Rattle.fb_schema.specs.Schema.{parts_in, is_struct}
use Rattle.fb_schema.specs.Alignments.{base_size}
use Rattle.fb_schema.specs.declared.types.FieldInfo.{FieldInfo}
use Rattle.fb_schema.specs.Seen.{field_seen}
use Rattle.fb_schema.specs.WellDeclared.{IsPart}
use Rattle.fb_layout.specs.Laid.{LaidSchema, StoredKind, kind_in, stored_shape, parts_of, struct_at, size_of}
use Rattle.fb_layout.specs.Laid.{kinds_of}
use Rattle.fb_layout.specs.WellMade.{StandInOrder, IsWellMade}
use Rattle.fb_layout.specs.Laws.{StructsHaveFewParts}
use Rattle.fb_layout.proofs.sizes.StructsAreDeclared.{struct_told, body_told}
use Rattle.fb_layout.proofs.sizes.AlignmentsArePowersOfTwo.{base_aligned, alignment_positive}

pub base_takes : (b : Base) → 1 ≤ base_size b
base_takes b = alignment_positive _ (base_aligned b)

-- every kind takes a byte
AllTake : LaidSchema → List StoredKind → Type 0
AllTake L [] = Unit {0}
AllTake L (kind ∷ kinds) = (1 ≤ size_of L kind) × AllTake L kinds

long_enough : (L : LaidSchema) (p : ℕ) (kinds : List StoredKind) (os : List ℕ) (end : ℕ) → AllTake L kinds
    → StandInOrder L p kinds os end → p + length kinds ≤ end
unfolding AllTake
long_enough L p [] [] end take is = omega (arith, is)
long_enough L p [] (o ∷ os) end take is = absurd is
long_enough L p (kind ∷ kinds) [] end take is = absurd is
long_enough L p (kind ∷ kinds) (o ∷ os) end take is =
    let rest = long_enough L (o + size_of L kind) kinds os end take.1 is.1 in
    omega (arith, rest, take.0, is.0.above)

module _ (L : LaidSchema) (made : IsWellMade L) where
  Below : ℕ → Type 0
  Below n = (t : ℕ) → t < n → IsTrue (is_struct (body_at L.schema t)) → 1 ≤ (struct_at L t).size

  part_takes : (s : ℕ) (shape : Shape) → Below s → IsPart L.schema s shape
      → 1 ≤ size_of L (kind_in (stored_shape L.schema shape))
  unfolding Below
  part_takes s (One (Scalar b)) below h = base_takes b
  part_takes s (One (Enum e)) below h = base_takes _
  part_takes s (One (Struct t)) below h = below t.0 h.0 h.1.1
  part_takes s (One (Table t)) below h = absurd h
  part_takes s (One (Union t)) below h = absurd h
  part_takes s (One (Code t)) below h = absurd h
  part_takes s (One Text) below h = absurd h
  part_takes s (Many k) below h = absurd h

  parts_take : (s : ℕ) (fs : List DeclaredField) → Below s
      → ((k : ℕ) (f : DeclaredField) → slice_get fs k ≡ Some f → IsPart L.schema s f.shape)
      → AllTake L (kinds_of L.schema fs)
  unfolding AllTake
  parts_take s [] below each = tt
  parts_take s (f ∷ fs) below each =
      (part_takes s f.shape below (each 0 f refl), parts_take s fs below (λ k g e. each (suc k) g e))

  -- as many bytes as fields
  struct_takes : (s : ℕ) → Below s → IsTrue (is_struct (body_at L.schema s))
      → (1 ≤ (struct_at L s).size) × (length (parts_of L s) ≤ (struct_at L s).size)
  struct_takes s below is =
      let at = struct_told L.schema s is in
      let own = body_told L.schema made.declared s at in
      let laid = made.sized.structs s is in
      let same : parts_of L s ≡ kinds_of L.schema at.fs = ap (λ b. kinds_of L.schema (parts_in b)) at.at in
      let take = parts_take s at.fs below (λ k f e. (own.parts k f e).0) in
      let long = long_enough L 0 (parts_of L s) (struct_at L s).offsets laid.end (rw same take) laid.fields in
      let many : length (parts_of L s) ≡ length at.fs = ap length same ∙ length-map at.fs _ in
      (omega (arith, long, many, own.some, laid.sized.above), omega (arith, long, laid.sized.above))

  takes_below : (n : ℕ) → Below n
  unfolding Below
  takes_below zero t low is = absurd (omega (arith, low))
  takes_below (suc n) t low is = (struct_takes t (λ u lower is2. takes_below n u (omega (arith, low, lower)) is2) is).0

  -- A declared struct takes a byte at least.
  pub struct_filled : (s : ℕ) → IsTrue (is_struct (body_at L.schema s)) → 1 ≤ (struct_at L s).size
  struct_filled s is = (struct_takes s (takes_below s) is).0

  no_parts_in : (b : DeclaredBody) → is_struct b ≡ false → length (kinds_of L.schema (parts_in b)) ≤ 65535
  no_parts_in (table_body fs) is = omega arith
  no_parts_in (struct_body fs a) is = cc
  no_parts_in (enum_body b f vs) is = omega arith
  no_parts_in (union_body ms) is = omega arith

  few_parts : (s : ℕ) (b : Bool) → is_struct (body_at L.schema s) ≡ b → length (parts_of L s) ≤ 65535
  few_parts s true is =
      let struct : IsTrue (is_struct (body_at L.schema s)) = rw is refl in
      let takes = struct_takes s (takes_below s) struct in
      let small = made.small s in
      omega (arith, takes.1, small)
  few_parts s false is = no_parts_in (body_at L.schema s) is

pub few_shown : StructsHaveFewParts
few_shown L s made = few_parts L made s (is_struct (body_at L.schema s)) refl

-- The same of a struct's fields as they are held.
pub few_held : (L : LaidSchema) (s : ℕ) (fields : List FieldInfo) → IsWellMade L
    → map field_seen fields ≡ parts_in (body_at L.schema s) → length fields ≤ 65535
few_held L s fields made same =
    let few = few_shown L s made in
    let many : length (parts_of L s) ≡ length fields = length-map (parts_in (body_at L.schema s)) _
    ∙ ap length (sym same) ∙ length-map fields _ in
    omega (arith, few, many)
