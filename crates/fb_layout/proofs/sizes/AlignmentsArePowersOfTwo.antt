-- On a well-made layout alignments are powers of two, and sizes multiples of alignments.
use Rattle.std.proofs.Common.{◌≡◌, ℕ, zero, suc, ◌*◌, ◌<◌, ◌≤◌, ◌⊎◌, inl, inr, Bool, true, false, max, List, [], ◌∷◌}
use Rattle.std.proofs.Common.{length, map, slice_get, slice_index_or, Option, None, Some, IsTrue, refl, ap, ◌∙◌, arith}
use Rattle.std.proofs.Common.{if◌then◌else◌}
use Rattle.std.specs.Option.{ForSome, unwrap_or}
use Rattle.std.proofs.lemmas.Nat.{pow_pos}
use Rattle.std.proofs.lemmas.Option.{slice_get-map}
use Rattle.std.specs.Option.{option_map}
use Rattle.fb_schema.specs.declared.kinds.Base.{Base}
use Rattle.fb_schema.specs.declared.kinds.Base.TheVariants as the_base
use Rattle.fb_schema.specs.declared.kinds.Kind.TheVariants.{Scalar, Enum, Struct, Table, Union, Code, Text}
use Rattle.fb_schema.specs.declared.kinds.Shape.{Shape}
use Rattle.fb_schema.specs.declared.kinds.Shape.TheVariants.{One, Many}
use Rattle.fb_schema.specs.Schema.{DeclaredField, DeclaredType, body_in, body_at, slots_in, is_struct}
use Rattle.fb_schema.specs.Alignments.{base_size, greatest_in}
use Rattle.fb_schema.specs.WellDeclared.{IsPart, IsForceAlign}
use Rattle.fb_layout.specs.Sizes.{IsAlignment}
use Rattle.fb_layout.specs.Laid.{LaidSchema, StructLayout, no_struct, StoredKind, scalar_kind, struct_kind, table_kind}
use Rattle.fb_layout.specs.Laid.{kinds_of}
use Rattle.fb_layout.specs.Laid.{union_kind, code_kind, text_kind, StoredShape, one_of, vector_of, Slot, slot_of}
use Rattle.fb_layout.specs.Laid.{kind_in, stored_shape, slots_of, struct_at, size_of, align_of}
use Rattle.fb_layout.specs.Widths.{inline_align, slots_align, table_align, greatest}
use Rattle.fb_layout.specs.WellMade.{natural_align, IsWellMade}
use Rattle.fb_layout.specs.Laws.{KindsAligned, TablesAligned, GreatestAligned, NoneAlignedToZero, SizesAreMultiples}
use Rattle.fb_layout.specs.Laws.{SizesFit}
use Rattle.fb_layout.proofs.sizes.StructsAreDeclared.{struct_told, body_told}

-- ---- powers of two

pub one_aligned : IsAlignment 1
one_aligned = record { exponent = 0; few = omega arith; is = refl }

two_aligned : IsAlignment 2
two_aligned = record { exponent = 1; few = omega arith; is = refl }

pub four_aligned : IsAlignment 4
four_aligned = record { exponent = 2; few = omega arith; is = refl }

eight_aligned : IsAlignment 8
eight_aligned = record { exponent = 3; few = omega arith; is = refl }

pub base_aligned : (b : Base) → IsAlignment (base_size b)
base_aligned the_base.Bool = one_aligned
base_aligned the_base.I8 = one_aligned
base_aligned the_base.U8 = one_aligned
base_aligned the_base.I16 = two_aligned
base_aligned the_base.U16 = two_aligned
base_aligned the_base.I32 = four_aligned
base_aligned the_base.U32 = four_aligned
base_aligned the_base.I64 = eight_aligned
base_aligned the_base.U64 = eight_aligned

pub lower : (i j : ℕ) → (i ≤ j) ⊎ (j < i)
lower zero j = inl (omega arith)
lower (suc i) zero = inr (omega arith)
lower (suc i) (suc j) = elim (lower i j) [ inl h ↦ inl (omega (arith, h)) | inr h ↦ inr (omega (arith, h)) ]

-- The greater of two is one of them.
pub max_aligned : (a b : ℕ) → IsAlignment a → IsAlignment b → IsAlignment (max a b)
max_aligned a b pa pb = by_case (lower a b)
  where
    by_case : (a ≤ b) ⊎ (b < a) → IsAlignment (max a b)
    by_case (inl h) = let e : max a b ≡ b = omega (arith, h) in rw e pb
    by_case (inr h) = let e : max a b ≡ a = omega (arith, h) in rw e pa

-- an alignment, or 0 for none
MayAlign : ℕ → Type 0
MayAlign n = IsAlignment n ⊎ (n ≡ 0)

AllMayAlign : List ℕ → Type 0
AllMayAlign [] = Unit {0}
AllMayAlign (n ∷ ns) = MayAlign n × AllMayAlign ns

max_with : (a b : ℕ) → IsAlignment a → MayAlign b → IsAlignment (max a b)
unfolding MayAlign
max_with a b pa (inl pb) = max_aligned a b pa pb
max_with a b pa (inr none) = let e : max a b ≡ a = omega (arith, none) in rw e pa

max_may : (a b : ℕ) → MayAlign a → MayAlign b → MayAlign (max a b)
unfolding MayAlign
max_may a b (inl pa) mb = inl (max_with a b pa mb)
max_may a b (inr none) (inl pb) = let e : max a b ≡ b = omega (arith, none) in rw e (inl pb)
max_may a b (inr none) (inr neither) = inr (omega (arith, none, neither))

greatest_may : (ns : List ℕ) → AllMayAlign ns → MayAlign (greatest_in ns)
unfolding MayAlign AllMayAlign
greatest_may [] all = inr refl
greatest_may (n ∷ ns) all = max_may n (greatest_in ns) all.0 (greatest_may ns all.1)

-- ---- structs and kinds

module _ (L : LaidSchema) (made : IsWellMade L) where
  Below : ℕ → Type 0
  Below n = (t : ℕ) → t < n → IsAlignment (struct_at L t).align

  part_aligned : (s : ℕ) (shape : Shape) → Below s → IsPart L.schema s shape
      → IsAlignment (align_of L (kind_in (stored_shape L.schema shape)))
  unfolding Below
  part_aligned s (One (Scalar b)) below h = base_aligned b
  part_aligned s (One (Enum e)) below h = base_aligned _
  part_aligned s (One (Struct t)) below h = below t.0 h.0
  part_aligned s (One (Table t)) below h = absurd h
  part_aligned s (One (Union t)) below h = absurd h
  part_aligned s (One (Code t)) below h = absurd h
  part_aligned s (One Text) below h = absurd h
  part_aligned s (Many k) below h = absurd h

  parts_may : (s : ℕ) (fs : List DeclaredField) → Below s
      → ((k : ℕ) (f : DeclaredField) → slice_get fs k ≡ Some f → IsPart L.schema s f.shape)
      → AllMayAlign (map (align_of L) (kinds_of L.schema fs))
  unfolding MayAlign AllMayAlign
  parts_may s [] below each = tt
  parts_may s (f ∷ fs) below each =
      (inl (part_aligned s f.shape below (each 0 f refl)), parts_may s fs below (λ k g e. each (suc k) g e))

  natural_aligned : (s : ℕ) (fs : List DeclaredField) → 0 < length fs → Below s
      → ((k : ℕ) (f : DeclaredField) → slice_get fs k ≡ Some f → IsPart L.schema s f.shape)
      → IsAlignment (natural_align L (kinds_of L.schema fs))
  unfolding AllMayAlign
  natural_aligned s [] some below each = absurd (omega (arith, some))
  natural_aligned s (f ∷ fs) some below each =
      let all = parts_may s (f ∷ fs) below each in
      max_with _ _ (part_aligned s f.shape below (each 0 f refl))
      (greatest_may (map (align_of L) (kinds_of L.schema fs)) all.1)

  forced_or : (force : Option ℕ) (n : ℕ) → ForSome force IsForceAlign → IsAlignment n → IsAlignment (unwrap_or force n)
  forced_or None n h natural = natural
  forced_or (Some a) n h natural = let own = h a refl in record { exponent = own.0; few = own.1; is = own.2 }

  one_struct : (s : ℕ) (b : Bool) → is_struct (body_at L.schema s) ≡ b → Below s → IsAlignment (struct_at L s).align
  one_struct s true is below =
      let struct : IsTrue (is_struct (body_at L.schema s)) = rw is refl in
      let at = struct_told L.schema s struct in
      let own = body_told L.schema made.declared s at in
      let natural = natural_aligned s at.fs own.some below (λ k f e. (own.parts k f e).0) in
      let whole = forced_or at.force _ own.aligned natural in
      rw ((made.sized.structs s struct).aligned, at.at) whole
  one_struct s false is below = rw (made.sized.others s is) one_aligned

  structs_below : (n : ℕ) → Below n
  unfolding Below
  structs_below zero t low = absurd (omega (arith, low))
  structs_below (suc n) t low =
      one_struct t (is_struct (body_at L.schema t)) refl (λ u lower2. structs_below n u (omega (arith, low, lower2)))

  pub struct_aligned : (s : ℕ) → IsAlignment (struct_at L s).align
  unfolding Below
  struct_aligned s = structs_below (suc s) s (omega arith)

  pub kind_aligned : (kind : StoredKind) → IsAlignment (align_of L kind)
  kind_aligned (scalar_kind b) = base_aligned b
  kind_aligned (struct_kind s) = struct_aligned s
  kind_aligned (table_kind t) = four_aligned
  kind_aligned (union_kind u) = four_aligned
  kind_aligned (code_kind u) = one_aligned
  kind_aligned text_kind = four_aligned

  -- ---- tables and all

  slot_aligned : (b : Bool) (shape : StoredShape) → IsAlignment (if b then 4 else inline_align L shape)
  slot_aligned true shape = four_aligned
  slot_aligned false (one_of kind) = kind_aligned kind
  slot_aligned false (vector_of kind) = four_aligned

  slots_may : (fs : List Slot) → AllMayAlign (map (λ f. if f.deprecated then 4 else inline_align L f.shape) fs)
  unfolding MayAlign AllMayAlign
  slots_may [] = tt
  slots_may (f ∷ fs) = (inl (slot_aligned f.deprecated f.shape), slots_may fs)

  pub table_aligned : (t : ℕ) → IsAlignment (table_align L t)
  table_aligned t = max_with 4 _ four_aligned (greatest_may _ (slots_may (slots_of L t)))

  entries_may : (rs : List StructLayout) → ((s : ℕ) → IsAlignment (slice_index_or rs s no_struct).align)
      → AllMayAlign (map (λ r. r.align) rs)
  unfolding MayAlign AllMayAlign
  entries_may [] each = tt
  entries_may (r ∷ rs) each = (inl (each 0), entries_may rs (λ s. each (suc s)))

  fields_may : (fs : List DeclaredField)
      → AllMayAlign (map (λ f. align_of L (kind_in (stored_shape L.schema f.shape))) fs)
  unfolding MayAlign AllMayAlign
  fields_may [] = tt
  fields_may (f ∷ fs) = (inl (kind_aligned (kind_in (stored_shape L.schema f.shape))), fields_may fs)

  types_may : (types : List DeclaredType) → AllMayAlign (map (slots_align L) types)
  unfolding AllMayAlign
  types_may [] = tt
  types_may (type ∷ types) = (greatest_may _ (fields_may (slots_in type.body)), types_may types)

  pub greatest_aligned : IsAlignment (greatest L)
  greatest_aligned = max_with 4 _ four_aligned
      (max_may _ _ (greatest_may _ (entries_may L.structs struct_aligned)) (greatest_may _ (types_may L.schema.types)))

  -- ---- sizes

  struct_multiple : (s : ℕ) (b : Bool) → is_struct (body_at L.schema s) ≡ b
      → (k : ℕ) × ((struct_at L s).size ≡ k * (struct_at L s).align)
  struct_multiple s true is = (let struct : IsTrue (is_struct (body_at L.schema s)) = rw is refl in
      (made.sized.structs s struct).sized.multiple)
  struct_multiple s false is = rw (made.sized.others s is) (0, refl)

  pub kind_multiple : (kind : StoredKind) → (k : ℕ) × (size_of L kind ≡ k * align_of L kind)
  kind_multiple (scalar_kind b) = (1, omega arith)
  kind_multiple (struct_kind s) = struct_multiple s (is_struct (body_at L.schema s)) refl
  kind_multiple (table_kind t) = (1, refl)
  kind_multiple (union_kind u) = (1, refl)
  kind_multiple (code_kind u) = (1, refl)
  kind_multiple text_kind = (1, refl)

-- ---- what the greatest is above

-- A number of a list isn't above its greatest.
among : (ns : List ℕ) (k n : ℕ) → slice_get ns k ≡ Some n → n ≤ greatest_in ns
among [] k n at = cc
among (m ∷ ns) zero n at = let same : m ≡ n = cc in omega (arith, same)
among (m ∷ ns) (suc k) n at = let rest = among ns k n at in omega (arith, rest)

slots_below : (L : LaidSchema) (fs : List DeclaredField) (k : ℕ) (f : Slot)
    → slice_get (map (slot_of L.schema) fs) k ≡ Some f
    → align_of L (kind_in f.shape) ≤ greatest_in (map (λ g. align_of L (kind_in (stored_shape L.schema g.shape))) fs)
slots_below L [] k f at = cc
slots_below L (g ∷ fs) zero f at = let same : slot_of L.schema g ≡ f = cc in rw (← same) (omega arith)
slots_below L (g ∷ fs) (suc k) f at = let rest = slots_below L fs k f at in omega (arith, rest)

type_below : (L : LaidSchema) (types : List DeclaredType) (t : ℕ) (o : Option DeclaredType) → slice_get types t ≡ o
    → (k : ℕ) (f : Slot) → slice_get (map (slot_of L.schema) (slots_in (body_in o))) k ≡ Some f
    → align_of L (kind_in f.shape) ≤ greatest_in (map (slots_align L) types)
type_below L types t None found k f at = cc
type_below L types t (Some type) found k f at =
    let own = slots_below L (slots_in type.body) k f at in
    let here = among (map (slots_align L) types) t (slots_align L type)
    (slice_get-map (slots_align L) types t ∙ ap (option_map (slots_align L)) found) in
    omega (arith, own, here)

-- What a slot holds, or its elements, aren't aligned above the greatest.
pub slot_below : (L : LaidSchema) (t k : ℕ) (f : Slot) → slice_get (slots_of L t) k ≡ Some f
    → align_of L (kind_in f.shape) ≤ greatest L
slot_below L t k f at = let own = type_below L L.schema.types t (slice_get L.schema.types t) refl k f at in
    omega (arith, own)

-- ---- the laws

pub kinds_shown : KindsAligned
kinds_shown L kind made = kind_aligned L made kind

pub tables_shown : TablesAligned
tables_shown L t made = table_aligned L made t

pub greatest_shown : GreatestAligned
greatest_shown L made = greatest_aligned L made

pub alignment_positive : (n : ℕ) → IsAlignment n → 0 < n
alignment_positive n is = rw is.is (pow_pos is.exponent)

pub positive_shown : NoneAlignedToZero
positive_shown L kind made = alignment_positive _ (kind_aligned L made kind)

pub multiples_shown : SizesAreMultiples
multiples_shown L kind made = kind_multiple L made kind

pub base_fits : (b : Base) → base_size b ≤ 65535
base_fits the_base.Bool = omega arith
base_fits the_base.I8 = omega arith
base_fits the_base.U8 = omega arith
base_fits the_base.I16 = omega arith
base_fits the_base.U16 = omega arith
base_fits the_base.I32 = omega arith
base_fits the_base.U32 = omega arith
base_fits the_base.I64 = omega arith
base_fits the_base.U64 = omega arith

pub sizes_shown : SizesFit
sizes_shown L (scalar_kind b) made = base_fits b
sizes_shown L (struct_kind s) made = made.small s
sizes_shown L (table_kind t) made = omega arith
sizes_shown L (union_kind u) made = omega arith
sizes_shown L (code_kind u) made = omega arith
sizes_shown L text_kind made = omega arith
