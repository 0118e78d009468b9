-- Sizes of numbers, and the alignments of structs.
-- From the FlatBuffers documentation, "FlatBuffer Internals": Structs; "Writing a schema": Attributes (`force_align`).
use Rattle.std.specs.Prelude.{ℕ, ◌≡◌, ◌≤◌, max, List, [], ◌∷◌, IsTrue, map, slice_index}
use Rattle.std.specs.Option.{ForSome, unwrap_or}
use Rattle.fb_schema.specs.declared.kinds.Base.{Base}
use Rattle.fb_schema.specs.declared.kinds.Base.TheVariants.{Bool as Boolean, I8, U8, I16, U16, I32, U32, I64, U64}
use Rattle.fb_schema.specs.declared.kinds.Kind.TheVariants.{Scalar, Enum, Struct}
use Rattle.fb_schema.specs.declared.kinds.Shape.{Shape}
use Rattle.fb_schema.specs.declared.kinds.Shape.TheVariants.{One}
use Rattle.fb_schema.specs.Schema.{DeclaredSchema, body_at, parts_in, base_in, force_align_in, is_struct}

-- in bytes
abbrev pub base_size : Base → ℕ
base_size Boolean = 1
base_size I8 = 1
base_size U8 = 1
base_size I16 = 2
base_size U16 = 2
base_size I32 = 4
base_size U32 = 4
base_size I64 = 8
base_size U64 = 8

-- the greatest of some numbers, 0 where there is none
abbrev pub greatest_in : List ℕ → ℕ
greatest_in [] = 0
greatest_in (n ∷ ns) = max n (greatest_in ns)

-- the alignment of a struct's field, where the structs have these alignments by their numbers
abbrev pub part_align : DeclaredSchema → List ℕ → Shape → ℕ
part_align S aligns (One (Scalar base)) = base_size base
part_align S aligns (One (Enum e)) = base_size (base_in (body_at S e.0))
part_align S aligns (One (Struct t)) = slice_index aligns t.0
part_align S aligns _ = 0

-- the greatest of the alignments of a struct's fields
abbrev pub natural_align_in : DeclaredSchema → List ℕ → ℕ → ℕ
natural_align_in S aligns s = greatest_in (map (λ f. part_align S aligns f.shape) (parts_in (body_at S s)))

-- Each struct's alignment is `force_align`, which isn't below the natural one, or the natural one.
pub record AreAligned (S : DeclaredSchema) (aligns : List ℕ) : Type 0 where
  pub forced : (s : ℕ) → IsTrue (is_struct (body_at S s))
      → ForSome (force_align_in (body_at S s)) (λ a. natural_align_in S aligns s ≤ a)
  pub each : (s : ℕ) → IsTrue (is_struct (body_at S s))
      → slice_index aligns s ≡ unwrap_or (force_align_in (body_at S s)) (natural_align_in S aligns s)
