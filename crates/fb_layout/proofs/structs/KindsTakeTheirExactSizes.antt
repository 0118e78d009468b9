-- Sizes computed exactly, however great, type after type, and what one kind takes by them.
use Rattle.std.proofs.Common.{◌≡◌, ◌<◌, ◌≤◌, ◌+◌, ◌++◌, ℕ, zero, suc, Bool, true, false, List, [], ◌∷◌, map, Option}
use Rattle.std.proofs.Common.{None, Some, slice_get, slice_index_or, nat_lt, refl, ap, ◌∙◌, arith, if◌then◌else◌}
use Rattle.std.specs.Int.{next_multiple_of}
use Rattle.std.specs.Option.{unwrap_or}
use Rattle.std.proofs.lemmas.Bool.Decides.{nat_tests}
use Rattle.fb_schema.specs.declared.kinds.Base.{Base}
use Rattle.fb_schema.specs.declared.kinds.Base.TheVariants.{Bool as Boolean, I8, U8, I16, U16, I32, U32, I64, U64}
use Rattle.fb_schema.specs.Schema.{DeclaredBody, struct_body, DeclaredType, DeclaredSchema}
use Rattle.fb_schema.specs.Alignments.{base_size}
use Rattle.fb_layout.specs.declared.extents.Extent.{Extent}
use Rattle.fb_layout.specs.Laid.{LaidSchema, StructLayout, no_struct, StoredKind, scalar_kind, struct_kind, table_kind}
use Rattle.fb_layout.specs.Laid.{union_kind, code_kind, text_kind, kinds_of, size_of, align_of}
use Rattle.fb_layout.specs.WellMade.{natural_align}
use Rattle.fb_layout.specs.Known.{small, aligned_up, extent_in, extent_of}

-- where the fields behind a position begin, and where the last ends
abbrev pub offsets_from : LaidSchema → ℕ → List StoredKind → List ℕ
offsets_from L p [] = []
offsets_from L p (kind ∷ kinds) =
    next_multiple_of p (align_of L kind) ∷ offsets_from L (next_multiple_of p (align_of L kind) + size_of L kind) kinds

abbrev pub end_from : LaidSchema → ℕ → List StoredKind → ℕ
end_from L p [] = p
end_from L p (kind ∷ kinds) = end_from L (next_multiple_of p (align_of L kind) + size_of L kind) kinds

abbrev pub struct_of_kinds : LaidSchema → List StoredKind → Option ℕ → StructLayout
struct_of_kinds L kinds force =
    record {
      size = next_multiple_of (end_from L 0 kinds) (unwrap_or force (natural_align L kinds));
      align = unwrap_or force (natural_align L kinds);
      offsets = offsets_from L 0 kinds;
    }

abbrev pub exact_struct : LaidSchema → DeclaredBody → StructLayout
exact_struct L (struct_body fs force) = struct_of_kinds L (kinds_of L.schema fs) force
exact_struct L _ = no_struct

abbrev pub with_structs : DeclaredSchema → List StructLayout → LaidSchema
with_structs S structs = record { schema = S; structs = structs }

abbrev pub exact_from : DeclaredSchema → List StructLayout → List DeclaredType → List StructLayout
exact_from S lower [] = lower
exact_from S lower (type ∷ types) = exact_from S (lower ++ exact_struct (with_structs S lower) type.body ∷ []) types

abbrev pub exact : DeclaredSchema → LaidSchema
exact S = with_structs S (exact_from S [] S.types)

-- what is known of a struct: nothing over 65,535 bytes
abbrev pub if_small : StructLayout → Option StructLayout
if_small r = if nat_lt r.size 65536 then Some r else None

abbrev pub small_extent : ℕ → ℕ → Option Extent
small_extent size align = if nat_lt size 65536 then Some (record { size = size; align = align }) else None

-- ---- one kind

extent_if : (b : Bool) (r : StructLayout)
    → extent_in (if b then Some r else None) ≡ (if b then Some (record { size = r.size; align = r.align }) else None)
extent_if true r = refl
extent_if false r = refl

pub struct_small : (structs : List StructLayout) (s : ℕ)
    → unwrap_or (slice_get (map if_small structs) s) (Some no_struct) ≡ if_small (slice_index_or structs s no_struct)
struct_small [] s = refl
struct_small (r ∷ rs) zero = refl
struct_small (r ∷ rs) (suc s) = struct_small rs s

base_small : (base : Base)
    → Some (record { size = base_size base; align = base_size base }) ≡ small_extent (base_size base) (base_size base)
base_small Boolean = refl
base_small I8 = refl
base_small U8 = refl
base_small I16 = refl
base_small U16 = refl
base_small I32 = refl
base_small U32 = refl
base_small I64 = refl
base_small U64 = refl

pub extent_small : (S : DeclaredSchema) (structs : List StructLayout) (kind : StoredKind)
    → extent_of (map if_small structs) kind ≡ small_extent (size_of (with_structs S structs) kind)
    (align_of (with_structs S structs) kind)
extent_small S structs (scalar_kind base) = base_small base
extent_small S structs (struct_kind s) = ap extent_in (struct_small structs s)
    ∙ extent_if (nat_lt (slice_index_or structs s no_struct).size 65536) (slice_index_or structs s no_struct)
extent_small S structs (table_kind t) = refl
extent_small S structs (union_kind u) = refl
extent_small S structs (code_kind u) = refl
extent_small S structs text_kind = refl

-- ---- positive alignments

abbrev pub ArePositive : List StructLayout → Type 0
ArePositive [] = Unit {0}
ArePositive (r ∷ rs) = (0 < r.align) × ArePositive rs

struct_positive : (structs : List StructLayout) → ArePositive structs → (s : ℕ)
    → 0 < (slice_index_or structs s no_struct).align
struct_positive [] all s = omega arith
struct_positive (r ∷ rs) all zero = all.0
struct_positive (r ∷ rs) all (suc s) = struct_positive rs all.1 s

base_positive : (base : Base) → 0 < base_size base
base_positive Boolean = omega arith
base_positive I8 = omega arith
base_positive U8 = omega arith
base_positive I16 = omega arith
base_positive U16 = omega arith
base_positive I32 = omega arith
base_positive U32 = omega arith
base_positive I64 = omega arith
base_positive U64 = omega arith

pub align_positive : (S : DeclaredSchema) (structs : List StructLayout) → ArePositive structs → (kind : StoredKind)
    → 0 < align_of (with_structs S structs) kind
align_positive S structs all (scalar_kind base) = base_positive base
align_positive S structs all (struct_kind s) = struct_positive structs all s
align_positive S structs all (table_kind t) = omega arith
align_positive S structs all (union_kind u) = omega arith
align_positive S structs all (code_kind u) = omega arith
align_positive S structs all text_kind = omega arith

-- ---- positions

pub end-above : (L : LaidSchema) (p : ℕ) (kinds : List StoredKind) → p ≤ end_from L p kinds
end-above L p [] = omega arith
end-above L p (kind ∷ kinds) =
    let rest = end-above L (next_multiple_of p (align_of L kind) + size_of L kind) kinds in
    omega arith

pub small-yes : (n : ℕ) → n < 65536 → nat_lt n 65536 ≡ true
small-yes n h = grind (arith, nat_tests)

small-no : (n : ℕ) → 65536 ≤ n → nat_lt n 65536 ≡ false
small-no n h = grind (arith, nat_tests)

pub small-told : (n : ℕ) → nat_lt n 65536 ≡ true → n < 65536
small-told n e = grind (arith, nat_tests)

pub large-told : (n : ℕ) → nat_lt n 65536 ≡ false → 65536 ≤ n
large-told n e = grind (arith, nat_tests)

positive-yes : (n : ℕ) → 0 < n → nat_lt 0 n ≡ true
positive-yes n h = grind (arith, nat_tests)

pub if_small-yes : (r : StructLayout) → r.size < 65536 → if_small r ≡ Some r
if_small-yes r h = ap (λ b. if b then Some r else None) (small-yes r.size h)

pub if_small-no : (r : StructLayout) → 65536 ≤ r.size → if_small r ≡ None
if_small-no r h = ap (λ b. if b then Some r else None) (small-no r.size h)

pub aligned-is : (n align : ℕ) → 0 < align → aligned_up n align ≡ small (next_multiple_of n align)
aligned-is n align h = ap (λ b. if b then small (next_multiple_of n align) else None) (positive-yes align h)
