-- What the slots of a table and the elements of a vector are aligned to.
use Rattle.std.proofs.Common.{◌≡◌, ℕ, zero, suc, ◌<◌, ◌≤◌, true, IsTrue, List, [], ◌∷◌, map, Option, None, Some}
use Rattle.std.proofs.Common.{slice_get, refl, arith}
use Rattle.fb_schema.specs.declared.kinds.Kind.{Kind}
use Rattle.fb_schema.specs.declared.kinds.Kind.TheVariants.{Scalar, Enum, Struct, Table, Text}
use Rattle.fb_schema.specs.declared.kinds.Shape.{Shape}
use Rattle.fb_schema.specs.declared.kinds.Shape.TheVariants.{One, Many}
use Rattle.fb_schema.specs.Schema.{DeclaredField, DeclaredBody, table_body, struct_body, enum_body, union_body}
use Rattle.fb_schema.specs.Schema.{DeclaredType, body_in, body_at, slots_in, is_struct}
use Rattle.fb_schema.specs.Alignments.{base_size}
use Rattle.fb_schema.specs.WellDeclared.{KindNames, MayBeElement, IsShape, IsBody}
use Rattle.fb_layout.specs.Sizes.{IsAlignment}
use Rattle.fb_layout.specs.Laid.{LaidSchema, Slot, StoredKind, scalar_kind, struct_kind, table_kind}
use Rattle.fb_layout.specs.Laid.{code_kind, text_kind, StoredShape, one_of, vector_of, slot_of, kind_in, stored_shape}
use Rattle.fb_layout.specs.Laid.{struct_at, align_of}
use Rattle.fb_layout.specs.Widths.{inline_size, inline_align, greatest}
use Rattle.fb_layout.specs.WellMade.{IsWellMade}
use Rattle.fb_layout.proofs.sizes.AlignmentsArePowersOfTwo.{base_aligned, struct_aligned, kind_multiple}
use Rattle.fb_layout.proofs.sizes.EachFieldTakesAByte.{struct_filled}
use Rattle.fb_value.specs.Num.{divides}
use Rattle.fb_build.specs.Fields.{IsStructThere, IsElement, IsSimple}
use Rattle.fb_build.proofs.tail.WhatIsLaidStaysLaid.{self_divides}
use Rattle.fb_build.proofs.tail.MultiplesAdd.{times_divides}
use Rattle.fb_layout.specs.Laid.{slots_of}
use Rattle.fb_layout.proofs.sizes.AlignmentsArePowersOfTwo.{alignment_positive, four_aligned, one_aligned}

-- what the slots of all tables hold is known
abbrev pub IsSliced : LaidSchema → Type 0
IsSliced L = (t k : ℕ) (f : Slot) → slice_get (slots_of L t) k ≡ Some f → IsSimple L f.shape

pub struct_there : (L : LaidSchema) → IsWellMade L → (s : ℕ) → IsTrue (is_struct (body_at L.schema s))
    → IsStructThere L s
struct_there L made s is =
    let multiple = kind_multiple L made (struct_kind s) in
    record {
      is = is;
      some = struct_filled L made s is;
      align = struct_aligned L made s;
      multiple = rw multiple.1 (times_divides (struct_at L s).align multiple.0 (struct_at L s).align
          (self_divides (struct_at L s).align));
    }

element_known : (L : LaidSchema) → IsWellMade L → (kind : Kind) → KindNames L.schema kind → MayBeElement kind
    → IsElement L (kind_in (stored_shape L.schema (Many kind)))
element_known L made (Scalar b) names may = tt
element_known L made (Enum e) names may = tt
element_known L made (Struct s) names may = struct_there L made s.0 names.1
element_known L made (Table t) names may = tt
element_known L made Text names may = tt
element_known L made _ names may = absurd may

shape_known : (L : LaidSchema) → IsWellMade L → (shape : Shape) → IsShape L.schema shape
    → IsSimple L (stored_shape L.schema shape)
shape_known L made (One (Struct s)) h = struct_there L made s.0 h.1
shape_known L made (Many kind) h = element_known L made kind h.0 h.1
shape_known L made _ h = tt

fields_known : (L : LaidSchema) → IsWellMade L → (fs : List DeclaredField)
    → ((k : ℕ) (f : DeclaredField) → slice_get fs k ≡ Some f → IsShape L.schema f.shape) → (k : ℕ) (f : Slot)
    → slice_get (map (slot_of L.schema) fs) k ≡ Some f → IsSimple L f.shape
fields_known L made [] each k f at = cc
fields_known L made (g ∷ fs) each zero f at =
    let same : slot_of L.schema g ≡ f = cc in rw (← same) (shape_known L made g.shape (each 0 g refl))
fields_known L made (g ∷ fs) each (suc k) f at = fields_known L made fs (λ j h e. each (suc j) h e) k f at

-- The slots of all tables of a well-made layout are known.
pub all_known : (L : LaidSchema) → IsWellMade L → IsSliced L
all_known L made t k f at = fields_known L made (slots_in (body_at L.schema t))
    (by_type (slice_get L.schema.types t) refl) k f at
  where
    by_body : (b : DeclaredBody) → IsBody L.schema t b → (k : ℕ) (f : DeclaredField) → slice_get (slots_in b) k ≡ Some f
        → IsShape L.schema f.shape
    by_body (table_body fs) is k f e = (is.shapes k f e).0
    by_body (struct_body fs a) is k f e = cc
    by_body (enum_body b flags vs) is k f e = cc
    by_body (union_body ms) is k f e = cc

    by_type : (o : Option DeclaredType) → slice_get L.schema.types t ≡ o → (k : ℕ) (f : DeclaredField)
        → slice_get (slots_in (body_in o)) k ≡ Some f → IsShape L.schema f.shape
    by_type None found k f e = cc
    by_type (Some type) found k f e = by_body type.body (made.declared.bodies t type found) k f e

-- ---- alignments and sizes

pub simple_aligned : (L : LaidSchema) (shape : StoredShape) → IsSimple L shape → IsAlignment (inline_align L shape)
simple_aligned L (one_of (scalar_kind b)) h = base_aligned b
simple_aligned L (one_of (struct_kind s)) h = h.align
simple_aligned L (one_of (code_kind u)) h = one_aligned
simple_aligned L _ h = four_aligned

pub simple_multiple : (L : LaidSchema) (shape : StoredShape) → IsSimple L shape
    → divides (inline_align L shape) (inline_size L shape) ≡ true
simple_multiple L (one_of (scalar_kind b)) h = self_divides (base_size b)
simple_multiple L (one_of (struct_kind s)) h = h.multiple
simple_multiple L _ h = refl

pub simple_some : (L : LaidSchema) (shape : StoredShape) → IsSimple L shape → 0 < inline_size L shape
simple_some L (one_of (scalar_kind b)) h = alignment_positive _ (base_aligned b)
simple_some L (one_of (struct_kind s)) h = h.some
simple_some L _ h = omega arith

-- A slot isn't aligned above the greatest, where what it holds isn't.
pub inline_low : (L : LaidSchema) (shape : StoredShape) → align_of L (kind_in shape) ≤ greatest L
    → inline_align L shape ≤ greatest L
inline_low L (one_of kind) h = h
inline_low L (vector_of kind) h = omega arith

pub element_simple : (L : LaidSchema) (kind : StoredKind) → IsElement L kind → IsSimple L (one_of kind)
element_simple L (scalar_kind b) h = tt
element_simple L text_kind h = tt
element_simple L (table_kind t) h = tt
element_simple L (struct_kind t) h = h
element_simple L _ h = absurd h
