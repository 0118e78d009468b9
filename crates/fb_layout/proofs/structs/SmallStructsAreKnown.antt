-- What is known of structs is what they take exactly, where that is small.
use Rattle.std.proofs.Common.{◌≡◌, ◌<◌, ◌+◌, ◌++◌, ℕ, max, Bool, true, false, List, [], ◌∷◌, length, map, Option, None}
use Rattle.std.proofs.Common.{Some, nat_lt, refl, sym, ap, ◌∙◌, arith, append_assoc, if◌then◌else◌}
use Rattle.std.specs.Int.{next_multiple_of}
use Rattle.std.specs.Option.{option_map, option_and_then, unwrap_or, ForSome}
use Rattle.fb_schema.specs.Schema.{DeclaredField, DeclaredBody, table_body, struct_body, enum_body, union_body}
use Rattle.fb_schema.specs.Schema.{DeclaredType, DeclaredSchema}
use Rattle.fb_layout.specs.declared.extents.Extent.{Extent}
use Rattle.fb_layout.specs.Laid.{LaidSchema, StructLayout, StoredKind, stored_shape, kind_in, size_of, align_of}
use Rattle.fb_layout.specs.Laid.{kinds_of}
use Rattle.fb_layout.specs.WellMade.{natural_align}
use Rattle.fb_layout.specs.Known.{small, placed_behind, field_placed, each_added, no_fields, whole_struct, known_struct}
use Rattle.fb_layout.specs.Known.{known_from}
use Rattle.fb_layout.proofs.structs.OneStepMore.{each_added-nil, each_added-cons, known_from-nil, known_from-cons}
use Rattle.fb_layout.proofs.structs.KindsTakeTheirExactSizes.{offsets_from, end_from, exact_struct}
use Rattle.fb_layout.proofs.structs.KindsTakeTheirExactSizes.{with_structs, exact_from, if_small, small_extent}
use Rattle.fb_layout.proofs.structs.KindsTakeTheirExactSizes.{extent_small, ArePositive, align_positive, end-above}
use Rattle.fb_layout.proofs.structs.KindsTakeTheirExactSizes.{small-told, large-told, if_small-yes, if_small-no}
use Rattle.fb_layout.proofs.structs.KindsTakeTheirExactSizes.{aligned-is}
use Rattle.std.proofs.lemmas.List.{append-nil, map_push}

-- ---- the fields of a struct

-- the fields so far and these after them
abbrev pub placed_all : LaidSchema → StructLayout → List StoredKind → StructLayout
placed_all L placed kinds =
    record {
      size = end_from L placed.size kinds;
      align = max placed.align (natural_align L kinds);
      offsets = placed.offsets ++ offsets_from L placed.size kinds;
    }

-- the fields so far and one more behind them
abbrev placed_one : LaidSchema → StructLayout → StoredKind → StructLayout
placed_one L placed kind =
    record {
      size = next_multiple_of placed.size (align_of L kind) + size_of L kind;
      align = max placed.align (align_of L kind);
      offsets =
          placed.offsets ++ next_multiple_of placed.size (align_of L kind) ∷ [];
    }

max-zero : (a : ℕ) → max a 0 ≡ a
max-zero a = omega arith

max-assoc : (a b c : ℕ) → max (max a b) c ≡ max a (max b c)
max-assoc a b c = omega arith

all-none : (L : LaidSchema) (placed : StructLayout) → placed_all L placed [] ≡ placed
all-none L placed = ap (λ a. record { size = placed.size; align = a; offsets = placed.offsets ++ [] })
    (max-zero placed.align) ∙ ap (λ os. record { size = placed.size; align = placed.align; offsets = os })
    (append-nil placed.offsets)

all-one : (L : LaidSchema) (placed : StructLayout) (kind : StoredKind) (kinds : List StoredKind)
    → placed_all L (placed_one L placed kind) kinds ≡ placed_all L placed (kind ∷ kinds)
all-one L placed kind kinds =
    let p = next_multiple_of placed.size (align_of L kind) in
    let end = end_from L (p + size_of L kind) kinds in
    ap (λ a. record {
      size = end;
      align = a;
      offsets = (placed.offsets ++ p ∷ []) ++ offsets_from L (p + size_of L kind)
          kinds;
    }) (max-assoc placed.align (align_of L kind) (natural_align L kinds))
    ∙ ap (λ os. record { size = end; align = max placed.align (natural_align L (kind ∷ kinds)); offsets = os })
    (append_assoc placed.offsets (p ∷ []) (offsets_from L (p + size_of L kind) kinds))

-- what a place behind an end is, for a field of a size
place-cases : (L : LaidSchema) (placed : StructLayout) (kind : StoredKind) → 0 < align_of L kind
    → option_and_then (placed_behind placed) (small_extent (size_of L kind) (align_of L kind))
    ≡ if_small (placed_one L placed kind)
place-cases L placed kind positive = by (nat_lt (size_of L kind) 65536) refl
  where
    p : ℕ
    p = next_multiple_of placed.size (align_of L kind)

    field : Extent
    field = record { size = size_of L kind; align = align_of L kind }

    put : ℕ × ℕ → StructLayout
    put at = record { size = at.1; align = max placed.align (align_of L kind); offsets = placed.offsets ++ at.0 ∷ [] }

    -- the field's end
    ended : (b : Bool) → nat_lt (p + size_of L kind) 65536 ≡ b
        → option_map put (option_map (λ next. (p, next)) (small (p + size_of L kind)))
        ≡ if_small (placed_one L placed kind)
    ended true e = ap (λ c. option_map put
        (option_map (λ next. (p, next)) (if c then Some (p + size_of L kind) else None))) e
        ∙ sym (ap (λ c. if c then Some (placed_one L placed kind) else None) e)
    ended false e = ap (λ c. option_map put
        (option_map (λ next. (p, next)) (if c then Some (p + size_of L kind) else None))) e
        ∙ sym (ap (λ c. if c then Some (placed_one L placed kind) else None) e)

    -- the field's begin
    begun : (b : Bool) → nat_lt p 65536 ≡ b
        → option_map put (option_and_then
        (λ offset. option_map (λ next. (offset, next)) (small (offset + size_of L kind))) (small p))
        ≡ if_small (placed_one L placed kind)
    begun true e = ap (λ c. option_map put
        (option_and_then (λ offset. option_map (λ next. (offset, next)) (small (offset + size_of L kind)))
        (if c then Some p else None))) e ∙ ended (nat_lt (p + size_of L kind) 65536) refl
    begun false e = ap (λ c. option_map put
        (option_and_then (λ offset. option_map (λ next. (offset, next)) (small (offset + size_of L kind)))
        (if c then Some p else None))) e
        ∙ sym (if_small-no (placed_one L placed kind) (let large = large-told p e in omega arith))

    by : (b : Bool) → nat_lt (size_of L kind) 65536 ≡ b
        → option_and_then (placed_behind placed) (small_extent (size_of L kind) (align_of L kind))
        ≡ if_small (placed_one L placed kind)
    by true e = ap (λ c. option_and_then (placed_behind placed) (if c then Some field else None)) e
        ∙ ap (λ o. option_map put
        (option_and_then (λ offset. option_map (λ next. (offset, next)) (small (offset + size_of L kind))) o))
        (aligned-is placed.size (align_of L kind) positive)
        ∙ begun (nat_lt p 65536) refl
    by false e = ap (λ c. option_and_then (placed_behind placed) (if c then Some field else None)) e
        ∙ sym (if_small-no (placed_one L placed kind) (let large = large-told (size_of L kind) e in omega arith))

-- all fields, where they end below 65,536
pub fields_small : (S : DeclaredSchema) (structs : List StructLayout) → ArePositive structs → (placed : StructLayout)
    → placed.size < 65536 → (fs : List DeclaredField)
    → each_added (field_placed S (map if_small structs)) placed fs
    ≡ if_small (placed_all (with_structs S structs) placed (kinds_of S fs))
fields_small S structs positive placed h [] = each_added-nil (field_placed S (map if_small structs)) placed
    ∙ sym (if_small-yes placed h) ∙ ap if_small (sym (all-none (with_structs S structs) placed))
fields_small S structs positive placed h (f ∷ fs) =
    each_added-cons step placed f fs ∙ ap (option_and_then (λ more. each_added step more fs)) one
    ∙ by (nat_lt next.size 65536) refl (λ below. fields_small S structs positive next below fs)
  where
    L : LaidSchema
    L = with_structs S structs

    step : StructLayout → DeclaredField → Option StructLayout
    step = field_placed S (map if_small structs)

    kind : StoredKind
    kind = kind_in (stored_shape S f.shape)

    next : StructLayout
    next = placed_one L placed kind

    one : step placed f ≡ if_small next
    one = ap (option_and_then (placed_behind placed)) (extent_small S structs kind)
        ∙ place-cases L placed kind (align_positive S structs positive kind)

    by : (b : Bool) → nat_lt next.size 65536 ≡ b
        → (next.size < 65536 → each_added step next fs ≡ if_small (placed_all L next (kinds_of S fs)))
        → option_and_then (λ more. each_added step more fs) (if_small next)
        ≡ if_small (placed_all L placed (kind ∷ kinds_of S fs))
    by true e rest = ap (λ c. option_and_then (λ more. each_added step more fs) (if c then Some next else None)) e
        ∙ rest (small-told next.size e) ∙ ap if_small (all-one L placed kind (kinds_of S fs))
    by false e rest = ap (λ c. option_and_then (λ more. each_added step more fs) (if c then Some next else None)) e
        ∙ sym (if_small-no (placed_all L placed (kind ∷ kinds_of S fs)) (let large = large-told next.size e in
        let above = end-above L next.size (kinds_of S fs) in omega arith))

-- ---- whole structs

whole-small : (force : Option ℕ) (placed : StructLayout) → 0 < unwrap_or force placed.align
    → option_and_then (whole_struct force) (if_small placed)
    ≡ if_small (record {
      size = next_multiple_of placed.size (unwrap_or force placed.align);
      align = unwrap_or force placed.align;
      offsets = placed.offsets;
    })
whole-small force placed positive = by (nat_lt placed.size 65536) refl
  where
    align : ℕ
    align = unwrap_or force placed.align

    whole : ℕ → StructLayout
    whole size = record { size = size; align = align; offsets = placed.offsets }

    aligned : (b : Bool) → nat_lt (next_multiple_of placed.size align) 65536 ≡ b
        → option_map whole (small (next_multiple_of placed.size align))
        ≡ if_small (whole (next_multiple_of placed.size align))
    aligned true e = ap (λ c. option_map whole (if c then Some (next_multiple_of placed.size align) else None)) e
        ∙ sym (ap (λ c. if c then Some (whole (next_multiple_of placed.size align)) else None) e)
    aligned false e = ap (λ c. option_map whole (if c then Some (next_multiple_of placed.size align) else None)) e
        ∙ sym (ap (λ c. if c then Some (whole (next_multiple_of placed.size align)) else None) e)

    by : (b : Bool) → nat_lt placed.size 65536 ≡ b
        → option_and_then (whole_struct force) (if_small placed) ≡ if_small (whole (next_multiple_of placed.size align))
    by true e = ap (λ c. option_and_then (whole_struct force) (if c then Some placed else None)) e
        ∙ ap (option_map whole) (aligned-is placed.size align positive)
        ∙ aligned (nat_lt (next_multiple_of placed.size align) 65536) refl
    by false e = ap (λ c. option_and_then (whole_struct force) (if c then Some placed else None)) e
        ∙ sym (if_small-no (whole (next_multiple_of placed.size align)) (let large = large-told placed.size e in
        omega arith))

-- a struct has a field, and its `force_align` isn't 0
abbrev pub IsSizable : DeclaredBody → Type 0
IsSizable (struct_body fs force) = (0 < length fs) × ForSome force (λ a. 0 < a)
IsSizable _ = Unit {0}

forced-positive : (force : Option ℕ) (natural : ℕ) → ForSome force (λ a. 0 < a) → 0 < natural
    → 0 < unwrap_or force natural
forced-positive None natural forced h = h
forced-positive (Some a) natural forced h = forced a refl

natural-positive : (S : DeclaredSchema) (structs : List StructLayout) → ArePositive structs → (fs : List DeclaredField)
    → 0 < length fs → 0 < natural_align (with_structs S structs) (kinds_of S fs)
natural-positive S structs positive [] h = absurd (omega arith)
natural-positive S structs positive (f ∷ fs) h = let first =
    align_positive S structs positive (kind_in (stored_shape S f.shape)) in omega arith

pub exact-positive : (S : DeclaredSchema) (structs : List StructLayout) → ArePositive structs → (body : DeclaredBody)
    → IsSizable body → 0 < (exact_struct (with_structs S structs) body).align
exact-positive S structs positive (struct_body fs force) sizable =
    forced-positive force (natural_align (with_structs S structs) (kinds_of S fs)) sizable.1
    (natural-positive S structs positive fs sizable.0)
exact-positive S structs positive (table_body fs) sizable = omega arith
exact-positive S structs positive (enum_body base flags values) sizable = omega arith
exact-positive S structs positive (union_body members) sizable = omega arith

placed-exact : (L : LaidSchema) (kinds : List StoredKind)
    → placed_all L no_fields kinds
    ≡ record { size = end_from L 0 kinds; align = natural_align L kinds; offsets = offsets_from L 0 kinds }
placed-exact L kinds = ap (λ a. record { size = end_from L 0 kinds; align = a; offsets = offsets_from L 0 kinds })
    (let zero-max : max 0 (natural_align L kinds) ≡ natural_align L kinds = omega arith in zero-max)

struct-small : (S : DeclaredSchema) (structs : List StructLayout) → ArePositive structs → (body : DeclaredBody)
    → IsSizable body → known_struct S (map if_small structs) body
    ≡ if_small (exact_struct (with_structs S structs) body)
struct-small S structs positive (struct_body fs force) sizable =
    let L = with_structs S structs in
    let kinds = kinds_of S fs in
    ap (option_and_then (whole_struct force)) (fields_small S structs positive no_fields (omega arith) fs
    ∙ ap if_small (placed-exact L kinds))
    ∙ whole-small force (record {
      size = end_from L 0 kinds;
      align = natural_align L kinds;
      offsets = offsets_from L 0 kinds;
    }) (exact-positive S structs positive (struct_body fs force) sizable)
struct-small S structs positive (table_body fs) sizable = refl
struct-small S structs positive (enum_body base flags values) sizable = refl
struct-small S structs positive (union_body members) sizable = refl

-- ---- all types

abbrev pub AreSizable : List DeclaredType → Type 0
AreSizable [] = Unit {0}
AreSizable (type ∷ types) = IsSizable type.body × AreSizable types

positive-pushed : (structs : List StructLayout) (r : StructLayout) → ArePositive structs → 0 < r.align
    → ArePositive (structs ++ r ∷ [])
positive-pushed [] r all h = (h, tt)
positive-pushed (q ∷ qs) r all h = (all.0, positive-pushed qs r all.1 h)

-- What is known of the structs is what they take exactly, where that is small.
pub known-exact : (S : DeclaredSchema) (structs : List StructLayout) (types : List DeclaredType) → ArePositive structs
    → AreSizable types → known_from S (map if_small structs) types ≡ map if_small (exact_from S structs types)
known-exact S structs [] positive sizable = known_from-nil S (map if_small structs)
known-exact S structs (type ∷ types) positive sizable =
    let own = exact_struct (with_structs S structs) type.body in
    known_from-cons S (map if_small structs) type types
    ∙ ap (λ r. known_from S (map if_small structs ++ r ∷ []) types)
    (struct-small S structs positive type.body sizable.0)
    ∙ ap (λ k. known_from S k types) (sym (map_push if_small structs own))
    ∙ known-exact S (structs ++ own ∷ []) types
    (positive-pushed structs own positive (exact-positive S structs positive type.body sizable.0)) sizable.1

pub exact-positives : (S : DeclaredSchema) (structs : List StructLayout) (types : List DeclaredType)
    → ArePositive structs → AreSizable types → ArePositive (exact_from S structs types)
exact-positives S structs [] positive sizable = positive
exact-positives S structs (type ∷ types) positive sizable =
    let own = exact_struct (with_structs S structs) type.body in
    exact-positives S (structs ++ own ∷ []) types
    (positive-pushed structs own positive (exact-positive S structs positive type.body sizable.0)) sizable.1
