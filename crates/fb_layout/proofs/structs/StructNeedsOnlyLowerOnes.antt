-- Where each type's entry stands among the exact sizes, and that a struct needs only those below it.
use Rattle.std.proofs.Common.{◌≡◌, ◌<◌, ◌≤◌, ◌+◌, ◌++◌, ℕ, zero, suc, max, List, [], ◌∷◌, length, take, Option, Some}
use Rattle.std.proofs.Common.{slice_get, slice_index_or, refl, sym, ap, ◌∙◌, arith}
use Rattle.std.specs.Int.{next_multiple_of}
use Rattle.std.specs.Option.{unwrap_or}
use Rattle.std.proofs.lemmas.List.{get_or_append_left, get_or_push, length_push, length-take-le}
use Rattle.std.proofs.lemmas.Option.{none-some, same_Some}
use Rattle.fb_schema.specs.declared.kinds.Kind.TheVariants.{Scalar, Enum, Struct, Table, Union, Code, Text}
use Rattle.fb_schema.specs.declared.kinds.Shape.{Shape}
use Rattle.fb_schema.specs.declared.kinds.Shape.TheVariants.{One, Many}
use Rattle.fb_schema.specs.Schema.{DeclaredField, struct_body, DeclaredType, DeclaredSchema}
use Rattle.fb_schema.specs.WellDeclared.{IsPart}
use Rattle.fb_layout.specs.Laid.{StructLayout, no_struct, stored_shape, kind_in, struct_at, size_of, align_of}
use Rattle.fb_layout.specs.Laid.{kinds_of}
use Rattle.fb_layout.specs.WellMade.{natural_align}
use Rattle.fb_layout.proofs.structs.KindsTakeTheirExactSizes.{offsets_from, end_from, struct_of_kinds}
use Rattle.fb_layout.proofs.structs.KindsTakeTheirExactSizes.{exact_struct, with_structs, exact_from, exact}

-- ---- places

exact-front : (S : DeclaredSchema) (lower : List StructLayout) (types : List DeclaredType) (j : ℕ) (d : StructLayout)
    → j < length lower → slice_index_or (exact_from S lower types) j d ≡ slice_index_or lower j d
exact-front S lower [] j d within = refl
exact-front S lower (type ∷ types) j d within =
    let own = exact_struct (with_structs S lower) type.body in
    exact-front S (lower ++ own ∷ []) types j d (omega (arith, length_push lower own))
    ∙ get_or_append_left lower (own ∷ []) d j within

pub exact-length : (S : DeclaredSchema) (lower : List StructLayout) (types : List DeclaredType)
    → length (exact_from S lower types) ≡ length lower + length types
exact-length S lower [] = omega arith
exact-length S lower (type ∷ types) =
    let own = exact_struct (with_structs S lower) type.body in
    let rest = exact-length S (lower ++ own ∷ []) types in
    omega (arith, rest, length_push lower own)

exact-at : (S : DeclaredSchema) (lower : List StructLayout) (types : List DeclaredType) (t : ℕ) (type : DeclaredType)
    → slice_get types t ≡ Some type
    → slice_index_or (exact_from S lower types) (length lower + t) no_struct
    ≡ exact_struct (with_structs S (exact_from S lower (take t types))) type.body
exact-at S lower [] t type e = absurd (none-some type e)
exact-at S lower (first ∷ types) zero type e =
    let own = exact_struct (with_structs S lower) first.body in
    let sum : length lower + 0 ≡ length lower = omega arith in
    ap (λ i. slice_index_or (exact_from S (lower ++ own ∷ []) types) i no_struct) sum
    ∙ exact-front S (lower ++ own ∷ []) types (length lower) no_struct (omega (arith, length_push lower own))
    ∙ get_or_push lower own no_struct (length lower) refl
    ∙ ap (λ (x : DeclaredType). exact_struct (with_structs S lower) x.body) (same_Some first type e)
exact-at S lower (first ∷ types) (suc t) type e =
    let own = exact_struct (with_structs S lower) first.body in
    let sum : length lower + suc t ≡ length (lower ++ own ∷ []) + t = omega (arith, length_push lower own) in
    ap (λ i. slice_index_or (exact_from S (lower ++ own ∷ []) types) i no_struct) sum ∙ exact-at S (lower ++ own ∷ [])
    types t type e

exact-below : (S : DeclaredSchema) (lower : List StructLayout) (types : List DeclaredType) (t j : ℕ) (d : StructLayout)
    → j < length (exact_from S lower (take t types))
    → slice_index_or (exact_from S lower types) j d ≡ slice_index_or (exact_from S lower (take t types)) j d
exact-below S lower types zero j d within = exact-front S lower types j d within
exact-below S lower [] (suc t) j d within = refl
exact-below S lower (first ∷ types) (suc t) j d within =
    exact-below S (lower ++ exact_struct (with_structs S lower) first.body ∷ []) types t j d within

within-types : (types : List DeclaredType) (t : ℕ) (type : DeclaredType) → slice_get types t ≡ Some type
    → t < length types
within-types [] t type e = absurd (none-some type e)
within-types (x ∷ xs) zero type e = omega arith
within-types (x ∷ xs) (suc t) type e = let rest = within-types xs t type e in omega arith

-- the sizes of the types below one
abbrev pub below : DeclaredSchema → ℕ → List StructLayout
below S t = exact_from S [] (take t S.types)

below-same : (S : DeclaredSchema) (t j : ℕ) → t ≤ length S.types → j < t
    → slice_index_or (below S t) j no_struct ≡ slice_index_or (exact S).structs j no_struct
below-same S t j within less =
    let long : length (below S t) ≡ t = let sum = exact-length S [] (take t S.types) in let taken =
    length-take-le t S.types within in omega (arith, sum, taken) in
    sym (exact-below S [] S.types t j no_struct (rw long less))

-- ---- two lists of sizes that are the same below a number

pub part-size : (S : DeclaredSchema) (a b : List StructLayout) (s : ℕ)
    → ((j : ℕ) → j < s → slice_index_or a j no_struct ≡ slice_index_or b j no_struct) → (shape : Shape)
    → IsPart S s shape → (size_of (with_structs S a) (kind_in (stored_shape S shape))
    ≡ size_of (with_structs S b) (kind_in (stored_shape S shape)))
    × (align_of (with_structs S a) (kind_in (stored_shape S shape))
    ≡ align_of (with_structs S b) (kind_in (stored_shape S shape)))
part-size S a b s same (One (Scalar base)) part = (refl, refl)
part-size S a b s same (One (Enum e)) part = (refl, refl)
part-size S a b s same (One (Struct t)) part = let is = same t.0 part.0 in
    (ap (λ (r : StructLayout). r.size) is, ap (λ (r : StructLayout). r.align) is)
part-size S a b s same (One (Table t)) part = absurd part
part-size S a b s same (One (Union u)) part = absurd part
part-size S a b s same (One (Code u)) part = absurd part
part-size S a b s same (One Text) part = absurd part
part-size S a b s same (Many kind) part = absurd part

abbrev AreParts : DeclaredSchema → ℕ → List DeclaredField → Type 0
AreParts S s fs = (k : ℕ) (f : DeclaredField) → slice_get fs k ≡ Some f → IsPart S s f.shape

ends-same : (S : DeclaredSchema) (a b : List StructLayout) (s : ℕ)
    → ((j : ℕ) → j < s → slice_index_or a j no_struct ≡ slice_index_or b j no_struct)
    → (p : ℕ) (fs : List DeclaredField) → AreParts S s fs
    → (end_from (with_structs S a) p (kinds_of S fs) ≡ end_from (with_structs S b) p (kinds_of S fs))
    × (offsets_from (with_structs S a) p (kinds_of S fs) ≡ offsets_from (with_structs S b) p (kinds_of S fs))
ends-same S a b s same p [] parts = (refl, refl)
ends-same S a b s same p (f ∷ fs) parts =
    let A = with_structs S a in
    let B = with_structs S b in
    let kind = kind_in (stored_shape S f.shape) in
    let own = part-size S a b s same f.shape (parts 0 f refl) in
    let next : next_multiple_of p (align_of A kind) + size_of A kind ≡ next_multiple_of p (align_of B kind) + size_of B
    kind = ap (λ n. next_multiple_of p n + size_of A kind) own.1
    ∙ ap (λ n. next_multiple_of p (align_of B kind) + n) own.0 in
    let rest = ends-same S a b s same (next_multiple_of p (align_of B kind) + size_of B kind) fs
    (λ k g e. parts (suc k) g e) in (
      ap (λ n. end_from A n (kinds_of S fs)) next ∙ rest.0,
      ap (λ n. next_multiple_of p n ∷ offsets_from A (next_multiple_of p (align_of A kind) + size_of A kind)
          (kinds_of S fs)) own.1
          ∙ ap (λ n. next_multiple_of p (align_of B kind) ∷ offsets_from A n (kinds_of S fs)) next
          ∙ ap (λ os. next_multiple_of p (align_of B kind) ∷ os) rest.1,
    )

pub natural-same : (S : DeclaredSchema) (a b : List StructLayout) (s : ℕ)
    → ((j : ℕ) → j < s → slice_index_or a j no_struct ≡ slice_index_or b j no_struct) → (fs : List DeclaredField)
    → AreParts S s fs → natural_align (with_structs S a) (kinds_of S fs)
    ≡ natural_align (with_structs S b) (kinds_of S fs)
natural-same S a b s same [] parts = refl
natural-same S a b s same (f ∷ fs) parts =
    let own = part-size S a b s same f.shape (parts 0 f refl) in
    let rest = natural-same S a b s same fs (λ k g e. parts (suc k) g e) in
    ap (λ n. max n (natural_align (with_structs S a) (kinds_of S fs))) own.1
    ∙ ap (λ n. max (align_of (with_structs S b) (kind_in (stored_shape S f.shape))) n) rest

struct-same : (S : DeclaredSchema) (a b : List StructLayout) (s : ℕ)
    → ((j : ℕ) → j < s → slice_index_or a j no_struct ≡ slice_index_or b j no_struct) → (fs : List DeclaredField)
    → AreParts S s fs → (force : Option ℕ)
    → struct_of_kinds (with_structs S a) (kinds_of S fs) force ≡ struct_of_kinds (with_structs S b) (kinds_of S fs)
    force
struct-same S a b s same fs parts force =
    let A = with_structs S a in
    let kinds = kinds_of S fs in
    let ends = ends-same S a b s same 0 fs parts in
    let natural = natural-same S a b s same fs parts in
    ap (λ n. record {
      size = next_multiple_of (end_from A 0 kinds) (unwrap_or force n);
      align = unwrap_or force n;
      offsets = offsets_from A 0 kinds;
    }) natural
    ∙ ap (λ n. record {
      size = next_multiple_of n (unwrap_or force (natural_align (with_structs S b) kinds));
      align = unwrap_or force (natural_align (with_structs S b) kinds);
      offsets = offsets_from A 0 kinds;
    }) ends.0
    ∙ ap (λ os. record {
      size = next_multiple_of (end_from (with_structs S b) 0 kinds)
          (unwrap_or force (natural_align (with_structs S b) kinds));
      align =
          unwrap_or force (natural_align (with_structs S b) kinds);
      offsets = os;
    }) ends.1

-- ---- the entry of a type

pub entry : (S : DeclaredSchema) (t : ℕ) (type : DeclaredType) → slice_get S.types t ≡ Some type
    → struct_at (exact S) t ≡ exact_struct (with_structs S (below S t)) type.body
entry S t type e = ap (λ i. slice_index_or (exact_from S [] S.types) i no_struct) (let sum : t ≡ 0 + t = omega arith in
    sum) ∙ exact-at S [] S.types t type e

-- a struct's entry, from the sizes of all types
pub struct_entry : (S : DeclaredSchema) (t : ℕ) (type : DeclaredType) (fs : List DeclaredField) (force : Option ℕ)
    → slice_get S.types t ≡ Some type → type.body ≡ struct_body fs force
    → ((k : ℕ) (f : DeclaredField) → slice_get fs k ≡ Some f → IsPart S t f.shape)
    → struct_at (exact S) t ≡ struct_of_kinds (exact S) (kinds_of S fs) force
struct_entry S t type fs force e is parts =
    entry S t type e ∙ ap (exact_struct (with_structs S (below S t))) is
    ∙ struct-same S (below S t) (exact S).structs t
    (λ j less. below-same S t j (let within = within-types S.types t type e in omega arith) less) fs parts force
