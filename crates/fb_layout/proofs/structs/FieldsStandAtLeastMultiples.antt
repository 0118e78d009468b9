-- Each field of a declared struct stands at the least multiple of its alignment behind the one before it, and the
-- struct ends at the least multiple of its own: the exact sizes are sizes of the schema.
use Rattle.std.proofs.Common.{◌≡◌, ◌<◌, ◌≤◌, ◌+◌, ℕ, zero, suc, max, false, IsTrue, List, [], ◌∷◌, length, map, Option}
use Rattle.std.proofs.Common.{None, Some, slice_get, slice_index, slice_index_or, refl, sym, ap, ◌∙◌, arith}
use Rattle.std.specs.Int.{next_multiple_of}
use Rattle.std.specs.Option.{ForSome, unwrap_or}
use Rattle.std.proofs.lemmas.Bool.{false≢true}
use Rattle.std.proofs.lemmas.Nat.{pow_pos}
use Rattle.std.proofs.lemmas.Option.{none-some}
use Rattle.fb_schema.specs.declared.kinds.Kind.TheVariants.{Scalar, Enum, Struct, Table, Union, Code, Text}
use Rattle.fb_schema.specs.declared.kinds.Shape.{Shape}
use Rattle.fb_schema.specs.declared.kinds.Shape.TheVariants.{One, Many}
use Rattle.fb_schema.specs.Schema.{DeclaredField, DeclaredBody, table_body, struct_body, enum_body, union_body}
use Rattle.fb_schema.specs.Schema.{DeclaredType, DeclaredSchema, body_in, body_at, parts_in, force_align_in, is_struct}
use Rattle.fb_schema.specs.Alignments.{greatest_in, part_align, natural_align_in, AreAligned}
use Rattle.fb_schema.specs.WellDeclared.{IsPart, IsForceAlign, IsBody, IsDeclared}
use Rattle.fb_layout.specs.Laid.{LaidSchema, StructLayout, no_struct, StoredKind, stored_shape, kind_in, struct_at}
use Rattle.fb_layout.specs.Laid.{kinds_of}
use Rattle.fb_layout.specs.Laid.{size_of, align_of, parts_of}
use Rattle.fb_layout.specs.WellMade.{StandInOrder, natural_align, IsStructLaid, IsSized}
use Rattle.fb_layout.proofs.sizes.StructsAreDeclared.{IsStructAt, struct_told, body_told}
use Rattle.fb_layout.proofs.structs.KindsTakeTheirExactSizes.{offsets_from, end_from, struct_of_kinds}
use Rattle.fb_layout.proofs.structs.KindsTakeTheirExactSizes.{exact_struct, with_structs, exact, ArePositive}
use Rattle.fb_layout.proofs.structs.KindsTakeTheirExactSizes.{align_positive}
use Rattle.fb_layout.proofs.structs.SmallStructsAreKnown.{IsSizable, AreSizable, exact-positives}
use Rattle.fb_layout.proofs.laws.NextMultipleIsTheLeast.{next-least}
use Rattle.fb_layout.proofs.structs.StructNeedsOnlyLowerOnes.{exact-length, below, entry, struct_entry}

-- ---- each struct and its fields are sizable

force-positive : (force : Option ℕ) → ForSome force IsForceAlign → ForSome force (λ a. 0 < a)
force-positive force h a e = let power = h a e in rw power.2 (pow_pos power.0)

body-sizable : (S : DeclaredSchema) (t : ℕ) (body : DeclaredBody) → IsBody S t body → IsSizable body
body-sizable S t (struct_body fs force) is = (is.some, force-positive force is.aligned)
body-sizable S t (table_body fs) is = tt
body-sizable S t (enum_body base flags values) is = tt
body-sizable S t (union_body members) is = tt

all-sizable : (types : List DeclaredType)
    → ((t : ℕ) (type : DeclaredType) → slice_get types t ≡ Some type → IsSizable type.body) → AreSizable types
all-sizable [] each = tt
all-sizable (type ∷ types) each = (each 0 type refl, all-sizable types (λ t x e. each (suc t) x e))

pub sizable : (S : DeclaredSchema) → IsDeclared S → AreSizable S.types
sizable S declared = all-sizable S.types (λ t type e. body-sizable S t type.body (declared.bodies t type e))

pub positive : (S : DeclaredSchema) → IsDeclared S → ArePositive (exact S).structs
positive S declared = exact-positives S [] S.types tt (sizable S declared)

-- ---- the fields stand in order

stand : (S : DeclaredSchema) (structs : List StructLayout) → ArePositive structs → (p : ℕ) (kinds : List StoredKind)
    → StandInOrder (with_structs S structs) p kinds (offsets_from (with_structs S structs) p kinds)
    (end_from (with_structs S structs) p kinds)
stand S structs all p [] = refl
stand S structs all p (kind ∷ kinds) =
    let L = with_structs S structs in (
      next-least (align_of L kind) p (align_positive S structs all kind),
      stand S structs all (next_multiple_of p (align_of L kind) + size_of L kind) kinds,
    )

-- ---- alignments

part-aligned : (S : DeclaredSchema) (aligns : List ℕ) (s : ℕ)
    → ((j : ℕ) → j < s → IsTrue (is_struct (body_at S j)) → (struct_at (exact S) j).align ≡ slice_index aligns j)
    → (shape : Shape) → IsPart S s shape
    → align_of (exact S) (kind_in (stored_shape S shape)) ≡ part_align S aligns shape
part-aligned S aligns s known (One (Scalar base)) part = refl
part-aligned S aligns s known (One (Enum e)) part = refl
part-aligned S aligns s known (One (Struct t)) part = known t.0 part.0 part.1.1
part-aligned S aligns s known (One (Table t)) part = absurd part
part-aligned S aligns s known (One (Union u)) part = absurd part
part-aligned S aligns s known (One (Code u)) part = absurd part
part-aligned S aligns s known (One Text) part = absurd part
part-aligned S aligns s known (Many kind) part = absurd part

natural-aligned : (S : DeclaredSchema) (aligns : List ℕ) (s : ℕ)
    → ((j : ℕ) → j < s → IsTrue (is_struct (body_at S j)) → (struct_at (exact S) j).align ≡ slice_index aligns j)
    → (fs : List DeclaredField) → ((k : ℕ) (f : DeclaredField) → slice_get fs k ≡ Some f → IsPart S s f.shape)
    → natural_align (exact S) (kinds_of S fs) ≡ greatest_in (map (λ f. part_align S aligns f.shape) fs)
natural-aligned S aligns s known [] parts = refl
natural-aligned S aligns s known (f ∷ fs) parts =
    ap (λ n. max n (natural_align (exact S) (kinds_of S fs))) (part-aligned S aligns s known f.shape (parts 0 f refl))
    ∙ ap (λ n. max (part_align S aligns f.shape) n) (natural-aligned S aligns s known fs (λ k g e. parts (suc k) g e))

at_entry : (S : DeclaredSchema) → IsDeclared S → (s : ℕ) (at : IsStructAt S s)
    → struct_at (exact S) s ≡ struct_of_kinds (exact S) (kinds_of S at.fs) at.force
at_entry S declared s at =
    struct_entry S s at.type at.fs at.force at.found at.body (λ k f e. ((body_told S declared s at).parts k f e).0)

-- the natural alignment is the one that the schema's own alignments give
natural-is : (S : DeclaredSchema) → IsDeclared S → (aligns : List ℕ) (s : ℕ) (at : IsStructAt S s)
    → ((j : ℕ) → j < s → IsTrue (is_struct (body_at S j)) → (struct_at (exact S) j).align ≡ slice_index aligns j)
    → natural_align (exact S) (kinds_of S at.fs) ≡ natural_align_in S aligns s
natural-is S declared aligns s at known =
    natural-aligned S aligns s known at.fs (λ k f e. ((body_told S declared s at).parts k f e).0)
    ∙ ap (λ b. greatest_in (map (λ f. part_align S aligns f.shape) (parts_in b))) (sym at.at)

aligned-below : (S : DeclaredSchema) → IsDeclared S → (aligns : List ℕ) → AreAligned S aligns → (n s : ℕ) → s < n
    → IsTrue (is_struct (body_at S s)) → (struct_at (exact S) s).align ≡ slice_index aligns s
aligned-below S declared aligns are zero s less h = absurd (omega arith)
aligned-below S declared aligns are (suc n) s less h =
    let at = struct_told S s h in
    ap (λ (r : StructLayout). r.align) (at_entry S declared s at)
    ∙ ap (unwrap_or at.force)
    (natural-is S declared aligns s at (λ j below struct. aligned-below S declared aligns are n j (omega arith) struct))
    ∙ sym (ap (λ b. unwrap_or (force_align_in b) (natural_align_in S aligns s)) at.at)
    ∙ sym (are.each s h)

aligned : (S : DeclaredSchema) → IsDeclared S → (aligns : List ℕ) → AreAligned S aligns → (s : ℕ)
    → IsTrue (is_struct (body_at S s)) → (struct_at (exact S) s).align ≡ slice_index aligns s
aligned S declared aligns are s h = aligned-below S declared aligns are (suc s) s (omega arith) h

-- ---- structs

forced : (S : DeclaredSchema) → IsDeclared S → (s : ℕ) (h : IsTrue (is_struct (body_at S s)))
    → ForSome (struct_told S s h).force (λ a. natural_align (exact S) (kinds_of S (struct_told S s h).fs) ≤ a)
forced S declared s h a e =
    let at = struct_told S s h in
    let aligns = declared.aligned.0 in
    let are = declared.aligned.1 in
    let natural = natural-is S declared aligns s at (λ j below struct. aligned S declared aligns are j struct) in
    let enough = are.forced s h a (ap force_align_in at.at ∙ e) in
    rw natural enough

struct-laid : (S : DeclaredSchema) → IsDeclared S → (s : ℕ) → IsTrue (is_struct (body_at S s))
    → IsStructLaid (exact S) (parts_of (exact S) s) (force_align_in (body_at S s)) (struct_at (exact S) s)
struct-laid S declared s h =
    let at = struct_told S s h in
    let L = exact S in
    let kinds = kinds_of S at.fs in
    let all = positive S declared in
    let laid : IsStructLaid L kinds at.force (struct_of_kinds L kinds at.force) = record {
      end = end_from L 0 kinds;
      fields = stand S L.structs all 0 kinds;
      forced = forced S declared s h;
      aligned = refl;
      sized = next-least (unwrap_or at.force (natural_align L kinds)) (end_from L 0 kinds)
          (rw (at_entry S declared s at) at (entry-positive S declared s at));
    } in
    rw at.at (rw (at_entry S declared s at) laid)
  where
    positive-at : (structs : List StructLayout) → ArePositive structs → (i : ℕ)
        → 0 < (slice_index_or structs i no_struct).align
    positive-at [] all i = omega arith
    positive-at (r ∷ rs) all zero = all.0
    positive-at (r ∷ rs) all (suc i) = positive-at rs all.1 i

    entry-positive : (S : DeclaredSchema) → IsDeclared S → (s : ℕ) → IsStructAt S s → 0 < (struct_at (exact S) s).align
    entry-positive S declared s at = positive-at (exact S).structs (positive S declared) s

-- ---- all other types

pub no-entry : (structs : List StructLayout) (t : ℕ) → length structs ≤ t
    → slice_index_or structs t no_struct ≡ no_struct
no-entry [] t h = refl
no-entry (r ∷ rs) zero h = absurd (omega arith)
no-entry (r ∷ rs) (suc t) h = no-entry rs t (omega arith)

past-types : (types : List DeclaredType) (t : ℕ) → slice_get types t ≡ None → length types ≤ t
past-types [] t e = omega arith
past-types (x ∷ xs) zero e = absurd (none-some x (sym e))
past-types (x ∷ xs) (suc t) e = let rest = past-types xs t e in omega arith

no-struct-of : (L : LaidSchema) (body : DeclaredBody) → is_struct body ≡ false → exact_struct L body ≡ no_struct
no-struct-of L (struct_body fs force) h = absurd (false≢true (sym h))
no-struct-of L (table_body fs) h = refl
no-struct-of L (enum_body base flags values) h = refl
no-struct-of L (union_body members) h = refl

other-type : (S : DeclaredSchema) (t : ℕ) (o : Option DeclaredType) → slice_get S.types t ≡ o
    → is_struct (body_in o) ≡ false → struct_at (exact S) t ≡ no_struct
other-type S t None e h = no-entry (exact S).structs t (let past = past-types S.types t e in
    let long = exact-length S [] S.types in omega (arith, past, long))
other-type S t (Some type) e h = entry S t type e ∙ no-struct-of (with_structs S (below S t)) type.body h

-- The exact sizes are sizes of the schema.
pub exact_sized : (S : DeclaredSchema) → IsDeclared S → IsSized (exact S)
exact_sized S declared = record {
  one_each = let long = exact-length S [] S.types in omega (arith, long);
  structs = struct-laid S declared;
  others = λ t h. other-type S t (slice_get S.types t) refl h;
}
