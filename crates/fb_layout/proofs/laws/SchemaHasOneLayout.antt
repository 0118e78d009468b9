-- A schema has one list of sizes at most.
use Rattle.std.proofs.Common.{◌≡◌, ◌<◌, ◌≤◌, ◌+◌, ℕ, zero, suc, inl, inr, Bool, true, false, IsTrue, List, [], ◌∷◌}
use Rattle.std.proofs.Common.{Option, Some, slice_get, slice_index_or, refl, sym, ap, ◌∙◌, subst, arith}
use Rattle.std.specs.Option.{unwrap_or}
use Rattle.std.proofs.lemmas.List.{ext_get_or}
use Rattle.fb_schema.specs.Schema.{DeclaredField, DeclaredSchema, body_at}
use Rattle.fb_schema.specs.Schema.{is_struct}
use Rattle.fb_schema.specs.WellDeclared.{IsPart, IsDeclared}
use Rattle.fb_layout.specs.Sizes.{IsLeastMultiple}
use Rattle.fb_layout.specs.Laid.{LaidSchema, StructLayout, no_struct, stored_shape, kind_in, size_of, align_of}
use Rattle.fb_layout.specs.Laid.{kinds_of}
use Rattle.fb_layout.specs.WellMade.{StandInOrder, IsStructLaid, IsSized, IsWellMade}
use Rattle.fb_layout.specs.declared.faults.LayoutFault.{LayoutFault}
use Rattle.fb_layout.specs.declared.faults.LayoutFault.TheVariants.{StructTooBig, TableTooWide, Memory}
use Rattle.fb_layout.specs.Refused.{Fails, Refuses}
use Rattle.fb_layout.specs.OneLayout.{OneLayout}
use Rattle.fb_layout.proofs.structs.KindsTakeTheirExactSizes.{with_structs}
use Rattle.fb_layout.proofs.structs.StructNeedsOnlyLowerOnes.{part-size, natural-same}
use Rattle.fb_layout.proofs.sizes.StructsAreDeclared.{struct_told, body_told}

-- the least multiple is one number
one-multiple : (a n m k : ℕ) → IsLeastMultiple a n m → IsLeastMultiple a n k → m ≡ k
one-multiple a n m k x y =
    let below : m ≤ k = rw y.multiple.1 (x.least y.multiple.0 (rw (← y.multiple.1) y.above)) in
    let above : k ≤ m = rw x.multiple.1 (y.least x.multiple.0 (rw (← x.multiple.1) x.above)) in
    omega (arith, below, above)

abbrev AreSame : List StructLayout → List StructLayout → ℕ → Type 0
AreSame a b s = (j : ℕ) → j < s → slice_index_or a j no_struct ≡ slice_index_or b j no_struct

-- fields that stand in order stand at the same places
one-order : (S : DeclaredSchema) (a b : List StructLayout) (s : ℕ) → AreSame a b s → (p : ℕ) (fs : List DeclaredField)
    → ((k : ℕ) (f : DeclaredField) → slice_get fs k ≡ Some f → IsPart S s f.shape) → (os qs : List ℕ) (end last : ℕ)
    → StandInOrder (with_structs S a) p (kinds_of S fs) os end
    → StandInOrder (with_structs S b) p (kinds_of S fs) qs last → (os ≡ qs) × (end ≡ last)
one-order S a b s same p [] parts [] [] end last x y = (refl, sym x ∙ y)
one-order S a b s same p [] parts (o ∷ os) qs end last x y = absurd x
one-order S a b s same p [] parts [] (q ∷ qs) end last x y = absurd y
one-order S a b s same p (f ∷ fs) parts [] qs end last x y = absurd x
one-order S a b s same p (f ∷ fs) parts (o ∷ os) [] end last x y = absurd y
one-order S a b s same p (f ∷ fs) parts (o ∷ os) (q ∷ qs) end last x y =
    let kind = kind_in (stored_shape S f.shape) in
    let own = part-size S a b s same f.shape (parts 0 f refl) in
    let first : o ≡ q = one-multiple (align_of (with_structs S b) kind) p o q
    (rw (← own.1) x.0) y.0 in
    let next : o + size_of (with_structs S a) kind ≡ q + size_of (with_structs S b) kind =
    ap (λ n. n + size_of (with_structs S a) kind) first ∙ ap (λ n. q + n) own.0 in
    let rest = one-order S a b s same (q + size_of (with_structs S b) kind) fs (λ k g e. parts (suc k) g e) os qs end
    last (rw (← next) x.1) y.1 in
    (ap (λ n. n ∷ os) first ∙ ap (λ r. q ∷ r) rest.0, rest.1)

-- two structs of the same fields
one-struct : (S : DeclaredSchema) (a b : List StructLayout) (s : ℕ) → AreSame a b s → (fs : List DeclaredField)
    → ((k : ℕ) (f : DeclaredField) → slice_get fs k ≡ Some f → IsPart S s f.shape)
    → (force : Option ℕ) (r q : StructLayout) → IsStructLaid (with_structs S a) (kinds_of S fs) force r
    → IsStructLaid (with_structs S b) (kinds_of S fs) force q → r ≡ q
one-struct S a b s same fs parts force r q x y =
    let order = one-order S a b s same 0 fs parts r.offsets q.offsets x.end y.end x.fields y.fields in
    let align : r.align ≡ q.align = x.aligned ∙ ap (unwrap_or force) (natural-same S a b s same fs parts)
    ∙ sym y.aligned in
    let size : r.size ≡ q.size =
    one-multiple q.align y.end r.size q.size
    (rw (← order.1) (rw (← align) x.sized)) y.sized in
    ap (λ n. record { size = n; align = r.align; offsets = r.offsets }) size
    ∙ ap (λ n. record { size = q.size; align = n; offsets = r.offsets }) align
    ∙ ap (λ os. record { size = q.size; align = q.align; offsets = os }) order.0

-- a struct of a schema
same-struct : (S : DeclaredSchema) (a b : List StructLayout) → IsDeclared S → IsSized (with_structs S a)
    → IsSized (with_structs S b) → (s : ℕ) → AreSame a b s → IsTrue (is_struct (body_at S s))
    → slice_index_or a s no_struct ≡ slice_index_or b s no_struct
same-struct S a b declared x y s same h =
    let at = struct_told S s h in
    let body = body_told S declared s at in
    one-struct S a b s same at.fs (λ k f e. (body.parts k f e).0) at.force (slice_index_or a s no_struct)
    (slice_index_or b s no_struct)
    (rw at.at at (x.structs s h))
    (rw at.at at (y.structs s h))

true-told : (b : Bool) → b ≡ true → IsTrue b
true-told true e = refl
true-told false e = e

same-entry : (S : DeclaredSchema) (a b : List StructLayout) → IsDeclared S → IsSized (with_structs S a)
    → IsSized (with_structs S b) → (s : ℕ) → AreSame a b s → (c : Bool) → is_struct (body_at S s) ≡ c
    → slice_index_or a s no_struct ≡ slice_index_or b s no_struct
same-entry S a b declared x y s same true e =
    same-struct S a b declared x y s same (true-told (is_struct (body_at S s)) e)
same-entry S a b declared x y s same false e = x.others s e ∙ sym (y.others s e)

same-below : (S : DeclaredSchema) (a b : List StructLayout) → IsDeclared S → IsSized (with_structs S a)
    → IsSized (with_structs S b) → (n : ℕ) → AreSame a b n
same-below S a b declared x y zero j less = absurd (omega (arith, less))
same-below S a b declared x y (suc n) j less =
    same-entry S a b declared x y j (λ i below. same-below S a b declared x y n i (omega (arith, below, less)))
    (is_struct (body_at S j)) refl

pub one_sizing : OneLayout
one_sizing S a b declared x y =
    ext_get_or no_struct a b (x.one_each ∙ sym y.one_each)
    (λ k within. same-below S a b declared x y (suc k) k (omega arith))

-- a well-made layout fails no rule
no-fault : (L : LaidSchema) → IsWellMade L → (f : LayoutFault) → Fails L f → ⊥
no-fault L made (StructTooBig s) fails = let small = made.small s.0 in omega (arith, small, fails)
no-fault L made (TableTooWide t) (inl wide) = let narrow = (made.tables t.0).wide in omega (arith, narrow, wide)
no-fault L made (TableTooWide t) (inr many) = let few = (made.tables t.0).few in omega (arith, few, many)
no-fault L made Memory fails = fails

-- A schema that is refused has no layout.
pub no_layout : (S : DeclaredSchema) (f : LayoutFault) → Refuses S f → (L : LaidSchema) → L.schema ≡ S
    → ¬ (IsWellMade L)
no_layout S f refused L e made =
    let sized : IsSized (with_structs S refused.layout.structs) =
    rw (← refused.schema) refused.sized in
    let own : IsSized (with_structs S L.structs) = rw (← e) made.sized in
    let declared : IsDeclared S = subst IsDeclared e made.declared in
    let structs = one_sizing S refused.layout.structs L.structs declared sized own in
    let schema : refused.layout.schema ≡ L.schema = refused.schema ∙ sym e in
    let same : refused.layout ≡ L = ap (λ T. with_structs T refused.layout.structs) schema
    ∙ ap (with_structs L.schema) structs in
    no-fault L made f (rw (← same) refused.fails)
