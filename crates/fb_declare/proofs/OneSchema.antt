-- What declarations give is one schema at most.
use Rattle.std.proofs.Common.{◌≡◌, ◌<◌, ℕ, List, [], ◌∷◌, length, get_or, refl, ap, sym, ◌∙◌, arith, Some}
use Rattle.std.proofs.Common.{slice_get}
use Rattle.std.specs.List.{AllZip}
use Rattle.std.proofs.lemmas.List.{ext_get_or, nil_from_length}
use Rattle.std.proofs.lemmas.List.Elements.{Contains-get_or}
use Rattle.std.proofs.lemmas.List.Sorted.{Contains-permutation, IsPermutation-sym, length_permutation}
use Rattle.std.proofs.lemmas.Option.{get_or_from_slice_get, same_Some, slice_get-get_or, slice_get_read}
use Rattle.fb_syntax.specs.DeclsRead.{DeclsRead}
use Rattle.fb_resolve.specs.ResolvedType.{ResolvedType}
use Rattle.fb_resolve.specs.Resolved.{resolved_types}
use Rattle.fb_resolve.specs.declared.resolved.ResolvedDecl.{ResolvedDecl}
use Rattle.fb_resolve.specs.declared.resolved.ResolvedDecl.TheVariants as resolved
use Rattle.fb_schema.specs.Schema.{DeclaredField, DeclaredBody, table_body, struct_body, enum_body, union_body}
use Rattle.fb_schema.specs.Schema.{DeclaredType, DeclaredSchema}
use Rattle.fb_resolve.specs.Outline.{outline_of}
use Rattle.fb_resolve.specs.Ids.{slots_read, AreInPlace}
use Rattle.fb_declare.specs.Declares.{HasBody, IsType, Declares}

-- The slot at a place stands there in each order.
same_slot : (read p q : List DeclaredField) → AreInPlace read p → AreInPlace read q → (d : DeclaredField) (k : ℕ)
    → k < length p → get_or p k d ≡ get_or q k d
same_slot read p q a b d k h =
    let f : DeclaredField = get_or p k d in
    let among = Contains-permutation read q f b.same
    (Contains-permutation p read f (IsPermutation-sym read p a.same) (Contains-get_or p k d h)) in
    let at : slice_get q among.0 ≡ Some f = slice_get_read q (length q) among.0 f refl among.1 (sym among.2) in
    let place : among.0 ≡ k = sym (b.slots among.0 f at) ∙ a.slots k f (slice_get-get_or p k d h) in
    sym (get_or_from_slice_get q k f d (rw place at at))

-- The slots that stand in place are the same.
same_slots : (read p q : List DeclaredField) → AreInPlace read p → AreInPlace read q → p ≡ q
same_slots read [] q a b = sym (nil_from_length q
    (length_permutation read q b.same ∙ sym (length_permutation read [] a.same)))
same_slots read (f ∷ fs) q a b = ext_get_or f (f ∷ fs) q
    (length_permutation read (f ∷ fs) a.same ∙ sym (length_permutation read q b.same))
    (λ k h. same_slot read (f ∷ fs) q a b f k h)

-- A declaration gives one body at most.
same_body : (d : ResolvedDecl) (b c : DeclaredBody) → HasBody d b → HasBody d c → b ≡ c
same_body (resolved.Table t) (table_body p) (table_body q) x y =
    ap table_body (same_slots (slots_read t.fields) p q x y)
same_body (resolved.Struct s) (struct_body ps a) (struct_body qs b) x y = let parts : ps ≡ qs = x.0 ∙ sym y.0 in
    let force : a ≡ b = x.1 ∙ sym y.1 in cc
same_body (resolved.Enum e) (enum_body a f vs) (enum_body b g ws) x y =
    let base : a ≡ b = x.0 ∙ sym y.0 in
    let flags : f ≡ g = x.1 ∙ sym y.1 in
    let values : vs ≡ ws = x.2 ∙ sym y.2 in cc
same_body (resolved.Union u) (union_body ms) (union_body ns) x y = ap union_body (x ∙ sym y)
same_body _ _ _ x y = grind arith

-- Declarations give one list of types at most.
same_types : (rs : List ResolvedType) (ts us : List DeclaredType) → AllZip IsType rs ts → AllZip IsType rs us → ts ≡ us
same_types [] [] [] x y = refl
same_types (r ∷ rs) (t ∷ ts) (u ∷ us) x y =
    let name : t.name ≡ u.name = x.0.name ∙ sym y.0.name in
    let body = same_body r.declaration t.body u.body x.0.body y.0.body in
    let rest = same_types rs ts us x.1 y.1 in
    λ i. record { name = name i; body = body i } ∷ rest i
same_types _ _ _ x y = grind arith

-- The declarations of a text give one schema at most.
pub one_declared : (d : DeclsRead) (S T : DeclaredSchema) → Declares d S → Declares d T → S ≡ T
one_declared d S T x y =
    let types : S.types ≡ T.types = same_types (resolved_types (outline_of d).types) S.types T.types x.given.types
    y.given.types in
    let root : S.root ≡ T.root = same_Some S.root T.root (x.given.root ∙ sym y.given.root) in
    let identifier : S.identifier ≡ T.identifier = x.given.identifier ∙ sym y.given.identifier in
    λ i. record { types = types i; root = root i; identifier = identifier i }
