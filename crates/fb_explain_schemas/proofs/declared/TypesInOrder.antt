-- The types of a text, declaration by declaration.
use Rattle.std.proofs.Common.{ℕ, zero, suc, ◌≡◌, ◌≢◌, ◌+◌, ◌-◌, ◌<◌, ◌++◌, List, [], ◌∷◌, Option, None, Some, length}
use Rattle.std.proofs.Common.{drop, map, slice_get, get_or, ap, sym, ◌∙◌, arith, refl}
use Rattle.std.proofs.lemmas.List.{drop_more}
use Rattle.std.specs.Option.{option_to_list}
use Rattle.fb_syntax.specs.declared.declarations.TypeDecl.{TypeDecl}
use Rattle.fb_syntax.specs.declared.declarations.Declaration.{Declaration}
use Rattle.fb_syntax.specs.declared.declarations.Declaration.TheVariants as declarations
use Rattle.fb_schema.specs.Schema.{Name}
use Rattle.fb_resolve.specs.Outline.{types_in, scope_named}
use Rattle.fb_explain_schemas.specs.FoundInText.{types_of, type_of}

-- which types there are doesn't depend on the namespace in force
any_scope : (scope : Option Name) (ds : List Declaration) → map (λ r. r.declaration) (types_in scope ds) ≡ types_of ds
any_scope scope [] = refl
any_scope scope (declarations.Namespace n ∷ ds) = any_scope (scope_named n) ds ∙ sym (any_scope (scope_named n) ds)
any_scope scope (declarations.Type t ∷ ds) = ap (λ ts. t ∷ ts) (any_scope scope ds)
any_scope scope (declarations.Attribute a ∷ ds) = any_scope scope ds
any_scope scope (declarations.Directive d ∷ ds) = any_scope scope ds

first_type : (d : Declaration) (ds : List Declaration) → types_of (d ∷ ds) ≡ option_to_list (type_of d) ++ types_of ds
first_type (declarations.Namespace n) ds = any_scope (scope_named n) ds
first_type (declarations.Type t) ds = refl
first_type (declarations.Attribute a) ds = refl
first_type (declarations.Directive d) ds = refl

-- the types from a declaration on
types_from : (ds : List Declaration) (i : ℕ) (d : Declaration) → i < length ds → d ≡ get_or ds i d
    → types_of (drop i ds) ≡ option_to_list (type_of d) ++ types_of (drop (i + 1) ds)
types_from ds i d within is =
    ap types_of (drop_more ds i d within ∙ ap (λ first. first ∷ drop (i + 1) ds) (sym is))
    ∙ first_type d (drop (i + 1) ds)

-- where a declaration is a type's
pub type_here : (ds : List Declaration) (i : ℕ) (d : Declaration) (t : TypeDecl) → i < length ds → d ≡ get_or ds i d
    → Some t ≡ type_of d
    → types_of (drop i ds) ≡ t ∷ types_of (drop (i + 1) ds)
type_here ds i d t within is type =
    types_from ds i d within is ∙ ap (λ first. option_to_list first ++ types_of (drop (i + 1) ds)) (sym type)

-- where it isn't
pub no_type_here : (ds : List Declaration) (i : ℕ) (d : Declaration) → i < length ds → d ≡ get_or ds i d
    → None ≡ type_of d
    → types_of (drop i ds) ≡ types_of (drop (i + 1) ds)
no_type_here ds i d within is type =
    types_from ds i d within is ∙ ap (λ first. option_to_list first ++ types_of (drop (i + 1) ds)) (sym type)

pub later_type : (t : TypeDecl) (ts : List TypeDecl) (n m : ℕ) → n ≢ 0 → m ≡ n - 1
    → slice_get (t ∷ ts) n ≡ slice_get ts m
later_type t ts zero m h less = absurd (h refl)
later_type t ts (suc n) m h less = let same : n ≡ m = omega (arith, less) in ap (slice_get ts) same
