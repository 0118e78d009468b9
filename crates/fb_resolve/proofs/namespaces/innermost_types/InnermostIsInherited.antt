-- What is meant inside each path, from the shortest path on.
use Rattle.std.proofs.Common.{◌≢◌, ◌≡◌, ◌<◌, ◌+◌, ◌++◌, ◌==◌, [], ℕ, zero, suc, inl, inr, refl, List, length, get_or}
use Rattle.std.proofs.Common.{slice_get, nat_lt, Option, Some, sym, ◌∙◌, arith, if◌then◌else◌}
use Rattle.std.proofs.lemmas.Bool.{lt-ltb, le-ltb}
use Rattle.std.proofs.lemmas.Bool.Decides.{nat_tests, eqb_tells}
use Rattle.std.proofs.lemmas.Option.{get_or_from_slice_get}
use Rattle.std.specs.Option.{option_or}
use Rattle.fb_schema.specs.Schema.{Name}
use Rattle.fb_resolve.specs.Words.{Path, place_of_path}
use Rattle.fb_resolve.specs.InnermostTypes.{innermost_type}
use Rattle.fb_resolve.specs.declared.namespaces.path_tree.PathTree.{PathTree}
use Rattle.fb_resolve.specs.PathTree.{paths, IsTree, child_of}
use Rattle.fb_resolve.proofs.namespaces.PathsNamed.{innermost_type-end}

-- what is noted at a path where those before this one have inherited
abbrev pub noted_before : List Path → List Path → Path → ℕ → ℕ → Option ℕ
noted_before ps types rest next p = if nat_lt p next then innermost_type types
    (get_or ps p []) rest else place_of_path types (get_or ps p [] ++ rest)

-- the empty path has nothing to inherit
pub inherited-first : (tree : PathTree) → IsTree tree
    → (types : List Path) (rest : Path) (n : ℕ) (noted : ℕ → ℕ → Option ℕ)
    → ((p : ℕ) → p < length (paths tree) → noted p n ≡ place_of_path types (get_or (paths tree) p [] ++ rest))
    → (p : ℕ) → p < length (paths tree) → noted p n ≡ noted_before (paths tree) types rest 1 p
inherited-first tree is types rest n noted was p at = was p at ∙ by p
  where
    by : (p : ℕ) → place_of_path types (get_or (paths tree) p [] ++ rest) ≡ noted_before (paths tree) types rest 1 p
    by zero = rw (get_or_from_slice_get (paths tree) 0 [] [] is.first) refl
    by (suc p) = rw (le-ltb (suc p) 1 (omega arith)) refl

-- a path inherits from the one without its last word
pub inherited-more : (ps types : List Path) (rest : Path) (n : ℕ) (old new : ℕ → Option ℕ) (path outer : ℕ) (w : Name)
    → outer < path → slice_get ps path ≡ Some (child_of ps outer w)
    → ((p : ℕ) → p < length ps → old p ≡ noted_before ps types rest path p)
    → ((p : ℕ) → new p ≡ (if p == path then option_or (old path) (old outer) else old p))
    → path < length ps → (p : ℕ) → p < length ps → new p ≡ noted_before ps types rest (path + 1) p
inherited-more ps types rest n old new path outer w less child before noted inside p at = elim (eqb_tells p path) [
  | inl t ↦
      let own : old path ≡ place_of_path types (get_or ps path [] ++ rest) = before path inside
      ∙ rw (le-ltb path path (omega arith)) refl in
      let around : old outer ≡ innermost_type types (get_or ps outer []) rest =
      before outer (omega (arith, less, inside))
      ∙ rw (lt-ltb outer path less) refl in
      let parts = get_or_from_slice_get ps path (child_of ps outer w) [] child in
      noted p ∙ rw (t.0, lt-ltb p (path + 1) (omega (arith, t.1)), t.1, own, around, parts)
      (sym (innermost_type-end types (get_or ps outer []) w rest))
  | inr t ↦ noted p ∙ rw t.0 (before p at ∙ rw (next p path t.1) refl)
]
  where
    next : (a b : ℕ) → a ≢ b → nat_lt a b ≡ nat_lt a (b + 1)
    next a b h = grind (arith, nat_tests)

-- all have
pub inherited-all : (ps types : List Path) (rest : Path) (next p : ℕ) (noted : Option ℕ) → p < next
    → noted ≡ noted_before ps types rest next p → noted ≡ innermost_type types (get_or ps p []) rest
inherited-all ps types rest next p noted less e = e ∙ rw (lt-ltb p next less) refl
