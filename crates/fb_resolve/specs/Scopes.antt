-- Which type each used name means in each namespace.
use Rattle.std.specs.Prelude.{ℕ, ◌≡◌, ◌<◌, List, [], Some, length, map, reverse, get_or, slice_get}
use Rattle.fb_schema.specs.Schema.{Name}
use Rattle.fb_resolve.specs.Words.{Path, words}
use Rattle.fb_resolve.specs.InnermostTypes.{innermost_type}
use Rattle.fb_resolve.specs.PathTree.{paths, IsTree}
use Rattle.fb_resolve.specs.declared.namespaces.path_tree.PathTree.{PathTree}
use Rattle.fb_resolve.specs.NamedTypes.{type_at, HasRoom}
use Rattle.fb_resolve.specs.declared.namespaces.scopes.Scopes.{Scopes}

-- the paths of these numbers
abbrev pub paths_at : PathTree → List ℕ → List Path
paths_at tree numbers = map (λ n. get_or (paths tree) n []) numbers

-- a number is that of a used name, whose last word is first
abbrev pub IsUse : PathTree → ℕ → Name → Type 0
IsUse used n name = slice_get (paths used) n ≡ Some (reverse (words name))

-- the paths of namespaces and types
abbrev pub tree_of : Scopes → PathTree
tree_of s = s.tree

-- the names that are used
abbrev pub names_of : Scopes → PathTree
names_of s = s.used

-- each used name has its type at each path: of those whose full names these are
pub record AreScopes (s : Scopes) (types : List Path) : Type 0 where
  pub tree : IsTree s.tree
  pub used : IsTree s.used
  pub room : HasRoom s.noted (length (paths s.tree)) (length (paths s.used))
  pub noted : (p n : ℕ) → p < length (paths s.tree) → 0 < n → n < length (paths s.used)
      → type_at s.noted p n ≡ innermost_type types (get_or (paths s.tree) p []) (reverse (get_or (paths s.used) n []))
