-- Paths of words, each with a number.
use Rattle.std.specs.Prelude.{ℕ, ◌≡◌, ◌<◌, ◌+◌, ◌++◌, List, [], ◌∷◌, length, map, Some, get_or, slice_get}
use Rattle.std.specs.Borrow.{Bor}
use Rattle.fb_schema.specs.Schema.{Name}
use Rattle.fb_resolve.specs.Words.{Path}
use Rattle.fb_resolve.specs.declared.namespaces.path_tree.PathTree.{PathTree}

-- a path with a word after it
abbrev pub child_of : List Path → ℕ → Name → Path
child_of paths path word = get_or paths path [] ++ word ∷ []

-- all paths by their numbers, after those that have one
abbrev pub paths_from : List Path → List (ℕ × Name) → List Path
paths_from paths [] = paths
paths_from paths (link ∷ links) = paths_from (paths ++ child_of paths link.0 link.1 ∷ []) links

-- the paths by their numbers; the empty one is 0, and a link to the path without the last word makes each other
unfoldable pub paths_of : List (ℕ × Name) → List Path
paths_of links = paths_from ([] ∷ []) links

-- No two numbers are of one path, and a path without its last word has a smaller number.
pub record AreLinks (links : List (ℕ × Name)) : Type 0 where
  pub first : slice_get (paths_of links) 0 ≡ Some []
  pub apart : (a b : ℕ) (p : Path) → slice_get (paths_of links) a ≡ Some p
      → slice_get (paths_of links) b ≡ Some p → a ≡ b
  pub count : length (paths_of links) ≡ length links + 1
  pub link : (k p : ℕ) (w : Name) → slice_get links k ≡ Some (p, w)
      → (p < k + 1) × (slice_get (paths_of links) (k + 1) ≡ Some (child_of (paths_of links) p w))

-- the link that a key is, by the word's bytes
abbrev pub link_of : ℕ × Bor Name → ℕ × Name
link_of key = (key.0, key.1.now)

abbrev pub links_in : List (ℕ × Bor Name) → List (ℕ × Name)
links_in keys = map link_of keys

abbrev pub links_of : PathTree → List (ℕ × Name)
links_of tree = links_in tree.links.keys

abbrev pub paths : PathTree → List Path
paths tree = paths_of (links_of tree)

abbrev pub IsTree : PathTree → Type 0
IsTree tree = AreLinks (links_of tree)

-- each path keeps its number
abbrev pub KeepsPaths : PathTree → PathTree → Type 0
KeepsPaths old new = (n : ℕ) (p : Path) → slice_get (paths old) n ≡ Some p → slice_get (paths new) n ≡ Some p
