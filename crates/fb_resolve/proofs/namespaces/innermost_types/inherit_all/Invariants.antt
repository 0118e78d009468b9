use Rattle.std.proofs.Common.{◌≡◌, ◌<◌, ◌++◌, [], ℕ, List, length, get_or, nat_lt, if◌then◌else◌}
use Rattle.fb_resolve.specs.PathTree.{paths}
use Rattle.fb_resolve.specs.NamedTypes.{type_at, path_count, name_count, HasMaps}
use Rattle.fb_resolve.specs.Words.{Path, place_of_path}
use Rattle.fb_resolve.specs.InnermostTypes.{innermost_type}
use Rattle.fb_resolve.proofs.namespaces.innermost_types.inherit_all.Given as goal

abbrev pub invariant-loop-path : goal.invariant-loop-path
invariant-loop-path l = record {
  kept : HasMaps l.noted;
  path : path_count l.noted ≡ path_count l.initial.noted;
  name : name_count l.noted ≡ name_count l.initial.noted;
  done : (types : List Path) (rest : Path) (n : ℕ)
      → ((p : ℕ) → p < length (paths l.tree) → type_at l.initial.noted p n ≡ place_of_path types
      (get_or (paths l.tree) p [] ++ rest))
      → (p : ℕ) → p < length (paths l.tree) → type_at l.noted p n ≡
      (if nat_lt p l.path then innermost_type types (get_or (paths l.tree) p []) rest else place_of_path types
      (get_or (paths l.tree) p [] ++ rest));
}
