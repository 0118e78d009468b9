use Rattle.std.proofs.Common.{◌≡◌, ◌<◌, [], ℕ, length, get_or, map, take}
use Rattle.fb_resolve.specs.PathTree.{paths}
use Rattle.fb_resolve.specs.NamedTypes.{type_at, HasRoom}
use Rattle.fb_resolve.specs.Words.{full_path, place_of_path}
use Rattle.fb_resolve.proofs.namespaces.innermost_types.note_types.Given as goal

abbrev pub invariant-loop-number : goal.invariant-loop-number
invariant-loop-number l = record {
  room : HasRoom l.noted (length (paths l.tree)) (length (paths l.used));
  noted : (p n : ℕ) → p < length (paths l.tree) → 0 < n → n < length (paths l.used)
      → type_at l.noted p n ≡ place_of_path (map (λ f. get_or (paths l.tree) f []) (take l.number l.full_names))
      (full_path (paths l.tree) (paths l.used) p n);
}
