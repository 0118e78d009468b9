-- The paths of a text and the names that are used stay what they are while more are noted.
use Rattle.std.proofs.Common.{Bor, option_copied, ◌≡◌, ◌++◌, ◌<◌, ℕ, zero, suc, All, List, [], ◌∷◌, Option, length}
use Rattle.std.proofs.Common.{get_or, refl, arith, ◌+◌, take, map}
use Rattle.std.specs.List.{AllZip}
use Rattle.std.proofs.lemmas.Option.{get_or_from_slice_get, slice_get_within}
use Rattle.std.proofs.lemmas.List.{take_more, map_push, get_or-map, length-map}
use Rattle.std.proofs.lemmas.List.Elements.{All-cons, All-nil}
use Rattle.std.proofs.lemmas.Slice.Zip.{all_zipped_more, AllZip-long}
use Rattle.fb_resolve.specs.Words.{words}
use Rattle.fb_resolve.specs.PathTree.{paths, IsTree, KeepsPaths}
use Rattle.fb_resolve.specs.declared.namespaces.path_tree.PathTree.{PathTree}
use Rattle.fb_resolve.specs.Scopes.{paths_at}
use Rattle.fb_resolve.proofs.namespaces.WordsOf.{words-inside}
use Rattle.fb_schema.specs.Schema.{Name}
use Rattle.fb_resolve.specs.Outline.{TypeRead, full_name, name_of_type}
use Rattle.fb_resolve.specs.Meaning.{words_of_scope, paths_of_types}
use Rattle.fb_resolve.specs.Paths.{IsPath, IsPlaced, names_used, IsNoted, AreUses, AreNoted, AreNotesOf}
use Rattle.fb_resolve.specs.declared.outline.TypeUse.{TypeUse}
use Rattle.fb_resolve.specs.declared.outline.TypeUse.TheVariants.{Basic, Named}
use Rattle.fb_resolve.specs.declared.walk.DeclarationWalk.{DeclarationWalk}

-- what is noted of used names stays right
pub use_kept : (old new : PathTree) (u : TypeUse) (name : Name) → KeepsPaths old new → IsNoted old u name
    → IsNoted new u name
use_kept old new (Basic b) name kept h = h
use_kept old new (Named n) name kept h = (h.0, kept n _ h.1)

zip_weaker : {A B : Type 0} (R S : A → B → Type 0) → ((a : A) (b : B) → R a b → S a b) → (xs : List A) (ys : List B)
    → AllZip R xs ys → AllZip S xs ys
zip_weaker R S f [] [] h = h
zip_weaker R S f [] (y ∷ ys) h = h
zip_weaker R S f (x ∷ xs) [] h = h
zip_weaker R S f (x ∷ xs) (y ∷ ys) h = (f x y h.0, zip_weaker R S f xs ys h.1)

uses_kept : (old new : PathTree) (us : List TypeUse) (names : List Name) → KeepsPaths old new → AreUses old us names
    → AreUses new us names
uses_kept old new us names kept h = zip_weaker (IsNoted old) (IsNoted new)
    (λ u name. use_kept old new u name kept) us names h

-- one more name is noted
pub one_noted : {X : Type 0} (use_in : X → Name) (first old new : PathTree) (us : List TypeUse) (xs : List X) (i : ℕ)
    (u : TypeUse) (x : X) → i < length xs → x ≡ get_or xs i x
    → IsTree new → KeepsPaths old new → IsNoted new u (use_in x) → AreNoted first old us (map use_in (take i xs))
    → AreNoted first new (us ++ u ∷ []) (map use_in (take (i + 1) xs))
one_noted use_in first old new us xs i u x l e is kept one h = record {
  tree = is;
  kept = λ k p at. kept k p (h.kept k p at);
  uses = rw (take_more xs i x l, ← e, map_push use_in (take i xs) x)
      (all_zipped_more (IsNoted new) us (map use_in (take i xs)) u (use_in x)
      (uses_kept old new us (map use_in (take i xs)) kept h.uses) one);
}

-- what is noted stays right while more paths and names are noted, in a namespace that has its path
pub placed_grown : (w : DeclarationWalk) (tree used : PathTree) (scope : Option (Bor Name)) (path : ℕ) → IsTree tree
    → KeepsPaths w.tree tree → IsTree used → KeepsPaths w.used used
    → IsPath tree path (words_of_scope (option_copied scope)) → IsPlaced w
    → IsPlaced (record w { tree = tree; used = used; scope = scope; path = path })
placed_grown w tree used scope path is kept is_used kept_uses here h = record {
  tree = is;
  used = is_used;
  scope = here;
  notes = zip_weaker (AreNotesOf w.tree w.used) (AreNotesOf tree used)
      (λ n r was. record {
        namespace = kept n.namespace _ was.namespace;
        uses =
            uses_kept w.used used n.uses.items (names_used r.declaration) kept_uses was.uses;
      }) w.notes.items
      w.types.items h.notes;
  full_names = zip_weaker (λ n r. IsPath w.tree n (words (name_of_type r)))
      (λ n r. IsPath tree n (words (name_of_type r))) (λ n r. kept n _) w.full_names.items w.types.items h.full_names;
  values = h.values;
  root = λ r e. let root = h.root r e in (
    kept w.root_path _ root.0,
    use_kept w.used used w.root_use r.name.bytes kept_uses root.1,
  );
}

-- a path behind a namespace's is that of the full name
pub path_inside : (old new : PathTree) (scope n : ℕ) (name : Option Name) (word : Name)
    → IsPath old scope (words_of_scope name)
    → IsPath new n (get_or (paths old) scope [] ++ words word) → IsPath new n (words (full_name name word))
path_inside old new scope n name word here there =
    grind (arith, words-inside, get_or_from_slice_get (paths old) scope (words_of_scope name) [] here, there)

-- a pair of items of two lists that are related item by item
pub zip_at : {A B : Type 0} (R : A → B → Type 0) (xs : List A) (ys : List B) (i : ℕ) (d : A) (e : B) → AllZip R xs ys
    → i < length ys
    → R (get_or xs i d) (get_or ys i e)
zip_at R [] [] i d e h l = absurd (omega (arith, l))
zip_at R [] (y ∷ ys) i d e h l = absurd h
zip_at R (x ∷ xs) [] i d e h l = absurd h
zip_at R (x ∷ xs) (y ∷ ys) zero d e h l = h.0
zip_at R (x ∷ xs) (y ∷ ys) (suc i) d e h l = zip_at R xs ys i d e h.1 (omega (arith, l))

-- the numbers of types' full names are numbers of paths: of those of the types
pub names_numbered : (tree : PathTree) (ns : List ℕ) (rs : List TypeRead)
    → AllZip (λ n r. IsPath tree n (words (name_of_type r))) ns rs
    → All (λ n. n < length (paths tree)) ns × (paths_at tree ns ≡ paths_of_types rs)
names_numbered tree [] [] h = (All-nil (λ n. n < length (paths tree)), refl)
names_numbered tree [] (r ∷ rs) h = absurd h
names_numbered tree (n ∷ ns) [] h = absurd h
names_numbered tree (n ∷ ns) (r ∷ rs) h = let later = names_numbered tree ns rs h.1 in (
  All-cons (λ n. n < length (paths tree)) n ns (slice_get_within (paths tree) n (words (name_of_type r)) h.0) later.0,
  rw (get_or_from_slice_get (paths tree) n (words (name_of_type r)) [] h.0, later.1) refl,
)

-- what is noted of the name at a place
module _ {X : Type 0} (use_in : X → Name) (used : PathTree) (us : List TypeUse) (xs : List X) (i : ℕ) where
  pub use_at : (d : TypeUse) (x : X) → AreUses used us (map use_in xs) → i < length xs → x ≡ get_or xs i x
      → IsNoted used (get_or us i d) (use_in x)
  use_at d x all l e = rw (e, ← (get_or-map use_in xs i x (use_in x) l))
      (zip_at (IsNoted used) us (map use_in xs) i d (use_in x) all (omega (arith, length-map xs use_in)))

  pub uses_counted : AreUses used us (map use_in xs) → i < length xs → i < length us
  uses_counted all l = omega (arith, AllZip-long (IsNoted used) us (map use_in xs) all, length-map xs use_in)

-- what is noted of one name
pub first_use : (used : PathTree) (us : List TypeUse) (name : Name) (d : TypeUse) → AreUses used us (name ∷ [])
    → IsNoted used (get_or us 0 d) name
first_use used us name d all = zip_at (IsNoted used) us (name ∷ []) 0 d name all (omega arith)
