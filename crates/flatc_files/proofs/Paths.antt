-- Lists of paths, and sets of them.
use Rattle.std.proofs.Common.{◌≡◌, ◌≢◌, ◌∙◌, ◌+◌, ◌<◌, ℕ, Bool, true, false, List, [], ◌∷◌, ◌++◌, All, AllPairs, Bor}
use Rattle.std.proofs.Common.{map, take, get_or, length, nat_cmp, cond, not, refl, sym}
use Rattle.std.proofs.lemmas.List.{take_more, map-append}
use Rattle.std.proofs.lemmas.List.Elements.{All-append, All-cons, All-nil}
use Rattle.std.proofs.lemmas.List.Quantifiers.{all_pairs_push}
use Rattle.std.specs.BTreeSet.{BTreeSet, Updates, contains}
use Rattle.std.specs.Cmp.Lexicographic.{slice_cmp}
use Rattle.flatc_files.specs.StandardPaths.{Text}
use Rattle.flatc_files.specs.Targets.{AreApart, has_path}

-- the first elements of a list and one more, seen by f
more : {X : Type 0} (f : X → Text) (xs : List X) (i : ℕ) (d : X) → i < length xs
    → map f (take (i + 1) xs) ≡ (map f (take i xs) ++ f (get_or xs i d) ∷ [])
more f xs i d within = rw (take_more xs i d within) (map-append f (take i xs) (get_or xs i d ∷ []))

pub All-map-more : {X : Type 0} (P : Text → Type 0) (f : X → Text) (xs : List X) (i : ℕ) (d : X) → i < length xs
    → All P (map f (take i xs)) → P (f (get_or xs i d)) → All P (map f (take (i + 1) xs))
All-map-more P f xs i d within before here =
    rw (more f xs i d within) (All-append P _ (_ ∷ []) before (All-cons P _ [] here (All-nil P)))

pub AllPairs-map-more : {X : Type 0} (R : Text → Text → Type 0) (f : X → Text) (xs : List X) (i : ℕ) (d : X)
    → i < length xs → AllPairs R (map f (take i xs)) → All (λ y. R y (f (get_or xs i d))) (map f (take i xs))
    → AllPairs R (map f (take (i + 1) xs))
AllPairs-map-more R f xs i d within before here =
    rw (more f xs i d within) (all_pairs_push R _ _ before here)

-- The set n is s with the path k, which is new in it.
module _ (s n : BTreeSet (Bor Text)) (k : Bor Text)
    (updates : Updates (λ x y. slice_cmp nat_cmp x.now y.now) s n k true) where
  pub is_added : has_path n k.now ≡ true
  unfolding has_path
  is_added = updates.1

  pub is_kept : (path : Text) → has_path s path ≡ true → has_path n path ≡ true
  unfolding has_path
  is_kept path known = updates.0 (record { ref_ptr = (0, 0); now = path }) ∙ rw known (both _)
    where
      both : (c : Bool) → cond c true true ≡ true
      both true = refl
      both false = refl

-- a path that was added was not in the set before
pub was_absent : (s : BTreeSet (Bor Text)) (k : Bor Text) (added : Bool)
    → added ≡ not (contains (λ x y. slice_cmp nat_cmp x.now y.now) s k) → added ≡ true → has_path s k.now ≡ false
unfolding has_path
was_absent s k added is_new is_added = absent _ (sym is_new ∙ is_added)
  where
    absent : (c : Bool) → not c ≡ true → c ≡ false
    absent true both = sym both
    absent false both = refl

pub kept_all : (s n : BTreeSet (Bor Text)) (k : Bor Text)
    → Updates (λ x y. slice_cmp nat_cmp x.now y.now) s n k true → (paths : List Text)
    → All (λ path. has_path s path ≡ true) paths → All (λ path. has_path n path ≡ true) paths
kept_all s n k updates paths known j d within = is_kept s n k updates _ (known j d within)

-- a path that a set has is none that it hasn't
pub differs : (s : BTreeSet (Bor Text)) (path other : Text) → has_path s path ≡ true → has_path s other ≡ false
    → path ≢ other
differs s path other known new same = cc

pub differ_all : (s : BTreeSet (Bor Text)) (other : Text) → has_path s other ≡ false → (paths : List Text)
    → All (λ path. has_path s path ≡ true) paths → All (λ path. path ≢ other) paths
differ_all s other new paths known j d within = differs s _ other (known j d within) new

pub apart : (s : BTreeSet (Bor Text)) (inputs outputs : List Text)
    → All (λ input. has_path s input ≡ false) inputs → All (λ output. has_path s output ≡ true) outputs
    → AreApart inputs outputs
apart s inputs outputs new known j d within = differ_all s _ (new j d within) outputs known
