-- Types found by the paths of their full names.
use Rattle.std.proofs.Common.{◌≡◌, ◌+◌, ◌<◌, ℕ, suc, ◌&&◌, Bool, true, false, List, [], ◌∷◌, ◌++◌, length, map, take}
use Rattle.std.proofs.Common.{get_or, Option, None, Some, refl, sym, ap, ◌∙◌, arith, add-one, if◌then◌else◌}
use Rattle.std.specs.Bool.{Decides}
use Rattle.std.specs.Cmp.Lexicographic.{pointwise}
use Rattle.std.specs.Option.{option_or, option_map}
use Rattle.std.specs.Str.{bytes_eq}
use Rattle.std.proofs.Math.Seq.{take-suc, take-append_seam}
use Rattle.std.proofs.lemmas.List.{append_cancel_left, map-append, length-map, length-take-le}
use Rattle.std.proofs.lemmas.Slice.Eq.{bytes_eq-Decides, slice_eq-Decides}
use Rattle.fb_schema.specs.Schema.{Name}
use Rattle.fb_resolve.specs.Words.{Path, is_same_path, place_of_path}
use Rattle.fb_resolve.specs.InnermostTypes.{last_some, beginnings, prefixes, innermost_type}

-- the test tells whether two paths are one
is_same_path-pointwise : (p q : Path) → is_same_path p q ≡ pointwise bytes_eq p q
is_same_path-pointwise [] [] = refl
is_same_path-pointwise [] (w ∷ ws) = refl
is_same_path-pointwise (v ∷ vs) [] = refl
is_same_path-pointwise (v ∷ vs) (w ∷ ws) = ap (λ b. bytes_eq v w && b) (is_same_path-pointwise vs ws)

pub is_same_path-Decides : (p q : Path) → Decides (is_same_path p q) (p ≡ q)
is_same_path-Decides p q = slice_eq-Decides bytes_eq-Decides p q (is_same_path p q) (is_same_path-pointwise p q)

-- one path more
pub place_of_path-end : (ps : List Path) (more path : Path)
    → place_of_path (ps ++ more ∷ []) path ≡ option_or (place_of_path ps path)
    (if is_same_path path more then Some (length ps) else None)
place_of_path-end [] more path = refl
place_of_path-end (p ∷ ps) more path =
    ap (λ o. if is_same_path path p then Some 0 else option_map suc o) (place_of_path-end ps more path)
    ∙ one_more (is_same_path path p) (place_of_path ps path) (is_same_path path more) (length ps)
  where
    one_more : (b : Bool) (o : Option ℕ) (c : Bool) (n : ℕ)
        → (if b then Some 0 else option_map suc (option_or o (if c then Some n else None))) ≡ option_or
        (if b then Some 0 else option_map suc o) (if c then Some (suc n) else None)
    one_more true o c n = refl
    one_more false None true n = refl
    one_more false None false n = refl
    one_more false (Some m) c n = refl

last_some-end : (os : List (Option ℕ)) (o : Option ℕ) → last_some (os ++ o ∷ []) ≡ option_or o (last_some os)
last_some-end [] None = refl
last_some-end [] (Some n) = refl
last_some-end (x ∷ os) o = ap (λ r. option_or r x) (last_some-end os o) ∙ by o (last_some os) x
  where
    by : (o r x : Option ℕ) → option_or (option_or o r) x ≡ option_or o (option_or r x)
    by None r x = refl
    by (Some n) r x = refl

beginnings-end : (ws : Path) (w : Name) → beginnings (ws ++ w ∷ []) ≡ beginnings ws ++ (ws ++ w ∷ []) ∷ []
beginnings-end [] w = refl
beginnings-end (v ∷ ws) w = ap (λ r. (v ∷ []) ∷ r)
    (ap (map (λ p. v ∷ p)) (beginnings-end ws w) ∙ map-append (λ p. v ∷ p) (beginnings ws) ((ws ++ w ∷ []) ∷ []))

-- inside another namespace: what stands in it, or what the one around it means
pub innermost_type-end : (types : List Path) (scope : Path) (w : Name) (path : Path)
    → innermost_type types (scope ++ w ∷ []) path ≡ option_or (place_of_path types ((scope ++ w ∷ []) ++ path))
    (innermost_type types scope path)
innermost_type-end types scope w path =
    let meant = λ (p : Path). place_of_path types (p ++ path) in
    ap (λ bs. last_some (map meant ([] ∷ bs))) (beginnings-end scope w)
    ∙ ap last_some (map-append meant (prefixes scope) ((scope ++ w ∷ []) ∷ []))
    ∙ last_some-end (map meant (prefixes scope)) (meant (scope ++ w ∷ []))

-- beginnings of one length of the same path are the same
pub append_inj : (ps qs us vs : Path) → ps ++ us ≡ qs ++ vs → length ps ≡ length qs → (ps ≡ qs) × (us ≡ vs)
append_inj ps qs us vs e l =
    let same : ps ≡ qs = sym (take-append_seam ps us) ∙ ap (take (length ps)) e ∙ ap (λ n. take n (qs ++ vs)) l
    ∙ take-append_seam qs vs in
    (same, append_cancel_left qs us vs (ap (λ p. p ++ us) (sym same) ∙ e))

-- among one path more of a list
pub place_of_path-next : (f : ℕ → Path) (xs : List ℕ) (i d : ℕ) (path : Path) → i < length xs
    → place_of_path (map f (take (i + 1) xs)) path ≡ option_or (place_of_path (map f (take i xs)) path)
    (if is_same_path path (f (get_or xs i d)) then Some i else None)
place_of_path-next f xs i d path h =
    rw (add-one, take-suc xs i d h, map-append f (take i xs) (get_or xs i d ∷ []), place_of_path-end, length-map)
    (rw (length-take-le i xs (omega (arith, h))) refl)
