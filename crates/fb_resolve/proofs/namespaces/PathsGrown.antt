-- One path more in a tree.
use Rattle.std.proofs.Common.{Bor, ◌⊎◌, inl, inr, ◌≡◌, ◌≢◌, ◌+◌, ◌<◌, ◌==◌, ◌&&◌, ◌||◌, ℕ, zero, suc, Bool, true, false}
use Rattle.std.proofs.Common.{true≢false, List, [], ◌∷◌, ◌++◌, length, get_or, slice_get, position, Some, refl, sym, ap}
use Rattle.std.proofs.Common.{subst, ◌∙◌, arith, length-append, if◌then◌else◌}
use Rattle.std.specs.List.{list_any, position_or_len}
use Rattle.std.specs.Option.{option_map}
use Rattle.std.specs.Str.{bytes_eq}
use Rattle.std.proofs.lemmas.Bool.Decides.{Decides-and, Decides-eqb}
use Rattle.std.proofs.lemmas.List.{length-map, map-append}
use Rattle.std.proofs.lemmas.List.Quantifiers.{position-Some}
use Rattle.std.proofs.lemmas.Option.{slice_get-map, get_or_from_slice_get, slice_get-get_or, slice_get_within}
use Rattle.std.proofs.lemmas.Slice.Eq.{bytes_eq-Decides}
use Rattle.fb_schema.specs.Schema.{Name}
use Rattle.fb_resolve.specs.Words.{Path}
use Rattle.fb_index.proofs.LastEntry.{entry_of, entry_kept, entry_last}
use Rattle.fb_resolve.proofs.namespaces.PathsNamed.{append_inj}
use Rattle.fb_resolve.specs.PathTree.{child_of, paths_from, paths_of, link_of, links_in, AreLinks}

-- one link more
paths_from-end : (ps : List Path) (links : List (ℕ × Name)) (l : ℕ × Name)
    → paths_from ps (links ++ l ∷ []) ≡ paths_from ps links ++ child_of (paths_from ps links) l.0 l.1 ∷ []
paths_from-end ps [] l = refl
paths_from-end ps (k ∷ links) l = paths_from-end (ps ++ child_of ps k.0 k.1 ∷ []) links l

paths-grown : (links : List (ℕ × Name)) (l : ℕ × Name)
    → paths_of (links ++ l ∷ []) ≡ paths_of links ++ child_of (paths_of links) l.0 l.1 ∷ []
unfolding paths_of
paths-grown links l = paths_from-end ([] ∷ []) links l

-- each path keeps its number
pub kept : (links : List (ℕ × Name)) (l : ℕ × Name) (n : ℕ) (p : Path) → slice_get (paths_of links) n ≡ Some p
    → slice_get (paths_of (links ++ l ∷ [])) n ≡ Some p
kept links l n p at = ap (λ xs. slice_get xs n) (paths-grown links l)
    ∙ entry_kept (paths_of links) (child_of (paths_of links) l.0 l.1) p n at

-- paths with a last word are one where their parts are
snoc_inj : (p q : Path) (v w : Name) → p ++ v ∷ [] ≡ q ++ w ∷ [] → (p ≡ q) × (v ≡ w)
snoc_inj p q v w e =
    let long : length p ≡ length q = omega (arith, length-append p (v ∷ []), length-append q (w ∷ []), ap length e) in
    let parts = append_inj p q (v ∷ []) (w ∷ []) e long in
    (parts.0, cc)

no_end : (p : Path) (w : Name) → [] ≢ p ++ w ∷ []
no_end [] w e = cc
no_end (v ∷ p) w e = cc

-- a path with a last word is linked to the path without it
pub record IsLinked (links : List (ℕ × Name)) (n : ℕ) (p : Path) (w : Name) : Type 0 where
  pub place : ℕ
  pub before : ℕ
  pub number : n ≡ place + 1
  pub link : slice_get links place ≡ Some (before, w)
  pub path : slice_get (paths_of links) before ≡ Some p

pub linked : (links : List (ℕ × Name)) → AreLinks links → (n : ℕ) (p : Path) (w : Name)
    → slice_get (paths_of links) n ≡ Some (p ++ w ∷ []) → IsLinked links n p w
linked links are zero p w at = absurd (no_end p w (let e = are.first in cc))
linked links are (suc k) p w at =
    let inside : k < length links = omega (arith, are.count, slice_get_within (paths_of links) (suc k) (p ++ w ∷ []) at)
    in
    let l = get_or links k (0, []) in
    let link = slice_get-get_or links k (0, []) inside in
    let made = are.link k l.0 l.1 link in
    let same : p ++ w ∷ [] ≡ child_of (paths_of links) l.0 l.1 =
    (let e : slice_get (paths_of links) (k + 1) ≡ Some (p ++ w ∷ []) = ap (slice_get (paths_of links)) (omega arith)
    ∙ at in let m = made.1 in cc) in
    let parts = snoc_inj p (get_or (paths_of links) l.0 []) w l.1 same in
    record {
      place = k;
      before = l.0;
      number = omega arith;
      link = link ∙ ap (λ v. Some (l.0, v)) (sym parts.1);
      path = slice_get-get_or (paths_of links) l.0 [] (omega (arith, made.0, inside, are.count))
          ∙ ap (λ q. Some q) (sym parts.0);
    }

-- where a path is a child, it is linked as one
link_of_child : (links : List (ℕ × Name)) → AreLinks links → (n : ℕ) (l : ℕ × Name) → l.0 < length (paths_of links)
    → slice_get (paths_of links) n ≡ Some (child_of (paths_of links) l.0 l.1) → (k : ℕ) × (slice_get links k ≡ Some l)
link_of_child links are n l inside at =
    let path = get_or (paths_of links) l.0 [] in
    let is = linked links are n path l.1 at in
    let same : is.before ≡ l.0 = are.apart is.before l.0 path is.path
    (slice_get-get_or (paths_of links) l.0 [] inside) in
    (is.place, is.link ∙ ap (λ p. Some (p, l.1)) same)

-- a child of a path that was there
child_kept : (ps : List Path) (x : Path) (p : ℕ) (w : Name) → p < length ps
    → child_of (ps ++ x ∷ []) p w ≡ child_of ps p w
child_kept ps x p w h = ap (λ q. q ++ w ∷ [])
    (get_or_from_slice_get (ps ++ x ∷ []) p (get_or ps p []) []
    (entry_kept ps x (get_or ps p []) p (slice_get-get_or ps p [] h)))

pub links-grown : (links : List (ℕ × Name)) (l : ℕ × Name) → AreLinks links → l.0 < length (paths_of links)
    → ((k : ℕ) → slice_get links k ≢ Some l) → AreLinks (links ++ l ∷ [])
links-grown links l are inside absent = record {
  first = kept links l 0 [] are.first;
  apart = λ a b p at_a at_b. apart a b p (entry a p at_a) (entry b p at_b);
  count = ap length paths_are ∙ length-append ps (child ∷ []) ∙ omega (arith, are.count, length-append links (l ∷ []));
  link = λ k p w at. link k p w (entry_of links l (p, w) k at);
}
  where
    ps : List Path
    ps = paths_of links

    child : Path
    child = child_of ps l.0 l.1

    paths_are : paths_of (links ++ l ∷ []) ≡ ps ++ child ∷ []
    paths_are = paths-grown links l

    entry : (n : ℕ) (p : Path) → slice_get (paths_of (links ++ l ∷ [])) n ≡ Some p
        → (slice_get ps n ≡ Some p) ⊎ ((n ≡ length ps) × (child ≡ p))
    entry n p at = entry_of ps child p n (sym (ap (λ xs. slice_get xs n) paths_are) ∙ at)

    new : (a : ℕ) (p : Path) → slice_get ps a ≡ Some p → child ≢ p
    new a p at e =
        let is = link_of_child links are a l inside (at ∙ ap (λ q. Some q) (sym e)) in
        absent is.0 is.1

    apart : (a b : ℕ) (p : Path) → (slice_get ps a ≡ Some p) ⊎ ((a ≡ length ps) × (child ≡ p))
        → (slice_get ps b ≡ Some p) ⊎ ((b ≡ length ps) × (child ≡ p)) → a ≡ b
    apart a b p (inl x) (inl y) = are.apart a b p x y
    apart a b p (inl x) (inr y) = absurd (new a p x y.1)
    apart a b p (inr x) (inl y) = absurd (new b p y x.1)
    apart a b p (inr x) (inr y) = x.0 ∙ sym y.0

    child_is : (p : ℕ) (w : Name) → p < length ps → child_of (paths_of (links ++ l ∷ [])) p w ≡ child_of ps p w
    child_is p w h = ap (λ xs. child_of xs p w) paths_are ∙ child_kept ps child p w h

    link : (k p : ℕ) (w : Name) → (slice_get links k ≡ Some (p, w)) ⊎ ((k ≡ length links) × (l ≡ (p, w)))
        → (p < k + 1) × (slice_get (paths_of (links ++ l ∷ [])) (k + 1) ≡ Some
        (child_of (paths_of (links ++ l ∷ [])) p w))
    link k p w (inl x) =
        let was = are.link k p w x in
        let less : p < length ps = omega (arith, was.0, slice_get_within ps (k + 1) (child_of ps p w) was.1) in
        (was.0, kept links l (k + 1) (child_of ps p w) was.1 ∙ ap (λ z. Some z) (sym (child_is p w less)))
    link k p w (inr x) =
        let p_is : l.0 ≡ p = ap (λ (l : ℕ × Name). l.0) x.1 in
        let many : k + 1 ≡ length ps = omega (arith, x.0, are.count) in
        let same : child ≡ child_of ps p w = ap (λ (l : ℕ × Name). child_of ps l.0 l.1) x.1 in (
          omega (arith, p_is, inside, many),
          ap (slice_get (paths_of (links ++ l ∷ []))) many
              ∙ ap (λ xs. slice_get xs (length ps)) paths_are ∙ entry_last ps child
              ∙ ap (λ z. Some z) (same ∙ sym (child_is p w (omega (arith, p_is, inside)))),
        )

pub paths-empty : paths_of [] ≡ [] ∷ []
unfolding paths_of
paths-empty = refl

-- of no link there is the empty path alone
pub links-empty : AreLinks []
unfolding paths_of
links-empty = record {
  first = refl;
  apart = λ a b p at_a at_b. only a p at_a ∙ sym (only b p at_b);
  count = refl;
  link = λ k p w h. cc;
}
  where
    only : (n : ℕ) (p : Path) → slice_get ([] ∷ []) n ≡ Some p → n ≡ 0
    only zero p h = refl
    only (suc n) p h = cc

-- a link that was read, of the path whose number is one more
pub link_read : (keys : List (ℕ × Bor Name)) → AreLinks (links_in keys) → (k path : ℕ) (d : ℕ × Bor Name) → path ≡ k + 1
    → path < length (paths_of (links_in keys))
    → ((get_or keys k d).0 < path) × (slice_get (paths_of (links_in keys)) path ≡ Some
    (child_of (paths_of (links_in keys)) (get_or keys k d).0 (get_or keys k d).1.now))
link_read keys are k path d e inside =
    let less : k < length keys = omega (arith, e, inside, are.count, length-map keys link_of) in
    let read = get_or keys k d in
    let at = are.link k read.0 read.1.now (slice_get-map link_of keys k
    ∙ ap (option_map link_of) (slice_get-get_or keys k d less)) in
    (omega (arith, e, at.0), ap (slice_get (paths_of (links_in keys))) e ∙ at.1)

-- whether a key is of a path and a word
abbrev pub is_key : ℕ → Name → ℕ × Bor Name → Bool
is_key path word k = path == k.0 && bytes_eq word k.1.now

link_at : (keys : List (ℕ × Bor Name)) (i path : ℕ) (word : Name) (k : ℕ × Bor Name) → slice_get keys i ≡ Some k
    → is_key path word k ≡ true → slice_get (links_in keys) i ≡ Some (path, word)
link_at keys i path word k at same =
    let parts = (Decides-and (path == k.0) (bytes_eq word k.1.now) (Decides-eqb path k.0)
    (bytes_eq-Decides word k.1.now)).0 same in
    slice_get-map link_of keys i ∙ ap (option_map link_of) at ∙ (λ j. Some (sym parts.0 j, sym parts.1 j))

link_absent : (keys : List (ℕ × Bor Name)) (path : ℕ) (word : Name) → list_any (is_key path word) keys ≡ false → (i : ℕ)
    → slice_get (links_in keys) i ≢ Some (path, word)
link_absent [] path word none i at = cc
link_absent (k ∷ keys) path word none zero at =
    let key : (k.0, k.1.now) ≡ (path, word) = cc in
    let same : is_key path word k ≡ true = (Decides-and (path == k.0) (bytes_eq word k.1.now) (Decides-eqb path k.0)
    (bytes_eq-Decides word k.1.now)).1 (sym (ap (λ (l : ℕ × Name). l.0) key), sym (ap (λ (l : ℕ × Name). l.1) key))
    in
    absurd (true≢false (sym (ap (λ b. b || list_any (is_key path word) keys) same) ∙ none))
link_absent (k ∷ keys) path word none (suc i) at = link_absent keys path word (grind arith) i at

-- the child of a path, found by its key
pub child_found : (keys : List (ℕ × Bor Name)) → AreLinks (links_in keys) → (i path : ℕ) (word : Name)
    → position (is_key path word) keys ≡ Some i → slice_get (paths_of (links_in keys)) (i + 1) ≡ Some
    (child_of (paths_of (links_in keys)) path word)
child_found keys are i path word found =
    let d : ℕ × Bor Name = (0, record { ref_ptr = (0, 0); now = [] }) in
    let at = position-Some (is_key path word) keys i d found in
    (are.link i path word (link_at keys i path word (get_or keys i d) (slice_get-get_or keys i d at.0) at.1)).1

pub child_missing : (keys : List (ℕ × Bor Name)) → AreLinks (links_in keys) → (path : ℕ) (word : Name)
    → path < length (paths_of (links_in keys)) → list_any (is_key path word) keys ≡ false
    → (n : ℕ) → slice_get (paths_of (links_in keys)) n ≢ Some (child_of (paths_of (links_in keys)) path word)
child_missing keys are path word inside none n at = let is =
    link_of_child (links_in keys) are n (path, word) inside at in link_absent keys path word none is.0 is.1

-- the keys after one is inserted: they stay where it is one of them, and else it comes last
abbrev with_key : List (ℕ × Bor Name) → ℕ → Bor Name → List (ℕ × Bor Name)
with_key keys path word = if list_any (is_key path word.now) keys then keys else keys ++ (path, word) ∷ []

-- the first key stays where it is, if it isn't the one that is inserted
with_key-behind : (k : ℕ × Bor Name) (keys : List (ℕ × Bor Name)) (path : ℕ) (word : Bor Name)
    → (if list_any (is_key path word.now) keys then k ∷ keys else (k ∷ keys) ++ (path, word) ∷ [])
    ≡ k ∷ with_key keys path word
with_key-behind k keys path word = elim (list_any (is_key path word.now) keys) as
    (λ b. (if b then k ∷ keys else (k ∷ keys) ++ (path, word) ∷ [])
    ≡ k ∷ (if b then keys else keys ++ (path, word) ∷ []))
    [ true ↦ refl | false ↦ refl ]

-- after a key is inserted its link stands where `insert_full` says
link-inserted : (keys : List (ℕ × Bor Name)) (path : ℕ) (word : Bor Name)
    → slice_get (links_in (with_key keys path word)) (position_or_len (is_key path word.now) keys)
    ≡ Some (path, word.now)
link-inserted [] path word = refl
link-inserted (k ∷ keys) path word = by (is_key path word.now k) refl (link-inserted keys path word)
  where
    IsLinkOf : List (ℕ × Bor Name) → Type 0
    IsLinkOf keys = slice_get (links_in (with_key keys path word)) (position_or_len (is_key path word.now) keys)
        ≡ Some (path, word.now)

    by : (b : Bool) → is_key path word.now k ≡ b → IsLinkOf keys → IsLinkOf (k ∷ keys)
    by true same rest = rw same (link_at (k ∷ keys) 0 path word.now k refl same)
    by false other rest =
        let i = position_or_len (is_key path word.now) keys in
        let next : 1 + i ≡ suc i = omega arith in
        rw other (ap (λ ks. slice_get (links_in ks) (1 + i)) (with_key-behind k keys path word)
        ∙ ap (slice_get (links_in (k ∷ with_key keys path word))) next ∙ rest)

-- a key that is inserted
pub links-inserted : (keys new : List (ℕ × Bor Name)) → AreLinks (links_in keys) → (path : ℕ) (word : Bor Name)
    → path < length (paths_of (links_in keys)) → new ≡ with_key keys path word → AreLinks (links_in new)
links-inserted keys new are path word inside e = by (list_any (is_key path word.now) keys) refl
  where
    by : (b : Bool) → list_any (is_key path word.now) keys ≡ b → AreLinks (links_in new)
    by true any = rw (e ∙ ap (λ b. if b then keys else keys ++ (path, word) ∷ []) any) are
    by false any =
        subst AreLinks (sym (ap links_in (e ∙ ap (λ b. if b then keys else keys ++ (path, word) ∷ []) any)
        ∙ map-append link_of keys ((path, word) ∷ [])))
        (links-grown (links_in keys) (path, word.now) are inside (link_absent keys path word.now any))

pub kept-inserted : (keys new : List (ℕ × Bor Name)) (path : ℕ) (word : Bor Name) → new ≡ with_key keys path word
    → (n : ℕ) (p : Path) → slice_get (paths_of (links_in keys)) n ≡ Some p
    → slice_get (paths_of (links_in new)) n ≡ Some p
kept-inserted keys new path word e n p at = by (list_any (is_key path word.now) keys) refl
  where
    by : (b : Bool) → list_any (is_key path word.now) keys ≡ b → slice_get (paths_of (links_in new)) n ≡ Some p
    by true any = ap (λ ks. slice_get (paths_of (links_in ks)) n)
        (e ∙ ap (λ b. if b then keys else keys ++ (path, word) ∷ []) any) ∙ at
    by false any =
        ap (λ ls. slice_get (paths_of ls) n) (ap links_in
        (e ∙ ap (λ b. if b then keys else keys ++ (path, word) ∷ []) any)
        ∙ map-append link_of keys ((path, word) ∷ []))
        ∙ kept (links_in keys) (path, word.now) n p at

pub child-inserted : (keys new : List (ℕ × Bor Name)) → AreLinks (links_in keys) → (i path : ℕ) (word : Bor Name)
    → path < length (paths_of (links_in keys)) → new ≡ with_key keys path word
    → i ≡ position_or_len (is_key path word.now) keys
    → slice_get (paths_of (links_in new)) (i + 1) ≡ Some (child_of (paths_of (links_in keys)) path word.now)
child-inserted keys new are i path word inside e place =
    let old = get_or (paths_of (links_in keys)) path [] in
    let link : slice_get (links_in new) i ≡ Some (path, word.now) = rw (e, place) (link-inserted keys path word) in
    ((links-inserted keys new are path word inside e).link i path word.now link).1
    ∙ ap (λ q. Some (q ++ word.now ∷ [])) (get_or_from_slice_get (paths_of (links_in new)) path old []
    (kept-inserted keys new path word e path old (slice_get-get_or (paths_of (links_in keys)) path [] inside)))
