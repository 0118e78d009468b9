-- A name's last word, and the path that it stands behind, taken apart and put together.
use Rattle.std.proofs.Common.{◌≡◌, ◌≢◌, ◌+◌, ◌<◌, ◌≤◌, ℕ, List, [], ◌∷◌, ◌++◌, length, take, drop, reverse, get_or}
use Rattle.std.proofs.Common.{slice_get, Some, refl, sym, ap, ◌∙◌, arith, ⊎_elim, append_assoc, length-append}
use Rattle.std.proofs.Common.{append-nil}
use Rattle.std.proofs.Math.Seq.{take-append_seam}
use Rattle.std.proofs.lemmas.List.{take-append-le, take-append-drop, reverse-append, reverse-reverse}
use Rattle.std.proofs.lemmas.List.{append_cancel_left}
use Rattle.std.proofs.lemmas.Bool.{cases_lt}
use Rattle.std.proofs.lemmas.Option.{get_or_from_slice_get, slice_get-get_or}
use Rattle.fb_schema.specs.Schema.{Name}
use Rattle.fb_resolve.specs.Words.{Path, full_path}
use Rattle.fb_resolve.specs.declared.namespaces.path_tree.PathTree.{PathTree}
use Rattle.fb_resolve.specs.PathTree.{links_of, paths, IsTree, child_of}
use Rattle.fb_resolve.proofs.namespaces.PathsGrown.{linked}

-- each beginning of a path in a tree is in it
pub beginning : (tree : PathTree) → IsTree tree → (p q : Path) (n : ℕ) → slice_get (paths tree) n ≡ Some (p ++ q)
    → (m : ℕ) × (slice_get (paths tree) m ≡ Some p)
beginning tree is p [] n at = (n, at ∙ ap (λ x. Some x) (append-nil p))
beginning tree is p (w ∷ q) n at =
    let longer = beginning tree is (p ++ w ∷ []) q n (at ∙ ap (λ x. Some x) (sym (append_assoc p (w ∷ []) q))) in
    let link = linked (links_of tree) is longer.0 p w longer.1 in
    (link.before, link.path)

-- the last word of the path, moved to the name
pub same_moved : (ps ks : List Path) (path name outer longer : ℕ) (w : Name)
    → slice_get ps path ≡ Some (child_of ps outer w) → slice_get ks longer ≡ Some (child_of ks name w)
    → full_path ps ks outer longer ≡ full_path ps ks path name
same_moved ps ks path name outer longer w at_path at_name =
    rw (get_or_from_slice_get ks longer (child_of ks name w) [] at_name)
    (rw (get_or_from_slice_get ps path (child_of ps outer w) [] at_path) (rw (reverse-append, append_assoc) refl))

pub one_shorter : (ps : List Path) (path outer : ℕ) (w : Name) → slice_get ps path ≡ Some (child_of ps outer w)
    → length (get_or ps outer []) + 1 ≡ length (get_or ps path [])
one_shorter ps path outer w at = sym (ap length (get_or_from_slice_get ps path (child_of ps outer w) [] at)
    ∙ length-append (get_or ps outer []) (w ∷ []))

-- of a path that ends no later than another, what is left of the other
split_at : (p q r s : Path) → length p ≤ length q → p ++ r ≡ q ++ s → (t : Path) × (q ≡ p ++ t)
split_at p q r s l e =
    let n = length p in
    let start : take n q ≡ p = sym (take-append-le n q s l) ∙ ap (take n) (sym e) ∙ take-append_seam p r in
    (drop n q, sym (take-append-drop n q) ∙ ap (λ x. x ++ drop n q) start)

-- what is left of a name's words behind a beginning that is too short
longer_name : (p outer k n : Path) (w : Name) → length p ≤ length outer
    → p ++ reverse n ≡ (outer ++ w ∷ []) ++ reverse k → (t : Path) × (n ≡ (k ++ w ∷ []) ++ t)
longer_name p outer k n w less same =
    let split = split_at p outer (reverse n) ((w ∷ []) ++ reverse k) less
    (same ∙ append_assoc outer (w ∷ []) (reverse k)) in
    let t = split.0 in
    let rest : reverse n ≡ t ++ ((w ∷ []) ++ reverse k) =
    append_cancel_left p (reverse n) (t ++ ((w ∷ []) ++ reverse k))
    (same ∙ append_assoc outer (w ∷ []) (reverse k) ∙ ap (λ x. x ++ ((w ∷ []) ++ reverse k)) split.1
    ∙ append_assoc p t ((w ∷ []) ++ reverse k)) in (
      reverse t,
      sym (reverse-reverse n) ∙ ap reverse rest ∙ reverse-append t ((w ∷ []) ++ reverse k)
          ∙ ap (λ x. x ++ reverse t) (reverse-append (w ∷ []) (reverse k) ∙ ap (λ x. x ++ w ∷ []) (reverse-reverse k)),
    )

-- where no used name has the path's last word before the name, no shorter path goes with any
pub no_shorter : (ps : List Path) (used : PathTree) → IsTree used → (path name outer : ℕ) (w : Name)
    → slice_get ps path ≡ Some (child_of ps outer w)
    → ((n : ℕ) → slice_get (paths used) n ≢ Some (child_of (paths used) name w))
    → (p n : ℕ) → n < length (paths used) → full_path ps (paths used) p n ≡ full_path ps (paths used) path name
    → length (get_or ps path []) ≤ length (get_or ps p [])
no_shorter ps used is path name outer w at missing p n inside same =
    ⊎_elim shorter (λ h. h) (cases_lt (length (get_or ps p [])) (length (get_or ps path [])))
  where
    shorter : length (get_or ps p []) < length (get_or ps path [])
        → length (get_or ps path []) ≤ length (get_or ps p [])
    shorter l =
        let ks = paths used in
        let long = one_shorter ps path outer w at in
        let less : length (get_or ps p []) ≤ length (get_or ps outer []) = omega (arith, l, long) in
        let left = longer_name (get_or ps p []) (get_or ps outer []) (get_or ks name []) (get_or ks n []) w less
        (same ∙ ap (λ x. x ++ reverse (get_or ks name [])) (get_or_from_slice_get ps path (child_of ps outer w) [] at))
        in
        let found = beginning used is (child_of ks name w) left.0 n
        (slice_get-get_or ks n [] inside ∙ ap (λ x. Some x) left.1) in
        absurd (missing found.0 found.1)
