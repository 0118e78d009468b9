-- A type noted for each used name that means it, from the longest path to the shortest.
use Rattle.std.proofs.Common.{IfSome, IfNone, ◌≡◌, ◌+◌, ◌<◌, ◌≤◌, ◌==◌, ◌&&◌, ◌||◌, ℕ, Bool, true, false, true≢false}
use Rattle.std.proofs.Common.{List, [], ◌++◌, length, reverse, get_or, slice_get, Option, None, Some, nat_lt, refl, sym}
use Rattle.std.proofs.Common.{ap, ◌∙◌, arith, append-nil, length-append, if◌then◌else◌}
use Rattle.std.proofs.lemmas.Bool.Decides.{nat_tests, Decides-and, Decides-eqb, not_from_Decides}
use Rattle.std.specs.Bool.{Decides}
use Rattle.std.proofs.lemmas.List.{reverse-reverse}
use Rattle.std.proofs.lemmas.Option.{get_or_from_slice_get, slice_get-get_or, slice_get_within}
use Rattle.std.specs.Option.{option_or}
use Rattle.fb_resolve.specs.Words.{Path, full_path, is_same_path}
use Rattle.fb_resolve.specs.declared.namespaces.path_tree.PathTree.{PathTree}
use Rattle.fb_resolve.specs.PathTree.{paths, IsTree}
use Rattle.fb_resolve.proofs.namespaces.PathsNamed.{append_inj, is_same_path-Decides}

-- whether paths of this length have been noted, where this one comes next
abbrev pub is_done : List Path → ℕ → Option (ℕ × ℕ) → Bool
is_done ps l None = true
is_done ps l (Some x) = nat_lt (length (get_or ps x.0 [])) l

-- the next path and name have numbers, and are together the full name
abbrev pub IsNext : List Path → List Path → Path → Option (ℕ × ℕ) → Type 0
IsNext ps ks full None = Unit {0}
IsNext ps ks full (Some x) = (x.0 < length ps) × (x.1 < length ks) × (full_path ps ks x.0 x.1 ≡ full)

-- what is noted is what was, and the type for each path and name that are together its full name and have been noted
pub record Noting (ps ks : List Path) (full : Path) (number : ℕ) (old new : ℕ → ℕ → Option ℕ)
    (next : Option (ℕ × ℕ)) : Type 0 where
  pub ahead : IsNext ps ks full next
  pub done : (p n : ℕ) → p < length ps → 0 < n → n < length ks
      → new p n ≡ option_or (old p n) (if is_same_path (full_path ps ks p n) full && is_done ps
      (length (get_or ps p [])) next then Some number else None)

-- one path and name more
one_noted : (o : Option ℕ) (number : ℕ) (same before after here : Bool) → (here ≡ true → same ≡ true)
    → (same ≡ true → after ≡ (before || here))
    → option_or (option_or o (if same && before then Some number else None))
    (if here then Some number else None) ≡ option_or o (if same && after then Some number else None)
one_noted (Some x) number same before after here h e = refl
one_noted None number true true after here h e = rw (e refl) refl
one_noted None number true false after here h e = rw (e refl) refl
one_noted None number false before after true h e = absurd (true≢false (sym (h refl)))
one_noted None number false before after false h e = refl

-- at first nothing is done
pub noting_first : (ps ks : List Path) (full_name number : ℕ) (old : ℕ → ℕ → Option ℕ) → full_name < length ps
    → slice_get ks 0 ≡ Some [] → Noting ps ks (get_or ps full_name []) number old old (Some (full_name, 0))
noting_first ps ks full_name number old inside first = record {
  ahead = (
    inside,
    slice_get_within ks 0 [] first,
    ap (λ k. get_or ps full_name [] ++ reverse k) (get_or_from_slice_get ks 0 [] [] first)
        ∙ append-nil (get_or ps full_name []),
  );
  done = λ p n at_path some at_name.
      let path = get_or ps p [] in
      let rest = reverse (get_or ks n []) in
      let full = get_or ps full_name [] in
      none (old p n) (is_same_path (path ++ rest) full) (nat_lt (length full) (length path))
      (λ h. let long = ap length ((is_same_path-Decides (path ++ rest) full).0 h) in
      let sum = length-append path rest in
      grind (arith, nat_tests));
}
  where
    none : (o : Option ℕ) (same longer : Bool) → (same ≡ true → longer ≡ false)
        → o ≡ option_or o (if same && longer then Some number else None)
    none (Some x) same longer h = refl
    none None false longer h = refl
    none None true longer h = rw (h refl) refl

-- two paths of one length that are with their names one full name are one, as are the names
pub one_split : (tree used : PathTree) → IsTree tree → IsTree used → (p n path name : ℕ) → p < length (paths tree)
    → n < length (paths used) → path < length (paths tree) → name < length (paths used)
    → full_path (paths tree) (paths used) p n ≡ full_path (paths tree) (paths used) path name
    → length (get_or (paths tree) p []) ≡ length (get_or (paths tree) path []) → (p ≡ path) × (n ≡ name)
one_split tree used is are p n path name at_p at_n at_path at_name same long =
    let ps = paths tree in
    let ks = paths used in
    let parts = append_inj (get_or ps p []) (get_or ps path []) (reverse (get_or ks n []))
    (reverse (get_or ks name [])) same long in
    let names : get_or ks n [] ≡ get_or ks name [] = sym (reverse-reverse (get_or ks n [])) ∙ ap reverse parts.1
    ∙ reverse-reverse (get_or ks name []) in (
      is.apart p path (get_or ps path []) (slice_get-get_or ps p [] at_p ∙ ap (λ x. Some x) parts.0)
          (slice_get-get_or ps path [] at_path),
      are.apart n name (get_or ks name []) (slice_get-get_or ks n [] at_n ∙ ap (λ x. Some x) names)
          (slice_get-get_or ks name [] at_name),
    )

-- what comes next behind a path and a name
abbrev pub IsOuterSplit : List Path → List Path → ℕ → ℕ → Option (ℕ × ℕ) → Type 0
IsOuterSplit ps ks path name None = (p n : ℕ) → p < length ps → n < length ks
    → full_path ps ks p n ≡ full_path ps ks path name
    → length (get_or ps path []) ≤ length (get_or ps p [])
IsOuterSplit ps ks path name (Some x) = (x.0 < length ps) × (x.1 < length ks)
    × (full_path ps ks x.0 x.1 ≡ full_path ps ks path name)
    × (length (get_or ps x.0 []) + 1 ≡ length (get_or ps path []))

-- a path is done behind this one if it was, or is this one
done_by : (ps ks : List Path) (path name : ℕ) (p n : ℕ) (here : Bool) (next : Option (ℕ × ℕ)) → p < length ps
    → n < length ks → IsOuterSplit ps ks path name next → full_path ps ks p n ≡ full_path ps ks path name
    → Decides here (length (get_or ps p []) ≡ length (get_or ps path []))
    → is_done ps (length (get_or ps p [])) next ≡
    (nat_lt (length (get_or ps path [])) (length (get_or ps p [])) || here)
done_by ps ks path name p n true None at_p at_n out same tells = let long = tells.0 refl in grind (arith, nat_tests)
done_by ps ks path name p n false None at_p at_n out same tells =
    let long = out p n at_p at_n same in
    let apart = not_from_Decides false tells refl in grind (arith, nat_tests)
done_by ps ks path name p n true (Some x) at_p at_n out same tells = let long = tells.0 refl in let shorter = out.3 in
    grind (arith, nat_tests)
done_by ps ks path name p n false (Some x) at_p at_n out same tells =
    let shorter = out.3 in
    let apart = not_from_Decides false tells refl in grind (arith, nat_tests)

-- what a call of `outer_split` gives
pub outer_split_of : (ps ks : List Path) (path name : ℕ) (o : Option (ℕ × ℕ)) → IfSome o (λ r. r.1 < length ks)
    → IfSome o (λ r. r.0 < path) → path < length ps
    → IfSome o (λ r. full_path ps ks r.0 r.1 ≡ full_path ps ks path name)
    → IfSome o (λ r. length (get_or ps r.0 []) + 1 ≡ length (get_or ps path []))
    → IfNone o ((p n : ℕ) → p < length ps → n < length ks → full_path ps ks p n ≡ full_path ps ks path name
    → length (get_or ps path []) ≤ length (get_or ps p []))
    → IsOuterSplit ps ks path name o
outer_split_of ps ks path name None a b l c d e = e
outer_split_of ps ks path name (Some r) a b l c d e = (omega (arith, b, l), a, c, d)

-- one path and name noted, and the next ones found
pub noting_more : (tree used : PathTree) → IsTree tree → IsTree used
    → (full : Path) (number : ℕ) (old new newer : ℕ → ℕ → Option ℕ) (path name : ℕ) (next : Option (ℕ × ℕ))
    → Noting (paths tree) (paths used) full number old new (Some (path, name))
    → ((p n : ℕ) → p < length (paths tree) → 0 < n → n < length (paths used)
    → newer p n ≡ option_or (new p n) (if p == path && n == name then Some number else None))
    → IsOuterSplit (paths tree) (paths used) path name next
    → Noting (paths tree) (paths used) full number old newer next
noting_more tree used is are full number old new newer path name next noting noted out = record {
  ahead = ahead next out;
  done = λ p n at_p some at_n.
      let same = is_same_path (full_path ps ks p n) full in
      let is_full = is_same_path-Decides (full_path ps ks p n) full in
      let here = p == path && n == name in
      let is_here = Decides-and (p == path) (n == name) (Decides-eqb p path) (Decides-eqb n name) in
      let before = nat_lt (length (get_or ps path [])) (length (get_or ps p [])) in
      noted p n at_p some at_n
      ∙ ap (λ o. option_or o (if here then Some number else None)) (noting.done p n at_p some at_n)
      ∙ one_noted (old p n) number same before (is_done ps (length (get_or ps p [])) next) here
      (λ h. let both = is_here.0 h in
      is_full.1 (ap (λ x. full_path ps ks x n) both.0 ∙ ap (λ x. full_path ps ks path x) both.1
      ∙ noting.ahead.2))
      (λ h. let meant : full_path ps ks p n ≡ full_path ps ks path name = is_full.0 h ∙ sym noting.ahead.2 in
      done_by ps ks path name p n here next at_p at_n out meant (
        λ h. ap (λ x. length (get_or ps x [])) (is_here.0 h).0,
        λ long. is_here.1 (one_split tree used is are p n path name at_p at_n noting.ahead.0 noting.ahead.1 meant
            long),
      ));
}
  where
    ps : List Path
    ps = paths tree

    ks : List Path
    ks = paths used

    ahead : (o : Option (ℕ × ℕ)) → IsOuterSplit ps ks path name o → IsNext ps ks full o
    ahead None out = tt
    ahead (Some x) out = (out.0, out.1, out.2 ∙ noting.ahead.2)
