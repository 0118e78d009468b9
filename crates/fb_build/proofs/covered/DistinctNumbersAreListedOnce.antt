-- Lists in which no number stands twice.
use Rattle.std.proofs.Common.{◌≡◌, ℕ, ◌+◌, ◌++◌, ◌⊎◌, inl, inr, Bool, true, false, ◌==◌, List, [], ◌∷◌, map, refl, ap}
use Rattle.std.proofs.Common.{sym, ◌∙◌, subst, arith}
use Rattle.std.specs.Prelude.{IsPermutation}
use Rattle.std.proofs.lemmas.Bool.{true≢false, false≢true, or_cases, or_left, or_right, or_from, eqb-true, eq-eqb}
use Rattle.std.proofs.lemmas.Bool.{ne_eqb, cases_Bool}
use Rattle.std.proofs.lemmas.List.Sorted.{IsPermutation-refl, IsPermutation-trans, IsPermutation-cons}
use Rattle.std.proofs.lemmas.List.Sorted.{IsPermutation-sym, IsPermutation-middle}
use Rattle.fb_build.specs.Pieces.{is_among, each_once}
use Rattle.fb_build.specs.CoveredSteps.{AreDistinct, OnceWhereDistinct}
use Rattle.std.proofs.lemmas.Bool.{false_from_ne_true}

pub same_bool : (x y : Bool) → (x ≡ true → y ≡ true) → (y ≡ true → x ≡ true) → x ≡ y
same_bool true y h g = sym (h refl)
same_bool false true h g = g refl
same_bool false false h g = refl

-- ---- where a number stands

front_among : (n : ℕ) (us vs : List ℕ) → is_among n us ≡ true → is_among n (us ++ vs) ≡ true
front_among n [] vs h = absurd (false≢true h)
front_among n (m ∷ us) vs h = elim (or_cases (n == m) (is_among n us) h) [
  | inl e ↦ or_left _ _ e
  | inr more ↦ or_right _ _ (front_among n us vs more)
]

back_among : (n : ℕ) (us vs : List ℕ) → is_among n vs ≡ true → is_among n (us ++ vs) ≡ true
back_among n [] vs h = h
back_among n (m ∷ us) vs h = or_right _ _ (back_among n us vs h)

either_among : (n : ℕ) (us vs : List ℕ) → is_among n (us ++ vs) ≡ true → (is_among n us ≡ true) ⊎ (is_among n vs ≡ true)
either_among n [] vs h = inr h
either_among n (m ∷ us) vs h =
    elim (or_cases (n == m) (is_among n (us ++ vs)) h) [
      | inl e ↦ inl (or_left _ _ e)
      | inr more ↦
          elim (either_among n us vs more) [ inl front ↦ inl (or_right _ _ front) | inr back ↦ inr back ]
    ]

-- a number that is among others stands between a front and a rest
record Splits (n : ℕ) (ms : List ℕ) : Type 0 where
  us : List ℕ
  vs : List ℕ
  is : ms ≡ us ++ n ∷ vs

split_at : (n : ℕ) (ms : List ℕ) → is_among n ms ≡ true → Splits n ms
split_at n [] h = absurd (false≢true h)
split_at n (m ∷ ms) h =
    elim (or_cases (n == m) (is_among n ms) h) [
      | inl e ↦ record { us = []; vs = ms; is = ap (λ k. k ∷ ms) (sym (eqb-true n m e)) }
      | inr more ↦ (let rest = split_at n ms more in
          record { us = m ∷ rest.us; vs = rest.vs; is = ap (λ ks. m ∷ ks) rest.is })
    ]

-- ---- without one number

without_among : (x n : ℕ) (us vs : List ℕ) → (n ≡ x → ⊥) → is_among n (us ++ x ∷ vs) ≡ true
    → is_among n (us ++ vs) ≡ true
without_among x n us vs ne h =
    elim (either_among n us (x ∷ vs) h) [
      | inl front ↦ front_among n us vs front
      | inr back ↦ elim (or_cases (n == x) (is_among n vs) back) [
        | inl e ↦ absurd (ne (eqb-true n x e))
        | inr rest ↦ back_among n us vs rest
      ]
    ]

with_among : (x n : ℕ) (us vs : List ℕ) → is_among n (us ++ vs) ≡ true → is_among n (us ++ x ∷ vs) ≡ true
with_among x n us vs h = elim (either_among n us vs h) [
  | inl front ↦ front_among n us (x ∷ vs) front
  | inr back ↦ back_among n us (x ∷ vs) (or_right _ _ back)
]

distinct_without : (x : ℕ) (us vs : List ℕ) → AreDistinct (us ++ x ∷ vs) → AreDistinct (us ++ vs)
distinct_without x [] vs h = h.1
distinct_without x (m ∷ us) vs h =
    (false_from_ne_true _ (λ is. true≢false (sym (with_among x m us vs is) ∙ h.0)), distinct_without x us vs h.1)

not_among_without : (x : ℕ) (us vs : List ℕ) → AreDistinct (us ++ x ∷ vs) → is_among x (us ++ vs) ≡ false
not_among_without x [] vs h = h.0
not_among_without x (m ∷ us) vs h =
    let other : x ≡ m → ⊥ = λ e. true≢false (sym (back_among m us (x ∷ vs) (or_left _ _ (eq-eqb m x (sym e)))) ∙ h.0) in
    or_from _ _ (ne_eqb x m other) (not_among_without x us vs h.1)

-- ---- the same members

pub same_members : (ns ms : List ℕ) → AreDistinct ns → AreDistinct ms → ((n : ℕ) → is_among n ns ≡ is_among n ms)
    → IsPermutation ns ms
same_members [] [] h g same = IsPermutation-refl []
same_members [] (m ∷ ms) h g same =
    absurd (true≢false (sym (or_left (m == m) (is_among m ms) (eq-eqb m m refl)) ∙ sym (same m)))
same_members (n ∷ ns) ms h g same =
    let there = split_at n ms (sym (same n) ∙ or_left _ _ (eq-eqb n n refl)) in
    let us = there.us in
    let vs = there.vs in
    let g2 : AreDistinct (us ++ n ∷ vs) = subst AreDistinct there.is g in
    let same2 : (k : ℕ) → is_among k (n ∷ ns) ≡ is_among k (us ++ n ∷ vs) = λ k. same k ∙ ap (is_among k) there.is in
    let rest = same_members ns (us ++ vs) h.1 (distinct_without n us vs g2)
    (λ k. same_bool _ _ (down us vs same2 k) (up us vs g2 same2 k)) in
    subst (IsPermutation (n ∷ ns)) (sym there.is)
    (IsPermutation-trans _ _ _ (IsPermutation-cons n _ _ rest)
    (IsPermutation-sym _ _ (IsPermutation-middle us n vs)))
  where
    down : (us vs : List ℕ) → ((k : ℕ) → is_among k (n ∷ ns) ≡ is_among k (us ++ n ∷ vs)) → (k : ℕ)
        → is_among k ns ≡ true → is_among k (us ++ vs) ≡ true
    down us vs same2 k is =
        let other : k ≡ n → ⊥ = λ e. true≢false (sym is ∙ ap (λ j. is_among j ns) e ∙ h.0) in
        without_among n k us vs other (sym (same2 k) ∙ or_right _ _ is)

    up : (us vs : List ℕ) → AreDistinct (us ++ n ∷ vs) → ((k : ℕ) → is_among k (n ∷ ns) ≡ is_among k (us ++ n ∷ vs))
        → (k : ℕ) → is_among k (us ++ vs) ≡ true → is_among k ns ≡ true
    up us vs g2 same2 k is =
        elim (or_cases (k == n) (is_among k ns) (same2 k ∙ with_among n k us vs is)) [
          | inl e ↦ absurd (true≢false (sym is ∙ ap (λ j. is_among j (us ++ vs)) (eqb-true k n e)
              ∙ not_among_without n us vs g2))
          | inr more ↦ more
        ]

-- ---- each number once

once_among : (ms : List ℕ) (n : ℕ) → is_among n (each_once ms) ≡ is_among n ms
unfolding each_once
once_among [] n = refl
once_among (m ∷ ms) n =
    elim (cases_Bool (is_among m ms)) [
      | inl e ↦ rw e (once_among ms n ∙ same_bool _ _ (λ is. or_right _ _ is)
          (λ is. elim (or_cases (n == m) (is_among n ms) is) [
            | inl q ↦ ap (λ j. is_among j ms) (eqb-true n m q) ∙ e
            | inr more ↦ more
          ]))
      | inr e ↦ rw (e, once_among ms n) refl
    ]

once_distinct : (ms : List ℕ) → AreDistinct (each_once ms)
unfolding each_once
once_distinct [] = tt
once_distinct (m ∷ ms) =
    elim (cases_Bool (is_among m ms)) [
      | inl e ↦ rw e (once_distinct ms)
      | inr e ↦ rw e (once_among ms m ∙ e, once_distinct ms)
    ]

pub once_shown : OnceWhereDistinct
once_shown ns ms h same = same_members ns (each_once ms) h (once_distinct ms) (λ n. same n ∙ sym (once_among ms n))

-- ---- the same numbers further on

pub same_test : (k n m : ℕ) → ((k + n) == (k + m)) ≡ (n == m)
same_test k n m =
    same_bool _ _ (λ is. eq-eqb n m (let e : k + n ≡ k + m = eqb-true (k + n) (k + m) is in omega (arith, e)))
    (λ is. eq-eqb (k + n) (k + m) (let e : n ≡ m = eqb-true n m is in omega (arith, e)))

pub among_further : (k n : ℕ) (ms : List ℕ) → is_among (k + n) (map (λ q. k + q) ms) ≡ is_among n ms
among_further k n [] = refl
among_further k n (m ∷ ms) = rw (same_test k n m, among_further k n ms) refl

pub once_further : (k : ℕ) (ms : List ℕ) → each_once (map (λ q. k + q) ms) ≡ map (λ q. k + q) (each_once ms)
unfolding each_once
once_further k [] = refl
once_further k (m ∷ ms) =
    elim (cases_Bool (is_among m ms)) [
      | inl e ↦ rw (among_further k m ms, e) (once_further k ms)
      | inr e ↦ rw (among_further k m ms, e, once_further k ms) refl
    ]
