-- Differences that are reported one after another, and what of them is passed by from place to place.
use Rattle.std.proofs.Common.{◌≡◌, ℕ, ◌+◌, ◌<◌, ◌≤◌, ◌⊎◌, inl, inr, Bool, true, false, List, [], ◌∷◌}
use Rattle.std.proofs.Common.{◌++◌, get_or, Result, Ok, Err, OnOk, IfErr, IsErr, IsErrAnd, refl, sym, ap, ◌∙◌, arith}
use Rattle.std.specs.Bool.{⊤}
use Rattle.std.proofs.lemmas.List.Elements.{Contains-push, Contains-push_cases, Contains-append_left}
use Rattle.std.proofs.lemmas.List.Elements.{All-contains_itself}
use Rattle.std.proofs.lemmas.List.Quantifiers.{all_pairs_push}
use Rattle.fb_layout.specs.Laid.{LaidSchema}
use Rattle.fb_conform.specs.declared.breaches.Breach.{Breach}
use Rattle.fb_conform.specs.declared.difference.Difference.{Difference}
use Rattle.fb_conform.specs.declared.difference.Difference.TheVariants.{Breach as Broken, Moved}
use Rattle.fb_conform.specs.declared.names.MovedName.{MovedName}
use Rattle.fb_conform.specs.Differences.{Differs, ComesBefore}
use Rattle.fb_conform.specs.Listed.{MayMiss, Lists, StopsAt, Walks, part, place, number, IsBelow, IsAhead, IsUpTo}
use Rattle.fb_conform.specs.Order.{type_place}
use Rattle.fb_conform.proofs.walk.EachBreachHasItsPlace.{id, same_breach}

-- ---- places

abbrev pub moved_at : ℕ → ℕ → MovedName
moved_at t k = record { type_id = id t; slot = k }

pub same_name : (m n : MovedName) → m.type_id.0 ≡ n.type_id.0 → m.slot ≡ n.slot → m ≡ n
same_name m n type slot =
    ap (λ (t : ℕ). moved_at t m.slot) type ∙ ap (λ (k : ℕ). moved_at n.type_id.0 k) slot

-- two differences in one place, of one number, are one
same_difference : (d e : Difference) → part d ≡ part e → place d ≡ place e → number d ≡ number e → d ≡ e
same_difference (Broken r) (Broken b) at there same = ap Broken (same_breach r b (omega (arith, at)) there same)
same_difference (Broken r) (Moved m) at there same = absurd (omega (arith, at))
same_difference (Moved m) (Broken b) at there same = absurd (omega (arith, at))
same_difference (Moved m) (Moved n) at there same = ap Moved (same_name m n (omega (arith, at)) there)

ahead : (d e : Difference) → ComesBefore d e → IsAhead e d
ahead (Broken r) (Broken b) before = grind (arith, before)
ahead (Broken r) (Moved m) before = grind (arith, before)
ahead (Moved m) (Broken b) before = grind (arith, before)
ahead (Moved m) (Moved n) before = grind (arith, before)

comes_before : (d e : Difference) → IsAhead e d → ComesBefore d e
comes_before (Broken r) (Broken b) before = grind (arith, before)
comes_before (Broken r) (Moved m) before = grind (arith, before)
comes_before (Moved m) (Broken b) before = grind (arith, before)
comes_before (Moved m) (Moved n) before = grind (arith, before)

-- each difference in the part of a type's breaches is a breach of it
pub breach_in : (P : Difference → Type 0) (t : ℕ) → ((r : Breach) → type_place r ≡ t + 1 → P (Broken r))
    → (d : Difference) → part d ≡ t + t + 2 → P d
breach_in P t each (Broken r) at = each r (omega (arith, at))
breach_in P t each (Moved m) at = absurd (omega (arith, at))

-- and each in the part of its names one of its names
pub name_at : (P : Difference → Type 0) (t : ℕ) → ((m : MovedName) → m.type_id.0 ≡ t → P (Moved m))
    → (d : Difference) → part d ≡ t + t + 3 → P d
name_at P t each (Broken r) at = absurd (omega (arith, at))
name_at P t each (Moved m) at = each m (omega (arith, at))

-- what comes between two places, and between two parts
in_place : (p k m : ℕ) (d : Difference) → IsBelow p (k + 1) 0 d
    → IsBelow p k m d ⊎ ((part d ≡ p) × (place d ≡ k) × (m ≤ number d))
in_place p k m d below = grind (arith, below)

in_part : (p q k : ℕ) (d : Difference) → q ≡ p + 1 → IsBelow q 0 0 d
    → IsBelow p k 0 d ⊎ ((part d ≡ p) × (k ≤ place d))
in_part p q k d next below = grind (arith, next, below)

module _ (A B : LaidSchema) (wants : Difference → Bool) where
  -- nothing else differs of more differences
  pub more : (P Q : Difference → Type 0) (xs : List Difference) → ((d : Difference) → P d → Q d)
      → ((d : Difference) → Q d → P d ⊎ MayMiss A B wants d) → Lists A B wants P xs → Lists A B wants Q xs
  more P Q xs rise new before = record {
    among = λ d there. rise d (before.among d there);
    differs = before.differs;
    all = λ d q. elim (new d q) [ inl p ↦ before.all d p | inr miss ↦ inr miss ];
    order = before.order;
  }

  -- ---- from place to place

  -- to a higher number in a place
  pub numbers_passed : (p k m n : ℕ) (xs : List Difference) → m ≤ n
      → ((d : Difference) → part d ≡ p → place d ≡ k → m ≤ number d → number d < n → MayMiss A B wants d)
      → Lists A B wants (IsBelow p k m) xs → Lists A B wants (IsBelow p k n) xs
  numbers_passed p k m n xs rise miss =
      more (IsBelow p k m) (IsBelow p k n) xs (λ d below. grind (arith, rise, below))
      (λ d below. grind (arith, below, miss d))

  -- to the next place of a part
  pub place_passed : (p k m : ℕ) (xs : List Difference)
      → ((d : Difference) → part d ≡ p → place d ≡ k → m ≤ number d → MayMiss A B wants d)
      → Lists A B wants (IsBelow p k m) xs → Lists A B wants (IsBelow p (k + 1) 0) xs
  place_passed p k m xs miss =
      more (IsBelow p k m) (IsBelow p (k + 1) 0) xs (λ d below. grind (arith, below))
      (λ d below. elim (in_place p k m d below) [
        | inl earlier ↦ inl earlier
        | inr at ↦ inr (miss d at.0 at.1 at.2)
      ])

  -- to the next part
  pub part_passed : (p q k : ℕ) (xs : List Difference) → q ≡ p + 1
      → ((d : Difference) → part d ≡ p → k ≤ place d → MayMiss A B wants d)
      → Lists A B wants (IsBelow p k 0) xs → Lists A B wants (IsBelow q 0 0) xs
  part_passed p q k xs next miss =
      more (IsBelow p k 0) (IsBelow q 0 0) xs (λ d below. grind (arith, next, below))
      (λ d below. elim (in_part p q k d next below) [
        | inl earlier ↦ inl earlier
        | inr at ↦ inr (miss d at.0 at.1)
      ])

  -- ---- reports

  -- one more differs, after the others
  one_more : (d : Difference) (xs : List Difference) → Differs A B d → Lists A B wants (IsAhead d) xs
      → Lists A B wants (IsUpTo d) (xs ++ d ∷ [])
  one_more d xs differs before = record {
    among = λ e there. elim (Contains-push_cases xs d e there) [
      | inl old ↦ grind (arith, before.among e old)
      | inr same ↦ rw (← same) (inr (refl, inr (refl, omega arith)))
    ];
    differs = λ e there. elim (Contains-push_cases xs d e there) [
      | inl old ↦ before.differs e old
      | inr same ↦ rw (← same) differs
    ];
    all = λ e upto. elim (last e upto) [
      | inl earlier ↦ elim (before.all e earlier) [
        | inl old ↦ inl (Contains-append_left xs (d ∷ []) e old)
        | inr miss ↦ inr miss
      ]
      | inr same ↦ inl (rw same (Contains-push xs d))
    ];
    order = all_pairs_push ComesBefore xs d before.order (λ k e within.
        comes_before (get_or xs k e) d (before.among (get_or xs k e) (All-contains_itself xs k e within)));
  }
    where
      last : (e : Difference) → IsUpTo d e → IsAhead d e ⊎ (e ≡ d)
      last e upto = grind (arith, upto, same_difference e d)

  -- one that may be left out
  pub passed : (d : Difference) (xs : List Difference) → MayMiss A B wants d → Lists A B wants (IsAhead d) xs
      → Lists A B wants (IsUpTo d) xs
  passed d xs miss =
      numbers_passed (part d) (place d) (number d) (number d + 1) xs (omega arith)
      (λ e at there low high. rw (same_difference e d at there (omega (arith, low, high))) miss)

  -- one that the hearer hears of
  pub reported : {E : Type 0} (stops : List Difference → Difference → E → Type 0) (d : Difference)
      (xs ys : List Difference) (result : Result ⊤ E) → Differs A B d
      → OnOk result (wants d ≡ true → ys ≡ xs ++ d ∷ []) → OnOk result (wants d ≡ false → ys ≡ xs)
      → IfErr result (stops xs d) → Lists A B wants (IsAhead d) xs → Walks A B wants stops (IsUpTo d) ys result
  reported stops d xs ys (Ok done) differs kept ignored stopped before = by (wants d) refl
    where
      by : (w : Bool) → wants d ≡ w → Lists A B wants (IsUpTo d) ys
      by true test = rw (kept test) (one_more d xs differs before)
      by false test =
          rw (ignored test) (passed d xs (λ wanted. let bad : false ≡ true = sym test ∙ wanted in cc) before)
  reported stops d xs ys (Err error) differs kept ignored stopped before = record {
    heard = xs;
    difference = d;
    before = more (IsAhead d) (λ e. ComesBefore e d) xs (λ e before. comes_before e d before)
        (λ e before. inl (ahead e d before)) before;
    differs = differs;
    stopped = stopped;
  }

  pub walked_on : {E : Type 0} (stops : List Difference → Difference → E → Type 0) (P Q : Difference → Type 0)
      (ys : List Difference) (result : Result ⊤ E) → (Lists A B wants P ys → Lists A B wants Q ys)
      → Walks A B wants stops P ys result → Walks A B wants stops Q ys result
  walked_on stops P Q ys (Ok done) on walks = on walks
  walked_on stops P Q ys (Err error) on walks = walks

  pub stopped_on : {E : Type 0} (stops : List Difference → Difference → E → Type 0) (P : Difference → Type 0)
      (ys : List Difference) (error : E) (result : Result ⊤ E) → IsErr result × IsErrAnd result (λ e. e ≡ error)
      → StopsAt A B wants stops error → Walks A B wants stops P ys result
  stopped_on stops P ys error (Ok done) failed stop = let bad = failed.0 in cc
  stopped_on stops P ys error (Err e) failed stop = rw failed.1 stop

  -- past a place at which one difference alone may be
  pub one_walked : {E : Type 0} (stops : List Difference → Difference → E → Type 0) (d : Difference)
      (xs ys : List Difference) (result : Result ⊤ E)
      → ((e : Difference) → part e ≡ part d → place e ≡ place d → ¬ (number e ≡ number d) → MayMiss A B wants e)
      → Lists A B wants (IsBelow (part d) (place d) 0) xs
      → (Lists A B wants (IsAhead d) xs → Walks A B wants stops (IsUpTo d) ys result)
      → Walks A B wants stops (IsBelow (part d) (place d + 1) 0) ys result
  one_walked stops d xs ys result others before walks =
      walked_on stops (IsUpTo d) (IsBelow (part d) (place d + 1) 0) ys result
      (place_passed (part d) (place d) (number d + 1) ys (λ e at there past. others e at there (λ same.
      omega (arith, past, same))))
      (walks (numbers_passed (part d) (place d) 0 (number d) xs (omega arith) (λ e at there low high.
      others e at there (λ same. omega (arith, high, same))) before))
