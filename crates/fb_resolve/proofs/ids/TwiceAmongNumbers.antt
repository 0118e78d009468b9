-- Numbers that are met again among others, and places that none of them takes.
use Rattle.std.proofs.Common.{◌≡◌, ◌≤◌, ◌<◌, ◌+◌, ◌==◌, ◌||◌, ◌∙◌, ◌∷◌, ◌⊎◌, [], ℕ, zero, suc, Bool, true, false, List}
use Rattle.std.proofs.Common.{Option, None, Some, count_by, length, get_or, take, not, arith, ap, sym, refl}
use Rattle.std.proofs.Common.{inl, inr, ◌&&◌, rules, set, tests, IfSome, if◌then◌else◌}
use Rattle.std.proofs.lemmas.Bool.{eqb-false, eqb-true, not-false}
use Rattle.std.proofs.lemmas.List.{get_or-set_other, get_or-set_same}
use Rattle.std.proofs.lemmas.List.Sums.{count_by_more_no, count_by_more_yes, fails_before_first}
use Rattle.std.proofs.lemmas.List.Folds.{list_all_at, list_any_more}
use Rattle.std.proofs.lemmas.List.Quantifiers.{position-Some}
use Rattle.std.proofs.lemmas.List.FromFn.{get_or-range_with_len, length-range_with_len}
use Rattle.std.specs.List.{list_all, list_any, position, range_with_len}
use Rattle.fb_resolve.specs.declared.ids.WrongIds.{WrongIds}
use Rattle.fb_resolve.specs.declared.ids.WrongIds.TheVariants.{NoSlot, Twice, Missing}
use Rattle.std.specs.Option.{unwrap_or}
use Rattle.fb_resolve.specs.ResolvedFields.{ResolvedField}
use Rattle.fb_resolve.specs.declared.ids.Slots.TheVariants.{Wrong}
use Rattle.fb_resolve.specs.Ids.{AreSlots, are_ids_wrong, are_places, has_no_slot, have_ids, IsWrongNumber, numbers_by_id}
use Rattle.std.proofs.Math.Bool.{or-true}
use Rattle.std.proofs.Math.Bool.{or-false}
use Rattle.std.proofs.lemmas.Bool.{not-true}

-- a number is met more than once
abbrev pub IsMetTwice : List ℕ → WrongIds → Type 0
IsMetTwice ns (Twice s) = 2 ≤ count_by (λ n. s == n) ns
IsMetTwice ns _ = ⊥

either_true : (x y : Bool) → (x || y) ≡ true → (x ≡ true) ⊎ (y ≡ true)
either_true true y is = inl refl
either_true false y is = inr is

module _ (p : ℕ → Bool) (ns : List ℕ) where
  met_here : (i : ℕ) (b : Bool) → i < length ns → p (get_or ns i 0) ≡ b
      → (list_any p (take i ns) ≡ true → 1 ≤ count_by p (take i ns))
      → (list_any p (take i ns) ≡ true) ⊎ (p (get_or ns i 0) ≡ true) → 1 ≤ count_by p (take (i + 1) ns)
  met_here i true low is before any = omega (arith, count_by_more_yes p ns i 0 low is)
  met_here i false low is before (inl any) = omega (arith, count_by_more_no p ns i 0 low is, before any)
  met_here i false low is before (inr here) =
      let both : false ≡ true = sym is ∙ here in
      cc

  met_once : (i : ℕ) → i ≤ length ns → list_any p (take i ns) ≡ true → 1 ≤ count_by p (take i ns)
  met_once zero low any = cc
  met_once (suc i) low any =
      let within : i < length ns = omega (arith, low) in
      let next : suc i ≡ i + 1 = omega arith in
      rw next (met_here i (p (get_or ns i 0)) within refl (met_once i (omega (arith, low)))
      (either_true _ _ (sym (list_any_more p ns i 0 within) ∙ (rw next at any))))

  grows_by : (i : ℕ) (b : Bool) → i < length ns → p (get_or ns i 0) ≡ b
      → count_by p (take i ns) ≤ count_by p (take (i + 1) ns)
  grows_by i true low is = omega (arith, count_by_more_yes p ns i 0 low is)
  grows_by i false low is = omega (arith, count_by_more_no p ns i 0 low is)

-- one number more takes none away
still_met : (ns : List ℕ) (i : ℕ) (w : WrongIds) → i < length ns → IsMetTwice (take i ns) w
    → IsMetTwice (take (i + 1) ns) w
still_met ns i (NoSlot k) low met = met
still_met ns i (Missing s) low met = met
still_met ns i (Twice s) low met =
    omega (arith, met, grows_by (λ n. s == n) ns i (s == get_or ns i 0) low refl)

pub still : (ns : List ℕ) (i : ℕ) (before : Option WrongIds) → i < length ns → IfSome before (IsMetTwice (take i ns))
    → IfSome before (IsMetTwice (take (i + 1) ns))
still ns i None low met = tt
still ns i (Some w) low met = still_met ns i w low met

-- a number that was met before
met_again : (ns : List ℕ) (i s : ℕ) → i < length ns → (s == get_or ns i 0) ≡ true
    → list_any (λ n. s == n) (take i ns) ≡ true → IsMetTwice (take (i + 1) ns) (Twice s)
met_again ns i s low is any = omega (
  arith,
  met_once (λ n. s == n) ns i (omega (arith, low)) any,
  count_by_more_yes (λ n. s == n) ns i 0 low is,
)

-- what was met twice first, after one number more
pub twice_more : (ns : List ℕ) (i : ℕ) (before now : Option WrongIds) (again : Bool) → i < length ns
    → again ≡ list_any (λ n. get_or ns i 0 == n) (take i ns) → IfSome before (IsMetTwice (take i ns))
    → (now ≡ before) ⊎ ((again ≡ true) × (now ≡ Some (Twice (get_or ns i 0)))) → IfSome now (IsMetTwice (take (i + 1) ns))
twice_more ns i before now again low is met (inl same) = rw same (still ns i before low met)
twice_more ns i before now again low is met (inr here) =
    rw here.1 (met_again ns i (get_or ns i 0) low (search (rules, tests)) (sym is ∙ here.0))

-- ---- places

-- which places are taken after one number more
module _ (ns : List ℕ) (bs : List Bool) (i k : ℕ) (within : i < length ns) where
  abbrev taken_by : List Bool → ℕ → Type 0
  taken_by cs j = get_or cs k false ≡ list_any (λ n. k == n) (take j ns)

  marked : (b : Bool) → (k == get_or ns i 0) ≡ b → get_or ns i 0 < length bs → taken_by bs i
      → get_or (set bs (get_or ns i 0) true) k false ≡ (list_any (λ n. k == n) (take i ns) || b)
  marked true is inside before =
      let same : k ≡ get_or ns i 0 = eqb-true k (get_or ns i 0) is in
      rw same (get_or-set_same bs (get_or ns i 0) true false inside ∙ sym (or-true _))
  marked false is inside before =
      let apart = eqb-false k (get_or ns i 0) is in
      get_or-set_other bs (get_or ns i 0) k true false apart ∙ before ∙ sym (or-false _)

  pub marks_more : (cs : List Bool) → get_or ns i 0 < length bs → cs ≡ set bs (get_or ns i 0) true → taken_by bs i
      → taken_by cs (i + 1)
  marks_more cs inside is before =
      ap (λ l. get_or l k false) is ∙ marked (k == get_or ns i 0) refl inside before
      ∙ sym (list_any_more (λ n. k == n) ns i 0 within)

  -- a number that is no place takes none
  pub marks_same : length bs ≤ get_or ns i 0 → k < length bs → taken_by bs i → taken_by bs (i + 1)
  marks_same outside low before =
      let apart : (k == get_or ns i 0) ≡ false = search (rules, tests, arith, outside, low) in
      before ∙ sym (list_any_more (λ n. k == n) ns i 0 within ∙ ap (λ b. list_any (λ n. k == n) (take i ns) || b) apart
      ∙ or-false _)

past_end : (b : Bool) (n : ℕ) → (if b then Some n else None) ≡ None → b ≡ false
past_end true n is = cc
past_end false n is = refl

module _ {X : Type 0} (p : X → Bool) where
  all_by_place : (xs : List X) (d : X) → ((k : ℕ) → k < length xs → p (get_or xs k d) ≡ true) → list_all p xs ≡ true
  all_by_place [] d each = refl
  all_by_place (x ∷ xs) d each =
      rw (each 0 (omega arith)) (all_by_place xs d (λ k low. each (suc k) (omega (arith, low))))

  all_of : (xs : List X) (d : X) → position (λ x. not (p x)) xs ≡ None → list_all p xs ≡ true
  all_of xs d none =
      let past = past_end _ _ none in
      all_by_place xs d (λ k low. not-false (p (get_or xs k d))
      (fails_before_first (λ x. not (p x)) xs k d (search (rules, tests, arith, past, low))))

  -- each passes where none is the first that doesn't
  pub all_pass : (xs : List X) → position (λ x. not (p x)) xs ≡ None → list_all p xs ≡ true
  all_pass [] none = refl
  all_pass (x ∷ xs) none = all_of (x ∷ xs) x none

  pub one_fails : (xs : List X) (k : ℕ) → position (λ x. not (p x)) xs ≡ Some k → list_all p xs ≡ false
  one_fails [] k is = cc
  one_fails (x ∷ xs) k is =
      let found = position-Some (λ x. not (p x)) (x ∷ xs) k x is in
      list_all_at p (x ∷ xs) k x found.0 (not-true (p (get_or (x ∷ xs) k x)) found.1)

-- the first free place isn't among the numbers that took theirs
free_is_missing : (ns : List ℕ) (bs : List Bool) (f : ℕ) → length bs ≡ length ns
    → ((k : ℕ) → k < length ns → get_or bs k false ≡ list_any (λ n. k == n) ns) → position not bs ≡ Some f
    → (are_places ns ≡ false) × (f < length ns) × (list_any (λ n. f == n) ns ≡ false)
free_is_missing ns bs f long marks is =
    let found = position-Some not bs f false is in
    let low : f < length ns = omega (arith, found.0, long) in
    let missing = sym (marks f low) ∙ not-true (get_or bs f false) found.1 in
    let place : get_or (range_with_len 0 (length ns)) f 0 ≡ f =
    get_or-range_with_len 0 (length ns) f 0 low ∙ omega arith in (
      list_all_at (λ k. list_any (λ n. k == n) ns) (range_with_len 0 (length ns)) f 0
          (rw (length-range_with_len 0 (length ns)) low) (rw place missing),
      low,
      missing,
    )

-- what is wrong with numbers that leave a place free
module _ (ns : List ℕ) (bs : List Bool) (f : ℕ) (long : length bs ≡ length ns)
    (marks : (k : ℕ) → k < length ns → get_or bs k false ≡ list_any (λ n. k == n) ns)
    (free : position not bs ≡ Some f) where
  pub wrong_of : (twice : Option WrongIds) → IfSome twice (IsMetTwice ns)
      → IsWrongNumber ns (unwrap_or twice (Missing f))
  wrong_of None met = free_is_missing ns bs f long marks free
  wrong_of (Some (Twice s)) met = ((free_is_missing ns bs f long marks free).0, met)
  wrong_of (Some (NoSlot k)) met = absurd met
  wrong_of (Some (Missing s)) met = absurd met

-- ---- the ids of fields

by_places : (any all places : Bool) → any ≡ true → places ≡ false → (any && not (all && places)) ≡ true
by_places true true false h l = refl
by_places true false false h l = refl
by_places true all true h l = cc
by_places false all places h l = cc

pub wrong_ids_of : (rs : List ResolvedField) → have_ids rs ≡ true → position has_no_slot rs ≡ None → (w : WrongIds)
    → IsWrongNumber (numbers_by_id rs) w → AreSlots rs (Wrong w)
unfolding are_ids_wrong
wrong_ids_of rs some all (NoSlot k) is = absurd is
wrong_ids_of rs some all (Twice s) is = (by_places (have_ids rs) _ _ some is.0, (all, is))
wrong_ids_of rs some all (Missing s) is = (by_places (have_ids rs) _ _ some is.0, (all, is))
