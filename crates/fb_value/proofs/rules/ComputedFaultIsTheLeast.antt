-- The fault that is computed is the one at the least path.
use Rattle.std.proofs.Common.{◌≡◌, ℕ, zero, suc, ◌+◌, ◌-◌, ◌<◌, ◌⊎◌, inl, inr, List, [], ◌∷◌, length, take, Option}
use Rattle.std.proofs.Common.{None, Some, slice_get, refl, ap, arith, add_assoc, add-zero}
use Rattle.fb_value.specs.declared.faults.ReadFault.{ReadFault}
use Rattle.fb_value.specs.Num.{Bytes}
use Rattle.fb_layout.specs.Laid.{LaidSchema}
use Rattle.fb_value.specs.Places.{Sort, Place, named}
use Rattle.fb_value.specs.Rules.{Keeps, fault_at}
use Rattle.fb_value.specs.Reached.{Path, ComesBefore}
use Rattle.fb_value.specs.Bounds.{Bounds}
use Rattle.fb_value.specs.Faults.{own_cells, own_tables, sum_over, if_kept, all_within, levels, all, or_else}
use Rattle.fb_value.specs.Faults.{limited_fault, FaultFrom, LeastFrom, first_among, first_fault, fault_from}
use Rattle.fb_value.proofs.reached.StepsLeadForward.{keeps_within, steps_up}
use Rattle.fb_value.specs.Laws.{IsFirstFault, FaultOfLeastPath}

-- so many levels are enough at p
unfoldable pub Enough : Bytes → ℕ → ℕ → Type 0
Enough b p m = (0 < m) × (length b < p + m)

-- what x names needs one level less
pub enough_below : (L : LaidSchema) (b : Bytes) (s : Sort) (p m k : ℕ) (y : Place) → Enough b p (suc m) → Keeps L b s p
    → slice_get (named L b s p) k ≡ Some (Some y) → Enough b y.at m
unfolding Enough
enough_below L b s p m k y enough keeps names =
    let within = keeps_within L b s p k y keeps names in
    let up = steps_up L b s p k y keeps names in
    (omega arith, omega arith)

-- Cells that are the same where no rule fails are the same.
pub if_kept_same : (o : Option ReadFault) (m n : ℕ) → (o ≡ None → m ≡ n) → if_kept o m ≡ if_kept o n
if_kept_same None m n known = known refl
if_kept_same (Some f) m n known = refl

-- A sum is the same where its numbers are.
pub sum_same : (f g : Place → ℕ) (xs : List (Option Place))
    → ((k : ℕ) (y : Place) → slice_get xs k ≡ Some (Some y) → f y ≡ g y) → sum_over f xs ≡ sum_over g xs
sum_same f g [] known = refl
sum_same f g (None ∷ xs) known = sum_same f g xs (λ k y e. known (suc k) y e)
sum_same f g (Some x ∷ xs) known = rw (known 0 x refl, sum_same f g xs (λ k y e. known (suc k) y e))

-- The cells of what is reached are the same within any levels that are enough.
pub all_enough : (m n : ℕ) (L : LaidSchema) (b : Bytes) (x : Place) → Enough b x.at m → Enough b x.at n
    → all_within m L b x ≡ all_within n L b x
unfolding all_within Enough
all_enough zero n L b x h i = absurd (omega arith)
all_enough (suc m) zero L b x h i = absurd (omega arith)
all_enough (suc m) (suc n) L b x h i =
    if_kept_same (fault_at L b x.sort x.at) _ _ (λ keeps. ap (λ c. own_cells b x.sort x.at + c)
    (sum_same _ _ (named L b x.sort x.at)
    (λ k y names. all_enough m n L b y (enough_below L b x.sort x.at m k y h keeps names)
    (enough_below L b x.sort x.at n k y i keeps names))))

-- The levels that are taken are enough.
pub levels_enough : (b : Bytes) (p : ℕ) → Enough b p (levels b p)
unfolding Enough
levels_enough b p = (omega arith, omega arith)

-- The cells of all that is reached: those of the place, and all of what it names, where it keeps its rules.
pub all_is : (L : LaidSchema) (b : Bytes) (x : Place)
    → all L b x ≡ if_kept (fault_at L b x.sort x.at)
    (own_cells b x.sort x.at + sum_over (all L b) (named L b x.sort x.at))
unfolding all all_within
all_is L b x =
    if_kept_same (fault_at L b x.sort x.at) _ _ (λ keeps. ap (λ c. own_cells b x.sort x.at + c)
    (sum_same _ _ (named L b x.sort x.at) (λ k y names.
    all_enough (length b - x.at) (levels b y.at) L b y
    (enough_below L b x.sort x.at (length b - x.at) k y (levels_enough b x.at) keeps names)
    (levels_enough b y.at))))

-- Nothing is there only where neither is.
pub or_none : {A : Type 0} (o r : Option A) → or_else o r ≡ None → (o ≡ None) × (r ≡ None)
or_none None r e = (refl, e)
or_none (Some x) r e = cc

-- What is there is the first, or the second where the first is not.
pub or_some : {A : Type 0} (o r : Option A) (x : A) → or_else o r ≡ Some x → (o ≡ Some x) ⊎ ((o ≡ None) × (r ≡ Some x))
or_some None r x e = inr (refl, e)
or_some (Some y) r x e = inl e

-- Where no fault stands, with the limits, the place keeps its rules.
pub limited_none : (L : LaidSchema) (b : Bytes) (most : Bounds) (x : Place) (tables cells : ℕ)
    → limited_fault L b most x tables cells ≡ None → Keeps L b x.sort x.at
unfolding limited_fault
limited_none L b most x tables cells e = (or_none _ _ e).0

-- none among several is none at each, at what was spent before it
pub among_none : (look : Place → ℕ → Option ReadFault) (cost : Place → ℕ) (spent : ℕ) (xs : List (Option Place))
    → first_among look cost spent xs ≡ None → (k : ℕ) (y : Place) → slice_get xs k ≡ Some (Some y)
    → look y (spent + sum_over cost (take k xs)) ≡ None
among_none look cost spent [] e k y names = cc
among_none look cost spent (None ∷ xs) e zero y names = cc
among_none look cost spent (None ∷ xs) e (suc k) y names = among_none look cost spent xs e k y names
among_none look cost spent (Some x ∷ xs) e zero y names =
    let is : x ≡ y = cc in
    rw (← is) (rw add-zero (or_none _ _ e).0)
among_none look cost spent (Some x ∷ xs) e (suc k) y names =
    rw (← add_assoc spent (cost x) (sum_over cost (take k xs)))
    (among_none look cost (spent + cost x) xs (or_none _ _ e).1 k y names)

-- the first among several
pub record IsFirst (look : Place → ℕ → Option ReadFault) (cost : Place → ℕ) (spent : ℕ) (xs : List (Option Place))
    (f : ReadFault) : Type 0 where
  pub k : ℕ
  pub y : Place
  pub names : slice_get xs k ≡ Some (Some y)
  pub found : look y (spent + sum_over cost (take k xs)) ≡ Some f
  pub before : (j : ℕ) (z : Place) → j < k → slice_get xs j ≡ Some (Some z)
      → look z (spent + sum_over cost (take j xs)) ≡ None

-- A slot that names nothing changes not which fault is the first.
later_first : (look : Place → ℕ → Option ReadFault) (cost : Place → ℕ) (spent : ℕ) (xs : List (Option Place))
    (f : ReadFault) → IsFirst look cost spent xs f → IsFirst look cost spent (None ∷ xs) f
later_first look cost spent xs f r = record { k = suc r.k; y = r.y; names = r.names; found = r.found; before = go }
  where
    go : (j : ℕ) (z : Place) → j < suc r.k → slice_get (None ∷ xs) j ≡ Some (Some z)
        → look z (spent + sum_over cost (take j (None ∷ xs))) ≡ None
    go zero z h e = cc
    go (suc j) z h e = r.before j z (omega arith) e

-- Nor does a place without a fault.
after_first : (look : Place → ℕ → Option ReadFault) (cost : Place → ℕ) (spent : ℕ) (x : Place)
    (xs : List (Option Place)) (f : ReadFault) → look x spent ≡ None → IsFirst look cost (spent + cost x) xs f
    → IsFirst look cost spent (Some x ∷ xs) f
after_first look cost spent x xs f none r =
    record {
      k = suc r.k;
      y = r.y;
      names = r.names;
      found = rw (← add_assoc spent (cost x) (sum_over cost (take r.k xs))) r.found;
      before = go;
    }
  where
    go : (j : ℕ) (z : Place) → j < suc r.k → slice_get (Some x ∷ xs) j ≡ Some (Some z)
        → look z (spent + sum_over cost (take j (Some x ∷ xs))) ≡ None
    go zero z h e =
        let is : x ≡ z = cc in
        rw (← is) (rw add-zero none)
    go (suc j) z h e = rw (← add_assoc spent (cost x) (sum_over cost (take j xs))) (r.before j z (omega arith) e)

-- What is computed among several places is the first fault.
pub among_some : (look : Place → ℕ → Option ReadFault) (cost : Place → ℕ) (spent : ℕ) (xs : List (Option Place))
    (f : ReadFault) → first_among look cost spent xs ≡ Some f → IsFirst look cost spent xs f
among_some look cost spent [] f e = cc
among_some look cost spent (None ∷ xs) f e = later_first look cost spent xs f (among_some look cost spent xs f e)
among_some look cost spent (Some x ∷ xs) f e =
    by_case (or_some _ _ f e) (λ h. among_some look cost (spent + cost x) xs f h)
  where
    by_case : (look x spent ≡ Some f) ⊎ ((look x spent ≡ None) × (first_among look cost (spent + cost x) xs ≡ Some f))
        → (first_among look cost (spent + cost x) xs ≡ Some f → IsFirst look cost (spent + cost x) xs f)
        → IsFirst look cost spent (Some x ∷ xs) f
    by_case (inl here) known =
        record { k = 0; y = x; names = refl; found = rw add-zero here; before = λ j z h e2. absurd (omega arith) }
    by_case (inr later) known = after_first look cost spent x xs f later.0 (known later.1)

-- A list has one entry at a number.
pub same_entry : (xs : List (Option Place)) (j k : ℕ) (y z : Place) → j ≡ k → slice_get xs j ≡ Some (Some y)
    → slice_get xs k ≡ Some (Some z) → y ≡ z
same_entry xs j k y z e p q = cc

-- where no fault is computed, no path leads to one
pub none_fault : (fuel : ℕ) (L : LaidSchema) (b : Bytes) (most : Bounds) (x : Place) (tables spent : ℕ)
    → Enough b x.at fuel → first_fault fuel L b most x tables spent ≡ None → (path : Path) (f : ReadFault)
    → FaultFrom L b most x tables spent path f → ⊥
unfolding first_fault Enough
none_fault zero L b most x tables spent enough e path f fault = absurd (omega arith)
none_fault (suc fuel) L b most x tables spent enough e [] f fault =
    let own : limited_fault L b most x (tables + own_tables x.sort) (spent + own_cells b x.sort x.at) ≡ None =
    (or_none _ (first_among (λ y before. first_fault fuel L b most y (tables + own_tables x.sort) before) (all L b)
    (spent + own_cells b x.sort x.at) (named L b x.sort x.at)) e).0 in
    cc
none_fault (suc fuel) L b most x tables spent enough e (k ∷ path) f fault =
    none_fault fuel L b most fault.1 (tables + own_tables x.sort)
    ((spent + own_cells b x.sort x.at) + sum_over (all L b) (take k (named L b x.sort x.at)))
    (enough_below L b x.sort x.at fuel k fault.1 enough fault.0 fault.2)
    (among_none _ (all L b) (spent + own_cells b x.sort x.at) (named L b x.sort x.at)
    (or_none (limited_fault L b most x (tables + own_tables x.sort) (spent + own_cells b x.sort x.at)) _ e).1 k
    fault.1 fault.2) path f fault.3

-- the fault is the place's own
own_least : (L : LaidSchema) (b : Bytes) (most : Bounds) (x : Place) (tables spent : ℕ) (f : ReadFault)
    → limited_fault L b most x (tables + own_tables x.sort) (spent + own_cells b x.sort x.at) ≡ Some f
    → LeastFrom L b most x tables spent f
own_least L b most x tables spent f e = ([], e, none)
  where
    none : (other : Path) (g : ReadFault) → ComesBefore other [] → FaultFrom L b most x tables spent other g → ⊥
    none [] g below fault = below
    none (k ∷ path) g below fault = below

-- the fault is behind the first step under which there is one
module _ (fuel : ℕ) (L : LaidSchema) (b : Bytes) (most : Bounds) (x : Place) (tables spent : ℕ) (f : ReadFault)
    (enough : Enough b x.at (suc fuel))
    (fine : limited_fault L b most x (tables + own_tables x.sort) (spent + own_cells b x.sort x.at) ≡ None)
    (r : IsFirst (λ y before. first_fault fuel L b most y (tables + own_tables x.sort) before) (all L b)
    (spent + own_cells b x.sort x.at) (named L b x.sort x.at) f)
    (below : LeastFrom L b most r.y (tables + own_tables x.sort)
    ((spent + own_cells b x.sort x.at) + sum_over (all L b) (take r.k (named L b x.sort x.at))) f) where
  -- No path before has a fault.
  none_before : (other : Path) (g : ReadFault) → ComesBefore other (r.k ∷ below.0)
      → FaultFrom L b most x tables spent other g → ⊥
  none_before [] g before fault = cc
  none_before (j ∷ path) g (inl less) fault =
      none_fault fuel L b most fault.1 _ _ (enough_below L b x.sort x.at fuel j fault.1 enough fault.0 fault.2)
      (r.before j fault.1 less fault.2) path g fault.3
  none_before (j ∷ path) g (inr same) fault =
      let is : fault.1 ≡ r.y = same_entry (named L b x.sort x.at) j r.k fault.1 r.y same.0 fault.2 r.names in
      below.2 path g same.1
      (rw (← same.0) (rw (← is) fault.3))

  -- The fault behind the first such step is the least.
  step_least : LeastFrom L b most x tables spent f
  step_least = (r.k ∷ below.0, (limited_none L b most x _ _ fine, r.y, r.names, below.1), none_before)

-- A fault that is computed is the one at the least path, within levels enough.
pub some_least : (fuel : ℕ) (L : LaidSchema) (b : Bytes) (most : Bounds) (x : Place) (tables spent : ℕ) (f : ReadFault)
    → Enough b x.at fuel → first_fault fuel L b most x tables spent ≡ Some f → LeastFrom L b most x tables spent f
unfolding first_fault Enough
some_least zero L b most x tables spent f enough e = absurd (omega arith)
some_least (suc fuel) L b most x tables spent f enough e =
    by_case (or_some _ _ f e) (λ k y keeps names c h. some_least fuel L b most y (tables + own_tables x.sort) c f
    (enough_below L b x.sort x.at fuel k y enough keeps names) h)
  where
    by_case : (limited_fault L b most x (tables + own_tables x.sort) (spent + own_cells b x.sort x.at) ≡ Some f)
        ⊎ ((limited_fault L b most x (tables + own_tables x.sort) (spent + own_cells b x.sort x.at) ≡ None)
        × (first_among (λ y before. first_fault fuel L b most y (tables + own_tables x.sort) before) (all L b)
        (spent + own_cells b x.sort x.at) (named L b x.sort x.at) ≡ Some f))
        → ((k : ℕ) (y : Place) → Keeps L b x.sort x.at → slice_get (named L b x.sort x.at) k ≡ Some (Some y) → (c : ℕ)
        → first_fault fuel L b most y (tables + own_tables x.sort) c ≡ Some f
        → LeastFrom L b most y (tables + own_tables x.sort) c f) → LeastFrom L b most x tables spent f
    by_case (inl own) known = own_least L b most x tables spent f own
    by_case (inr later) known =
        let r = among_some _ (all L b) (spent + own_cells b x.sort x.at) (named L b x.sort x.at) f later.1 in
        step_least fuel L b most x tables spent f enough later.0 r
        (known r.k r.y (limited_none L b most x _ _ later.0) r.names _ r.found)

-- Where no fault is computed from a place, no path from it leads to one.
pub from_none : (L : LaidSchema) (b : Bytes) (most : Bounds) (x : Place) (tables spent : ℕ)
    → fault_from L b most x tables spent ≡ None → (path : Path) (f : ReadFault)
    → FaultFrom L b most x tables spent path f → ⊥
unfolding fault_from
from_none L b most x tables spent e = none_fault (levels b x.at) L b most x tables spent (levels_enough b x.at) e

-- A fault that is computed from a place is the one at the least path.
pub from_some : (L : LaidSchema) (b : Bytes) (most : Bounds) (x : Place) (tables spent : ℕ) (f : ReadFault)
    → fault_from L b most x tables spent ≡ Some f → LeastFrom L b most x tables spent f
unfolding fault_from
from_some L b most x tables spent f e = some_least (levels b x.at) L b most x tables spent f (levels_enough b x.at) e

-- What is computed, a fault or none, is what it has to be.
pub first_shown : (L : LaidSchema) (b : Bytes) (most : Bounds) (x : Place) (o : Option ReadFault)
    → fault_from L b most x 0 0 ≡ o → IsFirstFault L b most x o
first_shown L b most x None e = from_none L b most x 0 0 e
first_shown L b most x (Some f) e = from_some L b most x 0 0 f e

-- What is computed is the fault at the least path, or there is none.
pub fault_of_least_path_shown : FaultOfLeastPath
fault_of_least_path_shown L b most x = first_shown L b most x _ refl
