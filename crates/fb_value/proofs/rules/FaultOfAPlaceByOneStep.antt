-- The first fault, one step at a time.
use Rattle.std.proofs.Common.{◌≡◌, ℕ, zero, suc, ◌+◌, ◌-◌, List, [], ◌∷◌, length, Option, None, Some, slice_get, refl}
use Rattle.std.proofs.Common.{arith}
use Rattle.fb_value.specs.declared.faults.ReadFault.{ReadFault}
use Rattle.fb_value.specs.Num.{Bytes}
use Rattle.fb_layout.specs.Laid.{LaidSchema}
use Rattle.fb_value.specs.Places.{Place, named}
use Rattle.fb_value.specs.Bounds.{Bounds}
use Rattle.fb_value.specs.Faults.{own_cells, own_tables, all, levels, or_else, limited_fault, first_among, first_fault}
use Rattle.fb_value.specs.Faults.{fault_from}
use Rattle.fb_value.proofs.rules.ComputedFaultIsTheLeast.{Enough, enough_below, levels_enough, limited_none}

-- What comes second is the same where the first is nothing.
pub or_same : {A : Type 0} (o r s : Option A) → (o ≡ None → r ≡ s) → or_else o r ≡ or_else o s
or_same None r s known = known refl
or_same (Some x) r s known = refl

-- The first fault among several places is the same where each place has the same.
pub among_same : (f g : Place → ℕ → Option ReadFault) (cost : Place → ℕ) (spent : ℕ) (xs : List (Option Place))
    → ((k : ℕ) (y : Place) (c : ℕ) → slice_get xs k ≡ Some (Some y) → f y c ≡ g y c)
    → first_among f cost spent xs ≡ first_among g cost spent xs
among_same f g cost spent [] known = refl
among_same f g cost spent (None ∷ xs) known = among_same f g cost spent xs (λ k y c e. known (suc k) y c e)
among_same f g cost spent (Some x ∷ xs) known =
    rw (known 0 x spent refl, among_same f g cost (spent + cost x) xs (λ k y c e. known (suc k) y c e))

-- The first fault is the same within any levels that are enough.
pub first_enough : (m n : ℕ) (L : LaidSchema) (b : Bytes) (most : Bounds) (x : Place) (tables spent : ℕ)
    → Enough b x.at m → Enough b x.at n → first_fault m L b most x tables spent ≡ first_fault n L b most x tables spent
unfolding first_fault Enough
first_enough zero n L b most x tables spent h i = absurd (omega arith)
first_enough (suc m) zero L b most x tables spent h i = absurd (omega arith)
first_enough (suc m) (suc n) L b most x tables spent h i =
    or_same (limited_fault L b most x (tables + own_tables x.sort) (spent + own_cells b x.sort x.at)) _ _ (λ fine.
    let keeps = limited_none L b most x (tables + own_tables x.sort) (spent + own_cells b x.sort x.at) fine in
    among_same _ _ (all L b) (spent + own_cells b x.sort x.at) (named L b x.sort x.at) (λ k y c names.
    first_enough m n L b most y (tables + own_tables x.sort) c (enough_below L b x.sort x.at m k y h keeps names)
    (enough_below L b x.sort x.at n k y i keeps names)))

-- The fault of a place, or the first among those that it names.
pub fault_from_is : (L : LaidSchema) (b : Bytes) (most : Bounds) (x : Place) (tables spent : ℕ)
    → fault_from L b most x tables spent
    ≡ or_else (limited_fault L b most x (tables + own_tables x.sort) (spent + own_cells b x.sort x.at))
    (first_among (λ y before. fault_from L b most y (tables + own_tables x.sort) before) (all L b)
    (spent + own_cells b x.sort x.at) (named L b x.sort x.at))
unfolding first_fault fault_from
fault_from_is L b most x tables spent =
    or_same (limited_fault L b most x (tables + own_tables x.sort) (spent + own_cells b x.sort x.at)) _ _ (λ fine.
    let keeps = limited_none L b most x (tables + own_tables x.sort) (spent + own_cells b x.sort x.at) fine in
    among_same _ _ (all L b) (spent + own_cells b x.sort x.at) (named L b x.sort x.at) (λ k y c names.
    first_enough (length b - x.at) (levels b y.at) L b most y (tables + own_tables x.sort) c
    (enough_below L b x.sort x.at (length b - x.at) k y (levels_enough b x.at) keeps names) (levels_enough b y.at)))
