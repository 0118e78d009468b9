-- No fault stands at the places that a part names exactly where what they hold is within the limits, place by place.
use Rattle.std.proofs.Common.{◌≡◌, ℕ, zero, suc, ◌+◌, ◌≤◌, ◌↔◌, max, nat_le, List, [], ◌∷◌, Option, None, Some}
use Rattle.std.proofs.Common.{slice_get, refl, sym, arith}
use Rattle.std.proofs.lemmas.Bool.{leb-true, le-leb}
use Rattle.fb_value.specs.declared.faults.ReadFault.TheVariants.{TooDeep, TooManyCells}
use Rattle.fb_value.specs.Datum.{Datum}
use Rattle.fb_value.specs.Counts.{cells, depth}
use Rattle.fb_value.specs.Num.{Bytes, num}
use Rattle.fb_layout.specs.Laid.{LaidSchema, Slot}
use Rattle.fb_value.specs.Places.{Target, Sort, ref_place, part_place, inline_place, code_place, unknown_place, Place}
use Rattle.fb_value.specs.Places.{named}
use Rattle.fb_value.specs.Rules.{first_failing, Keeps, fault_at}
use Rattle.fb_value.specs.Lies.{EntryAt, Behind, IsCode, AbsentEntry, PresentEntry, Lies}
use Rattle.fb_value.specs.Bounds.{Bounds}
use Rattle.fb_value.specs.Faults.{own_cells, own_tables, all, or_else, limit_rules, limited_fault, first_among}
use Rattle.fb_value.specs.Faults.{first_fault}
use Rattle.fb_value.proofs.rules.RulesHoldOneByOne.{rule_held, hold, no_rules}
use Rattle.fb_value.proofs.rules.ComputedFaultIsTheLeast.{Enough, enough_below, or_none}
use Rattle.fb_value.proofs.reached.CellsAreThoseReached.{unknown_keeps, entry_cells, part_cells, code_cells}

-- so many tables and cells more are within the limits
unfoldable pub IsWithin : Bounds → ℕ → ℕ → ℕ → ℕ → Type 0
IsWithin most tables spent deep small = (tables + deep ≤ most.depth) × (spent + small ≤ most.cells)

-- no fault stands exactly where so much more is within the limits
unfoldable pub Sure : LaidSchema → Bytes → Bounds → ℕ → Place → ℕ → ℕ → ℕ → ℕ → Type 0
Sure L b most fuel x tables spent deep small = (first_fault fuel L b most x tables spent ≡ None)
    ↔ IsWithin most tables spent deep small

-- a value is sure wherever it lies
abbrev pub SureWhereItLies : LaidSchema → Bytes → Bounds → Datum → Type 0
SureWhereItLies L b most d = (s : Sort) (q fuel tables spent : ℕ) → Lies L b s q d → Enough b q fuel
    → tables ≤ most.depth → spent ≤ most.cells
    → Sure L b most fuel (record { sort = s; at = q }) tables spent (depth d) (cells d)

-- Where neither is there, nothing is.
pub none_both : {A : Type 0} (o r : Option A) → o ≡ None → r ≡ None → or_else o r ≡ None
none_both None r e f = f
none_both (Some x) r e f = cc

-- The rules of the limits at a table hold exactly where both are within the limits.
pub table_limits : (most : Bounds) (p tables cells : ℕ)
    → (first_failing ((TooDeep p, nat_le tables most.depth) ∷ (TooManyCells p, nat_le cells most.cells) ∷ []) ≡ None)
    ↔ ((tables ≤ most.depth) × (cells ≤ most.cells))
table_limits most p tables cells = (
  λ e. (leb-true _ _ (rule_held _ _ _ e).0, leb-true _ _ (rule_held _ _ _ (rule_held _ _ _ e).1).0),
  λ h. hold _ _ _ (le-leb _ _ h.0) (hold _ _ [] (le-leb _ _ h.1) no_rules),
)

-- The rule of the cells holds exactly where they are within the limits.
pub cell_limits : (most : Bounds) (p cells : ℕ)
    → (first_failing ((TooManyCells p, nat_le cells most.cells) ∷ []) ≡ None) ↔ (cells ≤ most.cells)
cell_limits most p cells = (λ e. leb-true _ _ (rule_held _ _ _ e).0, λ h. hold _ _ [] (le-leb _ _ h) no_rules)

-- No fault stands at a place that keeps its rules exactly where none does in the limits and none in what it names.
pub place_fault : (fuel : ℕ) (L : LaidSchema) (b : Bytes) (most : Bounds) (s : Sort) (p tables spent : ℕ)
    → Keeps L b s p → (first_fault (suc fuel) L b most (record { sort = s; at = p }) tables spent ≡ None)
    ↔ ((first_failing (limit_rules most s p (tables + own_tables s) (spent + own_cells b s p)) ≡ None)
    × (first_among (λ y before. first_fault fuel L b most y (tables + own_tables s) before) (all L b)
    (spent + own_cells b s p) (named L b s p) ≡ None))
unfolding first_fault limited_fault
place_fault fuel L b most s p tables spent keeps = (
  λ e.
      let both = or_none (or_else (fault_at L b s p)
      (first_failing (limit_rules most s p (tables + own_tables s) (spent + own_cells b s p))))
      (first_among (λ y before. first_fault fuel L b most y (tables + own_tables s) before) (all L b)
      (spent + own_cells b s p) (named L b s p)) e in
      ((or_none (fault_at L b s p) _ both.0).1, both.1),
  λ h. none_both _ _ (none_both _ _ keeps h.0) h.1,
)

-- A reference is sure where what is behind it is.
ref_sure : (L : LaidSchema) (b : Bytes) (most : Bounds) (fuel : ℕ) (X : Target) (p tables spent deep small : ℕ)
    → Keeps L b (ref_place X) p → Enough b p fuel
    → ((fuel : ℕ) (c : ℕ) → c ≡ spent + 0 → Enough b (p + num b p 4) fuel
    → Sure L b most fuel (record { sort = part_place X; at = p + num b p 4 }) (tables + 0) c deep small)
    → Sure L b most fuel (record { sort = ref_place X; at = p }) tables spent deep small
unfolding Sure IsWithin Enough
ref_sure L b most zero X p tables spent deep small keeps enough known = absurd (omega arith)
ref_sure L b most (suc fuel) X p tables spent deep small keeps enough known =
    let place = place_fault fuel L b most (ref_place X) p tables spent keeps in
    let child = enough_below L b (ref_place X) p fuel 0 (record { sort = part_place X; at = p + num b p 4 }) enough
    keeps refl in
    let target = known fuel (spent + 0) refl child in (
      λ e. let h = target.0 (or_none _ _ (place.0 e).1).0 in (omega arith, omega arith),
      λ h. place.1 (no_rules, none_both _ _ (target.1 (omega arith, omega arith)) refl),
    )

-- What lies at a place is sure, once what is behind it is.
pub behind_sure : (L : LaidSchema) (b : Bytes) (most : Bounds) (fuel : ℕ) (s : Sort) (p tables spent : ℕ) (d : Datum)
    → SureWhereItLies L b most d → Behind L b s p (λ s q. Lies L b s q d) → Enough b p fuel → tables ≤ most.depth
    → spent ≤ most.cells → Sure L b most fuel (record { sort = s; at = p }) tables spent (depth d) (cells d)
behind_sure L b most fuel (ref_place X) p tables spent d known lies enough h i =
    ref_sure L b most fuel X p tables spent (depth d) (cells d) lies.0 enough
    (λ m c e more. known (part_place X) (p + num b p 4) m (tables + 0) c lies.1 more (omega arith) (omega arith))
behind_sure L b most fuel (part_place X) p tables spent d known lies enough h i =
    known (part_place X) p fuel tables spent lies enough h i
behind_sure L b most fuel (inline_place kind) p tables spent d known lies enough h i =
    known (inline_place kind) p fuel tables spent lies enough h i
behind_sure L b most fuel _ p tables spent d known lies enough h i = absurd lies

-- No fault stands at a place without limits that names nothing.
pub quiet : (L : LaidSchema) (b : Bytes) (most : Bounds) (fuel : ℕ) (s : Sort) (p tables spent : ℕ)
    → limit_rules most s p (tables + own_tables s) (spent + own_cells b s p) ≡ [] → named L b s p ≡ [] → Keeps L b s p
    → Enough b p fuel → first_fault fuel L b most (record { sort = s; at = p }) tables spent ≡ None
unfolding Enough
quiet L b most zero s p tables spent no_limits names keeps enough = absurd (omega arith)
quiet L b most (suc fuel) s p tables spent no_limits names keeps enough =
    (place_fault fuel L b most s p tables spent keeps).1 (rw no_limits no_rules, rw names refl)

-- No fault stands at a code that keeps its rules.
code_quiet : (L : LaidSchema) (b : Bytes) (most : Bounds) (fuel : ℕ) (s : Sort) (p tables spent : ℕ) → IsCode L b s p
    → Enough b p fuel → first_fault fuel L b most (record { sort = s; at = p }) tables spent ≡ None
code_quiet L b most fuel (code_place u k required here) p tables spent is enough =
    quiet L b most fuel (code_place u k required here) p tables spent refl refl is enough
code_quiet L b most fuel _ p tables spent is enough = absurd is

-- At the place that a slot names, no fault stands exactly where the entry is within the limits.
entry_sure : (L : LaidSchema) (b : Bytes) (most : Bounds) (fuel : ℕ) (s : Sort) (p tables spent : ℕ) (d : Datum)
    → SureWhereItLies L b most d → EntryAt L b s p d (λ s q. Lies L b s q d) → Enough b p fuel → tables ≤ most.depth
    → spent ≤ most.cells → Sure L b most fuel (record { sort = s; at = p }) tables spent (depth d) (cells d)
unfolding Sure IsWithin
entry_sure L b most fuel (ref_place X) p tables spent d known lies enough h i =
    behind_sure L b most fuel (ref_place X) p tables spent d known lies enough h i
entry_sure L b most fuel (part_place X) p tables spent d known lies enough h i =
    behind_sure L b most fuel (part_place X) p tables spent d known lies enough h i
entry_sure L b most fuel (inline_place kind) p tables spent d known lies enough h i =
    behind_sure L b most fuel (inline_place kind) p tables spent d known lies enough h i
entry_sure L b most fuel (code_place u k required here) p tables spent d known lies enough h i = absurd lies
entry_sure L b most fuel (unknown_place c) p tables spent d known lies enough h i =
    let none = quiet L b most fuel (unknown_place c) p tables spent refl refl (unknown_keeps L b c p) enough in
    rw lies (λ e. (omega arith, omega arith), λ bounds. none)

-- the slots of a table, or the elements of a vector, as far as they name places
unfoldable pub AmongSure : LaidSchema → Bytes → Bounds → ℕ → List (Option Place) → ℕ → ℕ → ℕ → ℕ → Type 0
AmongSure L b most fuel xs tables spent deep small =
    (first_among (λ y before. first_fault fuel L b most y tables before) (all L b) spent xs ≡ None)
    ↔ IsWithin most tables spent deep small

-- so many levels are enough for each of the places
unfoldable pub EnoughFor : Bytes → ℕ → List (Option Place) → Type 0
EnoughFor b fuel xs = (k : ℕ) (y : Place) → slice_get xs k ≡ Some (Some y) → Enough b y.at fuel

-- Levels that are enough for all are so for the later ones.
pub later_enough : (b : Bytes) (fuel : ℕ) (x : Option Place) (xs : List (Option Place)) → EnoughFor b fuel (x ∷ xs)
    → EnoughFor b fuel xs
unfolding EnoughFor
later_enough b fuel x xs enough k y e = enough (suc k) y e

-- A place in front of others is sure where both are.
pub more_sure : (L : LaidSchema) (b : Bytes) (most : Bounds) (fuel : ℕ) (x : Place) (xs : List (Option Place))
    (tables spent deep small deep2 small2 : ℕ) → all L b x ≡ small → Sure L b most fuel x tables spent deep small
    → (spent + small ≤ most.cells → AmongSure L b most fuel xs tables (spent + all L b x) deep2 small2)
    → AmongSure L b most fuel (Some x ∷ xs) tables spent (max deep deep2) (small + small2)
unfolding Sure AmongSure IsWithin
more_sure L b most fuel x xs tables spent deep small deep2 small2 is first rest = (
  λ e.
      let both = or_none (first_fault fuel L b most x tables spent)
      (first_among (λ y before. first_fault fuel L b most y tables before) (all L b) (spent + all L b x) xs) e in
      let one = first.0 both.0 in
      let others = (rest one.1).0 both.1 in
      (omega arith, omega arith),
  λ h.
      let one : (tables + deep ≤ most.depth) × (spent + small ≤ most.cells) = (omega arith, omega arith) in
      none_both _ _ (first.1 one) ((rest one.1).1 (omega arith, omega arith)),
)

-- A slot without an entry is sure, in front of others.
pub absent_sure : (L : LaidSchema) (b : Bytes) (most : Bounds) (fuel : ℕ) (f : Slot) (x : Option Place)
    (xs : List (Option Place)) (tables spent deep small : ℕ) → AbsentEntry L b f x → EnoughFor b fuel (x ∷ xs)
    → tables ≤ most.depth → spent ≤ most.cells
    → ((c : ℕ) → c ≤ most.cells → AmongSure L b most fuel xs tables c deep small)
    → AmongSure L b most fuel (x ∷ xs) tables spent deep small
unfolding Sure AmongSure IsWithin EnoughFor
absent_sure L b most fuel f None xs tables spent deep small lies enough h i rest = rest spent i
absent_sure L b most fuel f (Some x) xs tables spent deep small lies enough h i rest =
    let none = code_quiet L b most fuel x.sort x.at tables spent lies (enough 0 x refl) in
    let both = more_sure L b most fuel x xs tables spent 0 0 deep small (code_cells L b x.sort x.at lies)
    ((λ e. (omega arith, omega arith)), λ bounds. none)
    (λ j. rest (spent + all L b x) (omega (arith, code_cells L b x.sort x.at lies))) in
    (λ e. let r = both.0 e in (omega arith, omega arith), λ bounds. both.1 (omega arith, omega arith))

-- A slot with an entry is sure, in front of others.
pub present_sure : (L : LaidSchema) (b : Bytes) (most : Bounds) (fuel : ℕ) (f : Slot) (x : Option Place)
    (xs : List (Option Place)) (tables spent : ℕ) (d : Datum) (deep small : ℕ)
    → SureWhereItLies L b most d
    → PresentEntry L b f x d (λ s q. Lies L b s q d) → EnoughFor b fuel (x ∷ xs) → tables ≤ most.depth
    → spent ≤ most.cells → ((c : ℕ) → c ≤ most.cells → AmongSure L b most fuel xs tables c deep small)
    → AmongSure L b most fuel (x ∷ xs) tables spent (max (depth d) deep) (cells d + small)
unfolding Sure AmongSure IsWithin EnoughFor
present_sure L b most fuel f None xs tables spent d deep small known lies enough h i rest =
    let r = rest spent i in
    rw lies.2 (λ e. let s = r.0 e in (omega arith, omega arith), λ bounds. r.1 (omega arith, omega arith))
present_sure L b most fuel f (Some x) xs tables spent d deep small known lies enough h i rest =
    let is = entry_cells L b x.sort x.at d (λ s q at. part_cells L b s q d at) lies in
    more_sure L b most fuel x xs tables spent (depth d) (cells d) deep small (sym is)
    (entry_sure L b most fuel x.sort x.at tables spent d known lies (enough 0 x refl) h i)
    (λ j. rest (spent + all L b x) (omega arith))

-- No places are sure.
pub slots_sure_nil : (L : LaidSchema) (b : Bytes) (most : Bounds) (fuel tables spent : ℕ) → tables ≤ most.depth
    → spent ≤ most.cells → AmongSure L b most fuel [] tables spent 0 0
unfolding AmongSure IsWithin
slots_sure_nil L b most fuel tables spent h i = ((λ e. (omega arith, omega arith)), λ bounds. refl)
