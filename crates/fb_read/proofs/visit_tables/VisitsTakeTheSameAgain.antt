-- A part at which a visit found no fault is free of faults for each visit with no more tables above it and cells left.
use Rattle.std.proofs.Common.{◌≡◌, ℕ, zero, suc, ◌+◌, ◌≤◌, List, [], ◌∷◌, Option, None, Some, Ok, refl}
use Rattle.std.proofs.Common.{nat_le, arith}
use Rattle.std.proofs.lemmas.Bool.{leb-true, le-leb}
use Rattle.fb_layout.specs.Laid.{LaidSchema}
use Rattle.fb_value.specs.declared.faults.ReadFault.{ReadFault}
use Rattle.fb_value.specs.declared.faults.ReadFault.TheVariants.{TooDeep, TooManyCells}
use Rattle.fb_value.specs.Bounds.{Bounds}
use Rattle.fb_value.specs.Num.{Bytes}
use Rattle.fb_value.specs.Places.{table_part, member_part, text_part, vector_part, Sort, part_place}
use Rattle.fb_value.specs.Places.{Place, named}
use Rattle.fb_value.specs.Rules.{fault_at, first_failing}
use Rattle.fb_value.specs.Faults.{own_cells, own_tables, sum_over, all, limit_rules, limited_fault, or_else}
use Rattle.fb_value.specs.Faults.{first_among, first_fault, fault_from, levels}
use Rattle.fb_value.proofs.rules.ComputedFaultIsTheLeast.{all_is, or_none, limited_none}
use Rattle.fb_value.proofs.rules.RulesHoldOneByOne.{rule_held, hold, no_rules}
use Rattle.fb_read.specs.Visits.{outcome, visit}
use Rattle.fb_read.proofs.visit_tables.VisitsOnePlaceAfterAnother.{small_yes}

module _ (L : LaidSchema) (b : Bytes) (most : Bounds) where
  flatter : (p tables fewer cells less : ℕ)
      → first_failing ((TooDeep p, nat_le tables most.depth) ∷ (TooManyCells p, nat_le cells most.cells) ∷ []) ≡ None
      → fewer ≤ tables → less ≤ most.cells
      → first_failing ((TooDeep p, nat_le fewer most.depth) ∷ (TooManyCells p, nat_le less most.cells) ∷ []) ≡ None
  flatter p tables fewer cells less e h i =
      let deep = leb-true _ _ (rule_held _ _ _ e).0 in
      hold _ _ _ (le-leb _ _ (omega (arith, deep))) (small_yes L b most p less i)

  -- The rules of the limits hold of less, where they hold of more.
  lower_limits : (s : Sort) (p tables fewer cells less : ℕ)
      → first_failing (limit_rules most s p tables cells) ≡ None → fewer ≤ tables → less ≤ most.cells
      → first_failing (limit_rules most s p fewer less) ≡ None
  lower_limits (part_place (table_part t)) p tables fewer cells less e h i = flatter p tables fewer cells less e h i
  lower_limits (part_place (member_part c t)) p tables fewer cells less e h i = flatter p tables fewer cells less e h i
  lower_limits (part_place text_part) p tables fewer cells less e h i = small_yes L b most p less i
  lower_limits (part_place (vector_part kind)) p tables fewer cells less e h i = small_yes L b most p less i
  lower_limits _ p tables fewer cells less e h i = no_rules

  none_both : (o r : Option ReadFault) → o ≡ None → r ≡ None → or_else o r ≡ None
  none_both o r e f = rw e f

  -- no fault is found within so many levels, with no more tables above and cells left
  abbrev IsFreeAgain : ℕ → Type 0
  IsFreeAgain fuel = (x : Place) (tables fewer spent less : ℕ) → first_fault fuel L b most x tables spent ≡ None
      → fewer ≤ tables → less + all L b x ≤ most.cells → first_fault fuel L b most x fewer less ≡ None

  each_free_again : (fuel : ℕ) → IsFreeAgain fuel → (xs : List (Option Place)) (tables fewer spent less : ℕ)
      → first_among (λ y before. first_fault fuel L b most y tables before) (all L b) spent xs ≡ None
      → fewer ≤ tables → less + sum_over (all L b) xs ≤ most.cells
      → first_among (λ y before. first_fault fuel L b most y fewer before) (all L b) less xs ≡ None
  each_free_again fuel known [] tables fewer spent less e h i = refl
  each_free_again fuel known (None ∷ xs) tables fewer spent less e h i =
      each_free_again fuel known xs tables fewer spent less e h i
  each_free_again fuel known (Some x ∷ xs) tables fewer spent less e h i =
      let both = or_none (first_fault fuel L b most x tables spent) _ e in
      none_both _ _ (known x tables fewer spent less both.0 h (omega arith))
      (each_free_again fuel known xs tables fewer (spent + all L b x) (less + all L b x) both.1 h (omega arith))

  free_again : (fuel : ℕ) → IsFreeAgain fuel
  unfolding first_fault limited_fault
  free_again zero x tables fewer spent less e h i = refl
  free_again (suc fuel) x tables fewer spent less e h i =
      let both = or_none (limited_fault L b most x (tables + own_tables x.sort) (spent + own_cells b x.sort x.at)) _ e
      in
      let keeps = limited_none L b most x (tables + own_tables x.sort) (spent + own_cells b x.sort x.at) both.0 in
      let limits = (or_none (fault_at L b x.sort x.at) _ both.0).1 in
      let cells : all L b x ≡ own_cells b x.sort x.at + sum_over (all L b) (named L b x.sort x.at) =
      rw (all_is L b x, keeps) refl in
      none_both _ _
      (none_both _ _ keeps (lower_limits x.sort x.at (tables + own_tables x.sort) (fewer + own_tables x.sort)
      (spent + own_cells b x.sort x.at) (less + own_cells b x.sort x.at) limits (omega arith) (omega (arith, cells))))
      (each_free_again fuel (free_again fuel) (named L b x.sort x.at) (tables + own_tables x.sort)
      (fewer + own_tables x.sort) (spent + own_cells b x.sort x.at) (less + own_cells b x.sort x.at) both.1
      (omega arith) (omega (arith, cells)))

  ok_is : (o : Option ReadFault) (n after : ℕ) → outcome o n ≡ Ok after → (o ≡ None) × (n ≡ after)
  ok_is None n after e = (refl, cc)
  ok_is (Some f) n after e = cc

  -- A visit spends cells, and gives none back.
  pub visit_rises : (x : Place) (tables spent after : ℕ) → visit L b most x tables spent ≡ Ok after → spent ≤ after
  unfolding visit
  visit_rises x tables spent after e =
      let known = ok_is (fault_from L b most x tables spent) _ _ e in omega (arith, known.1)

  -- A visit with no more tables above and cells left takes as many cells.
  pub visit_again : (x : Place) (tables spent cells fewer less : ℕ) → visit L b most x tables spent ≡ Ok (spent + cells)
      → fewer ≤ tables → less + cells ≤ most.cells → visit L b most x fewer less ≡ Ok (less + cells)
  unfolding visit fault_from
  visit_again x tables spent cells fewer less e h i =
      let known = ok_is (fault_from L b most x tables spent) _ _ e in
      let same : all L b x ≡ cells = omega (arith, known.1) in
      let free = free_again (levels b x.at) x tables fewer spent less known.0 h (omega (arith, same)) in
      rw (free, same) refl
