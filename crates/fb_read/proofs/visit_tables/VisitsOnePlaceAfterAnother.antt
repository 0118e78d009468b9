-- A visit of several places is one of each, place after place.
use Rattle.std.proofs.Common.{◌==◌, ◌≡◌, ℕ, ◌+◌, ◌<◌, ◌≤◌, List, [], ◌∷◌, Bool, true, false, Option}
use Rattle.std.proofs.Common.{None, Some, Result, Ok, Err, MatchResult, nat_le, cond, refl, sym, ap, ◌∙◌, arith}
use Rattle.std.proofs.Common.{add-zero, add_assoc}
use Rattle.std.proofs.lemmas.Bool.{le-leb}
use Rattle.std.proofs.lemmas.Bool.Decides.{nat_tests}
use Rattle.fb_layout.specs.Laid.{LaidSchema, StoredKind, slots_of}
use Rattle.fb_value.specs.declared.faults.ReadFault.{ReadFault}
use Rattle.fb_value.specs.declared.faults.ReadFault.TheVariants.{TooDeep, TooManyCells}
use Rattle.fb_value.specs.Bounds.{Bounds}
use Rattle.fb_value.specs.Num.{Bytes, num}
use Rattle.fb_value.specs.Places.{Target, table_part, member_part, text_part, vector_part, ref_place, part_place}
use Rattle.fb_value.specs.Places.{inline_place, code_place, unknown_place, Place, named, named_slots}
use Rattle.fb_value.specs.Places.{target_of, named_vector}
use Rattle.fb_value.specs.Rules.{Keeps, fault_at, fault_by, first_failing}
use Rattle.fb_value.specs.Faults.{own_cells, own_tables, sum_over, all, or_else, limit_rules, limited_fault}
use Rattle.fb_value.specs.Faults.{first_among, fault_from}
use Rattle.fb_value.proofs.rules.ComputedFaultIsTheLeast.{all_is}
use Rattle.fb_value.proofs.rules.FaultOfAPlaceByOneStep.{fault_from_is}
use Rattle.fb_read.specs.Visits.{Visits, outcome, visit, visit_each, visit_entry, union_place}
use Rattle.fb_read.proofs.visit_tables.PartsAddUp.{parts_text}

module _ (L : LaidSchema) (b : Bytes) (most : Bounds) where
  pub each_nil : (tables spent : ℕ) → visit_each L b most [] tables spent ≡ Ok spent
  unfolding visit_each
  each_nil tables spent = ap (λ n. Ok n) (add-zero _)

  some_step : (x : Place) (xs : List (Option Place)) (tables spent : ℕ) (o : Option ReadFault) (r : Option ReadFault)
      (after : ℕ)
      → outcome o (spent + all L b x) ≡ Ok after
      → outcome (or_else o (first_among (λ y before. fault_from L b most y tables before) (all L b) (spent + all L b x)
      xs)) (spent + (all L b x + sum_over (all L b) xs))
      ≡ outcome (first_among (λ y before. fault_from L b most y tables before) (all L b) after xs) (after
      + sum_over (all L b) xs)
  some_step x xs tables spent None r after e =
      let is : spent + all L b x ≡ after = cc in
      rw (← is, add_assoc spent (all L b x) (sum_over (all L b) xs)) refl
  some_step x xs tables spent (Some f) r after e = cc

  some_stop : (o r : Option ReadFault) (m n : ℕ) (f : ReadFault) → outcome o m ≡ Err f → outcome (or_else o r) n ≡ Err f
  some_stop None r m n f e = cc
  some_stop (Some g) r m n f e = e

  -- past a place with no fault
  pub each_step : (o : Option Place) (xs : List (Option Place)) (tables spent after : ℕ)
      → visit_entry L b most o tables spent ≡ Ok after → visit_each L b most (o ∷ xs) tables spent
      ≡ visit_each L b most xs tables after
  unfolding visit_each visit
  each_step None xs tables spent after e =
      let is : spent ≡ after = cc in
      rw is refl
  each_step (Some x) xs tables spent after e = some_step x xs tables spent (fault_from L b most x tables spent) None
      after e

  -- at a place with a fault
  pub each_stop : (o : Option Place) (xs : List (Option Place)) (tables spent : ℕ) (f : ReadFault)
      → visit_entry L b most o tables spent ≡ Err f → visit_each L b most (o ∷ xs) tables spent ≡ Err f
  unfolding visit_each visit
  each_stop None xs tables spent f e = cc
  each_stop (Some x) xs tables spent f e = some_stop (fault_from L b most x tables spent) _ _ _ f e

  -- a rule that fails
  pub visit_fault : (x : Place) (tables spent : ℕ) (f : ReadFault) → fault_at L b x.sort x.at ≡ Some f
      → visit L b most x tables spent ≡ Err f
  unfolding visit limited_fault
  visit_fault x tables spent f fails = rw (fault_from_is L b most x tables spent, fails) refl

  -- What the rules of a place say is what a visit gives, where a place that keeps them has no fault.
  pub visits_by_rules : {T : Type 0} (x : Place) (tables spent : ℕ) (r : Result T ReadFault)
      → (Keeps L b x.sort x.at → visit L b most x tables spent ≡ Ok spent)
      → MatchResult r (λ _. Keeps L b x.sort x.at) (λ f. fault_at L b x.sort x.at ≡ Some f)
      → Visits r spent (visit L b most x tables spent)
  visits_by_rules x tables spent (Ok y) fine keeps = fine keeps
  visits_by_rules x tables spent (Err f) fine fails = visit_fault x tables spent f fails

  -- a limit that is passed, where the rules hold
  pub visit_over : (x : Place) (tables spent : ℕ) (f : ReadFault) → Keeps L b x.sort x.at
      → first_failing (limit_rules most x.sort x.at (tables + own_tables x.sort) (spent + own_cells b x.sort x.at))
      ≡ Some f
      → visit L b most x tables spent ≡ Err f
  unfolding visit limited_fault
  visit_over x tables spent f keeps fails = rw (fault_from_is L b most x tables spent, keeps, fails) refl

  -- what is named is visited at, where the rules and limits hold
  pub visit_named : (x : Place) (tables spent : ℕ) → Keeps L b x.sort x.at
      → first_failing (limit_rules most x.sort x.at (tables + own_tables x.sort) (spent + own_cells b x.sort x.at))
      ≡ None
      → visit L b most x tables spent ≡ visit_each L b most (named L b x.sort x.at) (tables + own_tables x.sort) (spent
      + own_cells b x.sort x.at)
  unfolding visit visit_each limited_fault
  visit_named x tables spent keeps fine =
      rw (fault_from_is L b most x tables spent, all_is L b x, keeps, fine)
      (rw (add_assoc spent (own_cells b x.sort x.at) (sum_over (all L b) (named L b x.sort x.at))) refl)

  no_limits : first_failing [] ≡ None
  unfolding first_failing
  no_limits = refl

  -- ---- references

  one_each : (x : Place) (tables spent : ℕ) → visit_each L b most (Some x ∷ []) tables spent
      ≡ visit L b most x tables spent
  one_each x tables spent = by_case (visit L b most x tables spent) refl
    where
      by_case : (r : Result ℕ ReadFault) → visit L b most x tables spent ≡ r
          → visit_each L b most (Some x ∷ []) tables spent ≡ visit L b most x tables spent
      by_case (Ok after) e = each_step (Some x) [] tables spent after e ∙ each_nil tables after ∙ sym e
      by_case (Err f) e = each_stop (Some x) [] tables spent f e ∙ sym e

  pub visit_ref : (X : Target) (p tables spent : ℕ) → Keeps L b (ref_place X) p
      → visit L b most (record { sort = ref_place X; at = p }) tables spent
      ≡ visit L b most (record { sort = part_place X; at = p + num b p 4 }) tables spent
  visit_ref X p tables spent keeps =
      visit_named (record { sort = ref_place X; at = p }) tables spent keeps no_limits
      ∙ one_each (record { sort = part_place X; at = p + num b p 4 }) (tables + 0) (spent + 0)
      ∙ (rw (add-zero, add-zero) refl)

  -- ---- what names nothing

  pub visit_inline : (kind : StoredKind) (p tables spent : ℕ) → Keeps L b (inline_place kind) p
      → visit L b most (record { sort = inline_place kind; at = p }) tables spent ≡ Ok spent
  visit_inline kind p tables spent keeps =
      visit_named (record { sort = inline_place kind; at = p }) tables spent keeps no_limits
      ∙ each_nil (tables + 0) (spent + 0) ∙ ap (λ n. Ok n) (add-zero _)

  pub visit_code : (u k : ℕ) (needed here : Bool) (p tables spent : ℕ) → Keeps L b (code_place u k needed here) p
      → visit L b most (record { sort = code_place u k needed here; at = p }) tables spent ≡ Ok spent
  visit_code u k needed here p tables spent keeps =
      visit_named (record { sort = code_place u k needed here; at = p }) tables spent keeps no_limits
      ∙ each_nil (tables + 0) (spent + 0) ∙ ap (λ n. Ok n) (add-zero _)

  pub visit_unknown : (c p tables spent : ℕ) → visit L b most (record { sort = unknown_place c; at = p }) tables spent
      ≡ Ok spent
  unfolding fault_by first_failing
  visit_unknown c p tables spent =
      visit_named (record { sort = unknown_place c; at = p }) tables spent refl no_limits
      ∙ each_nil (tables + 0) (spent + 0) ∙ ap (λ n. Ok n) (add-zero _)

  -- what a code without a member has
  pub visit_no_member : (c p tables spent : ℕ) → visit_entry L b most (union_place c p None) tables spent ≡ Ok spent
  visit_no_member c p tables spent = by_code (c == 0)
    where
      by_code : (t : Bool) → visit_entry L b most (cond {A =
          Option Place} t None (Some (record { sort = unknown_place c; at = p }))) tables spent ≡ Ok spent
      by_code true = refl
      by_code false = visit_unknown c p tables spent

  -- ---- limits

  pub small_yes : (p cells : ℕ) → cells ≤ most.cells → first_failing ((TooManyCells p, nat_le cells most.cells) ∷ [])
      ≡ None
  unfolding first_failing
  small_yes p cells h = let yes : nat_le cells most.cells ≡ true = le-leb _ _ h in rw yes refl

  pub small_no : (p cells : ℕ) → most.cells < cells → first_failing ((TooManyCells p, nat_le cells most.cells) ∷ [])
      ≡ Some (TooManyCells p)
  unfolding first_failing
  small_no p cells h = let no : nat_le cells most.cells ≡ false = grind (arith, nat_tests) in rw no refl

  -- ---- texts

  pub visit_text : (p tables spent : ℕ) → Keeps L b (part_place text_part) p → spent + (1 + num b p 4) ≤ most.cells
      → visit L b most (record { sort = part_place text_part; at = p }) tables spent ≡ Ok (spent + (1 + num b p 4))
  visit_text p tables spent keeps small =
      visit_named (record { sort = part_place text_part; at = p }) tables spent keeps (small_yes p _ small)
      ∙ each_nil (tables + 0) _

  -- ---- vectors

  pub visit_vector : (kind : StoredKind) (p tables spent : ℕ) → Keeps L b (part_place (vector_part kind)) p
      → spent + (1 + num b p 4) ≤ most.cells
      → visit L b most (record { sort = part_place (vector_part kind); at = p }) tables spent
      ≡ visit_each L b most (named_vector b p (target_of kind)) tables (spent + (1 + num b p 4))
  visit_vector kind p tables spent keeps small =
      visit_named (record { sort = part_place (vector_part kind); at = p }) tables spent keeps (small_yes p _ small)
      ∙ ap (λ n. visit_each L b most (named_vector b p (target_of kind)) n (spent + (1 + num b p 4))) (add-zero _)

  -- ---- tables

  pub deep_no : (p tables cells : ℕ) → most.depth < tables
      → first_failing ((TooDeep p, nat_le tables most.depth) ∷ (TooManyCells p, nat_le cells most.cells) ∷ [])
      ≡ Some (TooDeep p)
  unfolding first_failing
  deep_no p tables cells h = let no : nat_le tables most.depth ≡ false = grind (arith, nat_tests) in rw no refl

  pub both_no : (p tables cells : ℕ) → tables ≤ most.depth → most.cells < cells
      → first_failing ((TooDeep p, nat_le tables most.depth) ∷ (TooManyCells p, nat_le cells most.cells) ∷ [])
      ≡ Some (TooManyCells p)
  unfolding first_failing
  both_no p tables cells h i = let yes : nat_le tables most.depth ≡ true = le-leb _ _ h in
      let no : nat_le cells most.cells ≡ false = grind (arith, nat_tests) in rw (yes, no) refl

  pub both_yes : (p tables cells : ℕ) → tables ≤ most.depth → cells ≤ most.cells
      → first_failing ((TooDeep p, nat_le tables most.depth) ∷ (TooManyCells p, nat_le cells most.cells) ∷ []) ≡ None
  unfolding first_failing
  both_yes p tables cells h i = let yes : nat_le tables most.depth ≡ true = le-leb _ _ h in
      let also : nat_le cells most.cells ≡ true = le-leb _ _ i in rw (yes, also) refl

  pub visit_table : (t p tables spent : ℕ) → Keeps L b (part_place (table_part t)) p → tables < most.depth
      → spent < most.cells
      → visit L b most (record { sort = part_place (table_part t); at = p }) tables spent
      ≡ visit_each L b most (named_slots L b p 0 (slots_of L t)) (tables + 1) (spent + 1)
  visit_table t p tables spent keeps deep small =
      visit_named (record { sort = part_place (table_part t); at = p }) tables spent keeps
      (both_yes p (tables + 1) (spent + 1) (omega arith) (omega arith))

  -- ---- a member is visited at as its table

  pub member_fault : (c t p tables spent : ℕ) → fault_from L b most (record {
    sort = part_place (member_part c t);
    at
        = p;
  })
      tables spent ≡ fault_from L b most (record { sort = part_place (table_part t); at = p }) tables spent
  unfolding limited_fault fault_by
  member_fault c t p tables spent = fault_from_is L b most (record { sort = part_place (member_part c t); at = p })
      tables spent ∙ sym (fault_from_is L b most (record { sort = part_place (table_part t); at = p }) tables spent)

  pub member_all : (c t p : ℕ) → all L b (record { sort = part_place (member_part c t); at = p })
      ≡ all L b (record { sort = part_place (table_part t); at = p })
  unfolding fault_by
  member_all c t p = all_is L b (record { sort = part_place (member_part c t); at = p })
      ∙ sym (all_is L b (record { sort = part_place (table_part t); at = p }))

  pub visit_member : (c t p tables spent : ℕ) → visit L b most (record { sort = ref_place (member_part c t); at = p })
      tables spent ≡ visit L b most (record { sort = ref_place (table_part t); at = p }) tables spent
  unfolding visit limited_fault fault_by
  visit_member c t p tables spent =
      rw (
        fault_from_is L b most (record { sort = ref_place (member_part c t); at = p }) tables spent,
        fault_from_is L b most (record { sort = ref_place (table_part t); at = p }) tables spent,
        all_is L b (record { sort = ref_place (member_part c t); at = p }),
        all_is L b (record { sort = ref_place (table_part t); at = p }),
        member_fault c t (p + num b p 4) (tables + 0) (spent + 0),
        member_all c t (p + num b p 4),
      ) refl

  pub no_references : (p : ℕ) (tables spent : ℕ) → visit_each L b most (named_vector b p None) tables spent ≡ Ok spent
  no_references p tables spent = each_nil tables spent

-- what a visit gives of a text
pub ruleset text_visits = (visit_fault, visit_text, parts_text)
