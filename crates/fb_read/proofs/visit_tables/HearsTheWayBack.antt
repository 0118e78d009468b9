-- What a hearer hears and a walk enters at a place, by what they do at those that the place names.
use Rattle.std.proofs.Common.{◌≡◌, ℕ, ◌+◌, ◌<◌, ◌≤◌, List, [], ◌∷◌, map, Some, Ok, Err}
use Rattle.std.proofs.Common.{refl, sym, ap, ◌∙◌, arith, add-zero}
use Rattle.fb_schema.specs.declared.kinds.TypeId.{TypeId}
use Rattle.fb_layout.specs.Laid.{StoredKind, slots_of}
use Rattle.fb_value.specs.declared.faults.ReadFault.{ReadFault}
use Rattle.fb_value.specs.Num.{num}
use Rattle.fb_value.specs.Places.{Target, table_part, member_part, vector_part, ref_place, part_place, Place, named}
use Rattle.fb_value.specs.Places.{named_slots, named_elements, target_of}
use Rattle.fb_value.specs.Rules.{Keeps, fault_at, first_failing}
use Rattle.fb_value.specs.Faults.{own_cells, own_tables, limit_rules}
use Rattle.fb_read.specs.declared.buffer.Buffer.{Buffer}
use Rattle.fb_read.specs.declared.step.Step.{Step}
use Rattle.fb_read.specs.declared.step.Step.TheVariants.{Reference, Slot, Element}
use Rattle.fb_read.specs.Walks.{place, limits_of, visit_in}
use Rattle.fb_read.specs.Ends.{ComesFrom, ComesAmong}
use Rattle.fb_read.specs.Entered.{own_parts}
use Rattle.fb_read.proofs.visit_tables.VisitsOnePlaceAfterAnother.{each_nil, small_yes}
use Rattle.fb_read.proofs.visit_tables.VisitsOnePlaceAfterAnother.{both_yes}
use Rattle.fb_read.specs.FaultPaths.{number_of}
use Rattle.fb_read.proofs.visit_tables.PartsAddUp.{member_along}
use Rattle.fb_read.proofs.visit_tables.StepLeadsToTheLeast.{one_more, IsFaulty, own_end, names_nothing}
use Rattle.fb_read.proofs.visit_tables.StepLeadsToTheLeast.{rule_fails, limit_fails, none_itself, member_leads}
use Rattle.fb_value.proofs.rules.RulesHoldOneByOne.{no_rules}

module _ {H : Type 0} (told : H → List Step → H → Type 0) (silent : (h : H) → told h [] h) (buffer : Buffer) where
  -- ---- a place's own fault

  own : (x : Place) (tables spent : ℕ) (v : H) (m n : ℕ) → IsFaulty buffer x tables spent → n ≡ m + own_parts x.sort
      → ComesFrom told buffer (Some x) tables spent v v m n
  own x tables spent v m n faulty counted =
      let end = own_end buffer x tables spent faulty in
      record { steps = []; fault = end.0; heard = silent v; leads = end.1; entered = counted }

  pub rule_heard : (x : Place) (tables spent : ℕ) (v : H) (m n : ℕ) (f : ReadFault)
      → fault_at buffer.layout.now buffer.bytes.now x.sort x.at ≡ Some f → n ≡ m + own_parts x.sort
      → ComesFrom told buffer (Some x) tables spent v v m n
  rule_heard x tables spent v m n f fails counted =
      own x tables spent v m n (rule_fails buffer x tables spent f fails) counted

  pub limit_heard : (x : Place) (tables spent : ℕ) (v : H) (m n : ℕ) (f : ReadFault)
      → Keeps buffer.layout.now buffer.bytes.now x.sort x.at
      → first_failing (limit_rules (limits_of buffer) x.sort x.at (tables + own_tables x.sort) (spent
      + own_cells buffer.bytes.now x.sort x.at)) ≡ Some f → n ≡ m + own_parts x.sort
      → ComesFrom told buffer (Some x) tables spent v v m n
  limit_heard x tables spent v m n f keeps fails counted =
      own x tables spent v m n (limit_fails buffer x tables spent f keeps fails) counted

  -- of what names nothing
  pub leaf_heard : (x : Place) (tables spent : ℕ) (f : ReadFault) (v : H) (m n : ℕ)
      → named buffer.layout.now buffer.bytes.now x.sort x.at ≡ [] → visit_in buffer x tables spent ≡ Err f
      → n ≡ m + own_parts x.sort → ComesFrom told buffer (Some x) tables spent v v m n
  leaf_heard x tables spent f v m n none fails counted =
      own x tables spent v m n (names_nothing buffer x tables spent f fails none) counted

  -- ---- references

  pub ref_heard : (X : Target) (p q tables spent : ℕ) (v w z : H) (m n : ℕ)
      → Keeps buffer.layout.now buffer.bytes.now (ref_place X) p → q ≡ p + num buffer.bytes.now p 4
      → ComesFrom told buffer (Some (place (part_place X) q)) tables spent v w m n
      → ((first : H) (steps : List Step) → told first steps w → told first (Reference ∷ steps) z)
      → ComesFrom told buffer (Some (place (ref_place X) p)) tables spent v z m n
  ref_heard X p q tables spent v w z m n keeps is heard tells =
      let L = buffer.layout.now in
      let b = buffer.bytes.now in
      let most = limits_of buffer in
      record {
        steps = Reference ∷ heard.steps;
        fault = heard.fault;
        heard = tells v heard.steps heard.heard;
        leads = one_more buffer (place (ref_place X) p) tables spent Reference (Some (place (part_place X) q)) tables
            spent heard.steps heard.fault (record {
              fine = none_itself buffer (place (ref_place X) p) tables spent keeps no_rules;
              of_sort = tt;
              names = rw is refl;
              above = sym (add-zero tables);
              before = each_nil L b most tables (spent + 0) ∙ ap (λ n. Ok n) (add-zero spent);
            }) heard.leads;
        entered = let there = rw is at heard.entered in omega (arith, there);
      }

  -- ---- tables

  pub table_heard : (table : TypeId) (p tables spent : ℕ) (v w : H) (k m n : ℕ)
      → Keeps buffer.layout.now buffer.bytes.now (part_place (table_part table.0)) p → tables < buffer.most_depth
      → spent < buffer.most_cells → m ≡ k + 1
      → ComesAmong told (λ k. Slot table k) buffer
      (named_slots buffer.layout.now buffer.bytes.now p 0 (slots_of buffer.layout.now table.0)) (tables + 1) (spent + 1)
      v w m n → ComesFrom told buffer (Some (place (part_place (table_part table.0)) p)) tables spent v w k n
  table_heard table p tables spent v w k m n keeps deep small counted hears = record {
    steps = Slot table hears.index ∷ hears.steps;
    fault = hears.fault;
    heard = hears.heard;
    leads = one_more buffer (place (part_place (table_part table.0)) p) tables spent (Slot table hears.index)
        hears.there (tables + 1) hears.spent_there hears.steps hears.fault (record {
          fine = none_itself buffer (place (part_place (table_part table.0)) p) tables spent keeps
              (both_yes buffer.layout.now buffer.bytes.now (limits_of buffer) p (tables + 1) (spent + 1) (omega arith)
              (omega arith));
          of_sort = refl;
          names = hears.comes.names;
          above = refl;
          before = hears.comes.before;
        }) hears.leads;
    entered = rw hears.comes.names (omega (arith, counted, hears.entered));
  }

  -- ---- vectors

  pub vector_heard : (kind : StoredKind) (X : Target) (p tables spent n : ℕ) (v w : H) (before here after : ℕ)
      → target_of kind ≡ Some X
      → Keeps buffer.layout.now buffer.bytes.now (part_place (vector_part kind)) p → n ≡ num buffer.bytes.now p 4
      → spent + (1 + n) ≤ buffer.most_cells → here ≡ before + 1
      → ComesAmong told (λ i. Element i) buffer (named_elements X (p + 4) n) tables (spent + (1 + n)) v w here after
      → ComesFrom told buffer (Some (place (part_place (vector_part kind)) p)) tables spent v w before after
  vector_heard kind X p tables spent n v w before here after X_is keeps is small counted hears = record {
    steps = Element hears.index ∷ hears.steps;
    fault = hears.fault;
    heard = hears.heard;
    leads = one_more buffer (place (part_place (vector_part kind)) p) tables spent (Element hears.index) hears.there
        tables hears.spent_there hears.steps hears.fault (record {
          fine = none_itself buffer (place (part_place (vector_part kind)) p) tables spent keeps
              (small_yes buffer.layout.now buffer.bytes.now (limits_of buffer) p (spent
              + (1 + num buffer.bytes.now p 4)) (rw is at small));
          of_sort = tt;
          names = rw (X_is, ← is) hears.comes.names;
          above = sym (add-zero tables);
          before = rw (X_is, ← is) hears.comes.before;
        }) hears.leads;
    entered = rw (X_is, ← is, hears.comes.names) (omega (arith, counted, hears.entered));
  }

  -- ---- a union's member

  pub member_heard : (c t p tables spent : ℕ) (v w : H) (m n : ℕ)
      → ComesFrom told buffer (Some (place (ref_place (table_part t)) p)) tables spent v w m n
      → ComesFrom told buffer (Some (place (ref_place (member_part c t)) p)) tables spent v w m n
  member_heard c t p tables spent v w m n hears = record {
    steps = hears.steps;
    fault = hears.fault;
    heard = hears.heard;
    leads = member_leads buffer.layout.now buffer.bytes.now (limits_of buffer) c t p tables spent hears.steps
        hears.fault hears.leads;
    entered = rw (member_along buffer.layout.now buffer.bytes.now c t p (map number_of hears.steps)) hears.entered;
  }
