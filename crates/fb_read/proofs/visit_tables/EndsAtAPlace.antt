-- How a walk ends at a place, by how it ends at what the place names.
use Rattle.std.proofs.Common.{◌≡◌, ℕ, ◌+◌, ◌≤◌, List, [], ◌∷◌, Some, Result, Ok, Err, MatchResult, IfErr, OnOk, IsTrue, ◌∙◌}
use Rattle.std.proofs.Common.{sym, arith}
use Rattle.fb_value.specs.declared.faults.ReadFault.{ReadFault}
use Rattle.fb_value.specs.Num.{num}
use Rattle.fb_value.specs.Places.{Target, vector_part, ref_place, part_place, Place, named_elements, target_of}
use Rattle.fb_value.specs.Faults.{own_cells, own_tables, limit_rules}
use Rattle.fb_value.specs.Rules.{Keeps, fault_at, first_failing}
use Rattle.fb_read.specs.declared.buffer.Buffer.{Buffer}
use Rattle.fb_read.specs.declared.step.Step.{Step}
use Rattle.fb_read.specs.declared.step.Step.TheVariants.{Reference, Element}
use Rattle.fb_read.specs.declared.walk.Mark.{Mark}
use Rattle.fb_read.specs.declared.walk.Walk.{Walk}
use Rattle.fb_read.specs.Ends.{ComesFrom, IsRefused, PassesAt, EndsAt, EndsAtEach, parts_in}
use Rattle.fb_read.specs.Entered.{own_parts}
use Rattle.fb_read.specs.FaultPaths.{Hears}
use Rattle.fb_read.specs.Visited.{HasVisited}
use Rattle.fb_read.specs.Visits.{Visits}
use Rattle.fb_read.specs.Walks.{place, limits_of, visit_in}
use Rattle.fb_read.specs.Whole.{WholeAt}
use Rattle.fb_layout.specs.Laid.{StoredKind}
use Rattle.fb_read.proofs.visit_tables.VisitsOnePlaceAfterAnother.{visit_fault, visit_over, visit_ref, visit_vector}
use Rattle.fb_read.proofs.visit_tables.HearsTheWayBack.{rule_heard, limit_heard, ref_heard, vector_heard}
use Rattle.fb_read.proofs.visit_tables.PartsAddUp.{parts_ref, parts_vector}
use Rattle.fb_read.proofs.visit_tables.StaysWhole.{behind, vector_at}

-- a walk that has entered a part
abbrev pub ticked : {H : Type 0} → Walk H → ℕ → Walk H
ticked walk ticks = record { spent = walk.spent; ticks = ticks; whole = walk.whole; hearer = walk.hearer }

-- ---- what each way to end says

module _ {H T : Type 0} (told : H → List Step → H → Type 0) (buffer : Buffer) (x : Place) (tables : ℕ)
    (old new : Walk H) where
  pub ends_given : (r : Result T ReadFault) → EndsAt told buffer x tables old new r
      → Visits r new.spent (visit_in buffer x tables old.spent)
  ends_given (Ok y) passes = passes.visit
  ends_given (Err f) ends = ends.visit

  pub ends_counted : (r : Result T ReadFault) → EndsAt told buffer x tables old new r
      → OnOk r (new.ticks ≡ old.ticks + parts_in buffer x)
  ends_counted (Ok y) passes = passes.exact
  ends_counted (Err f) ends = tt

  pub ends_heard : (r : Result T ReadFault) → EndsAt told buffer x tables old new r
      → Hears told buffer (Some x) tables old.spent old.hearer new.hearer r
  ends_heard (Ok y) passes = passes.silent
  ends_heard (Err f) ends = let comes = ends.comes in
      record { steps = comes.steps; fault = comes.fault; heard = comes.heard; leads = comes.leads }

  pub ends_reached : (r : Result T ReadFault) → EndsAt told buffer x tables old new r
      → IfErr r (λ f. (visit_in buffer x tables old.spent ≡ Err f)
      × ComesFrom told buffer (Some x) tables old.spent old.hearer new.hearer old.ticks new.ticks)
  ends_reached (Ok y) passes = tt
  ends_reached (Err f) ends = (ends.visit, ends.comes)

  pub ends_whole : (r : Result T ReadFault) → EndsAt told buffer x tables old new r
      → OnOk r (IsTrue new.whole → WholeAt buffer x)
  ends_whole (Ok y) passes = λ still. (passes.whole still).1
  ends_whole (Err f) ends = tt

  -- where the result is known
  pub ends_passed : (r : Result T ReadFault) (y : T) → r ≡ Ok y → EndsAt told buffer x tables old new r
      → PassesAt buffer x tables old new
  ends_passed r y was ends = rw was at ends

  pub ends_refused : (r : Result T ReadFault) (f : ReadFault) → r ≡ Err f → EndsAt told buffer x tables old new r
      → IsRefused buffer old new (visit_in buffer x tables old.spent)
      (ComesFrom told buffer (Some x) tables old.spent old.hearer new.hearer old.ticks new.ticks) f
  ends_refused r f was ends = rw was at ends

-- ---- its own faults

module _ {H : Type 0} (told : H → List Step → H → Type 0) (silent : (h : H) → told h [] h) (buffer : Buffer)
    (x : Place) (tables : ℕ) (old new : Walk H) (f : ReadFault)
    (few : new.ticks + old.spent ≤ old.ticks + (buffer.most_cells + 1))
    (counted : new.ticks ≡ old.ticks + own_parts x.sort) (same : new.hearer ≡ old.hearer) where
  -- refused by a rule of the place
  pub rule_refused : fault_at buffer.layout.now buffer.bytes.now x.sort x.at ≡ Some f
      → IsRefused buffer old new (visit_in buffer x tables old.spent)
      (ComesFrom told buffer (Some x) tables old.spent old.hearer new.hearer old.ticks new.ticks) f
  rule_refused fails = record {
    visit = visit_fault buffer.layout.now buffer.bytes.now (limits_of buffer) x tables old.spent f fails;
    ticks = few;
    comes = rw same (rule_heard told silent buffer x tables old.spent old.hearer old.ticks new.ticks f fails counted);
  }

  -- refused by a limit, where the rules hold
  pub limit_refused : Keeps buffer.layout.now buffer.bytes.now x.sort x.at
      → first_failing (limit_rules (limits_of buffer) x.sort x.at (tables + own_tables x.sort) (old.spent
      + own_cells buffer.bytes.now x.sort x.at)) ≡ Some f
      → IsRefused buffer old new (visit_in buffer x tables old.spent)
      (ComesFrom told buffer (Some x) tables old.spent old.hearer new.hearer old.ticks new.ticks) f
  limit_refused keeps fails = record {
    visit = visit_over buffer.layout.now buffer.bytes.now (limits_of buffer) x tables old.spent f keeps fails;
    ticks = few;
    comes = rw same (limit_heard told silent buffer x tables old.spent old.hearer old.ticks new.ticks f keeps fails
        counted);
  }

-- refused at a place
pub place_refused : {H T : Type 0} (told : H → List Step → H → Type 0) (buffer : Buffer) (x : Place) (tables : ℕ)
    (old new : Walk H) (f g : ReadFault) (r : Result T ReadFault) → r ≡ Err g → g ≡ f
    → IsRefused buffer old new (visit_in buffer x tables old.spent)
    (ComesFrom told buffer (Some x) tables old.spent old.hearer new.hearer old.ticks new.ticks) f
    → EndsAt told buffer x tables old new r
place_refused told buffer x tables old new f g r err is refused = rw (err, is) refused

-- past a reference
pub passes_behind : {H : Type 0} (buffer : Buffer) (X : Target) (p q tables : ℕ) (old new : Walk H)
    → Keeps buffer.layout.now buffer.bytes.now (ref_place X) p → q ≡ p + num buffer.bytes.now p 4
    → PassesAt buffer (place (part_place X) q) tables old new → PassesAt buffer (place (ref_place X) p) tables old new
passes_behind buffer X p q tables old new rules is passes = record {
  visit = visit_ref buffer.layout.now buffer.bytes.now (limits_of buffer) X p tables old.spent rules
      ∙ (rw is at passes.visit);
  few = passes.few;
  ticks = passes.ticks;
  exact = rw (parts_ref buffer.layout.now buffer.bytes.now X p q rules is) passes.exact;
  silent = passes.silent;
  whole = λ still. (let passed = passes.whole still in (passed.0, behind buffer X p q is passed.1));
}

module _ {H T : Type 0} (told : H → List Step → H → Type 0) (silent : (h : H) → told h [] h) (buffer : Buffer) where
  -- behind a reference, and its hearer has been told what the walk found there
  pub ends_behind : (X : Target) (p q tables : ℕ) (old mid new : Walk H) (r : Result T ReadFault)
      → Keeps buffer.layout.now buffer.bytes.now (ref_place X) p → q ≡ p + num buffer.bytes.now p 4
      → EndsAt told buffer (place (part_place X) q) tables old mid r → new.spent ≡ mid.spent → new.ticks ≡ mid.ticks
      → new.whole ≡ mid.whole
      → MatchResult r (λ _. new.hearer ≡ mid.hearer)
      (λ _. (first : H) (steps : List Step) → told first steps mid.hearer → told first (Reference ∷ steps) new.hearer)
      → EndsAt told buffer (place (ref_place X) p) tables old new r
  ends_behind X p q tables old mid new (Ok y) rules is ends spent ticks same tells =
      let passes = passes_behind buffer X p q tables old mid rules is ends in
      record {
        visit = rw spent passes.visit;
        few = rw spent passes.few;
        ticks = rw (spent, ticks) passes.ticks;
        exact = rw ticks passes.exact;
        silent = tells ∙ passes.silent;
        whole = λ still. passes.whole (sym same ∙ still);
      }
  ends_behind X p q tables old mid new (Err f) rules is ends spent ticks same tells = record {
    visit = visit_ref buffer.layout.now buffer.bytes.now (limits_of buffer) X p tables old.spent rules
        ∙ (rw is at ends.visit);
    ticks = rw ticks ends.ticks;
    comes = rw ticks (ref_heard told silent buffer X p q tables old.spent old.hearer mid.hearer new.hearer old.ticks
        mid.ticks rules is ends.comes tells);
  }

  -- What a walk has taken at a part since a mark.
  pub has_visited : (knows : H → Buffer → Type 0) (x : Place) (tables : ℕ) (mark : Mark) (old new : Walk H)
      (r : Result T ReadFault) → mark.spent ≡ old.spent → mark.parts ≡ old.ticks → knows old.hearer buffer
      → EndsAt told buffer x tables old new r → OnOk r (HasVisited knows buffer x tables mark new)
  has_visited knows x tables mark old new (Ok y) spent parts known passes = record {
    known = rw passes.silent known;
    visit = rw spent passes.visit;
    ticks = rw (spent, parts) passes.ticks;
    exact = rw parts passes.exact;
  }
  has_visited knows x tables mark old new (Err f) spent parts known ends = tt

  -- at a vector, by how it ends at its elements
  pub vector_ends : (kind : StoredKind) (X : Target) (p tables n : ℕ) (old mid new : Walk H) (r : Result T ReadFault)
      → target_of kind ≡ Some X → Keeps buffer.layout.now buffer.bytes.now (part_place (vector_part kind)) p
      → n ≡ num buffer.bytes.now p 4 → old.spent + (1 + n) ≤ buffer.most_cells → mid.spent ≡ old.spent + (1 + n)
      → mid.ticks ≡ old.ticks + 1 → mid.hearer ≡ old.hearer → mid.whole ≡ old.whole
      → EndsAtEach told (λ i. Element i) buffer (named_elements X (p + 4) n) tables mid new r
      → EndsAt told buffer (place (part_place (vector_part kind)) p) tables old new r
  vector_ends kind X p tables n old mid new (Ok y) X_is rules is small spent ticks same so_far passes =
      let L = buffer.layout.now in
      let b = buffer.bytes.now in
      record {
        visit = visit_vector L b (limits_of buffer) kind p tables old.spent rules (rw is at small)
            ∙ (rw (X_is, ← is, ← spent) passes.visit);
        few = passes.few;
        ticks = omega (arith, passes.ticks);
        exact = rw (parts_vector L b kind p rules, X_is, ← is) (omega (arith, ticks, passes.exact));
        silent = passes.silent ∙ same;
        whole = λ still.
            (let passed = passes.whole still in (
              sym so_far ∙ passed.0,
              vector_at buffer kind p (λ Y Y_is.
                  (let led : X ≡ Y = (let e : Some X ≡ Some Y = sym X_is ∙ Y_is in cc) in rw (← led, ← is) passed.1)),
            ));
      }
  vector_ends kind X p tables n old mid new (Err f) X_is rules is small spent ticks same so_far ends =
      let L = buffer.layout.now in
      let b = buffer.bytes.now in
      record {
        visit = visit_vector L b (limits_of buffer) kind p tables old.spent rules (rw is at small)
            ∙ (rw (X_is, ← is, ← spent) ends.visit);
        ticks = omega (arith, ends.ticks);
        comes = vector_heard told silent buffer kind X p tables old.spent n old.hearer new.hearer old.ticks mid.ticks
            new.ticks X_is rules is small ticks (rw (spent, same) at ends.comes);
      }
