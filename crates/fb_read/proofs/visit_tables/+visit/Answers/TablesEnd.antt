-- How a walk ends at a table, and behind a reference to one.
use Rattle.std.proofs.Common.{◌≡◌, ◌∙◌, ℕ, ◌+◌, ◌<◌, List, [], Result, Ok, Err, map, refl, sym, ap, arith, add-zero}
use Rattle.std.proofs.lemmas.Result.{err_from_is_err_and}
use Rattle.fb_schema.specs.declared.kinds.TypeId.{TypeId}
use Rattle.fb_schema.specs.declared.types.FieldInfo.{FieldInfo}
use Rattle.fb_schema.specs.Schema.{body_at, slots_in}
use Rattle.fb_schema.specs.Seen.{field_seen}
use Rattle.fb_layout.specs.Laid.{LaidSchema, slot_of, slots_of}
use Rattle.fb_value.specs.declared.faults.ReadFault.{ReadFault}
use Rattle.fb_value.specs.declared.faults.ReadFault.TheVariants.{TooDeep, TooManyCells}
use Rattle.fb_value.specs.Places.{table_part, ref_place, part_place}
use Rattle.fb_value.specs.Rules.{Keeps}
use Rattle.fb_read.specs.declared.buffer.Buffer.{Buffer}
use Rattle.fb_read.specs.declared.step.Step.{Step}
use Rattle.fb_read.specs.declared.step.Step.TheVariants.{Slot as SlotStep}
use Rattle.fb_read.specs.declared.walk.Walk.{Walk}
use Rattle.fb_read.specs.Ends.{EndsAt, EndsAtEach, slots_at}
use Rattle.fb_read.specs.Visits.{slots_seen}
use Rattle.fb_read.specs.Walks.{place, limits_of}
use Rattle.fb_read.proofs.visit_tables.EndsAtAPlace.{ticked, place_refused, rule_refused, limit_refused, passes_behind}
use Rattle.fb_read.proofs.visit_tables.EndsAtAPlace.{ends_behind, has_visited}
use Rattle.fb_read.proofs.visit_tables.CountsGoOn.{not_entered, just_entered, table_then, table_refused_then}
use Rattle.fb_read.proofs.visit_tables.HearsTheWayBack.{table_heard}
use Rattle.fb_read.proofs.visit_tables.PartsAddUp.{parts_table}
use Rattle.fb_read.proofs.visit_tables.StaysWhole.{table_at}
use Rattle.fb_read.proofs.visit_tables.VisitsOnePlaceAfterAnother.{visit_table, deep_no, both_no}
use Rattle.fb_read.proofs.visit_tables.+visit.Goals as goal

pub table_reference_refused : goal.visit_table_behind-returns-in_err-target
table_reference_refused g t c =
    let p = err_from_is_err_and c.from_residual.result c.from_residual.ensures.1 in
    let X = table_part c.args.table.0 in
    let x = place (ref_place X) c.args.at in
    let walk = c.args.walk.now in
    place_refused g.H.Hearer.told c.args.buffer.now x c.args.tables walk walk c.in_err-target.field-0.0 p.0
    c.from_residual.result p.1 p.2
    (rule_refused g.H.Hearer.told g.met.H.Hearer.silent c.args.buffer.now x c.args.tables walk walk
    c.in_err-target.field-0.0 (not_entered walk.ticks walk.spent c.args.buffer.now.most_cells c.requires.limits.few)
    (sym (add-zero walk.ticks)) refl (c.in_err-target.ensures.rules c.args.buffer.now.layout.now X))

pub table_passed_over : goal.visit_table_behind-returns-then-pass_over
table_passed_over g t c =
    let X = table_part c.args.table.0 in
    let rules = c.in_ok-target.ensures.rules c.args.buffer.now.layout.now X in
    passes_behind c.args.buffer.now X c.args.at c.in_ok-target.target c.args.tables c.args.walk.now
    c.pass_over.new.walk rules.0 rules.1 (c.pass_over.ensures.known c.if-pass_over.true)

pub table_left : goal.visit_table_behind-leave-requires
table_left g t c =
    has_visited g.H.Hearer.told g.met.H.Hearer.silent c.args.buffer.now
    g.H.Hearer.knows (place (part_place (table_part c.args.table.0)) c.in_ok-target.target) c.args.tables
    c.mark-mark.result c.pass_over.new.walk c.visit_table-visited.new.walk c.visit_table-visited.result
    c.mark-mark.ensures.spent c.mark-mark.ensures.parts
    (rw (c.pass_over.ensures.before c.if-pass_over.false) c.requires.limits.known) c.visit_table-visited.ensures

pub table_behind_ends : goal.visit_table_behind-returns
table_behind_ends g t c =
    let X = table_part c.args.table.0 in
    let rules = c.in_ok-target.ensures.rules c.args.buffer.now.layout.now X in
    let ends = rw (c.pass_over.ensures.before c.if-pass_over.false) at c.visit_table-visited.ensures in
    ends_behind g.H.Hearer.told g.met.H.Hearer.silent c.args.buffer.now X
    c.args.at c.in_ok-target.target c.args.tables c.args.walk.now c.visit_table-visited.new.walk c.leave.new.walk
    c.visit_table-visited.result rules.0 rules.1 ends c.leave.ensures.spent c.leave.ensures.ticks c.leave.ensures.whole
    c.leave.ensures.told

pub table_refused : goal.visit_table-returns-in_err-vtable_at
table_refused g t c =
    let p = err_from_is_err_and c.from_residual.result c.from_residual.ensures.1 in
    let x = place (part_place (table_part c.args.table.0)) c.args.at in
    let walk = c.args.walk.now in
    let counted = ticked walk c.tick.new.self in
    place_refused g.H.Hearer.told c.args.buffer.now x c.args.tables walk counted c.in_err-vtable_at.field-0.0 p.0
    c.from_residual.result p.1 p.2
    (rule_refused g.H.Hearer.told g.met.H.Hearer.silent c.args.buffer.now x c.args.tables walk counted
    c.in_err-vtable_at.field-0.0
    (just_entered walk.ticks c.tick.new.self walk.spent c.args.buffer.now.most_cells c.tick.ensures
    c.requires.limits.few) c.tick.ensures refl c.in_err-vtable_at.ensures.rules)

pub deep_table_refused : goal.visit_table-returns-then-tables-buffer
deep_table_refused g t c =
    let walk = c.args.walk.now in
    limit_refused g.H.Hearer.told g.met.H.Hearer.silent c.args.buffer.now
    (place (part_place (table_part c.args.table.0)) c.args.at) c.args.tables walk (ticked walk c.tick.new.self)
    (TooDeep c.args.at)
    (just_entered walk.ticks c.tick.new.self walk.spent c.args.buffer.now.most_cells c.tick.ensures
    c.requires.limits.few) c.tick.ensures refl
    c.in_ok-vtable_at.ensures.rules (deep_no c.args.buffer.now.layout.now c.args.buffer.now.bytes.now
    (limits_of c.args.buffer.now) c.args.at (c.args.tables + 1) (walk.spent + 1) (omega arith))

pub last_table_refused : goal.visit_table-returns-then-walk-from
last_table_refused g t c =
    let walk = c.args.walk.now in
    limit_refused g.H.Hearer.told g.met.H.Hearer.silent c.args.buffer.now
    (place (part_place (table_part c.args.table.0)) c.args.at) c.args.tables walk (ticked walk c.tick.new.self)
    (TooManyCells c.args.at)
    (just_entered walk.ticks c.tick.new.self walk.spent c.args.buffer.now.most_cells c.tick.ensures
    c.requires.limits.few) c.tick.ensures refl
    c.in_ok-vtable_at.ensures.rules (both_no c.args.buffer.now.layout.now c.args.buffer.now.bytes.now
    (limits_of c.args.buffer.now) c.args.at (c.args.tables + 1) (walk.spent + 1) (omega arith) (omega arith))

-- a table's slots, where its fields are seen
slots_are_seen : (L : LaidSchema) (t : ℕ) (fs : List FieldInfo)
    → map field_seen fs ≡ slots_in (body_at L.schema t) → slots_of L t ≡ slots_seen L fs
slots_are_seen L t fs seen = ap (λ gs. map (slot_of L.schema) gs) (sym seen)

-- at a table, by how it ends at its slots
slots_end : {H T : Type 0} (told : H → List Step → H → Type 0) (silent : (h : H) → told h [] h) (buffer : Buffer)
    (table : TypeId) (p tables : ℕ) (slots : List FieldInfo) (old mid new : Walk H) (r : Result T ReadFault)
    → slots_of buffer.layout.now table.0 ≡ slots_seen buffer.layout.now slots
    → Keeps buffer.layout.now buffer.bytes.now (part_place (table_part table.0)) p → tables < buffer.most_depth
    → old.spent < buffer.most_cells → mid.spent ≡ old.spent + 1 → mid.ticks ≡ old.ticks + 1
    → mid.hearer ≡ old.hearer → mid.whole ≡ old.whole
    → EndsAtEach told (λ k. SlotStep table k) buffer (slots_at buffer p slots) (tables + 1) mid new r
    → EndsAt told buffer (place (part_place (table_part table.0)) p) tables old new r
slots_end told silent buffer table p tables slots old mid new (Ok y) seen rules deep small spent ticks same so_far passes =
    let L = buffer.layout.now in
    let b = buffer.bytes.now in
    record {
      visit = rw (visit_table L b (limits_of buffer) table.0 p tables old.spent rules deep small, seen, ← spent)
          passes.visit;
      few = passes.few;
      ticks = table_then old.ticks mid.ticks old.spent new.ticks new.spent ticks (rw spent at passes.ticks);
      exact = rw (parts_table L b table.0 p rules, seen) (omega (arith, ticks, passes.exact));
      silent = passes.silent ∙ same;
      whole = λ still.
          (let passed = passes.whole still in
          (sym so_far ∙ passed.0, table_at buffer table.0 p (rw seen passed.1)));
    }
slots_end told silent buffer table p tables slots old mid new (Err f) seen rules deep small spent ticks same so_far ends =
    let L = buffer.layout.now in
    let b = buffer.bytes.now in
    record {
      visit = rw (visit_table L b (limits_of buffer) table.0 p tables old.spent rules deep small, seen, ← spent)
          ends.visit;
      ticks = table_refused_then old.ticks mid.ticks old.spent new.ticks buffer.most_cells ticks
          (rw spent at ends.ticks);
      comes = table_heard told silent buffer table p tables old.spent old.hearer new.hearer old.ticks mid.ticks
          new.ticks rules deep small ticks (rw seen (rw (spent, same) at ends.comes));
    }

pub table_ends : goal.visit_table-returns
table_ends g t c =
    let buffer = c.args.buffer.now in
    let walk = c.args.walk.now in
    slots_end g.H.Hearer.told g.met.H.Hearer.silent buffer c.args.table c.args.at c.args.tables
    c.slots_of-slots.result.now walk
    (record { spent = walk.spent + 1; ticks = c.tick.new.self; whole = walk.whole; hearer = walk.hearer }) c.visit_slots.new.walk
    c.visit_slots.result
    (slots_are_seen buffer.layout.now c.args.table.0 c.slots_of-slots.result.now c.slots_of-slots.ensures.slots)
    c.in_ok-vtable_at.ensures.rules c.if-tables-buffer.false (rw (← c.from.ensures) c.if-walk-from.false) refl
    c.tick.ensures refl refl c.visit_slots.ensures
