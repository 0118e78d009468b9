-- How a walk ends at a vector, at its elements, and behind a reference.
use Rattle.std.proofs.Common.{◌≡◌, ◌+◌, ◌*◌, ◌≤◌, None, Some, refl, sym, ◌∙◌, arith, add-zero}
use Rattle.std.proofs.lemmas.List.{take_all}
use Rattle.std.proofs.lemmas.Result.{err_from_is_err_and}
use Rattle.fb_layout.specs.Laid.{stored_kind}
use Rattle.fb_value.specs.declared.faults.ReadFault.TheVariants.{TooManyCells}
use Rattle.fb_value.specs.Num.{num}
use Rattle.fb_value.specs.Places.{vector_part, ref_place, part_place, named_elements}
use Rattle.fb_read.specs.Values.{led_to}
use Rattle.fb_read.specs.Walks.{place, limits_of}
use Rattle.fb_read.proofs.visit_tables.CountsGoOn.{not_entered, just_entered, refused_then, exact_then, at_end}
use Rattle.fb_read.proofs.visit_tables.PartsAddUp.{parts_vector}
use Rattle.fb_read.proofs.visit_tables.StaysWhole.{vector_at, elements_whole}
use Rattle.fb_read.proofs.visit_tables.EndsAtAPlace.{ticked, ends_refused, place_refused, rule_refused}
use Rattle.fb_read.proofs.visit_tables.EndsAtAPlace.{limit_refused}
use Rattle.fb_read.proofs.visit_tables.EndsAtAPlace.{passes_behind, ends_behind, has_visited, vector_ends}
use Rattle.fb_read.proofs.visit_tables.FrontIsFreeOfFaults.{front_fails, front_whole, element_named, elements_long}
use Rattle.fb_read.proofs.visit_tables.VisitsOnePlaceAfterAnother.{visit_vector, small_no, no_references}
use Rattle.fb_read.proofs.visit_tables.+visit.Goals as goal

pub vector_reference_refused : goal.visit_vector_behind-returns-in_err-target
vector_reference_refused g t c =
    let p = err_from_is_err_and c.from_residual.result c.from_residual.ensures.1 in
    let L = c.args.buffer.now.layout.now in
    let X = vector_part (stored_kind L.schema c.args.kind) in
    let x = place (ref_place X) c.args.at in
    let walk = c.args.walk.now in
    place_refused g.H.Hearer.told c.args.buffer.now x c.args.tables walk walk c.in_err-target.field-0.0 p.0
    c.from_residual.result p.1 p.2
    (rule_refused g.H.Hearer.told g.met.H.Hearer.silent c.args.buffer.now x c.args.tables walk walk
    c.in_err-target.field-0.0 (not_entered walk.ticks walk.spent c.args.buffer.now.most_cells c.requires.limits.few)
    (sym (add-zero walk.ticks)) refl (c.in_err-target.ensures.rules L X))

pub vector_passed_over : goal.visit_vector_behind-returns-then-pass_over
vector_passed_over g t c =
    let L = c.args.buffer.now.layout.now in
    let X = vector_part (stored_kind L.schema c.args.kind) in
    let rules = c.in_ok-target.ensures.rules L X in
    passes_behind c.args.buffer.now X c.args.at c.in_ok-target.target c.args.tables c.args.walk.now
    c.pass_over.new.walk rules.0 rules.1 (c.pass_over.ensures.known c.if-pass_over.true)

pub vector_left : goal.visit_vector_behind-leave-requires
vector_left g t c =
    let X = vector_part (stored_kind c.args.buffer.now.layout.now.schema c.args.kind) in
    has_visited g.H.Hearer.told g.met.H.Hearer.silent c.args.buffer.now
    g.H.Hearer.knows (place (part_place X) c.in_ok-target.target) c.args.tables c.mark-mark.result
    c.pass_over.new.walk c.visit_vector-visited.new.walk c.visit_vector-visited.result c.mark-mark.ensures.spent
    c.mark-mark.ensures.parts
    (rw (c.pass_over.ensures.before c.if-pass_over.false) c.requires.limits.known) c.visit_vector-visited.ensures

pub vector_behind_ends : goal.visit_vector_behind-returns
vector_behind_ends g t c =
    let L = c.args.buffer.now.layout.now in
    let X = vector_part (stored_kind L.schema c.args.kind) in
    let rules = c.in_ok-target.ensures.rules L X in
    let ends = rw (c.pass_over.ensures.before c.if-pass_over.false) at c.visit_vector-visited.ensures in
    ends_behind g.H.Hearer.told g.met.H.Hearer.silent c.args.buffer.now X
    c.args.at c.in_ok-target.target c.args.tables c.args.walk.now c.visit_vector-visited.new.walk c.leave.new.walk
    c.visit_vector-visited.result rules.0 rules.1 ends c.leave.ensures.spent c.leave.ensures.ticks
    c.leave.ensures.whole c.leave.ensures.told

pub vector_refused : goal.visit_vector-returns-in_err-count
vector_refused g t c =
    let p = err_from_is_err_and c.from_residual.result c.from_residual.ensures.1 in
    let L = c.args.buffer.now.layout.now in
    let kind = stored_kind L.schema c.args.kind in
    let x = place (part_place (vector_part kind)) c.args.at in
    let walk = c.args.walk.now in
    let counted = ticked walk c.tick.new.self in
    place_refused g.H.Hearer.told c.args.buffer.now x c.args.tables walk counted c.in_err-count.field-0.0 p.0
    c.from_residual.result p.1 p.2
    (rule_refused g.H.Hearer.told g.met.H.Hearer.silent c.args.buffer.now x c.args.tables walk counted
    c.in_err-count.field-0.0
    (just_entered walk.ticks c.tick.new.self walk.spent c.args.buffer.now.most_cells c.tick.ensures
    c.requires.limits.few) c.tick.ensures refl
    (c.in_err-count.ensures.rules L kind c.size_in-size.ensures c.align_in.ensures))

pub long_vector_refused : goal.visit_vector-returns-then-after-most
long_vector_refused g t c =
    let L = c.args.buffer.now.layout.now in
    let kind = stored_kind L.schema c.args.kind in
    let walk = c.args.walk.now in
    limit_refused g.H.Hearer.told g.met.H.Hearer.silent c.args.buffer.now
    (place (part_place (vector_part kind)) c.args.at) c.args.tables walk (ticked walk c.tick.new.self)
    (TooManyCells c.args.at)
    (just_entered walk.ticks c.tick.new.self walk.spent c.args.buffer.now.most_cells c.tick.ensures
    c.requires.limits.few) c.tick.ensures refl
    (c.in_ok-count.ensures.rules L kind c.size_in-size.ensures c.align_in.ensures)
    (small_no L c.args.buffer.now.bytes.now (limits_of c.args.buffer.now) c.args.at (walk.spent
    + (1 + num c.args.buffer.now.bytes.now c.args.at 4)) (omega (arith, c.in_ok-count.ensures.count)))

pub references_end : goal.visit_vector-returns-in-Some
references_end g t c =
    let L = c.args.buffer.now.layout.now in
    let kind = stored_kind L.schema c.args.kind in
    vector_ends g.H.Hearer.told g.met.H.Hearer.silent c.args.buffer.now
    kind (led_to c.in-Some.reference) c.args.at c.args.tables c.in_ok-count.count c.args.walk.now
    (record {
      spent = c.args.walk.now.spent + (1 + c.from.result);
      ticks = c.tick.new.self;
      whole = c.args.walk.now.whole;
      hearer = c.args.walk.now.hearer;
    })
    c.visit_elements.new.walk c.visit_elements.result (sym (c.in-Some.ensures L))
    (c.in_ok-count.ensures.rules L kind c.size_in-size.ensures c.align_in.ensures) c.in_ok-count.ensures.count
    (omega arith) (rw c.from.ensures refl) c.tick.ensures refl refl c.visit_elements.ensures

pub inlines_passed : goal.visit_vector-returns-in-None
inlines_passed g t c =
    let L = c.args.buffer.now.layout.now in
    let b = c.args.buffer.now.bytes.now in
    let kind = stored_kind L.schema c.args.kind in
    let keeps = c.in_ok-count.ensures.rules L kind c.size_in-size.ensures c.align_in.ensures in
    let long : c.from.result ≡ num b c.args.at 4 = c.from.ensures ∙ c.in_ok-count.ensures.count in
    let small : c.args.walk.now.spent + (1 + num b c.args.at 4) ≤ c.args.buffer.now.most_cells = omega arith in
    let none = sym (c.in-None.ensures L) in
    record {
      visit = rw (
        visit_vector L b (limits_of c.args.buffer.now) kind c.args.at c.args.tables c.args.walk.now.spent keeps small,
        none,
        long,
      ) (no_references L b (limits_of c.args.buffer.now) c.args.at c.args.tables (c.args.walk.now.spent
          + (1 + num b c.args.at 4)));
      few = omega arith;
      ticks = omega arith;
      exact = rw (parts_vector L b kind c.args.at keeps, none) c.tick.ensures;
      silent = refl {a = c.args.walk.now.hearer};
      whole = λ still. (
        still,
        vector_at c.args.buffer.now kind c.args.at (λ X is.
            absurd (let clash : None ≡ Some X = sym none ∙ is in cc)),
      );
    }

pub element_refused : goal.visit_elements-returns-in_err-visited
element_refused g t c =
    let p = err_from_is_err_and c.from_residual.result c.from_residual.ensures.1 in
    let buffer = c.args.buffer.now in
    let X = led_to c.args.reference in
    let here = place (ref_place X) (c.args.at + 4 * c.loop-i.i) in
    let ends = ends_refused g.H.Hearer.told buffer here c.args.tables c.loop-i.walk c.visit_behind-visited.new.walk
    c.visit_behind-visited.result c.in_err-visited.field-0.0 c.in_err-visited.was c.visit_behind-visited.ensures in
    let tells = rw c.in_err-visited.was at c.tell.ensures.told in
    let named = element_named X c.args.at c.args.count c.loop-i.i c.loop-i-test.true in
    rw (p.1, p.2) (record {
      visit = front_fails buffer.layout.now buffer.bytes.now (limits_of buffer)
          (named_elements X c.args.at c.args.count) c.loop-i.i (Some here) c.args.tables c.args.walk.now.spent
          c.loop-i.walk.spent c.in_err-visited.field-0.0 named c.loop-i.invariant.before ends.visit;
      ticks = refused_then c.args.walk.now.ticks c.args.walk.now.spent c.loop-i.walk.ticks c.loop-i.walk.spent
          c.visit_behind-visited.new.walk.ticks c.tell.new.walk.ticks buffer.most_cells
          c.loop-i.invariant.ticked ends.ticks c.tell.ensures.ticks;
      comes = rw (← c.loop-i.invariant.silent) (record {
        index = c.loop-i.i;
        there = Some here;
        spent_there = c.loop-i.walk.spent;
        comes = record { names = named; before = c.loop-i.invariant.before };
        steps = ends.comes.steps;
        fault = ends.comes.fault;
        heard = tells c.loop-i.walk.hearer ends.comes.steps ends.comes.heard;
        leads = ends.comes.leads;
        entered = exact_then c.args.walk.now.ticks c.loop-i.walk.ticks c.visit_behind-visited.new.walk.ticks
            c.tell.new.walk.ticks _ _ c.loop-i.invariant.exact ends.comes.entered c.tell.ensures.ticks;
      });
    })

pub elements_passed : goal.visit_elements-returns
elements_passed g t c =
    let X = led_to c.args.reference in
    let long = elements_long X c.args.at c.args.count in
    let end : c.loop-i.i ≡ c.args.count = at_end c.loop-i.i c.args.count c.loop-i.auto.i-end c.loop-i-test.false in
    record {
      visit = front_whole c.args.buffer.now.layout.now c.args.buffer.now.bytes.now (limits_of c.args.buffer.now)
          (named_elements X c.args.at c.args.count) c.loop-i.i c.args.tables c.args.walk.now.spent c.loop-i.walk.spent
          (omega (arith, long)) c.loop-i.invariant.before;
      few = c.loop-i.invariant.few;
      ticks = c.loop-i.invariant.ticked;
      exact = rw (take_all c.loop-i.i (named_elements X c.args.at c.args.count) (omega (arith, long))) at
          c.loop-i.invariant.exact;
      silent = c.loop-i.invariant.silent;
      whole = elements_whole c.args.buffer.now (named_elements X c.args.at c.args.count) c.args.walk.now c.loop-i.walk
          c.loop-i.walk c.loop-i.walk c.loop-i.i (omega (arith, long)) c.loop-i.invariant.whole;
    }
