use Rattle.std.proofs.Common.{refl, sym, add-zero}
use Rattle.std.proofs.lemmas.Result.{err_from_is_err_and}
use Rattle.fb_value.specs.Places.{text_part, ref_place, part_place}
use Rattle.fb_read.specs.Walks.{place}
use Rattle.fb_read.proofs.visit_tables.CountsGoOn.{not_entered}
use Rattle.fb_read.proofs.visit_tables.EndsAtAPlace.{place_refused, rule_refused, passes_behind}
use Rattle.fb_read.proofs.visit_tables.EndsAtAPlace.{ends_behind, has_visited}
use Rattle.fb_read.proofs.visit_leaves.visit_text_behind.Goals as goal

pub returns-in_err-target : goal.returns-in_err-target
returns-in_err-target g c =
    let p = err_from_is_err_and c.from_residual.result c.from_residual.ensures.1 in
    let x = place (ref_place text_part) c.args.at in
    let walk = c.args.walk.now in
    place_refused g.H.Hearer.told c.args.buffer.now x c.args.tables walk walk c.in_err-target.field-0.0 p.0
    c.from_residual.result p.1 p.2
    (rule_refused g.H.Hearer.told g.met.H.Hearer.silent c.args.buffer.now x c.args.tables walk walk
    c.in_err-target.field-0.0 (not_entered walk.ticks walk.spent c.args.buffer.now.most_cells c.requires.limits.few)
    (sym (add-zero walk.ticks)) refl (c.in_err-target.ensures.rules c.args.buffer.now.layout.now text_part))

pub returns-then-pass_over : goal.returns-then-pass_over
returns-then-pass_over g c =
    let rules = c.in_ok-target.ensures.rules c.args.buffer.now.layout.now text_part in
    passes_behind c.args.buffer.now text_part c.args.at c.in_ok-target.target c.args.tables
    c.args.walk.now c.pass_over.new.walk rules.0 rules.1 (c.pass_over.ensures.known c.if-pass_over.true)

pub leave-requires : goal.leave-requires
leave-requires g c =
    has_visited g.H.Hearer.told g.met.H.Hearer.silent c.args.buffer.now
    g.H.Hearer.knows (place (part_place text_part) c.in_ok-target.target) c.args.tables c.mark-mark.result
    c.pass_over.new.walk c.visit_text-visited.new.walk
    c.visit_text-visited.result c.mark-mark.ensures.spent c.mark-mark.ensures.parts
    (rw (c.pass_over.ensures.before c.if-pass_over.false) c.requires.limits.known)
    (c.visit_text-visited.ensures c.args.tables)

pub returns : goal.returns
returns g c =
    let rules = c.in_ok-target.ensures.rules c.args.buffer.now.layout.now text_part in
    let ends = rw (c.pass_over.ensures.before c.if-pass_over.false) at (c.visit_text-visited.ensures c.args.tables) in
    ends_behind g.H.Hearer.told g.met.H.Hearer.silent c.args.buffer.now
    text_part c.args.at c.in_ok-target.target c.args.tables c.args.walk.now c.visit_text-visited.new.walk
    c.leave.new.walk c.visit_text-visited.result rules.0
    rules.1 ends c.leave.ensures.spent c.leave.ensures.ticks c.leave.ensures.whole c.leave.ensures.told
