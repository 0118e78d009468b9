use Rattle.std.proofs.Common.{◌+◌, refl, arith}
use Rattle.std.proofs.lemmas.Result.{err_from_is_err_and}
use Rattle.fb_value.specs.declared.faults.ReadFault.TheVariants.{TooManyCells}
use Rattle.fb_value.specs.Num.{num}
use Rattle.fb_value.specs.Places.{text_part, part_place}
use Rattle.fb_read.specs.Walks.{place, limits_of}
use Rattle.fb_read.proofs.visit_tables.CountsGoOn.{just_entered}
use Rattle.fb_read.proofs.visit_tables.EndsAtAPlace.{ticked, place_refused, rule_refused, limit_refused}
use Rattle.fb_read.proofs.visit_tables.VisitsOnePlaceAfterAnother.{small_no}
use Rattle.fb_read.proofs.visit_leaves.visit_text.Goals as goal

pub returns-in_err-text : goal.returns-in_err-text
returns-in_err-text g c tables =
    let p = err_from_is_err_and c.from_residual.result c.from_residual.ensures.1 in
    let x = place (part_place text_part) c.args.at in
    let walk = c.args.walk.now in
    let counted = ticked walk c.tick.new.self in
    place_refused g.H.Hearer.told c.args.buffer.now x tables walk counted c.in_err-text.field-0.0 p.0
    c.from_residual.result p.1 p.2
    (rule_refused g.H.Hearer.told g.met.H.Hearer.silent c.args.buffer.now x tables walk counted
    c.in_err-text.field-0.0
    (just_entered walk.ticks c.tick.new.self walk.spent c.args.buffer.now.most_cells c.tick.ensures c.requires.few)
    c.tick.ensures refl (c.in_err-text.ensures.rules c.args.buffer.now.layout.now))

pub returns-then-after-most : goal.returns-then-after-most
returns-then-after-most g c tables =
    let walk = c.args.walk.now in
    limit_refused g.H.Hearer.told g.met.H.Hearer.silent c.args.buffer.now
    (place (part_place text_part) c.args.at) tables walk (ticked walk c.tick.new.self) (TooManyCells c.args.at)
    (just_entered walk.ticks c.tick.new.self walk.spent c.args.buffer.now.most_cells c.tick.ensures c.requires.few)
    c.tick.ensures refl (c.in_ok-text.ensures.rules c.args.buffer.now.layout.now)
    (small_no c.args.buffer.now.layout.now c.args.buffer.now.bytes.now (limits_of c.args.buffer.now) c.args.at
    (walk.spent + (1 + num c.args.buffer.now.bytes.now c.args.at 4)) (omega (arith, c.in_ok-text.ensures.long)))
