use Rattle.std.proofs.Common.{◌∙◌, sym, arith}
use Rattle.std.proofs.lemmas.Result.{err_from_is_err_and}
use Rattle.fb_json.proofs.slots.SlotsDecideTheTable.{table_unknown}
use Rattle.fb_encode.proofs.excerpts.NotedOrRefused.{fault_holds}
use Rattle.fb_encode.proofs.tables.SlotsAreNoted.{no_cell, too_deep}
use Rattle.fb_encode.proofs.objects.before_slots.Goals as goal

pub returns-then-wanted-eq0-clause-refused : goal.returns-then-wanted-eq0-clause-refused
returns-then-wanted-eq0-clause-refused c L unknown ms seen t known =
    let wanted = c.args.wanted in
    too_deep L unknown ms seen t wanted.place wanted.levels wanted.left c.if-wanted-eq0.true

pub returns-then-wanted-eq0-2-clause-refused : goal.returns-then-wanted-eq0-2-clause-refused
returns-then-wanted-eq0-2-clause-refused c L unknown ms seen t known =
    let wanted = c.args.wanted in
    no_cell L unknown ms seen t wanted.place wanted.levels wanted.left (omega (arith, c.if-wanted-eq0.false))
    c.if-wanted-eq0-2.true

pub returns-in_err-known-clause-refused : goal.returns-in_err-known-clause-refused
returns-in_err-known-clause-refused c L unknown ms seen t known =
    let wanted = c.args.wanted in
    let p = err_from_is_err_and c.from_residual.result c.from_residual.ensures.1 in
    rw p.1 (fault_holds p.0 _ _ p.2 (table_unknown L unknown ms seen t wanted.place wanted.levels wanted.left
    c.in_err-known.field-0.0 (omega (arith, c.if-wanted-eq0.false)) (omega (arith, c.if-wanted-eq0-2.false))
    (sym known ∙ c.in_err-known.was)))
