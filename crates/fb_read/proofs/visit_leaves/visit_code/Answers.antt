use Rattle.std.proofs.Common.{◌+◌}
use Rattle.fb_value.specs.Places.{code_place}
use Rattle.fb_read.specs.Walks.{place, limits_of}
use Rattle.fb_read.proofs.visit_tables.VisitsOnePlaceAfterAnother.{visit_code, visits_by_rules}
use Rattle.fb_read.proofs.visit_leaves.visit_code.Goals as goal

pub returns : goal.returns
returns c tables spent u =
    let L = c.args.buffer.now.layout.now in
    let b = c.args.buffer.now.bytes.now in
    let required = c.is_first_required-required.result in
    let present = c.is_next_stored-present.result in
    rw (← c.is_next_stored-present.ensures, ← c.is_first_required-required.ensures L)
    (visits_by_rules L b (limits_of c.args.buffer.now)
    (place (code_place u (c.args.slot + 1) required present) c.args.at) tables spent c.check_code.result
    (visit_code L b (limits_of c.args.buffer.now) u (c.args.slot + 1) required present c.args.at tables spent)
    (c.check_code.ensures.rules L u))
