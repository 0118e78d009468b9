use Rattle.fb_layout.specs.Laid.{stored_kind}
use Rattle.fb_value.specs.Places.{inline_place}
use Rattle.fb_read.specs.Walks.{place, limits_of}
use Rattle.fb_read.proofs.visit_tables.VisitsOnePlaceAfterAnother.{visit_inline, visits_by_rules}
use Rattle.fb_read.proofs.visit_leaves.visit_inline.Goals as goal

pub returns : goal.returns
returns c tables spent =
    let L = c.args.buffer.now.layout.now in
    let b = c.args.buffer.now.bytes.now in
    let kind = stored_kind L.schema c.args.kind in
    visits_by_rules L b (limits_of c.args.buffer.now) (place (inline_place kind) c.args.at) tables spent
    c.check_inline.result (visit_inline L b (limits_of c.args.buffer.now) kind c.args.at tables spent)
    (c.check_inline.ensures.rules L kind c.size_of.ensures c.align_of.ensures)
