use Rattle.std.proofs.Common.{◌+◌}
use Rattle.fb_conform.specs.declared.breaches.Breach.TheVariants.{DeprecatedTakenBack}
use Rattle.fb_conform.specs.declared.difference.Difference.TheVariants.{Breach as Broken}
use Rattle.fb_conform.specs.Listed.{IsUpTo, IsOfSlotsBelow}
use Rattle.fb_conform.proofs.walk.DifferencesAreReportedInOrder.{walked_on, stopped_on}
use Rattle.fb_conform.proofs.walk.EachPlaceIsWalked.{shape_decides, default_decides, required_decides}
use Rattle.fb_conform.proofs.walk.EachPlaceIsWalked.{deprecated_decides, fields_start, fields_end}
use Rattle.fb_conform.proofs.walk.walk_fields.Goals as goal

pub returns-in_err-report_unless : goal.returns-in_err-report_unless
returns-in_err-report_unless g c =
    let A = c.args.old.now in
    let B = c.args.new.now in
    let wants = g.H.DifferenceHearer.wants in
    let slot = c.requires.slot in
    stopped_on A B wants _ _ _ _ c.from_residual.result c.from_residual.ensures (c.in_err-report_unless.ensures A B
    (shape_decides A B wants slot c.same_type-shape.ensures) (fields_start A B wants slot c.requires.before))

pub returns-in_err-report_unless-2 : goal.returns-in_err-report_unless-2
returns-in_err-report_unless-2 g c =
    let A = c.args.old.now in
    let B = c.args.new.now in
    let wants = g.H.DifferenceHearer.wants in
    let slot = c.requires.slot in
    let after_shape = c.in_ok-report_unless.ensures A B (shape_decides A B wants slot c.same_type-shape.ensures)
    (fields_start A B wants slot c.requires.before) in
    stopped_on A B wants _ _ _ _ c.from_residual-in_err-report_unless-2.result
    c.from_residual-in_err-report_unless-2.ensures (c.in_err-report_unless-2.ensures A B
    (default_decides A B wants slot c.same_default-default.ensures) after_shape)

pub returns-in_err-report_unless-3 : goal.returns-in_err-report_unless-3
returns-in_err-report_unless-3 g c =
    let A = c.args.old.now in
    let B = c.args.new.now in
    let wants = g.H.DifferenceHearer.wants in
    let slot = c.requires.slot in
    let after_shape = c.in_ok-report_unless.ensures A B (shape_decides A B wants slot c.same_type-shape.ensures)
    (fields_start A B wants slot c.requires.before) in
    let after_default = c.in_ok-report_unless-2.ensures A B
    (default_decides A B wants slot c.same_default-default.ensures) after_shape in
    stopped_on A B wants _ _ _ _ c.from_residual-in_err-report_unless-3.result
    c.from_residual-in_err-report_unless-3.ensures (c.in_err-report_unless-3.ensures A B
    (required_decides A B wants slot c.same_required-required.ensures) after_default)

pub returns : goal.returns
returns g c =
    let A = c.args.old.now in
    let B = c.args.new.now in
    let wants = g.H.DifferenceHearer.wants in
    let slot = c.requires.slot in
    let after_shape = c.in_ok-report_unless.ensures A B (shape_decides A B wants slot c.same_type-shape.ensures)
    (fields_start A B wants slot c.requires.before) in
    let after_default = c.in_ok-report_unless-2.ensures A B
    (default_decides A B wants slot c.same_default-default.ensures) after_shape in
    let after_required = c.in_ok-report_unless-3.ensures A B
    (required_decides A B wants slot c.same_required-required.ensures) after_default in
    walked_on A B wants _ (IsUpTo (Broken (DeprecatedTakenBack c.args.at.type_id c.args.at.slot)))
    (IsOfSlotsBelow c.args.at.type_id.0 (c.args.at.slot + 1)) _ c.report_unless-4.result (fields_end A B wants slot)
    (c.report_unless-4.ensures A B (deprecated_decides A B wants slot c.stays_deprecated-deprecated.ensures)
    after_required)
