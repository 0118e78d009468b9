use Rattle.fb_conform.specs.declared.breaches.Breach.TheVariants.{IdentifierChanged}
use Rattle.fb_conform.specs.declared.difference.Difference.TheVariants.{Breach as Broken}
use Rattle.fb_conform.specs.Listed.{IsUpTo, IsOfTypesBelow}
use Rattle.fb_conform.proofs.walk.DifferencesAreReportedInOrder.{walked_on}
use Rattle.fb_conform.proofs.walk.EachPlaceIsWalked.{root_start, header_end}
use Rattle.fb_conform.proofs.walk.walk_header.Goals as goal

pub returns : goal.returns
returns g c =
    let A = c.args.old.now in
    let B = c.args.new.now in
    let wants = g.H.DifferenceHearer.wants in
    let root = c.in_ok-report_unless.ensures A B c.same_root-root.ensures (root_start A B wants _ c.requires) in
    walked_on A B wants _ (IsUpTo (Broken IdentifierChanged)) (IsOfTypesBelow 0) _ c.report_unless-2.result
    (header_end A B wants _) (c.report_unless-2.ensures A B c.same_identifier-identifier.ensures root)
