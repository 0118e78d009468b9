use Rattle.fb_layout.specs.Laid.{struct_kind}
use Rattle.fb_read.proofs.buffer.AlignmentsArePositive.{aligned_known}
use Rattle.fb_read.proofs.parts.check_fixed.Goals as goal

pub check_inline-requires-clause-aligned : goal.check_inline-requires-clause-aligned
check_inline-requires-clause-aligned c =
    rw c.align_of.ensures
    (aligned_known c.args.layout.now c.layout_is_well_made.ensures (struct_kind c.args.structure.0))
