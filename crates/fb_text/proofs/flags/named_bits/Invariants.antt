use Rattle.std.proofs.Common.{◌-◌, ◌<◌}
use Rattle.fb_schema.specs.Schema.{body_at}
use Rattle.fb_text.specs.Bits.{AreBitsNamed}
use Rattle.fb_text.proofs.flags.named_bits.Given as goal

abbrev pub invariant-loop-place : goal.invariant-loop-place
invariant-loop-place l = (l.place < 64) × AreBitsNamed (body_at l.names.schema.now l.names.enumeration.0) l.place

abbrev pub decreases-loop-place : goal.decreases-loop-place
decreases-loop-place l = 63 - l.place
