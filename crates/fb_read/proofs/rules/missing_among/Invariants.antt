use Rattle.std.proofs.Common.{◌≡◌, drop}
use Rattle.fb_layout.specs.Laid.{LaidSchema}
use Rattle.fb_read.specs.Visits.{first_unset}
use Rattle.fb_read.proofs.rules.missing_among.Given as goal

abbrev pub invariant-loop-slot : goal.invariant-loop-slot
invariant-loop-slot l = (L : LaidSchema) → first_unset L l.bytes l.at l.slots (drop l.slot-index l.required)
    ≡ first_unset L l.bytes l.at l.slots l.required
