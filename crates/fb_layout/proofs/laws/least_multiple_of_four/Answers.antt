use Rattle.std.proofs.Common.{arith}
use Rattle.fb_layout.proofs.laws.NextMultipleIsTheLeast.{next-least}
use Rattle.fb_layout.proofs.slots.NarrowTablesAreKnown.{ceil-is}
use Rattle.fb_layout.proofs.laws.least_multiple_of_four.Goals as goal

pub returns : goal.returns
returns c n = rw (← (ceil-is n)) (next-least 4 n (omega arith))
