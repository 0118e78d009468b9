use Rattle.std.proofs.Common.{[], arith}
use Rattle.fb_owned.proofs.noting.note_root.Goals as goal

pub returns-clause-waits : goal.returns-clause-waits
returns-clause-waits c = c.in_ok-note_table.ensures.adds.waits [] c.in_ok-noting.ensures.waits

pub returns-clause-room : goal.returns-clause-room
returns-clause-room c = omega (arith, c.in_ok-note_table.ensures.adds.sum, c.in_ok-noting.ensures.room)
