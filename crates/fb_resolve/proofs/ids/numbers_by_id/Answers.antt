use Rattle.std.proofs.Common.{arith}
use Rattle.std.proofs.lemmas.Grind.{common_steps}
use Rattle.fb_resolve.specs.SlotsRead.{slots_of_field}
use Rattle.fb_resolve.proofs.ids.numbers_by_id.Goals as goal

pub loop-field-preserved : goal.loop-field-preserved
unfolding slots_of_field
loop-field-preserved c = grind (arith, common_steps)

pub returns : goal.returns
returns c = grind (arith, common_steps)

pub overflow_add-first : goal.overflow_add-first
overflow_add-first c = grind (arith, c.slot_by_id.ensures.room)
