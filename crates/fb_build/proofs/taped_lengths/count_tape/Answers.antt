use Rattle.std.proofs.Common.{drop, slice_index_or}
use Rattle.fb_layout.specs.WellMade.{IsWellMade}
use Rattle.fb_build.specs.TapeLaid.{op_fields}
use Rattle.fb_build.proofs.taped.TapeFitsItsRoom.{counted, taken}
use Rattle.fb_build.proofs.taped.TapeIsLaidInTurn.{op_behind, no_op}
use Rattle.fb_build.proofs.taped_lengths.count_tape.Goals as goal

pub loop-i-preserved : goal.loop-i-preserved
loop-i-preserved c =
    let op = slice_index_or c.ops-ops.result.now c.loop-i.i no_op in
    let cons = op_behind c.ops-ops.result.now c.loop-i.i c.loop-i-test.true in
    let so_far = rw cons at c.loop-i.invariant.counted in
    let most = rw cons at c.loop-i.invariant.most in
    let made : IsWellMade c.args.tape.now.layout = rw c.requires.layout c.layout_is_well_made.ensures in
    let known = c.count_op-counted.ensures.known in
    let own = taken made so_far.counted in
    let laid = rw (← own) at (c.count_op-counted.ensures.laid _ _ _ _ _ so_far.counted.lay.lays) in
    record {
      counted = record {
        notes = drop (op_fields op) so_far.notes;
        counted = rw (known, laid) (counted made so_far.counted);
        long = rw (known, laid) so_far.long;
      };
      most = rw c.count_op-counted.ensures.most most;
      power = c.count_op-counted.ensures.power;
    }
