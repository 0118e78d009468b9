use Rattle.std.proofs.Common.{◌+◌, ◌≤◌, [], arith}
use Rattle.fb_layout.specs.Widths.{greatest}
use Rattle.fb_build.specs.TapeLaid.{tape_most}
use Rattle.fb_build.proofs.taped.PaddedToTheGreatest.{ops_low}
use Rattle.fb_build.proofs.taped_lengths.buffer_end.Goals.{in-Some, in-None}
use Rattle.fb_build.proofs.taped_lengths.buffer_end.Goals as goal

pub returns-clause-bound : goal.returns-clause-bound
returns-clause-bound c =
    let tape = c.args.tape.now in
    let lay = rw c.requires.layout at c.requires.means.lay in
    let low : tape_most tape ≤ greatest c.args.layout.now =
    ops_low c.args.layout.now tape.vtables 0 tape.room 4 [] tape.ops tape.notes tape.bytes _
    c.layout_is_well_made.ensures
    lay (omega arith) in
    let header : c.match-identifier.header ≤ 8 + c.args.front = elim c.match-identifier.branch [
      | in-Some w ↦ omega (arith, w.header-is)
      | in-None w ↦ omega (arith, w.header-is)
    ] in
    omega (arith, header, low, c.zeros_to.ensures.few, c.count_tape-laid.ensures.bound, c.count_tape-laid.ensures.most)
