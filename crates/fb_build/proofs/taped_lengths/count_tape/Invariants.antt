use Rattle.std.proofs.Common.{◌≡◌, drop}
use Rattle.fb_layout.specs.Sizes.{IsAlignment}
use Rattle.fb_build.specs.TapeLaid.{IsCountedSoFar, ops_most, tape_most}
use Rattle.fb_build.proofs.taped_lengths.count_tape.Given as goal

abbrev pub invariant-loop-i : goal.invariant-loop-i
invariant-loop-i l = record {
  counted : IsCountedSoFar l.tape (drop l.i l.ops) l.counted.known l.counted.laid;
  most : ops_most (drop l.i l.ops) l.counted.most ≡ tape_most l.tape;
  power : IsAlignment l.counted.most;
}
