use Rattle.fb_build.proofs.covered.ExampleBuffersAreCovered.{seven_covered, empty_covered, identified_covered}
use Rattle.fb_build.proofs.covered.ExampleBuffersAreCovered.{pair_covered, member_covered, seven_aligned}
use Rattle.fb_build.proofs.covered.ExampleStructsAreCovered.{struct_covered, wide_covered, bools_covered}
use Rattle.fb_build.proofs.covered.ExampleStructsAreCovered.{struct_aligned, wide_aligned}
use Rattle.fb_build.proofs.laws.examples_are_covered.Goals as goal

pub returns : goal.returns
returns c = record {
  seven = seven_covered;
  empty = empty_covered;
  identified = identified_covered;
  pair = pair_covered;
  member = member_covered;
  struct = struct_covered;
  wide = wide_covered;
  bools = bools_covered;
  seven_aligned = seven_aligned;
  struct_aligned = struct_aligned;
  wide_aligned = wide_aligned;
}
