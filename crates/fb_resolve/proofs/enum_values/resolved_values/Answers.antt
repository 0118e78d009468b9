use Rattle.std.proofs.Common.{◌≡◌, ◌≤◌, ◌+◌, arith, to_z, of_z, FitsSigned, rules, pos, ◌+ℤ◌}
use Rattle.std.specs.Int.{w128}
use Rattle.std.specs.Int.RustNames.{unsigned_abs}
use Rattle.std.proofs.lemmas.Int.{to_z-of_z, ints}
use Rattle.fb_syntax.specs.Integers.{greatest_magnitude}
use Rattle.fb_resolve.specs.EnumValues.{values_from}
use Rattle.std.proofs.lemmas.Grind.{common_steps}
use Rattle.fb_resolve.proofs.enum_values.resolved_values.Goals as goal

pub overflow_add-next : goal.overflow_add-next
overflow_add-next c =
    let i = c.loop-value.value-index in
    let n = c.written_number-number.result in
    let fits : FitsSigned w128 n = search rules in
    rw (to_z-of_z w128 n fits) (grind (arith, ints, c.written_number-number.ensures.near i c.loop-value.invariant.near))

pub loop-value-preserved : goal.loop-value-preserved
unfolding values_from
loop-value-preserved c =
    let i = c.loop-value.value-index in
    let n = c.written_number-number.result in
    let v = c.value-item.result in
    let near : unsigned_abs n ≤ greatest_magnitude + i =
    c.written_number-number.ensures.near i c.loop-value.invariant.near in
    let fits : FitsSigned w128 n = search rules in
    let number : to_z w128 (of_z w128 n) ≡ n = to_z-of_z w128 n fits in
    let sum : to_z w128 (of_z w128 (n +ℤ pos 1)) ≡ n +ℤ pos 1 =
    to_z-of_z w128 (n +ℤ pos 1) (grind (arith, ints, near)) in
    record {
      room = omega arith;
      so_far = rw (number, sum, c.written_number-number.ensures.number)
          (grind (arith, common_steps, c.loop-value.invariant.so_far));
      near = rw (number, sum) (grind (arith, ints, near));
    }
