use Rattle.std.proofs.Common.{◌≡◌, ◌≤◌, ◌+◌, ◌++◌, drop, length, vec_len, vec_capacity}
use Rattle.std.specs.Int.RustNames.{unsigned_abs}
use Rattle.fb_syntax.specs.Integers.{greatest_magnitude}
use Rattle.fb_resolve.specs.EnumValues.{values_from, resolved_values}
use Rattle.fb_resolve.proofs.enum_values.resolved_values.Given as goal

abbrev pub invariant-loop-value : goal.invariant-loop-value
invariant-loop-value l = record {
  room : vec_len l.resolved + length l.values ≤ l.value-index + vec_capacity l.resolved;
  so_far : l.resolved.items ++ values_from l.next (drop l.value-index l.values) ≡ resolved_values l.values;
  near : unsigned_abs l.next ≤ greatest_magnitude + l.value-index;
}
