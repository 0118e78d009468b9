use Rattle.std.proofs.Common.{◌≡◌, ◌++◌, map, drop, string_bytes, ◌+◌, ◌≤◌, length, vec_len, vec_capacity}
use Rattle.fb_resolve.specs.EnumValues.{value_over}
use Rattle.fb_resolve.proofs.enum_values.values_over.Given as goal

abbrev pub invariant-loop-resolved : goal.invariant-loop-resolved
invariant-loop-resolved l = record {
  room : vec_len l.read + length l.values ≤ l.resolved-index + vec_capacity l.read;
  so_far : map (λ v. (string_bytes v.0, v.1)) l.read.items
      ++ map (value_over l.base l.flags) (drop l.resolved-index l.values) ≡ map (value_over l.base l.flags) l.values;
}
