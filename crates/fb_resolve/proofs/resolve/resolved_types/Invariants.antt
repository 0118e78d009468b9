use Rattle.std.proofs.Common.{◌≡◌, ◌++◌, ◌+◌, ◌≤◌, drop, length, map, vec_len, vec_capacity}
use Rattle.fb_resolve.specs.Resolved.{resolved_type, resolved_types}
use Rattle.fb_resolve.proofs.resolve.resolved_types.Given as goal

abbrev pub invariant-loop-number : goal.invariant-loop-number
invariant-loop-number l = record {
  room : vec_len l.resolved + length l.types ≤ l.number + vec_capacity l.resolved;
  so_far : l.resolved.items ++ map (resolved_type l.types) (drop l.number l.types) ≡ resolved_types l.types;
}
