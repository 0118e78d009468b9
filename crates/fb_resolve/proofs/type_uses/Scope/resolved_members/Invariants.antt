use Rattle.std.proofs.Common.{◌≡◌, ◌++◌, ◌+◌, ◌≤◌, drop, length, map, vec_len, vec_capacity}
use Rattle.std.specs.Option.{option_copied}
use Rattle.fb_resolve.specs.Resolved.{resolved_member}
use Rattle.fb_resolve.proofs.type_uses.Scope.resolved_members.Given as goal

abbrev pub invariant-loop-number : goal.invariant-loop-number
invariant-loop-number l = let resolved = resolved_member l.self.types.now (option_copied l.self.name) in record {
  room : vec_len l.resolved + length l.members ≤ l.number + vec_capacity l.resolved;
  so_far : l.resolved.items ++ map resolved (drop l.number l.members) ≡ map resolved l.members;
}
