use Rattle.std.proofs.Common.{◌≡◌, ◌++◌, ◌+◌, ◌≤◌, drop, length, vec_len, vec_capacity}
use Rattle.std.specs.Option.{option_copied}
use Rattle.fb_resolve.specs.Resolved.{resolved_fields}
use Rattle.fb_resolve.proofs.type_uses.Scope.resolved_fields.Given as goal

abbrev pub invariant-loop-number : goal.invariant-loop-number
invariant-loop-number l = let resolved = resolved_fields l.self.types.now (option_copied l.self.name) in record {
  room : vec_len l.resolved + length l.fields ≤ l.number + vec_capacity l.resolved;
  so_far : l.resolved.items ++ resolved (drop l.number l.fields) ≡ resolved l.fields;
}
