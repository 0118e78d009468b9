use Rattle.std.proofs.Common.{map, take, ◌+◌, ◌≤◌, length, vec_len, vec_capacity}
use Rattle.fb_resolve.specs.Paths.{AreNoted}
use Rattle.fb_resolve.proofs.walk.uses_in.Given as goal

abbrev pub invariant-loop-user : goal.invariant-loop-user
invariant-loop-user g l = record {
  room : vec_len l.uses + length l.users ≤ l.user-index + vec_capacity l.uses;
  noted : AreNoted l.fn.used l.used l.uses.items (map g.T.UsesType.name (take l.user-index l.users));
}
