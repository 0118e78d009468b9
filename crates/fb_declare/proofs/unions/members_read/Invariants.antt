use Rattle.std.proofs.Common.{◌≡◌, ◌++◌, ◌+◌, ◌≤◌, length, map, string_bytes, vec_len, vec_capacity}
use Rattle.fb_resolve.specs.MembersRead.{member_read}
use Rattle.fb_declare.proofs.unions.members_read.Given as goal

abbrev pub invariant-loop-member : goal.invariant-loop-member
invariant-loop-member l = record {
  room : vec_len l.read + length l.member-iterator.rest.items ≤ vec_capacity l.read;
  read : map (λ m. (string_bytes m.0, m.1.0)) l.read.items
      ++ map member_read l.member-iterator.rest.items ≡ map member_read l.fn.members.items;
}
