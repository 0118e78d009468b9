use Rattle.std.proofs.Common.{◌≡◌, ◌++◌, map, drop, ◌+◌, ◌≤◌, length, vec_len, vec_capacity}
use Rattle.fb_schema.specs.Seen.{field_seen}
use Rattle.fb_resolve.specs.StructsRead.{parts_from}
use Rattle.fb_resolve.proofs.structs.parts_read.Given as goal

abbrev pub invariant-loop-number : goal.invariant-loop-number
invariant-loop-number l = record {
  room : vec_len l.parts + length l.fields ≤ l.number + vec_capacity l.parts;
  so_far : map field_seen l.parts.items ++ parts_from l.number (drop l.number l.fields) ≡ parts_from 0 l.fields;
}
