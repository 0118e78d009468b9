use Rattle.std.proofs.Common.{◌++◌, ◌+◌, ◌≤◌, List, length, map, vec_len, vec_capacity}
use Rattle.std.specs.List.{AllZip}
use Rattle.fb_schema.specs.Schema.{DeclaredType}
use Rattle.fb_schema.specs.Seen.{type_seen}
use Rattle.fb_declare.specs.Declares.{AreBuildable, IsType}
use Rattle.fb_declare.proofs.types.types_of.Given as goal

abbrev pub invariant-loop-read : goal.invariant-loop-read
invariant-loop-read l = record {
  room : vec_len l.made + length l.read-iterator.rest.items ≤ vec_capacity l.made;
  left : AreBuildable l.read-iterator.rest.items;
  so_far : (later : List DeclaredType) → AllZip IsType l.read-iterator.rest.items later
      → AllZip IsType l.fn.resolved.items (map type_seen l.made.items ++ later);
}
