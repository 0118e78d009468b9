use Rattle.std.proofs.Common.{◌≡◌, ◌+◌, drop, map, max}
use Rattle.fb_schema.specs.Alignments.{greatest_in}
use Rattle.fb_tape.specs.StoredTables.{taken}
use Rattle.fb_tape.proofs.stored_tables.extent_of.Given as goal

abbrev pub invariant-loop-i : goal.invariant-loop-i
invariant-loop-i l = record {
  size : l.size + taken (drop l.i l.opened) ≡ taken (drop l.first l.opened);
  align : max l.align (greatest_in (map (λ x. x.align) (drop l.i l.opened)))
      ≡ max 4 (greatest_in (map (λ x. x.align) (drop l.first l.opened)));
}
