use Rattle.std.proofs.Common.{◌≡◌, ◌+◌, ◌≤◌, [], take, length, vec_len, vec_capacity}
use Rattle.fb_declare.specs.Faults.{least_of}
use Rattle.fb_declare.specs.FaultRows.{faults_in_turn}
use Rattle.fb_declare.specs.NameSet.{is_met}
use Rattle.fb_declare.specs.TypeFaults.{aligns_from, type_behind}
use Rattle.fb_declare.proofs.types.types_fault.Given as goal

abbrev pub invariant-loop-number : goal.invariant-loop-number
invariant-loop-number l = record {
  room : vec_len l.lower + length l.types ≤ l.number + vec_capacity l.lower;
  least : l.least ≡ least_of (faults_in_turn (type_behind l.resolved.outline.now.types (is_met l.declared))
      (take l.number l.types));
  lower : l.lower.items ≡ aligns_from l.resolved.outline.now.types [] (take l.number l.types);
}
