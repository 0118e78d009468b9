use Rattle.std.proofs.Common.{◌≡◌, map, take}
use Rattle.fb_declare.specs.Faults.{least_of}
use Rattle.fb_declare.specs.FaultRows.{faults_in_turn, member_faults}
use Rattle.fb_declare.specs.NameSet.{AreMet}
use Rattle.fb_declare.proofs.unions.members_fault.Given as goal

abbrev pub invariant-loop-number : goal.invariant-loop-number
invariant-loop-number l = record {
  least : l.least ≡ least_of (faults_in_turn member_faults (take l.number l.members));
  met : AreMet l.met (map (λ m. m.name.bytes) (take l.number l.members));
}
