use Rattle.std.proofs.Common.{◌≡◌, take}
use Rattle.std.specs.List.{flat_map}
use Rattle.fb_declare.specs.Faults.{least_of}
use Rattle.fb_declare.specs.FaultRows.{faults_in_turn}
use Rattle.fb_declare.specs.NameSet.{is_met, AreMet}
use Rattle.fb_declare.specs.TypeFaults.{names_of_field, field_behind}
use Rattle.fb_declare.proofs.field_faults.fields_fault.Given as goal

abbrev pub invariant-loop-field : goal.invariant-loop-field
invariant-loop-field l = record {
  least : l.least ≡ least_of (faults_in_turn (field_behind (is_met l.declared) l.host) (take l.field-index l.fields));
  met : AreMet l.met (flat_map (names_of_field l.host) (take l.field-index l.fields));
}
