use Rattle.std.proofs.Common.{◌≡◌, map, take}
use Rattle.fb_declare.specs.Faults.{least_of}
use Rattle.fb_declare.specs.AttributeFaults.{metadata_faults}
use Rattle.fb_declare.specs.NameSet.{is_met, AreMet}
use Rattle.fb_declare.proofs.attribute_faults.fault_of_many.Given as goal

abbrev pub invariant-loop-attribute : goal.invariant-loop-attribute
invariant-loop-attribute l = record {
  least : l.least ≡ least_of (metadata_faults (is_met l.declared) l.host (take l.attribute-index l.attributes));
  met : AreMet l.met (map (λ a. a.name.bytes) (take l.attribute-index l.attributes));
}
