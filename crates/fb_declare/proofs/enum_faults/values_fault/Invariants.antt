use Rattle.std.proofs.Common.{◌≡◌, ℤ, map, take}
use Rattle.std.specs.List.{list_any}
use Rattle.std.specs.Ordering.{int_eq}
use Rattle.fb_declare.specs.Faults.{least_of}
use Rattle.fb_declare.specs.FaultRows.{faults_in_turn}
use Rattle.fb_declare.specs.EnumFaults.{value_faults}
use Rattle.fb_declare.proofs.enum_faults.values_fault.Given as goal

abbrev pub invariant-loop-place : goal.invariant-loop-place
invariant-loop-place l = record {
  least : l.least ≡ least_of (faults_in_turn (value_faults l.base l.flags) (take l.place l.values));
  numbers : (n : ℤ) → list_any (int_eq n) l.numbers.keys ≡ list_any (int_eq n)
      (map (λ v. v.number) (take l.place l.values));
}
