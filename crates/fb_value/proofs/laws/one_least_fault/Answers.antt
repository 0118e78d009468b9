use Rattle.fb_value.proofs.laws.LeastFaultIsOne.{one_least_fault_shown}
use Rattle.fb_value.proofs.laws.one_least_fault.Goals as goal

pub returns : goal.returns
returns c = one_least_fault_shown
