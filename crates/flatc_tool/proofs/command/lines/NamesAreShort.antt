-- No fault has a long name, so that its line has room on the stack.
use Rattle.std.proofs.Common.{◌≤◌, length, rules}
use Rattle.fb_faults.specs.declared.faults.ToolFault.{ToolFault}
use Rattle.fb_faults.specs.FaultTable.{name_of}

pub name_is_short : (f : ToolFault) → length (name_of f) ≤ 40
name_is_short f = search rules
