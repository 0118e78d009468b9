use Rattle.fb_declare.proofs.Least.{least_of_append}
use Rattle.fb_declare.proofs.root.root_fault.Goals as goal

pub returns : goal.returns
returns c =
    rw (
      c.in-Some.is,
      ← c.root.view_is,
      least_of_append,
      c.earlier_fault.ensures,
      c.use_fault.ensures,
      c.fault_if-bad_root.ensures,
    )
    cc
