use Rattle.fb_pieces.proofs.laws.ReadTextClosesItsStrings.{run-closed}
use Rattle.fb_pieces.proofs.laws.read_run_ends_outside.Goals as goal

pub returns : goal.returns
returns c = run-closed
