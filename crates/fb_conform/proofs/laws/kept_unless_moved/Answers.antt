use Rattle.fb_conform.proofs.laws.NamesAreKeptUnlessMoved.{kept_unless_moved}
use Rattle.fb_conform.proofs.laws.kept_unless_moved.Goals as goal

pub returns : goal.returns
returns c = kept_unless_moved
