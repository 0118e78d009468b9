use Rattle.fb_build.proofs.covered.ChunksJoin.{join_shown}
use Rattle.fb_build.proofs.laws.chunks_join.Goals as goal

pub returns : goal.returns
returns c = join_shown
