use Rattle.std.proofs.lemmas.List.{take_rest}
use Rattle.flatc_files.proofs.window.next_feed.Goals as goal

pub returns : goal.returns
returns c = rw (take_rest c.args.bytes.now c.args.from) at c.first_feed.ensures
