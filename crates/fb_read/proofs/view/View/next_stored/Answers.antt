use Rattle.fb_read.proofs.entry.EntryIsWhatWasFound.{entry_unset}
use Rattle.fb_read.proofs.view.View.next_stored.Goals as goal

pub returns-clause-unset : goal.returns-clause-unset
returns-clause-unset c d k s lies low past there =
    entry_unset c.args.self.layout.now c.args.self.bytes.now c.args.self.table.0 c.args.self.at d k s lies there
    (c.next_stored.ensures.unset k low past)
