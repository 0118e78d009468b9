use Rattle.std.proofs.Common.{length}
use Rattle.fb_inspect.proofs.listing.FaultIsListed.{fault_is_listed}
use Rattle.fb_inspect.proofs.listing.Listing.of.Goals as goal

pub returns-clause-faulty : goal.returns-clause-faulty
returns-clause-faulty c =
    fault_is_listed (length c.args.bytes.now) c.collect-notes.result.1 _ c.in_ok-pieces.pieces.items
    c.in_ok-pieces.ensures.kept
