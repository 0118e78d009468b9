use Rattle.std.proofs.Common.{◌∙◌}
use Rattle.fb_text.specs.Writes.{state_of}
use Rattle.fb_text.proofs.noted.PiecesAddUp.{then}
use Rattle.fb_text.proofs.text.TextIsPrintedWhole.{nothing_stands}
use Rattle.fb_text.proofs.text.write_shown.Goals as goal

pub returns-clause-written : goal.returns-clause-written
returns-clause-written g c d shows =
    let value = rw (c.edge-edge.ensures, c.root.ensures, c.schema.ensures.schema) at (c.put_value.ensures d shows) in
    let end = rw c.edge-edge.ensures at c.put_line.ensures in
    let begun = nothing_stands (state_of g.W.Write.contents c.begin.new.self) (c.begin.ensures.still ∙ c.requires)
    c.begin.ensures.pending c.begin.ensures.written in
    rw c.begin.ensures.same at (c.finish.ensures.written _ _ ((then value end).adds _ _ begun))
