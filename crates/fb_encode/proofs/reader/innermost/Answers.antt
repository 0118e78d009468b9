use Rattle.std.proofs.Common.{◌∙◌, ap, sym, arith}
use Rattle.serde_json.specs.View.{view as tree_view}
use Rattle.fb_pieces.specs.InBrackets.{in_arrays}
use Rattle.fb_encode.proofs.reader.TextInBrackets.{arrays_more, one_element}
use Rattle.fb_encode.proofs.reader.innermost.Goals as goal

pub loop-preserved : goal.loop-preserved
loop-preserved c =
    let inner = c.index-inner.result.now in
    let one = one_element (tree_view c.loop.inner.now) c.in_ok-elements.elements.now.items inner
    c.in_ok-elements.ensures (omega (arith, c.len.ensures)) c.index-inner.ensures in
    c.loop.invariant ∙ ap (in_arrays c.loop.counter) one ∙ sym (arrays_more c.loop.counter (tree_view inner))
