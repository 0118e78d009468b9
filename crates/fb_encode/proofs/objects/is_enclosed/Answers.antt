use Rattle.std.proofs.Common.{◌∙◌, sym}
use Rattle.fb_encode.proofs.outlines.BracketIsOfItsContainer.{not_null}
use Rattle.fb_encode.proofs.objects.is_enclosed.Goals as goal

pub returns : goal.returns
returns c is = not_null c.args.text.now c.container_of.result c.container_of.ensures (sym c.is_some.ensures ∙ is)
