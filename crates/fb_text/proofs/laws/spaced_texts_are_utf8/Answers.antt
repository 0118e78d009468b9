use Rattle.fb_text.proofs.texts.TextIsUtf8.{text_utf8}
use Rattle.fb_text.proofs.laws.FittingValuesAreUtf8.{root_spells}
use Rattle.fb_text.proofs.laws.spaced_texts_are_utf8.Goals as goal

pub returns : goal.returns
returns c = λ spacing defaults d fits.
    let L = c.args.layout.now in
    text_utf8 L c.names_are_utf8.ensures defaults spacing d (root_spells L d fits)
