use Rattle.fb_text.specs.declared.indents.Spacing.TheVariants.{Indented}
use Rattle.fb_text.proofs.laws.texts_are_utf8.Goals as goal

pub returns : goal.returns
returns c = λ defaults d fits. c.spaced_texts_are_utf8.ensures Indented defaults d fits
