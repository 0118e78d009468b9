use Rattle.std.proofs.lemmas.Str.{chars-nil}
use Rattle.fb_explain_pages.proofs.lines.WhatIsWrittenIsLines.{nothing}
use Rattle.fb_explain_pages.proofs.lines.Lines.new.Goals as goal

pub invariant_of-result : goal.invariant_of-result
invariant_of-result c = rw (c.new.ensures.bytes, chars-nil) nothing
