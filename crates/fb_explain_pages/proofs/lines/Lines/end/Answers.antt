use Rattle.std.proofs.Common.{refl}
use Rattle.std.proofs.lemmas.Str.{IsUtf8-string_bytes}
use Rattle.fb_explain_pages.proofs.lines.WhatIsWrittenIsLines.{chars-push, line_ended}
use Rattle.fb_explain_pages.proofs.lines.Lines.end.Goals as goal

pub invariant_of-self-2 : goal.invariant_of-self-2
invariant_of-self-2 c =
    rw (c.in_ok-push.ensures.bytes, chars-push _ 10 (IsUtf8-string_bytes c.self.inside.text) refl)
    (line_ended _ c.self.invariant)
