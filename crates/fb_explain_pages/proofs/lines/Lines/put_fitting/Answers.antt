use Rattle.std.proofs.Common.{rules}
use Rattle.std.proofs.lemmas.Str.{IsUtf8-string_bytes}
use Rattle.fb_explain_pages.proofs.lines.WhatIsWrittenIsLines.{chars-push, character_added}
use Rattle.fb_explain_pages.proofs.lines.Lines.put_fitting.Goals as goal

pub invariant_of-self-2 : goal.invariant_of-self-2
invariant_of-self-2 c =
    rw (
      c.in_ok-push.ensures.bytes,
      chars-push _ c.args.character
          (IsUtf8-string_bytes c.self.inside.text) c.ranges.character.0,
      c.requires.taken,
    )
    (character_added _ c.args.character (search rules) (search rules) c.self.invariant)
