use Rattle.std.proofs.Common.{◌≡◌, ◌∙◌, ap, sym, arith}
use Rattle.fb_explain_pages.proofs.lines.WhatIsWrittenIsLines.{page}
use Rattle.fb_explain_pages.proofs.lines.Lines.into_text.Goals as goal
use Rattle.fb_explain_pages.proofs.lines.Lines.into_text.Goals.{then-self-gt0+in_ok-end, else-self-gt0}

-- The last line has no column: it has just been ended, or had none.
none_taken : (c : goal.After-self-2) → c.self-2.inside.columns ≡ 0
none_taken c =
    ap (λ v. v.columns) c.self-2.view_is ∙ elim c.if-self-gt0.branch [
      | then-self-gt0+in_ok-end w ↦ ap (λ v. v.columns) w.self-is ∙ w.in_ok-end.ensures.begun
      | else-self-gt0 w ↦
          ap (λ v. v.columns) w.self-is ∙ sym (ap (λ v. v.columns) c.self.view_is) ∙ omega (arith, w.if-self-gt0.false)
    ]

pub returns : goal.returns
returns c = record { plain = page _ c.self-2.invariant (none_taken c) }
