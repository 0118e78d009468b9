use Rattle.std.proofs.Common.{List, ℕ, [], Option, sym, ap, ◌∙◌}
use Rattle.std.specs.Option.{unwrap_or}
use Rattle.fb_text.specs.Indents.{blanks}
use Rattle.fb_text.proofs.noted.PiecesAddUp.{then, added_as}
use Rattle.fb_text.proofs.indents.LevelsAddUp.{blanks_deeper}
use Rattle.fb_text.proofs.lines.+put_blanks.Goals as goal

pub returns-in-Deeper : goal.returns-in-Deeper
returns-in-Deeper g t c =
    added_as (ap (λ (o : Option (List ℕ)). unwrap_or o [])
    (sym (blanks_deeper c.in-Deeper.outer c.in-Deeper.levels) ∙ sym (ap blanks c.in-Deeper.is)))
    (then c.put_blanks.ensures c.put_levels-in-Deeper.ensures)
