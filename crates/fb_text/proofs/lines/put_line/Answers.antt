use Rattle.std.proofs.Common.{◌≡◌, Some, ap, ◌∙◌, arith}
use Rattle.fb_text.specs.Indents.{blanks, levels_blanks}
use Rattle.fb_text.proofs.noted.PiecesAddUp.{added_as}
use Rattle.fb_text.proofs.indents.LevelsAddUp.{blanks_levels}
use Rattle.fb_text.proofs.lines.LinesAreFronts.{next_line, first_line}
use Rattle.fb_text.proofs.lines.put_line.Goals as goal

pub returns-then-some : goal.returns-then-some
returns-then-some g c =
    let levels = c.in-Levels.levels in
    let seen : blanks c.args.indent.now ≡ Some (levels_blanks levels) =
    ap blanks c.in-Levels.is ∙ blanks_levels levels in
    rw (seen, c.if-some.true) (added_as (next_line levels (omega arith)) c.put_front.ensures)

pub returns-else-some : goal.returns-else-some
returns-else-some g c =
    let levels = c.in-Levels.levels in
    let seen : blanks c.args.indent.now ≡ Some (levels_blanks levels) =
    ap blanks c.in-Levels.is ∙ blanks_levels levels in
    rw (seen, c.if-some.false) (added_as (first_line levels (omega arith)) c.put_front-else-some.ensures)
