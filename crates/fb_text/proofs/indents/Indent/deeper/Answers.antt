use Rattle.std.proofs.Common.{◌+◌, List, ℕ, Some, refl, sym, ap, ◌∙◌}
use Rattle.fb_text.specs.Indents.{blanks, deeper, levels_blanks}
use Rattle.fb_text.proofs.indents.LevelsAddUp.{levels_joined, deeper_behind, deeper_compact, lines_deeper}
use Rattle.fb_text.proofs.indents.LevelsAddUp.{blanks_levels, blanks_deeper, blanks_compact}
use Rattle.fb_text.proofs.indents.Indent.deeper.Goals as goal

pub returns-in-Levels : goal.returns-in-Levels
returns-in-Levels c =
    let outer = c.in-Levels.outer in
    let levels = c.args.levels in
    blanks_levels (outer + levels)
    ∙ (ap (λ (l : List ℕ). Some l) (sym (levels_joined outer levels (outer + levels) refl))
    ∙ (sym (deeper_behind levels (levels_blanks outer))
    ∙ ap (deeper levels) (sym (ap blanks c.in-Levels.is ∙ blanks_levels outer))))

pub returns-in-Levels-2 : goal.returns-in-Levels-2
returns-in-Levels-2 c =
    blanks_deeper c.args.self c.args.levels
    ∙ lines_deeper c.args.levels _ _ (ap blanks c.in-Levels-2.is ∙ blanks_levels _)

pub returns-in-Deeper : goal.returns-in-Deeper
returns-in-Deeper c =
    blanks_deeper c.args.self c.args.levels
    ∙ lines_deeper c.args.levels _ _ (ap blanks c.in-Deeper.is ∙ blanks_deeper _ _)

pub returns-in-Compact : goal.returns-in-Compact
returns-in-Compact c =
    blanks_compact
    ∙ (sym (deeper_compact c.args.levels)
    ∙ ap (deeper c.args.levels) (sym (ap blanks c.in-Compact.is ∙ blanks_compact)))
