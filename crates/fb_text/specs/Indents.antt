-- The blanks in front of a line: two for each level.
use Rattle.std.specs.Prelude.{List, ℕ, zero, suc, [], ◌++◌, codes, Option, None, Some}
use Rattle.std.specs.Option.{unwrap_or}
use Rattle.fb_text.specs.declared.indents.Indent.{Indent, fold-Indent}
use Rattle.fb_text.specs.declared.indents.Indent.TheOpen.{Indent-F}
use Rattle.fb_text.specs.Texts.{inside}

-- so many levels deeper
abbrev pub deeper : ℕ → Option (List ℕ) → Option (List ℕ)
deeper zero indent = indent
deeper (suc n) indent = deeper n (inside indent)

-- the blanks of so many levels
abbrev pub levels_blanks : ℕ → List ℕ
levels_blanks zero = []
levels_blanks (suc n) = codes "  " ++ levels_blanks n

-- what an indent adds to the outer one, which is already seen
abbrev pub indent_step : Indent-F (Option (List ℕ)) → Option (List ℕ)
indent_step Indent-F.Compact = None
indent_step (Indent-F.Levels levels) = Some (levels_blanks levels)
indent_step (Indent-F.Deeper outer levels) = Some (unwrap_or outer.now [] ++ levels_blanks levels)

-- the blanks of a line; none in a compact text
abbrev pub blanks : Indent → Option (List ℕ)
blanks = fold-Indent (Option (List ℕ)) indent_step
