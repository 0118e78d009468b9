use Rattle.std.proofs.Common.{◌≡◌, ◌++◌, Bool, true, false, List, ℕ, [], Option, codes, if◌then◌else◌, rules, refl, sym}
use Rattle.std.proofs.Common.{ap, ◌∙◌, append_assoc}
use Rattle.std.specs.Option.{unwrap_or}
use Rattle.fb_text.specs.Indents.{blanks}
use Rattle.fb_text.specs.Texts.{line}
use Rattle.fb_text.proofs.indents.LevelsAddUp.{blanks_compact, lines_of}
use Rattle.fb_text.proofs.noted.PiecesAddUp.{then as joined, added_as}
use Rattle.fb_text.proofs.lines.put_far_line.Goals as goal

comma : (some : Bool) → (if some then codes "," else []) ≡ (if some then codes "," else []) ++ []
comma true = refl
comma false = refl

comma_line : (some : Bool) → (if some then codes ",\n" else codes "\n") ≡ (if some then codes "," else []) ++ codes "\n"
comma_line true = refl
comma_line false = refl

pub returns-in-Compact : goal.returns-in-Compact
returns-in-Compact g c =
    let piece : c.if-some.put_str.now ≡ (if c.args.some then codes "," else []) = search rules in
    added_as (piece ∙ (comma c.args.some
    ∙ ap (λ (o : Option (List ℕ)). line o c.args.some) (sym (ap blanks c.in-Compact.is ∙ blanks_compact))))
    c.put_str.ensures

pub returns : goal.returns
returns g c =
    let piece : c.if-some-2.put_str.now ≡ (if c.args.some then codes ",\n" else codes "\n") = search rules in
    let behind = unwrap_or (blanks c.args.indent.now) [] in
    added_as (ap (λ (l : List ℕ). l ++ behind) (piece ∙ comma_line c.args.some)
    ∙ (append_assoc (if c.args.some then codes "," else []) (codes "\n") behind
    ∙ ap (λ (o : Option (List ℕ)). line o c.args.some) (sym (lines_of c.args.indent.now c.in_default.not-Compact))))
    (joined c.put_str-2.ensures c.put_blanks.ensures)
