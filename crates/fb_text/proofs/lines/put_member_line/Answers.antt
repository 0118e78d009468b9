use Rattle.std.proofs.Common.{◌≡◌, [], ◌++◌, Bool, true, false, None, codes, if◌then◌else◌, refl, ap, ◌∙◌, rules}
use Rattle.fb_text.specs.Indents.{blanks}
use Rattle.fb_text.specs.Texts.{colon}
use Rattle.fb_text.proofs.noted.PiecesAddUp.{then as joined, added_as}
use Rattle.fb_text.proofs.indents.LevelsAddUp.{blanks_compact, lines_of}
use Rattle.fb_text.proofs.lines.MemberLineHasPieces.{pieces}
use Rattle.fb_text.proofs.lines.put_member_line.Goals as goal

compact_tail : (is_code : Bool)
    → (if is_code then codes "_type\":" else codes "\":") ≡ (if is_code then codes "_type" else []) ++ codes "\":"
compact_tail true = refl
compact_tail false = refl

pub returns-in-Compact : goal.returns-in-Compact
returns-in-Compact g c =
    let seen : blanks c.args.indent.now ≡ None = ap blanks c.in-Compact.is ∙ blanks_compact in
    let ending : c.if-is_code.ending.now ≡ (if c.args.is_code then codes "_type\":" else codes "\":") = search rules in
    added_as (pieces (blanks c.args.indent.now) c.args.some _ _ _ (rw seen (ending ∙ compact_tail c.args.is_code)))
    (joined c.put_line.ensures c.put_three.ensures)

pub returns-then-is_code-2 : goal.returns-then-is_code-2
returns-then-is_code-2 g c =
    let mark : colon (blanks c.args.indent.now) ≡ codes "\": " =
    ap colon (lines_of c.args.indent.now c.in_default.not-Compact) in
    added_as (pieces (blanks c.args.indent.now) c.args.some _ _ _ (rw (c.if-is_code-2.true, mark) refl))
    (joined c.put_line.ensures c.put_three-then-is_code-2.ensures)

pub returns : goal.returns
returns g c =
    let mark : colon (blanks c.args.indent.now) ≡ codes "\": " =
    ap colon (lines_of c.args.indent.now c.in_default.not-Compact) in
    added_as (pieces (blanks c.args.indent.now) c.args.some _ _ _ (rw (c.if-is_code-2.false, mark) refl))
    (joined c.put_line.ensures c.put_three-2.ensures)
