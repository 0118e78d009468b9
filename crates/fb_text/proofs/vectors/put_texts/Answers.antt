use Rattle.std.proofs.Common.{◌≡◌, add-one, sym, ◌∙◌, arith}
use Rattle.fb_value.specs.Datum.{a_text, count}
use Rattle.fb_read.specs.TypedItems.{nth_text}
use Rattle.fb_text.specs.Indents.{blanks}
use Rattle.fb_text.proofs.noted.PiecesAddUp.{then, added_as, added_failed}
use Rattle.fb_text.proofs.values.OneMemberMore.{items_step, items_end}
use Rattle.fb_text.proofs.vectors.put_texts.Goals as goal

pub loop-i-preserved : goal.loop-i-preserved
loop-i-preserved g c L defaults kind ds are end rest =
    let i = c.loop-i.i in
    let there = are.each i (omega (arith, c.loop-i-test.true, c.count-i-end.ensures)) in
    let step = items_step L defaults (blanks c.inside-inner.result) (blanks c.args.indent.now) kind c.loop-i.some ds i
    (a_text (nth_text c.args.texts i)) there in
    let text = rw c.text.ensures at c.put_quoted.ensures in
    c.loop-i.invariant L defaults kind ds are end
    (added_as step (then c.put_line.ensures (then text (rw add-one at rest))))

pub returns : goal.returns
returns g c L defaults kind ds are =
    let over : c.loop-i.i ≡ count ds =
    omega (arith, c.loop-i.auto.i-end, c.loop-i-test.false, c.count-i-end.ensures, are.count) in
    let end = items_end L defaults (blanks c.inside-inner.result) (blanks c.args.indent.now) kind c.loop-i.some ds
    c.loop-i.i over in
    rw c.inside-inner.ensures at
    (c.loop-i.invariant L defaults kind ds are _ (added_as end (then c.put_closing.ensures c.put_str.ensures)))

-- where a write failed, whatever is left may be left out
pub returns-then-failed : goal.returns-then-failed
returns-then-failed g c L defaults kind ds are =
    rw c.inside-inner.ensures at
    (c.loop-i.invariant L defaults kind ds are _ (added_failed _ _ (sym c.failed.ensures ∙ c.if-failed.true)))
