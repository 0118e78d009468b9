use mir.Facts.{to_z-of_z}
use Rattle.std.proofs.Common.{◌≡◌, add-one, sym, ◌∙◌, arith, rules}
use Rattle.std.specs.Prelude.{FitsSigned}
use Rattle.std.specs.Int.{w128}
use Rattle.fb_value.specs.Datum.{a_number, count}
use Rattle.fb_read.specs.TypedItems.{nth_number}
use Rattle.fb_text.specs.Indents.{blanks}
use Rattle.fb_text.proofs.noted.PiecesAddUp.{then, added_as, added_failed}
use Rattle.fb_text.proofs.values.OneMemberMore.{items_step, items_end}
use Rattle.fb_text.proofs.vectors.put_numbers.Goals as goal

pub loop-i-preserved : goal.loop-i-preserved
loop-i-preserved g c defaults ds are end rest =
    let L = c.args.layout.now in
    let i = c.loop-i.i in
    let there = are.each i (omega (arith, c.loop-i-test.true, c.count-i-end.ensures)) in
    let step = items_step L defaults (blanks c.inside-inner.result) (blanks c.args.indent.now) c.args.kind
    c.loop-i.some ds i (a_number (nth_number c.args.numbers i)) there in
    let text = rw c.schema.ensures.schema at (c.of_many-form.ensures (nth_number c.args.numbers i)) in
    let fits : FitsSigned w128 c.number.result = search (rules, c.number.type_inv) in
    let number = rw (to_z-of_z {w = w128} {z = c.number.result} fits, c.number.ensures) at c.put.ensures in
    c.loop-i.invariant defaults ds are end
    (added_as step (then c.put_line.ensures
    (then (added_as text number) (rw add-one at rest))))

pub returns : goal.returns
returns g c defaults ds are =
    let L = c.args.layout.now in
    let over : c.loop-i.i ≡ count ds =
    omega (arith, c.loop-i.auto.i-end, c.loop-i-test.false, c.count-i-end.ensures, are.count) in
    let end = items_end L defaults (blanks c.inside-inner.result) (blanks c.args.indent.now) c.args.kind
    c.loop-i.some ds c.loop-i.i over in
    rw c.inside-inner.ensures at
    (c.loop-i.invariant defaults ds are _ (added_as end (then c.put_closing.ensures c.put_str.ensures)))

-- where a write failed, whatever is left may be left out
pub returns-then-failed : goal.returns-then-failed
returns-then-failed g c defaults ds are =
    rw c.inside-inner.ensures at
    (c.loop-i.invariant defaults ds are _ (added_failed _ _ (sym c.failed.ensures ∙ c.if-failed.true)))
