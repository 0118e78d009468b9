use Rattle.std.proofs.Common.{arith}
use Rattle.std.proofs.lemmas.List.{drop_all}
use Rattle.std.proofs.lemmas.Grind.{common_steps}
use Rattle.fb_value.proofs.types.EachVariantHasItsView.{view-Items, view-Fields, count-parts_view}
use Rattle.fb_owned.proofs.counts.+count.Goals as goal

pub count-returns-in-Items : goal.count-returns-in-Items
count-returns-in-Items t c =
    let many = count-parts_view c.in-Items.items.items in
    rw (c.in-Items.is, view-Items) (record {
      cells = grind (arith, common_steps);
      depth = grind (arith, common_steps);
      whole = grind (arith, common_steps);
    })

pub count-returns-in-Fields : goal.count-returns-in-Fields
count-returns-in-Fields t c =
    rw (c.in-Fields.is, view-Fields) (record {
      cells = grind (arith, common_steps);
      depth = grind (arith, common_steps);
      whole = grind (arith, common_steps);
    })

pub count_entries-returns : goal.count_entries-returns
count_entries-returns t c =
    let done = drop_all c.loop-entry.entry-index c.args.entries.now (omega arith) in
    let cells = rw done at c.loop-entry.invariant.cells in
    let depth = rw done at c.loop-entry.invariant.depth in
    let whole = rw done at c.loop-entry.invariant.whole in
    record { cells = omega arith; depth = omega arith; whole = grind (arith, common_steps) }

pub count_parts-returns : goal.count_parts-returns
count_parts-returns t c =
    let done = drop_all c.loop-part.part-index c.args.parts.now (omega arith) in
    let cells = rw done at c.loop-part.invariant.cells in
    let depth = rw done at c.loop-part.invariant.depth in
    let whole = rw done at c.loop-part.invariant.whole in
    record { cells = omega arith; depth = omega arith; whole = grind (arith, common_steps) }
