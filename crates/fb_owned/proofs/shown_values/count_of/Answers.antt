use Rattle.std.proofs.Common.{arith}
use Rattle.fb_value.proofs.types.EachVariantHasItsView.{view-Items, count-parts_view}
use Rattle.fb_owned.proofs.shown_values.count_of.Goals as goal

pub returns-in-Items : goal.returns-in-Items
returns-in-Items c =
    rw (c.in-Items.is, view-Items c.in-Items.items)
    (omega (arith, count-parts_view c.in-Items.items.items, c.len.ensures))
