use Rattle.std.proofs.Common.{Some, ap, ◌∙◌}
use Rattle.fb_value.specs.View.{view, parts_view, entries_view}
use Rattle.fb_value.proofs.types.EachVariantHasItsView.{view-Items, view-Fixed, view-Fields, view-Member}
use Rattle.fb_owned.proofs.shown_values.top_of.Goals as goal

pub returns-in-Items-clause-top : goal.returns-in-Items-clause-top
returns-in-Items-clause-top c =
    (parts_view c.in-Items.field-0.items, ap Some (ap view c.in-Items.is ∙ view-Items c.in-Items.field-0))

pub returns-in-Fixed-clause-top : goal.returns-in-Fixed-clause-top
returns-in-Fixed-clause-top c =
    (parts_view c.in-Fixed.field-0.items, ap Some (ap view c.in-Fixed.is ∙ view-Fixed c.in-Fixed.field-0))

pub returns-in-Fields-clause-top : goal.returns-in-Fields-clause-top
returns-in-Fields-clause-top c = (
  entries_view c.in-Fields.field-1.items,
  ap Some (ap view c.in-Fields.is ∙ view-Fields c.in-Fields.owner c.in-Fields.field-1),
)

pub returns-in-Member-clause-top : goal.returns-in-Member-clause-top
returns-in-Member-clause-top c = (
  view c.in-Member.field-1.value,
  ap Some (ap view c.in-Member.is ∙ view-Member c.in-Member.code c.in-Member.field-1),
)
