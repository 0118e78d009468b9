use Rattle.std.proofs.Common.{refl, sym, ◌∙◌}
use Rattle.std.proofs.KnownBytes.{Appends-nil}
use Rattle.fb_json.specs.Meant.{type_place}
use Rattle.fb_text.specs.Texts.{spaced_text}
use Rattle.fb_text.proofs.texts.WholeWhereEachUnionIsNamed.{named_whole, unnamed_part}
use Rattle.fb_text.proofs.values.MemberIsItsCodeAndValue.{never_unnamed}
use Rattle.fb_text.proofs.text.TextIsPrintedWhole.{some_text, whole_printed}
use Rattle.fb_text.proofs.text.write_spaced.Goals as goal

pub returns-in-Some-clause-printed : goal.returns-in-Some-clause-printed
returns-in-Some-clause-printed g c d lies =
    let found = c.unnamed_in.ensures d lies in (
      unnamed_part (type_place c.args.view.now.table.0) c.in-Some.unnamed d (sym c.in-Some.is ∙ found),
      sym found ∙ c.in-Some.is,
    )

pub returns-then-failed-clause-printed : goal.returns-then-failed-clause-printed
returns-then-failed-clause-printed g c d lies =
    let found = c.unnamed_in.ensures d lies in
    let whole = named_whole (type_place c.args.view.now.table.0) d (sym c.in_default.is ∙ found) in
    (whole, 0, some_text c.args.spacing c.args.view.now.layout.now c.args.defaults _ _ _ d lies, Appends-nil _, refl)

pub returns-clause-printed : goal.returns-clause-printed
returns-clause-printed g c d lies =
    let L = c.args.view.now.layout.now in
    let found = c.unnamed_in.ensures d lies in
    let whole = named_whole (type_place c.args.view.now.table.0) d (sym c.in_default.is ∙ found) in
    let written = rw c.layout.ensures at (c.write_shown.ensures.written d (sym c.layout.ensures, d, refl, lies)) in
    whole_printed (type_place c.args.view.now.table.0) d (spaced_text c.args.spacing L c.args.defaults d) _ _
    c.write_shown.result whole
    written

pub returns-clause-untouched : goal.returns-clause-untouched
returns-clause-untouched g c = never_unnamed c.write_shown.result _ c.write_shown.ensures.named
