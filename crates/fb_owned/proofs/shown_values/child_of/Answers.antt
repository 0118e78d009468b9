use Rattle.std.proofs.Common.{None, Some, option_map, sym, ap, ◌∙◌, arith}
use Rattle.std.specs.Option.{option_copied}
use Rattle.fb_schema.proofs.Got.{got_of}
use Rattle.fb_value.specs.View.{view, parts_view, entries_view}
use Rattle.fb_value.proofs.types.EachVariantHasItsView.{view-Items, view-Fixed, view-Fields}
use Rattle.fb_owned.proofs.shown_values.PartsAreLighter.{part_viewed, entry_viewed, entry_past, part_light, entry_light}
use Rattle.fb_owned.proofs.shown_values.PartsAreLighter.{copied_view}
use Rattle.fb_owned.proofs.shown_values.child_of.Goals as goal

pub returns-in-Items-clause-known : goal.returns-in-Items-clause-known
returns-in-Items-clause-known c =
    let items = c.in-Items.items in
    let seen = ap view c.in-Items.is ∙ view-Items items in
    let there = got_of c.as_slice.result.now items.items c.args.i c.get.result c.as_slice.ensures.value
    c.get.ensures.lookup.0 c.get.ensures.lookup.1 in
    let whole = part_viewed items.items c.args.i (option_copied c.get.result) there ∙ copied_view c.get.result in
    rw seen (sym whole)

pub returns-in-Items-clause-lighter : goal.returns-in-Items-clause-lighter
returns-in-Items-clause-lighter c =
    let items = c.in-Items.items in
    let seen = ap view c.in-Items.is ∙ view-Items items in
    let there = got_of c.as_slice.result.now items.items c.args.i c.get.result c.as_slice.ensures.value
    c.get.ensures.lookup.0 c.get.ensures.lookup.1 in
    let whole = part_viewed items.items c.args.i (option_copied c.get.result) there ∙ copied_view c.get.result in
    let light = rw whole at (part_light (parts_view items.items) c.args.i) in
    rw seen (omega (arith, light))

pub returns-in-Fixed-clause-known : goal.returns-in-Fixed-clause-known
returns-in-Fixed-clause-known c =
    let parts = c.in-Fixed.parts in
    let seen = ap view c.in-Fixed.is ∙ view-Fixed parts in
    let there = got_of c.as_slice-in-Fixed.result.now parts.items c.args.i c.get-in-Fixed.result
    c.as_slice-in-Fixed.ensures.value c.get-in-Fixed.ensures.lookup.0 c.get-in-Fixed.ensures.lookup.1 in
    let whole = part_viewed parts.items c.args.i (option_copied c.get-in-Fixed.result) there
    ∙ copied_view c.get-in-Fixed.result in
    rw seen (sym whole)

pub returns-in-Fixed-clause-lighter : goal.returns-in-Fixed-clause-lighter
returns-in-Fixed-clause-lighter c =
    let parts = c.in-Fixed.parts in
    let seen = ap view c.in-Fixed.is ∙ view-Fixed parts in
    let there = got_of c.as_slice-in-Fixed.result.now parts.items c.args.i c.get-in-Fixed.result
    c.as_slice-in-Fixed.ensures.value c.get-in-Fixed.ensures.lookup.0 c.get-in-Fixed.ensures.lookup.1 in
    let whole = part_viewed parts.items c.args.i (option_copied c.get-in-Fixed.result) there
    ∙ copied_view c.get-in-Fixed.result in
    let light = rw whole at (part_light (parts_view parts.items) c.args.i) in
    rw seen (omega (arith, light))

pub returns-in_ok-entry-in-Fields-clause-known : goal.returns-in_ok-entry-in-Fields-clause-known
returns-in_ok-entry-in-Fields-clause-known c =
    let entries = c.in-Fields.entries in
    let seen = ap view c.in-Fields.is ∙ view-Fields c.in-Fields.field-0 entries in
    let entry = c.in_ok-entry-in-Fields.entry in
    let there = got_of c.as_slice-in-Fields.result.now entries.items c.args.i (Some entry)
    c.as_slice-in-Fields.ensures.value c.in_ok-entry-in-Fields.ensures.lookup.0
    c.in_ok-entry-in-Fields.ensures.lookup.1 in
    rw seen (sym (copied_view c.as_ref.result) ∙ ap (option_map view) c.as_ref.ensures.value
    ∙ sym (entry_viewed entries.items c.args.i entry.now there))

pub returns-in_ok-entry-in-Fields-clause-lighter : goal.returns-in_ok-entry-in-Fields-clause-lighter
returns-in_ok-entry-in-Fields-clause-lighter c =
    let entries = c.in-Fields.entries in
    let seen = ap view c.in-Fields.is ∙ view-Fields c.in-Fields.field-0 entries in
    let entry = c.in_ok-entry-in-Fields.entry in
    let there = got_of c.as_slice-in-Fields.result.now entries.items c.args.i (Some entry)
    c.as_slice-in-Fields.ensures.value c.in_ok-entry-in-Fields.ensures.lookup.0
    c.in_ok-entry-in-Fields.ensures.lookup.1 in
    let light = rw (entry_viewed entries.items c.args.i entry.now there
    ∙ sym (sym (copied_view c.as_ref.result) ∙ ap (option_map view) c.as_ref.ensures.value))
    at (entry_light (entries_view entries.items) c.args.i) in
    rw seen (omega (arith, light))

pub returns-in_err-entry-in-Fields-clause-known : goal.returns-in_err-entry-in-Fields-clause-known
returns-in_err-entry-in-Fields-clause-known c =
    let entries = c.in-Fields.entries in
    let seen = ap view c.in-Fields.is ∙ view-Fields c.in-Fields.field-0 entries in
    let there = got_of c.as_slice-in-Fields.result.now entries.items c.args.i None c.as_slice-in-Fields.ensures.value
    c.in_err-entry-in-Fields.ensures.lookup.0 c.in_err-entry-in-Fields.ensures.lookup.1 in
    rw (c.from_residual.ensures, seen) (sym (entry_past entries.items c.args.i there))
