use Rattle.std.proofs.Common.{◌≡◌, None, Some, ap, sym, ◌∙◌}
use Rattle.std.specs.Option.{option_copied, option_map}
use Rattle.fb_layout.specs.Known.{sizes_seen, extent_in}
use Rattle.fb_layout.proofs.extents.StructsStandAtTheirNumbers.{known_of, known_there}
use Rattle.fb_layout.proofs.extents.struct_extent.Goals as goal

pub returns-in_default : goal.returns-in_default
returns-in_default c =
    ap extent_in
    (ap known_of (sym c.in_default.is)
    ∙ known_there c.args.structs.now c.args.number.0 c.get.result c.get.ensures.lookup.0 c.get.ensures.lookup.1)

pub returns-in_err-sizes : goal.returns-in_err-sizes
returns-in_err-sizes c =
    let none : None ≡ c.in-Some.known.now = ap option_copied (sym c.in_err-sizes.was) ∙ c.as_ref.ensures.value in
    c.from_residual.ensures
    ∙ ap extent_in
    (ap (option_map sizes_seen) none
    ∙ ap known_of (sym c.in-Some.is)
    ∙ known_there c.args.structs.now c.args.number.0 c.get.result c.get.ensures.lookup.0 c.get.ensures.lookup.1)

pub returns : goal.returns
returns c =
    let some : Some c.in_ok-sizes.sizes.now ≡ c.in-Some.known.now =
    ap option_copied (sym c.in_ok-sizes.was) ∙ c.as_ref.ensures.value in
    ap extent_in
    (ap (option_map sizes_seen) some
    ∙ ap known_of (sym c.in-Some.is)
    ∙ known_there c.args.structs.now c.args.number.0 c.get.result c.get.ensures.lookup.0 c.get.ensures.lookup.1)
