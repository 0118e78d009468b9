use Rattle.std.proofs.Common.{Option, ap, sym, ◌∙◌}
use Rattle.std.specs.Option.{option_map, unwrap_or}
use Rattle.fb_layout.specs.Laid.{StructLayout, no_struct}
use Rattle.fb_layout.specs.Known.{sizes_seen}
use Rattle.fb_layout.proofs.extents.StructsStandAtTheirNumbers.{known_of, known_there}
use Rattle.fb_layout.proofs.extents.offsets_in.Goals as goal

pub returns-in-Some-Some : goal.returns-in-Some-Some
returns-in-Some-Some c =
    c.as_slice.ensures.value
    ∙ ap (λ (k : Option StructLayout). (unwrap_or k no_struct).offsets)
    (ap (option_map sizes_seen) (sym c.in-Some-Some.field-0-is)
    ∙ ap known_of (sym c.in-Some-Some.is)
    ∙ known_there c.args.structs.now c.args.number.0 c.get.result c.get.ensures.lookup.0 c.get.ensures.lookup.1)
