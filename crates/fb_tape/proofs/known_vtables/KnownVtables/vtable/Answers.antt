use Rattle.std.proofs.Common.{◌≡◌, ◌+◌, ◌-◌, ◌<◌, Some, slice_get, length, ap, refl, arith, ◌∙◌}
use Rattle.std.specs.Option.{option_map}
use Rattle.std.proofs.lemmas.List.{length-map}
use Rattle.std.proofs.lemmas.Option.{slice_get_read, slice_get-map}
use Rattle.fb_value.specs.Num.{Bytes, part_of}
use Rattle.fb_tape.specs.declared.known_vtables.VtableRange.{VtableRange}
use Rattle.fb_tape.proofs.known_vtables.KnownVtables.vtable.Goals as goal

pub returns : goal.returns
returns c =
    let inside = c.self.inside in
    let range = c.index-range.result.now in
    let vtable_of : VtableRange → Bytes = λ r. part_of inside.bytes.items r.first r.size in
    let within : c.args.number < length inside.ranges.items =
    omega (arith, c.requires.within, ap length c.self.view_is, length-map inside.ranges.items vtable_of) in
    let there : slice_get inside.ranges.items c.args.number ≡ Some range =
    slice_get_read inside.ranges.items (length inside.ranges.items) c.args.number range refl within
    c.index-range.ensures in
    let size : (range.first + range.size) - range.first ≡ range.size = omega arith in
    record {
      is = rw (← c.self.view_is, size, c.deref.ensures.value) (slice_get-map vtable_of inside.ranges.items c.args.number
          ∙ ap (option_map vtable_of) there);
    }
