use Rattle.std.proofs.Common.{◌≡◌, Some, None, [], ◌∷◌, ◌++◌, max, map, option_map, refl, sym, ap, ◌∙◌}
use Rattle.std.specs.Option.{option_and_then}
use Rattle.fb_schema.specs.Seen.{field_seen}
use Rattle.fb_layout.specs.Laid.{StructLayout, kind_in, stored_shape}
use Rattle.fb_layout.specs.Known.{sizes_seen, extent_of, place_behind, placed_behind, field_placed}
use Rattle.fb_layout.proofs.structs.OneStepMore.{added_next, added_none, added_all, step_none}
use Rattle.fb_layout.proofs.structs.fields_placed.Goals as goal

pub returns-in_default : goal.returns-in_default
returns-in_default c =
    let S = c.args.schema.now in
    let known = map (option_map sizes_seen) c.args.structs.now in
    let placed = sizes_seen
    (record { size = c.loop-field.size; align = c.loop-field.align; offsets = c.loop-field.offsets }) in
    let missing : extent_of known (kind_in (stored_shape S c.field-item.result.shape)) ≡ None =
    ap (extent_of known) (sym (c.kind_in.ensures S)) ∙ sym c.extent_of.ensures ∙ c.in_default.is in
    sym (added_none (field_placed S known) field_seen placed c.args.fields.now c.loop-field.field-index
    c.field-item.result c.loop-field-test.true c.field-item.is
    (ap (option_and_then (placed_behind placed)) missing)) ∙ c.loop-field.invariant

pub returns-in_default-place_behind : goal.returns-in_default-place_behind
returns-in_default-place_behind c =
    let S = c.args.schema.now in
    let known = map (option_map sizes_seen) c.args.structs.now in
    let placed = sizes_seen
    (record { size = c.loop-field.size; align = c.loop-field.align; offsets = c.loop-field.offsets }) in
    let found : extent_of known (kind_in (stored_shape S c.field-item.result.shape)) ≡ Some c.in-Some.extent =
    ap (extent_of known) (sym (c.kind_in.ensures S)) ∙ sym c.extent_of.ensures ∙ c.in-Some.is in
    let none = step_none
    (λ at. record {
      size = at.1;
      align = max placed.align c.in-Some.extent.align;
      offsets = placed.offsets ++ at.0 ∷ [];
    }) (place_behind placed.size) (Some c.in-Some.extent) c.in-Some.extent
    refl (sym c.place_behind.ensures ∙ c.in_default-place_behind.is) in
    sym (added_none (field_placed S known) field_seen placed c.args.fields.now c.loop-field.field-index
    c.field-item.result c.loop-field-test.true c.field-item.is (ap (option_and_then (placed_behind placed)) found
    ∙ none)) ∙ c.loop-field.invariant

pub loop-field-preserved : goal.loop-field-preserved
loop-field-preserved c =
    let S = c.args.schema.now in
    let known = map (option_map sizes_seen) c.args.structs.now in
    let placed = sizes_seen
    (record { size = c.loop-field.size; align = c.loop-field.align; offsets = c.loop-field.offsets }) in
    let next : StructLayout =
    record { size = c.in-Some-place_behind.end; align = c.max-align.result; offsets = c.push.new.self.items } in
    let found : extent_of known (kind_in (stored_shape S c.field-item.result.shape)) ≡ Some c.in-Some.extent =
    ap (extent_of known) (sym (c.kind_in.ensures S)) ∙ sym c.extent_of.ensures ∙ c.in-Some.is in
    let behind : place_behind placed.size c.in-Some.extent
    ≡ Some (c.in-Some-place_behind.offset, c.in-Some-place_behind.end) =
    sym c.place_behind.ensures ∙ c.in-Some-place_behind.is in
    let step : placed_behind placed c.in-Some.extent ≡ Some next =
    rw (behind, c.in_ok-push.ensures.items, c.max-align.ensures) refl in
    added_next (field_placed S known) field_seen placed next c.args.fields.now c.loop-field.field-index
    c.field-item.result c.loop-field-test.true c.field-item.is (ap (option_and_then (placed_behind placed)) found
    ∙ step) ∙ c.loop-field.invariant

pub returns : goal.returns
returns c =
    let step = field_placed c.args.schema.now (map (option_map sizes_seen) c.args.structs.now) in
    sym (added_all step field_seen
    (sizes_seen (record { size = c.loop-field.size; align = c.loop-field.align; offsets = c.loop-field.offsets }))
    c.args.fields.now c.loop-field.field-index c.loop-field-test.false) ∙ c.loop-field.invariant
