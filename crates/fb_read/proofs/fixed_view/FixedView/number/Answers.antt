use mir.Facts.{to_z-of_z}
use Rattle.std.proofs.Common.{◌≡◌, ◌<◌, ◌≤◌, ◌∙◌, length, slice_index_or, Some, None, refl, sym, ap, arith, rules}
use Rattle.fb_layout.specs.Laid.{stored_kind}
use Rattle.fb_schema.specs.declared.types.FieldInfo.{FieldInfo}
use Rattle.std.specs.Prelude.{FitsSigned}
use Rattle.std.specs.Int.{w128}
use Rattle.fb_read.specs.Kinds.{base_wanted}
use Rattle.fb_read.proofs.placed.PartsLieInTheirPlaces.{field_kind, field_within, field_number, field_no_number}
use Rattle.fb_read.proofs.placed.PartsLieInTheirPlaces.{field_past, base_fits}
use Rattle.fb_read.proofs.fixed_view.FixedView.number.Goals as goal

pub returns-then-index-fields : goal.returns-then-index-fields
returns-then-index-fields c ds lies =
    let past : length c.parts_of-fields.result.now ≤ c.args.field =
    omega (arith, c.from-index.ensures, c.if-index-fields.true) in
    rw (field_past c.args.self.layout.now c.args.self.structure.0 c.parts_of-fields.result.now
    c.parts_of-fields.ensures.parts c.args.self.bytes.now c.args.self.at ds c.args.field past lies) refl

pub number_at-requires : goal.number_at-requires
number_at-requires c =
    let L = c.args.self.layout.now in
    let xs = c.parts_of-fields.result.now in
    let x = c.index-fields-index.result in
    let s = c.args.self.structure.0 in
    let less : c.args.field < length xs = omega (arith, c.from-index.ensures, c.if-index-fields.false) in
    let is : x ≡ slice_index_or xs c.args.field x = rw c.from-index.ensures at c.index-fields-index.is in
    let kind : stored_kind L.schema c.kind_in-kind.result ≡ field_kind L x =
    c.kind_in-kind.ensures L.schema ∙ ap (λ (f : FieldInfo). field_kind L f) (sym c.index-fields-index.is) in
    let wanted : base_wanted (field_kind L x) ≡ Some c.in_ok-base.base =
    ap base_wanted (sym kind) ∙ sym c.in_ok-base.ensures in
    rw (c.offset_of.ensures, base_fits L (field_kind L x) c.in_ok-base.base wanted)
    (field_within L s xs c.parts_of-fields.ensures.parts c.layout_is_well_made.ensures c.args.self.at _ c.args.field
    x less is c.args.self.within)

pub returns : goal.returns
returns c ds lies =
    let L = c.args.self.layout.now in
    let xs = c.parts_of-fields.result.now in
    let x = c.index-fields-index.result in
    let s = c.args.self.structure.0 in
    let less : c.args.field < length xs = omega (arith, c.from-index.ensures, c.if-index-fields.false) in
    let is : x ≡ slice_index_or xs c.args.field x = rw c.from-index.ensures at c.index-fields-index.is in
    let kind : stored_kind L.schema c.kind_in-kind.result ≡ field_kind L x =
    c.kind_in-kind.ensures L.schema ∙ ap (λ (f : FieldInfo). field_kind L f) (sym c.index-fields-index.is) in
    let wanted : base_wanted (field_kind L x) ≡ Some c.in_ok-base.base =
    ap base_wanted (sym kind) ∙ sym c.in_ok-base.ensures in
    let fits : FitsSigned w128 c.number_at.result = search (rules, c.number_at.type_inv) in
    rw (to_z-of_z {w = w128} {z = c.number_at.result} fits, c.number_at.ensures, c.offset_of.ensures)
    (field_number L s xs c.parts_of-fields.ensures.parts c.layout_is_well_made.ensures c.args.self.bytes.now
    c.args.self.at ds c.args.field x c.in_ok-base.base less is wanted lies)

pub returns-in_err-base : goal.returns-in_err-base
returns-in_err-base c ds lies =
    let L = c.args.self.layout.now in
    let xs = c.parts_of-fields.result.now in
    let x = c.index-fields-index.result in
    let s = c.args.self.structure.0 in
    let less : c.args.field < length xs = omega (arith, c.from-index.ensures, c.if-index-fields.false) in
    let is : x ≡ slice_index_or xs c.args.field x = rw c.from-index.ensures at c.index-fields-index.is in
    let kind : stored_kind L.schema c.kind_in-kind.result ≡ field_kind L x =
    c.kind_in-kind.ensures L.schema ∙ ap (λ (f : FieldInfo). field_kind L f) (sym c.index-fields-index.is) in
    let wanted : base_wanted (field_kind L x) ≡ None = ap base_wanted (sym kind) ∙ sym c.in_err-base.ensures in
    rw c.from_residual.ensures (
    field_no_number L s xs c.parts_of-fields.ensures.parts c.layout_is_well_made.ensures c.args.self.bytes.now
    c.args.self.at ds c.args.field x less is wanted lies)
