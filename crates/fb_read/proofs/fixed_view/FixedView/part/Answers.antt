use mir.Facts.{to_z-of_z}
use Rattle.std.proofs.Common.{◌≡◌, ◌<◌, ◌≤◌, ◌∙◌, length, slice_index_or, Some, None, option_map, refl, sym, ap, arith}
use Rattle.std.proofs.Common.{rules}
use Rattle.std.specs.Prelude.{FitsSigned}
use Rattle.std.specs.Int.{w128}
use Rattle.fb_layout.specs.Laid.{stored_kind}
use Rattle.fb_schema.specs.declared.types.FieldInfo.{FieldInfo}
use Rattle.fb_schema.specs.declared.kinds.TypeId.{TypeId}
use Rattle.fb_read.specs.Kinds.{base_wanted, structure_wanted}
use Rattle.fb_read.proofs.placed.PartsLieInTheirPlaces.{field_kind, field_within, field_there, field_number}
use Rattle.fb_read.proofs.placed.PartsLieInTheirPlaces.{field_struct, field_past, base_fits, structure_fits}
use Rattle.fb_read.proofs.placed.StructFieldsRankLower.{field_rank}
use Rattle.fb_read.proofs.entry.EntryIsWhatWasFound.{number_told, struct_told, nothing_inline, rank_told}
use Rattle.fb_read.proofs.fixed_view.FixedView.part.Goals as goal

pub returns-then-index-fields-clause-shows : goal.returns-then-index-fields-clause-shows
returns-then-index-fields-clause-shows c ds lies =
    let past : length c.parts_of-fields.result.now ≤ c.args.field =
    omega (arith, c.from-index.ensures, c.if-index-fields.true) in
    field_past c.args.self.layout.now c.args.self.structure.0 c.parts_of-fields.result.now
    c.parts_of-fields.ensures.parts c.args.self.bytes.now c.args.self.at ds c.args.field past lies

pub number_at-requires : goal.number_at-requires
number_at-requires c =
    let L = c.args.self.layout.now in
    let xs = c.parts_of-fields.result.now in
    let x = c.index-fields-index.result in
    let s = c.args.self.structure.0 in
    let less : c.args.field < length xs = omega (arith, c.from-index.ensures, c.if-index-fields.false) in
    let is : x ≡ slice_index_or xs c.args.field x = rw c.from-index.ensures at c.index-fields-index.is in
    let kind : stored_kind L.schema c.kind_in-kind.result ≡ field_kind L x =
    c.kind_in-kind.ensures L.schema ∙ ap (λ (f : FieldInfo). field_kind L f) (sym c.index-fields-index.is) in
    let wanted : base_wanted (field_kind L x) ≡ Some c.in-Some.base =
    ap base_wanted (sym kind) ∙ sym c.base_of.ensures ∙ c.in-Some.is in
    rw (c.offset_of.ensures, base_fits L (field_kind L x) c.in-Some.base wanted)
    (field_within L s xs c.parts_of-fields.ensures.parts c.layout_is_well_made.ensures c.args.self.at _ c.args.field
    x less is c.args.self.within)

pub returns-in-Some-clause-shows : goal.returns-in-Some-clause-shows
returns-in-Some-clause-shows c ds lies =
    let L = c.args.self.layout.now in
    let xs = c.parts_of-fields.result.now in
    let x = c.index-fields-index.result in
    let s = c.args.self.structure.0 in
    let less : c.args.field < length xs = omega (arith, c.from-index.ensures, c.if-index-fields.false) in
    let is : x ≡ slice_index_or xs c.args.field x = rw c.from-index.ensures at c.index-fields-index.is in
    let kind : stored_kind L.schema c.kind_in-kind.result ≡ field_kind L x =
    c.kind_in-kind.ensures L.schema ∙ ap (λ (f : FieldInfo). field_kind L f) (sym c.index-fields-index.is) in
    let wanted : base_wanted (field_kind L x) ≡ Some c.in-Some.base =
    ap base_wanted (sym kind) ∙ sym c.base_of.ensures ∙ c.in-Some.is in
    let fits : FitsSigned w128 c.number_at.result = search (rules, c.number_at.type_inv) in
    number_told _ _ (sym (rw (
      to_z-of_z {w = w128} {z = c.number_at.result} fits,
      c.number_at.ensures,
      c.offset_of.ensures,
    )
    (field_number L s xs c.parts_of-fields.ensures.parts c.layout_is_well_made.ensures c.args.self.bytes.now
    c.args.self.at ds c.args.field x c.in-Some.base less is wanted lies)))

pub invariant_of-result : goal.invariant_of-result
invariant_of-result c =
    let L = c.args.self.layout.now in
    let xs = c.parts_of-fields.result.now in
    let x = c.index-fields-index.result in
    let s = c.args.self.structure.0 in
    let less : c.args.field < length xs = omega (arith, c.from-index.ensures, c.if-index-fields.false) in
    let is : x ≡ slice_index_or xs c.args.field x = rw c.from-index.ensures at c.index-fields-index.is in
    let kind : stored_kind L.schema c.kind_in-kind.result ≡ field_kind L x =
    c.kind_in-kind.ensures L.schema ∙ ap (λ (f : FieldInfo). field_kind L f) (sym c.index-fields-index.is) in
    let wanted : structure_wanted (field_kind L x) ≡ Some c.in-Some-structure_of.structure.0 =
    ap structure_wanted (sym kind) ∙ sym (c.structure_of.ensures L)
    ∙ ap (option_map (λ (t : TypeId). t.0)) c.in-Some-structure_of.is in
    record {
      short = c.args.self.short;
      within = rw (c.offset_of.ensures, structure_fits L (field_kind L x) c.in-Some-structure_of.structure.0 wanted)
          (field_within L s xs c.parts_of-fields.ensures.parts c.layout_is_well_made.ensures c.args.self.at _
          c.args.field x less is c.args.self.within);
    }

pub returns-in-Some-structure_of : goal.returns-in-Some-structure_of
returns-in-Some-structure_of c =
    let L = c.args.self.layout.now in
    let xs = c.parts_of-fields.result.now in
    let x = c.index-fields-index.result in
    let s = c.args.self.structure.0 in
    let less : c.args.field < length xs = omega (arith, c.from-index.ensures, c.if-index-fields.false) in
    let is : x ≡ slice_index_or xs c.args.field x = rw c.from-index.ensures at c.index-fields-index.is in
    let kind : stored_kind L.schema c.kind_in-kind.result ≡ field_kind L x =
    c.kind_in-kind.ensures L.schema ∙ ap (λ (f : FieldInfo). field_kind L f) (sym c.index-fields-index.is) in
    let wanted : structure_wanted (field_kind L x) ≡ Some c.in-Some-structure_of.structure.0 =
    ap structure_wanted (sym kind) ∙ sym (c.structure_of.ensures L)
    ∙ ap (option_map (λ (t : TypeId). t.0)) c.in-Some-structure_of.is in
    let lower : c.in-Some-structure_of.structure.0 < s =
    rank_told (field_kind L x) s c.in-Some-structure_of.structure.0 wanted
    (field_rank L c.layout_is_well_made.ensures s xs c.parts_of-fields.ensures.parts c.args.field x less is) in
    record {
      shows = λ ds lies.
          let found = field_struct L s xs c.parts_of-fields.ensures.parts c.layout_is_well_made.ensures
          c.args.self.bytes.now c.args.self.at ds c.args.field x c.in-Some-structure_of.structure.0 less is wanted
          lies in
          rw c.offset_of.ensures (refl, found.0, struct_told _ found.0 found.1, found.2);
      lighter = omega (arith, lower);
    }

pub returns-in-None-clause-shows : goal.returns-in-None-clause-shows
returns-in-None-clause-shows c ds lies =
    let L = c.args.self.layout.now in
    let xs = c.parts_of-fields.result.now in
    let x = c.index-fields-index.result in
    let s = c.args.self.structure.0 in
    let less : c.args.field < length xs = omega (arith, c.from-index.ensures, c.if-index-fields.false) in
    let is : x ≡ slice_index_or xs c.args.field x = rw c.from-index.ensures at c.index-fields-index.is in
    let kind : stored_kind L.schema c.kind_in-kind.result ≡ field_kind L x =
    c.kind_in-kind.ensures L.schema ∙ ap (λ (f : FieldInfo). field_kind L f) (sym c.index-fields-index.is) in
    let none : base_wanted (field_kind L x) ≡ None = ap base_wanted (sym kind) ∙ sym c.base_of.ensures
    ∙ c.in_default.is in
    let plain : structure_wanted (field_kind L x) ≡ None =
    ap structure_wanted (sym kind) ∙ sym (c.structure_of.ensures L)
    ∙ ap (option_map (λ (t : TypeId). t.0)) c.in-None.is in
    let found = field_there L s xs c.parts_of-fields.ensures.parts c.layout_is_well_made.ensures c.args.self.bytes.now
    c.args.self.at ds c.args.field x less is lies in
    absurd (nothing_inline L c.args.self.bytes.now (field_kind L x) _ found.0 none plain found.2)
