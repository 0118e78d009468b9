use Rattle.std.proofs.Common.{Option, Ok, Err, Result, List, map, ap, sym, ◌∙◌}
use Rattle.std.specs.Option.{option_map, option_map_or, ok_or}
use Rattle.fb_schema.specs.Seen.{field_seen, body_seen}
use Rattle.fb_schema.specs.declared.types.Body.{Body}
use Rattle.fb_schema.specs.declared.types.FieldInfo.{FieldInfo}
use Rattle.fb_layout.specs.Laid.{StructLayout}
use Rattle.fb_layout.specs.Known.{sizes_seen, structs_seen, known_table, no_table, type_sizes}
use Rattle.fb_layout.specs.declared.faults.LayoutFault.{LayoutFault}
use Rattle.fb_layout.specs.declared.faults.LayoutFault.TheVariants.{StructTooBig, TableTooWide}
use Rattle.fb_layout.specs.declared.tables.TableSizes.{TableSizes}
use Rattle.fb_layout.proofs.extents.StructsStandAtTheirNumbers.{known_of, known_there}
use Rattle.fb_layout.proofs.tables.type_sizes.Goals as goal

pub returns-in-Table : goal.returns-in-Table
returns-in-Table c =
    let S = c.args.schema.now in
    let known = structs_seen c.args.structs.now in
    c.ok_or.ensures.value
    ∙ ap (λ (o : Option TableSizes). ok_or o (TableTooWide c.args.number))
    (c.table_of.ensures
    ∙ ap (λ (fs : List FieldInfo). known_table S known (map field_seen fs)) c.as_slice.ensures.value)
    ∙ ap (λ (b : Body). type_sizes S known c.args.number.0 (body_seen b)) (sym c.in-Table.is)

pub returns-in-Some-None : goal.returns-in-Some-None
returns-in-Some-None c =
    let S = c.args.schema.now in
    let known = structs_seen c.args.structs.now in
    let too_big : Result TableSizes LayoutFault = Err (StructTooBig c.args.number) in
    ap (λ (s : Option StructLayout). option_map_or (λ s. Ok no_table) s too_big)
    (ap (option_map sizes_seen) (sym c.in-Some-None.field-0-is)
    ∙ ap known_of (sym c.in-Some-None.is)
    ∙ known_there c.args.structs.now c.args.number.0 c.get.result c.get.ensures.lookup.0 c.get.ensures.lookup.1)
    ∙ ap (λ (b : Body). type_sizes S known c.args.number.0 (body_seen b)) (sym c.in-Struct.is)
