use Rattle.std.proofs.Common.{map, option_map, sym, ap, ◌∙◌}
use Rattle.std.proofs.lemmas.Result.{err_from_is_err_and}
use Rattle.fb_schema.specs.Seen.{type_seen}
use Rattle.fb_layout.specs.Known.{sizes_seen, tables_from}
use Rattle.fb_layout.proofs.tables.OneTypeMore.{tables_next, tables_fail, tables_all}
use Rattle.fb_layout.proofs.tables.tables_of.Goals as goal

pub returns-in_err-sizes-clause-fault : goal.returns-in_err-sizes-clause-fault
returns-in_err-sizes-clause-fault c =
    let known = map (option_map sizes_seen) c.args.structs.now in
    let fault = c.in_err-sizes.field-0.0 in
    let passed = err_from_is_err_and c.from_residual-in_err-sizes.result c.from_residual-in_err-sizes.ensures.1 in
    rw (passed.1, passed.2) (λ no_memory.
    ap (tables_from c.args.schema.now known 0) (sym c.types-types.ensures.types) ∙ sym c.loop-number.invariant
    ∙ tables_fail c.args.schema.now known type_seen c.loop-number.tables.items fault c.types-types.result.now
    c.loop-number.number c.index-types-number.result c.loop-number-test.true c.index-types-number.is
    (sym c.type_sizes.ensures ∙ c.in_err-sizes.was))

pub loop-number-preserved : goal.loop-number-preserved
loop-number-preserved c =
    let known = map (option_map sizes_seen) c.args.structs.now in
    tables_next c.args.schema.now known type_seen c.loop-number.tables.items c.push.new.self.items c.in_ok-sizes.sizes
    c.types-types.result.now c.loop-number.number c.index-types-number.result c.loop-number-test.true
    c.index-types-number.is (sym c.type_sizes.ensures ∙ c.in_ok-sizes.was) c.in_ok-push.ensures.items
    ∙ c.loop-number.invariant

pub returns-clause-sizes : goal.returns-clause-sizes
returns-clause-sizes c =
    let known = map (option_map sizes_seen) c.args.structs.now in
    ap (tables_from c.args.schema.now known 0) (sym c.types-types.ensures.types) ∙ sym c.loop-number.invariant
    ∙ tables_all c.args.schema.now known type_seen c.loop-number.tables.items c.types-types.result.now
    c.loop-number.number c.loop-number-test.false
