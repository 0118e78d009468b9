use Rattle.std.proofs.Common.{◌≡◌, [], map, sym, ap, ◌∙◌, subst}
use Rattle.std.specs.Option.{option_map}
use Rattle.fb_layout.specs.Widths.{greatest}
use Rattle.fb_layout.specs.WellMade.{IsWellMade}
use Rattle.fb_layout.specs.Known.{sizes_seen, known_from, tables_from, layout_known}
use Rattle.fb_layout.proofs.layouts.LayoutIsWellMadeOrRefused.{refused_for, made_for}
use Rattle.fb_layout.proofs.laws.SchemaHasOneLayout.{no_layout}
use Rattle.fb_layout.proofs.slots.RequiredSlotsAreNumbered.{small_numbers}
use Rattle.fb_layout.proofs.layouts.lay.Goals as goal

pub returns-in-Err-clause-fault : goal.returns-in-Err-clause-fault
returns-in-Err-clause-fault c no_memory =
    let S = c.args.schema in
    let seen : map (option_map sizes_seen) c.as_slice.result.now ≡ known_from S [] S.types =
    ap (map (option_map sizes_seen)) c.as_slice.ensures.value ∙ c.in-Ok.ensures in
    refused_for S c.tables_of.ensures.declared c.in-Err.fault (ap (λ k. tables_from S k 0 S.types) (sym seen)
    ∙ c.in-Err.ensures.fault no_memory)

pub invariant_of-result : goal.invariant_of-result
invariant_of-result c =
    let S = c.args.schema in
    let items : map (option_map sizes_seen) c.in-Ok.structs.items ≡ known_from S [] S.types = c.in-Ok.ensures in
    let seen : map (option_map sizes_seen) c.as_slice.result.now ≡ known_from S [] S.types =
    ap (map (option_map sizes_seen)) c.as_slice.ensures.value ∙ items in
    let is = made_for S c.tables_of.ensures.declared c.in-Ok-tables_of.tables.items
    (ap (λ k. tables_from S k 0 S.types) (sym seen) ∙ c.in-Ok-tables_of.ensures.sizes) in
    let same : layout_known S (known_from S [] S.types)
    ≡ layout_known S (map (option_map sizes_seen) c.in-Ok.structs.items) = ap (layout_known S) (sym items) in
    record {
      made = subst IsWellMade same is.made;
      tables = rw (← same) is.tables;
      required = c.in-Ok-of.ensures;
      greatest = c.greatest-greatest.ensures ∙ ap (λ s. greatest (layout_known S (map (option_map sizes_seen) s)))
          c.as_slice-2.ensures.value;
      most_slots = c.most_slots-most_slots.ensures;
    }

pub returns-clause-made : goal.returns-clause-made
returns-clause-made c =
    let S = c.args.schema in
    let items : map (option_map sizes_seen) c.in-Ok.structs.items ≡ known_from S [] S.types = c.in-Ok.ensures in
    let seen : map (option_map sizes_seen) c.as_slice.result.now ≡ known_from S [] S.types =
    ap (map (option_map sizes_seen)) c.as_slice.ensures.value ∙ items in
    let is = made_for S c.tables_of.ensures.declared c.in-Ok-tables_of.tables.items
    (ap (λ k. tables_from S k 0 S.types) (sym seen) ∙ c.in-Ok-tables_of.ensures.sizes) in
    subst IsWellMade (ap (layout_known S) (sym items)) is.made

pub returns-in-Err-clause-exact : goal.returns-in-Err-clause-exact
returns-in-Err-clause-exact c no_memory =
    let S = c.args.schema in
    let seen : map (option_map sizes_seen) c.as_slice.result.now ≡ known_from S [] S.types =
    ap (map (option_map sizes_seen)) c.as_slice.ensures.value ∙ c.in-Ok.ensures in
    no_layout S c.in-Err.fault
    (refused_for S c.tables_of.ensures.declared c.in-Err.fault (ap (λ k. tables_from S k 0 S.types) (sym seen)
    ∙ c.in-Err.ensures.fault no_memory))

pub of-requires : goal.of-requires
of-requires c =
    let S = c.args.schema in
    let seen : map (option_map sizes_seen) c.as_slice.result.now ≡ known_from S [] S.types =
    ap (map (option_map sizes_seen)) c.as_slice.ensures.value ∙ c.in-Ok.ensures in
    let is = made_for S c.tables_of.ensures.declared c.in-Ok-tables_of.tables.items
    (ap (λ k. tables_from S k 0 S.types) (sym seen) ∙ c.in-Ok-tables_of.ensures.sizes) in
    small_numbers (layout_known S (known_from S [] S.types)) is.made
