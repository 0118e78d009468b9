use Rattle.std.proofs.Common.{[], ◌∷◌, ◌++◌, map, option_map, sym, ap, ◌∙◌}
use Rattle.std.proofs.lemmas.List.{map_push}
use Rattle.fb_schema.specs.Seen.{type_seen}
use Rattle.fb_layout.specs.Known.{sizes_seen, known_struct, known_from}
use Rattle.fb_layout.proofs.structs.OneStepMore.{known_next, known_all}
use Rattle.fb_layout.proofs.structs.structs_of.Goals as goal

pub loop-info-preserved : goal.loop-info-preserved
loop-info-preserved c =
    let seen = map (option_map sizes_seen) c.loop-info.structs.items in
    let more = ap (map (option_map sizes_seen)) c.in_ok-push.ensures.items ∙ map_push (option_map sizes_seen)
    c.loop-info.structs.items c.in_ok-sizes.sizes
    ∙ ap (λ s. seen ++ s ∷ [])
    (c.in_ok-sizes.ensures
    ∙ ap (λ k. known_struct c.args.schema.now (map (option_map sizes_seen) k) (type_seen c.info-item.result).body)
    c.as_slice.ensures.value) in
    known_next c.args.schema.now type_seen seen (map (option_map sizes_seen) c.push.new.self.items)
    c.types-types.result.now c.loop-info.info-index c.info-item.result c.loop-info-test.true c.info-item.is more
    ∙ c.loop-info.invariant

pub returns : goal.returns
returns c =
    let seen = map (option_map sizes_seen) c.loop-info.structs.items in
    sym (known_all c.args.schema.now type_seen seen c.types-types.result.now c.loop-info.info-index
    c.loop-info-test.false) ∙ c.loop-info.invariant ∙ ap (known_from c.args.schema.now [])
    c.types-types.ensures.types
