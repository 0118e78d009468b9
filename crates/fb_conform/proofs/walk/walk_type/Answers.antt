use Rattle.std.proofs.Common.{◌≡◌, None, option_map, sym, ap, ◌∙◌}
use Rattle.fb_schema.specs.Schema.{DeclaredSchema}
use Rattle.fb_conform.specs.declared.breaches.Breach.TheVariants.{TypeGone}
use Rattle.fb_conform.specs.declared.difference.Difference.TheVariants.{Breach as Broken}
use Rattle.fb_conform.specs.Twins.{twin}
use Rattle.fb_conform.proofs.walk.DifferencesAreReportedInOrder.{reported}
use Rattle.fb_conform.proofs.walk.EachPlaceIsWalked.{gone_walked}
use Rattle.fb_conform.proofs.walk.OtherBreachesAreKept.{gone_stands}
use Rattle.fb_conform.proofs.walk.walk_type.Goals as goal

pub returns-in_default : goal.returns-in_default
returns-in_default g c =
    let A = c.args.old.now in
    let B = c.args.new.now in
    let t = c.args.type_id.0 in
    let wants = g.H.DifferenceHearer.wants in
    let gone : twin A.schema B.schema t ≡ None =
    ap (λ (S : DeclaredSchema). twin S B.schema t) (sym c.schema.ensures.schema)
    ∙ ap (λ (T : DeclaredSchema). twin c.schema.result.now T t) (sym c.schema-2.ensures.schema)
    ∙ sym c.twin_of.ensures
    ∙ ap (option_map (λ x. x.0)) c.in_default.is
    in
    gone_walked A B wants _ t _ _ c.hear.result gone c.requires.before
    (reported A B wants _ (Broken (TypeGone c.args.type_id)) _ _ c.hear.result (gone_stands A B t c.requires.known gone)
    c.hear.ensures.kept c.hear.ensures.ignored c.hear.ensures.stopped)
