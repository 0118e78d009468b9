use Rattle.std.proofs.Common.{◌≡◌, ◌↔◌, false, IsTrue, None, Some, refl, rules, not}
use Rattle.fb_schema.specs.Seen.{field_seen}
use Rattle.fb_conform.specs.declared.breaches.Breach.TheVariants.{SlotGone, NewRequired}
use Rattle.fb_conform.specs.declared.difference.Difference.TheVariants.{Breach as Broken}
use Rattle.fb_conform.specs.Conforms.{is_required}
use Rattle.fb_conform.specs.Twins.{TableSlot}
use Rattle.fb_conform.proofs.walk.DifferencesAreReportedInOrder.{reported}
use Rattle.fb_conform.proofs.walk.EachPlaceIsWalked.{slot_walked, slot_absent}
use Rattle.fb_conform.proofs.walk.OtherBreachesAreKept.{slot_gone_stands, new_decides}
use Rattle.fb_conform.proofs.walk.walk_slot.Goals as goal

pub returns-in-Some-None : goal.returns-in-Some-None
returns-in-Some-None g c =
    let A = c.args.old.now in
    let B = c.args.new.now in
    let wants = g.H.DifferenceHearer.wants in
    let t = c.args.at.type_id.0 in
    let k = c.args.at.slot in
    let f = field_seen c.in-Some-None.field-0-0.now in
    let slot : TableSlot A.schema B.schema t k (Some f) None = search rules in
    slot_walked A B wants _ t _ _ c.hear.result k (Some f) None slot (SlotGone c.args.at.type_id k) refl refl
    (λ n other. other) c.requires.before (reported A B wants _ (Broken (SlotGone c.args.at.type_id k)) _ _ c.hear.result
    (slot_gone_stands A B t k f slot) c.hear.ensures.kept c.hear.ensures.ignored c.hear.ensures.stopped)

pub returns-in-None-Some : goal.returns-in-None-Some
returns-in-None-Some g c =
    let A = c.args.old.now in
    let B = c.args.new.now in
    let wants = g.H.DifferenceHearer.wants in
    let t = c.args.at.type_id.0 in
    let k = c.args.at.slot in
    let f = field_seen c.in-None-Some.is'.now in
    let slot : TableSlot A.schema B.schema t k None (Some f) = search rules in
    let plain : IsTrue (not c.is_required-plain.result) ↔ (is_required f ≡ false) = search rules in
    slot_walked A B wants _ t _ _ c.report_unless.result k None (Some f) slot (NewRequired c.args.at.type_id k) refl
    refl (λ n other. other) c.requires.before
    (c.report_unless.ensures A B (new_decides A B t k (not c.is_required-plain.result) f slot plain))

pub returns-in-None-None : goal.returns-in-None-None
returns-in-None-None g c =
    let A = c.args.old.now in
    let B = c.args.new.now in
    let wants = g.H.DifferenceHearer.wants in
    let slot : TableSlot A.schema B.schema c.args.at.type_id.0 c.args.at.slot None None = search rules in
    slot_absent A B wants c.args.at.type_id.0 c.args.at.slot _ slot c.requires.before
