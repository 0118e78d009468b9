use Rattle.std.proofs.Common.{◌≡◌, true, false, sym, ◌∙◌, arith}
use Rattle.fb_conform.specs.declared.difference.Difference.TheVariants.{Moved}
use Rattle.fb_conform.proofs.names.MovedNamesAreFound.{no_name}
use Rattle.fb_conform.proofs.walk.DifferencesAreReportedInOrder.{moved_at, reported, stopped_on}
use Rattle.fb_conform.proofs.walk.EachPlaceIsWalked.{name_walked, name_passed, names_passed}
use Rattle.fb_conform.proofs.walk.walk_names.Goals as goal
use Rattle.fb_conform.proofs.walk.walk_names.Goals.{then-is_moved+in_ok-hear, else-is_moved}

pub returns-in_err-hear : goal.returns-in_err-hear
returns-in_err-hear g c =
    let A = c.args.old.now in
    let B = c.args.new.now in
    let t = c.args.type_id.0 in
    let k = c.loop-slot.slot in
    let wants = g.H.DifferenceHearer.wants in
    let walked = name_walked A B wants g.H.DifferenceHearer.stops t _ _ c.hear.result k c.loop-slot.invariant
    (reported A B wants g.H.DifferenceHearer.stops (Moved (moved_at t k)) _ _ c.hear.result
    (c.is_moved.ensures.0 c.if-is_moved.true) c.hear.ensures.kept c.hear.ensures.ignored c.hear.ensures.stopped) in
    stopped_on A B wants _ _ _ _ c.from_residual.result c.from_residual.ensures (rw c.in_err-hear.was at walked)

pub loop-slot-preserved : goal.loop-slot-preserved
loop-slot-preserved g c =
    let A = c.args.old.now in
    let B = c.args.new.now in
    let t = c.args.type_id.0 in
    let k = c.loop-slot.slot in
    let wants = g.H.DifferenceHearer.wants in
    elim c.if-is_moved.branch [
      | then-is_moved+in_ok-hear w ↦
          let walked = name_walked A B wants g.H.DifferenceHearer.stops t _ _ w.hear.result k c.loop-slot.invariant
          (reported A B wants g.H.DifferenceHearer.stops (Moved (moved_at t k)) _ _ w.hear.result
          (c.is_moved.ensures.0 w.if-is_moved.true) w.hear.ensures.kept w.hear.ensures.ignored
          w.hear.ensures.stopped) in
          rw w.hearer-is (rw w.in_ok-hear.was at walked)
      | else-is_moved w ↦ rw w.hearer-is (name_passed A B wants t k _
          (λ moved. let bad : false ≡ true = sym w.if-is_moved.false ∙ c.is_moved.ensures.1 moved in cc)
          c.loop-slot.invariant)
    ]

pub returns : goal.returns
returns g c =
    let A = c.args.old.now in
    let B = c.args.new.now in
    names_passed A B g.H.DifferenceHearer.wants c.args.type_id.0 c.loop-slot.slot _
    (λ m type later wanted. no_name A B c.requires.declared m c.args.twin.0 (rw type c.requires.twins)
    (rw type (c.names_end-slot-end.ensures m.slot (omega (arith, later, c.loop-slot-test.false)))))
    c.loop-slot.invariant
