use Rattle.std.proofs.Common.{◌≡◌, take, length, ap, sym, refl, ◌∙◌, Some, slice_get}
use Rattle.std.proofs.lemmas.Option.{slice_get_read}
use Rattle.std.specs.List.{take-map}
use Rattle.fb_tape.specs.OpenList.{field_seen}
use Rattle.fb_tape.specs.declared.open_fields.OpenFields.TheInside.{Inside}
use Rattle.fb_tape.proofs.open_fields.FieldsStandInTurn.{turn_taken, truncated_inside, truncated_seen}
use Rattle.fb_tape.proofs.open_fields.OpenFields.truncate.Goals as goal
use Rattle.fb_tape.proofs.open_fields.OpenFields.truncate.Goals.{in-Some, in_default}

pub invariant_of-self : goal.invariant_of-self
invariant_of-self c =
    let items = c.self.inside.fields.items in
    let fields = λ (o : Inside). take c.args.count o.fields.items in
    let bytes = λ (o : Inside). o.bytes.items in
    elim c.match-get.branch [
      | in-Some w ↦
          let x = w.in-Some.field.now in
          let looked = w.in-Some.ensures.lookup in
          let at : slice_get items c.args.count ≡ Some x =
          rw c.deref.ensures.value at (slice_get_read c.deref.result.now _ c.args.count x refl looked.3.0 looked.1) in
          rw (
            c.truncate-2.ensures.items ∙ ap fields w.self-inside-is,
            ap bytes w.self-inside-is ∙ w.truncate.ensures.items,
          )
          (truncated_inside items c.args.count x c.self.inside.bytes.items at c.self.invariant)
      | in_default w ↦
          rw (c.truncate-2.ensures.items ∙ ap fields w.self-inside-is, ap bytes w.self-inside-is)
          (turn_taken 0 items c.args.count (length c.self.inside.bytes.items) c.self.invariant)
    ]

pub returns : goal.returns
returns c =
    let items = c.self.inside.fields.items in
    let fields = λ (o : Inside). take c.args.count o.fields.items in
    let bytes = λ (o : Inside). o.bytes.items in
    let seen = ap (take c.args.count) c.self.view_is in
    elim c.match-get.branch [
      | in-Some w ↦
          let x = w.in-Some.field.now in
          let looked = w.in-Some.ensures.lookup in
          let at : slice_get items c.args.count ≡ Some x =
          rw c.deref.ensures.value at (slice_get_read c.deref.result.now _ c.args.count x refl looked.3.0 looked.1) in
          record {
            first = rw (
              c.truncate-2.ensures.items ∙ ap fields w.self-inside-is,
              ap bytes w.self-inside-is ∙ w.truncate.ensures.items,
            )
                (truncated_seen items c.args.count x c.self.inside.bytes.items at c.self.invariant ∙ seen);
          }
      | in_default w ↦
          record {
            first = rw (c.truncate-2.ensures.items ∙ ap fields w.self-inside-is, ap bytes w.self-inside-is)
                (sym (take-map (field_seen c.self.inside.bytes.items) c.args.count items) ∙ seen);
          }
    ]
