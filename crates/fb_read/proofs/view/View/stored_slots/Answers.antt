use Rattle.fb_read.proofs.entry.EntryIsWhatWasFound.{entry_behind}
use Rattle.fb_read.proofs.view.View.stored_slots.Goals as goal
use Rattle.fb_layout.proofs.slots.SlotsAreAsManyAsFields.{slots_long}

pub returns : goal.returns
returns c =
    let L = c.args.self.layout.now in
    let t = c.args.self.table.0 in
    let long = slots_long L t c.slots_of-slots.result.now c.slots_of-slots.ensures.slots in
    record {
      few = rw long c.stored_slots.ensures.few;
      behind = λ d k s lies past there. entry_behind L c.args.self.bytes.now t c.args.self.at c.stored_slots.result _ k
          d s c.stored_slots.ensures.past long past lies there;
    }
