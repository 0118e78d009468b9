use Rattle.std.proofs.Common.{Some}
use Rattle.fb_json.proofs.slot_members.FewOrMany.{put_few}
use Rattle.fb_json.proofs.slot_members.SlotMembers.put.Goals as goal

pub returns-then-slot-self : goal.returns-then-slot-self
returns-then-slot-self c =
    let s = c.self.inside in
    rw (← c.self.view_is) (put_few s.slots s.few s.many c.if-self-gt-FEW_NAMES.false c.args.slot (Some c.args.tree)
    c.if-slot-self.true)
