use Rattle.fb_json.proofs.numbered_members.OneMoreIsNumbered.{none_numbered}
use Rattle.fb_json.proofs.numbered_members.NumberedMembers.begin.Goals as goal

pub returns : goal.returns
returns c =
    let empty = c.in_ok-self-inside.ensures.items_if_clones_equal (λ y h. h) in
    rw empty (none_numbered c.in_ok-self-inside-2.field-0.items c.args.slots)
