use Rattle.std.proofs.Common.{◌≡◌, suc, length, arith}
use Rattle.fb_json.proofs.numbered_members.OneMoreIsNumbered.{one_more}
use Rattle.fb_json.proofs.numbered_members.NumberedMembers.put.Goals as goal

pub returns-in_ok-push : goal.returns-in_ok-push
returns-in_ok-push c =
    let found = c.self.inside.found in
    let count : c.len-then-slot-len.result ≡ suc (length found.items) =
    omega (arith, c.len-then-slot-len.ensures, c.in_ok-push.ensures.len) in
    rw (c.in_ok-push.ensures.items, count, ← c.self.view_is) (one_more found.items c.args.tree
    c.self.inside.numbers.items c.self.invariant c.args.slot)
