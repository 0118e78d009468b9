use Rattle.std.proofs.Common.{rules}
use Rattle.std.specs.Option.{is_some}
use Rattle.fb_resolve.specs.Ids.{slot_by_id, are_ids_wrong}
use Rattle.fb_resolve.proofs.ids.TwiceAmongNumbers.{all_pass, one_fails, wrong_ids_of}
use Rattle.fb_resolve.proofs.ids.Slots.of.Goals as goal
use Rattle.fb_resolve.proofs.ids.Slots.of.Goals.{in-Some-2, in-None}

pub returns-in-Some : goal.returns-in-Some
unfolding are_ids_wrong
returns-in-Some c =
    let fails = one_fails (λ r. is_some (slot_by_id r)) c.args.fields.now c.in-Some.place (search rules) in
    search (rules, fails)

pub returns : goal.returns
unfolding are_ids_wrong
returns c =
    let all = all_pass (λ r. is_some (slot_by_id r)) c.args.fields.now (search rules) in
    elim c.match-branch-3.branch [
      | in-Some-2 w ↦ rw w.result-is (wrong_ids_of c.args.fields.now (search rules) (search rules) w.in-Some-2.wrong
          (search rules))
      | in-None w ↦ search (rules, all)
    ]
