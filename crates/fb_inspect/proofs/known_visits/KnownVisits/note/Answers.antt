use Rattle.std.proofs.lemmas.List.Elements.{All-set, All-push}
use Rattle.fb_inspect.specs.Known.{IsKnown}
use Rattle.fb_inspect.specs.declared.known_visits.KnownVisit.{KnownVisit}
use Rattle.fb_inspect.proofs.known_visits.KnownVisits.note.Goals as goal

pub invariant_of-self : goal.invariant_of-self
invariant_of-self c =
    let known : KnownVisit = record { part = c.args.part; at = c.args.at; visited = c.args.visited } in
    All-set (IsKnown c.self.inside.buffer) c.self.inside.visits.items c.in-Some.number known
    (rw c.self.view_is c.requires) c.self.invariant

pub invariant_of-self-in_err-push : goal.invariant_of-self-in_err-push
invariant_of-self-in_err-push c = rw c.in_err-push.ensures.items c.self.invariant

pub invariant_of-self-2 : goal.invariant_of-self-2
invariant_of-self-2 c =
    let known : KnownVisit = record { part = c.args.part; at = c.args.at; visited = c.args.visited } in
    rw c.in_ok-push.ensures.items
    (All-push (IsKnown c.self.inside.buffer) c.self.inside.visits.items known c.self.invariant
    (rw c.self.view_is c.requires))
