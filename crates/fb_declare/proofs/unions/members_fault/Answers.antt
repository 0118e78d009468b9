use Rattle.std.proofs.Common.{◌≡◌, rules, sym, subst, arith, map, take}
use Rattle.std.proofs.lemmas.List.{length-take-le}
use Rattle.fb_declare.specs.FaultRows.{member_faults}
use Rattle.fb_declare.specs.NameSet.{AreMet}
use Rattle.fb_declare.proofs.Least.{least_more, map-taken}
use Rattle.fb_declare.proofs.unions.members_fault.Goals as goal

pub loop-number-preserved : goal.loop-number-preserved
loop-number-preserved c =
    let members = c.args.members.now in
    let i = c.loop-number.number in
    let m = c.index-members-number.result in
    let h = c.loop-number-test.true in
    let e = c.index-members-number.is in
    let text : c.as_str.result.now ≡ m.name.bytes = grind rules in
    let met = rw text at (c.in_ok-again.ensures (map (λ m. m.name.bytes) (take i members)) c.loop-number.invariant.met)
    in
    record {
      least = rw (
        c.earlier_fault-least.ensures,
        c.member_fault.ensures (take i members)
            (length-take-le i members (omega (arith, h))) (sym met.0),
        c.loop-number.invariant.least,
      )
          (least_more member_faults members i m h e);
      met = subst (AreMet c.meet.new.self) (sym (map-taken (λ m. m.name.bytes) members i m h e)) met.1;
    }
