use Rattle.std.proofs.Common.{List, ℕ, [], get_or, map, take, sym, subst, arith}
use Rattle.std.specs.Borrow.{Bor}
use Rattle.std.proofs.lemmas.List.{get_or_default, take_all}
use Rattle.fb_declare.specs.NameSet.{AreMet}
use Rattle.fb_declare.proofs.Least.{map-taken}
use Rattle.fb_declare.proofs.name_set.names_met.Goals as goal

pub loop-name-preserved : goal.loop-name-preserved
loop-name-preserved c =
    let names = c.args.names.now in
    let i = c.loop-name.name-index in
    let none : Bor (List ℕ) = record { ref_ptr = (0, 0); now = [] } in
    let name = get_or names i none in
    subst (AreMet c.meet.new.self) (sym (map-taken (λ n. n.now) names i name c.loop-name-test.true
    (get_or_default names i none name c.loop-name-test.true)))
    (c.in_ok-meet.ensures (map (λ n. n.now) (take i names)) c.loop-name.invariant).1

pub returns : goal.returns
returns c =
    let names = c.args.names.now in
    let i = c.loop-name.name-index in
    rw (← (take_all i names (omega (arith, c.loop-name-test.false)))) c.loop-name.invariant
