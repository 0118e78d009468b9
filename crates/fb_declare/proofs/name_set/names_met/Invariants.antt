use Rattle.std.proofs.Common.{map, take}
use Rattle.fb_declare.specs.NameSet.{AreMet}
use Rattle.fb_declare.proofs.name_set.names_met.Given as goal

abbrev pub invariant-loop-name : goal.invariant-loop-name
invariant-loop-name l = AreMet l.met (map (λ name. name.now) (take l.name-index l.names))
