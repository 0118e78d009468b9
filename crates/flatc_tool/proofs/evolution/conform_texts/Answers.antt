use Rattle.flatc_tool.proofs.evolution.conform_texts.Goals as goal
use Rattle.flatc_tool.proofs.evolution.conform_texts.Goals.{in-Ok, in-Err}

pub returns-clause-conforms : goal.returns-clause-conforms
returns-clause-conforms c = elim c.match-conforming.branch [
  | in-Ok w ↦
      let told = w.in-Ok.ensures.conforms in
      rw w.result-is (w.in-Ok.field-0.0, w.in-Ok.field-0.1, told.0, told.1, told.2)
  | in-Err w ↦ rw w.result-is tt
]

pub returns-clause-refused : goal.returns-clause-refused
returns-clause-refused c = elim c.match-conforming.branch [
  | in-Ok w ↦ rw w.result-is tt
  | in-Err w ↦ rw w.result-is w.in-Err.ensures.refused
]

pub returns-clause-exact : goal.returns-clause-exact
returns-clause-exact c = elim c.match-conforming.branch [
  | in-Ok w ↦ rw w.result-is tt
  | in-Err w ↦ rw w.result-is w.in-Err.ensures.exact
]
