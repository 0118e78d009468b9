use Rattle.std.proofs.Common.{refl}
use Rattle.flatc_tool.proofs.evolution.BreachExcludesConforming.{breach_excludes}
use Rattle.flatc_tool.proofs.evolution.conforming.Goals as goal

pub returns-in-Err-clause-refused : goal.returns-in-Err-clause-refused
returns-in-Err-clause-refused c = c.in-Err.ensures.refused

pub returns-in-Err-clause-exact : goal.returns-in-Err-clause-exact
returns-in-Err-clause-exact c rule texts = c.in-Err.ensures.exact rule texts.0 texts.2

pub returns-in-Err-schema_of-clause-refused : goal.returns-in-Err-schema_of-clause-refused
returns-in-Err-schema_of-clause-refused c =
    (c.in-Ok.layout, c.in-Ok.ensures.accepted, c.in-Err-schema_of.ensures.refused)

pub returns-in-Err-schema_of-clause-exact : goal.returns-in-Err-schema_of-clause-exact
returns-in-Err-schema_of-clause-exact c rule texts = c.in-Err-schema_of.ensures.exact rule texts.1 texts.3

pub returns-in-Ok-conform-clause-refused : goal.returns-in-Ok-conform-clause-refused
returns-in-Ok-conform-clause-refused c = tt

pub returns-in-Ok-conform-clause-exact : goal.returns-in-Ok-conform-clause-exact
returns-in-Ok-conform-clause-exact c = tt

pub returns-in-Ok-conform-clause-conforms : goal.returns-in-Ok-conform-clause-conforms
returns-in-Ok-conform-clause-conforms c =
    (c.in-Ok.ensures.accepted, c.in-Ok-schema_of.ensures.accepted, c.in-Ok-conform.ensures.exact.0 refl)

pub returns-in-Err-conform-clause-conforms : goal.returns-in-Err-conform-clause-conforms
returns-in-Err-conform-clause-conforms c = tt

pub returns-in-Err-conform-clause-refused : goal.returns-in-Err-conform-clause-refused
returns-in-Err-conform-clause-refused c = (
  c.in-Ok.layout,
  c.in-Ok-schema_of.layout,
  c.in-Ok.ensures.accepted,
  c.in-Ok-schema_of.ensures.accepted,
  c.in-Err-conform.ensures.first,
)

pub returns-in-Err-conform-clause-exact : goal.returns-in-Err-conform-clause-exact
returns-in-Err-conform-clause-exact c rule =
    breach_excludes c.layer_laws.ensures.laws c.args.old.now c.args.new.now c.in-Ok.layout c.in-Ok-schema_of.layout
    c.in-Err-conform.breach c.in-Ok.ensures.accepted c.in-Ok-schema_of.ensures.accepted
    c.in-Err-conform.ensures.first
