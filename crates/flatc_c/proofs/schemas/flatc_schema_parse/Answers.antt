use Rattle.flatc_c.proofs.schemas.flatc_schema_parse.Goals as goal

pub returns-in-Err-clause-exact : goal.returns-in-Err-clause-exact
returns-in-Err-clause-exact c = λ one. c.in-Err.ensures.exact (c.schema_status.ensures.refused one)
