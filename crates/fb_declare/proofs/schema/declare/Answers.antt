use Rattle.std.proofs.lemmas.Result.{IfOk-weaker, IfErr-weaker}
use Rattle.fb_declare.proofs.Least.{least_some}
use Rattle.fb_declare.proofs.schema.declare.Goals as goal

pub returns : goal.returns
returns c = let made = c.schema_of_outline-2.result in
    let told = rw c.in_ok-of.ensures at c.schema_of_outline-2.ensures in
    record {
      declared = IfOk-weaker made _ _ (λ s x. record { sound = x.0; given = x.1 }) told.declared;
      fault =
          IfErr-weaker made _ _ (λ f least rule. least_some _ f (least rule)) told.fault;
      least = told.fault;
    }
