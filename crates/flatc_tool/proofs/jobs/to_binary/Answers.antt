use Rattle.std.proofs.Common.{false}
use Rattle.std.proofs.lemmas.Result.{IfErr-weaker, IfOk-weaker}
use Rattle.flatc_tool.specs.Jobs.{BinaryRefusedUnder, BinaryRefused, IsBinaryUnder, MayBeBinaryUnder, MayBeBinary, IsNotMemory}
use Rattle.flatc_tool.proofs.jobs.RefusedUnderTheSchema.{none_of_layout, refused_under}
use Rattle.flatc_tool.proofs.jobs.to_binary.Goals as goal

pub returns-in-Err-clause-exact : goal.returns-in-Err-clause-exact
returns-in-Err-clause-exact c rule other = c.in-Err.ensures.exact rule other.layout other.accepted

pub returns-clause-exact : goal.returns-clause-exact
returns-clause-exact c =
    IfErr-weaker c.encode.result _
    (λ f. IsNotMemory f → ¬ (MayBeBinaryUnder false c.args.schema.now c.args.json.now c.args.limits c.args.unknown))
    (λ f exact rule. none_of_layout c.layer_laws.ensures.laws.one_layout c.args.schema.now c.in-Ok.layout
    (λ L. MayBeBinary false L c.args.json.now c.args.limits c.args.unknown) c.in-Ok.ensures.accepted (exact rule))
    c.encode.ensures.exact

pub returns-clause-binary : goal.returns-clause-binary
returns-clause-binary c =
    IfOk-weaker c.encode.result _ (λ b. IsBinaryUnder false c.args.schema.now c.args.json.now c.args.limits c.args.unknown b.items)
    (λ b made. record { layout = c.in-Ok.layout; accepted = c.in-Ok.ensures.accepted; has = made })
    c.encode.ensures.binary

pub returns-clause-refused : goal.returns-clause-refused
returns-clause-refused c =
    IfErr-weaker c.encode.result _ (BinaryRefusedUnder false c.args.schema.now c.args.json.now c.args.limits c.args.unknown)
    (refused_under c.args.schema.now (λ L. BinaryRefused false L c.args.json.now c.args.limits c.args.unknown)
    c.in-Ok.layout c.in-Ok.ensures.accepted (λ f none. none))
    c.encode.ensures.refused
