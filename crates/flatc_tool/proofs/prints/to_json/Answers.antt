use Rattle.std.proofs.Common.{string_bytes, false}
use Rattle.std.proofs.lemmas.Result.{IfErr-weaker, IfOk-weaker}
use Rattle.flatc_tool.specs.Jobs.{IsTextUnder, TextRefusedUnder, TextRefused, MayBeTextUnder, MayBeText, IsNotMemory}
use Rattle.flatc_tool.proofs.jobs.RefusedUnderTheSchema.{none_of_layout, refused_under}
use Rattle.flatc_tool.proofs.prints.to_json.Goals as goal

pub returns-in-Err-clause-exact : goal.returns-in-Err-clause-exact
returns-in-Err-clause-exact c rule other = c.in-Err.ensures.exact rule other.layout other.accepted

pub returns-clause-exact : goal.returns-clause-exact
returns-clause-exact c =
    IfErr-weaker c.decode.result _
    (λ f. IsNotMemory f → ¬ (MayBeTextUnder false c.args.schema.now c.args.bytes.now c.args.limits c.args.raw))
    (λ f exact rule. none_of_layout c.layer_laws.ensures.laws.one_layout c.args.schema.now c.in-Ok.layout
    (λ L. MayBeText false L c.args.bytes.now c.args.limits c.args.raw) c.in-Ok.ensures.accepted (exact rule))
    c.decode.ensures.exact

pub returns-in-Err-clause-refused : goal.returns-in-Err-clause-refused
returns-in-Err-clause-refused c = c.in-Err.ensures.refused

pub returns-clause-text : goal.returns-clause-text
returns-clause-text c =
    IfOk-weaker c.decode.result _
    (λ s. IsTextUnder false false c.args.schema.now c.args.bytes.now c.args.limits c.args.raw c.args.defaults (string_bytes s))
    (λ s text. record { layout = c.in-Ok.layout; accepted = c.in-Ok.ensures.accepted; has = text })
    c.decode.ensures.text

pub returns-clause-refused : goal.returns-clause-refused
returns-clause-refused c =
    IfErr-weaker c.decode.result _ (TextRefusedUnder false c.args.schema.now c.args.bytes.now c.args.limits c.args.raw)
    (refused_under c.args.schema.now (λ L. TextRefused false L c.args.bytes.now c.args.limits c.args.raw)
    c.in-Ok.layout c.in-Ok.ensures.accepted (λ f none. none))
    c.decode.ensures.refused
