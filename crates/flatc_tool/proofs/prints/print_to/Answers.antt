use Rattle.std.proofs.Common.{false}
use Rattle.std.proofs.lemmas.Result.{IfErr-weaker, on_ok_weaker}
use Rattle.fb_text.specs.Noted.{writer_of}
use Rattle.flatc_tool.specs.Jobs.{MayBeTextUnder, MayBeText}
use Rattle.flatc_tool.specs.Prints.{IsOfInput, PrintRefusedUnder, PrintRefused}
use Rattle.flatc_tool.proofs.jobs.RefusedUnderTheSchema.{none_of_layout, refused_under}
use Rattle.flatc_tool.proofs.prints.print_to.Goals as goal

pub returns-in-Err-clause-exact : goal.returns-in-Err-clause-exact
returns-in-Err-clause-exact g c rule other = c.in-Err.ensures.exact rule other.layout other.accepted

pub returns-clause-exact : goal.returns-clause-exact
returns-clause-exact g c =
    IfErr-weaker c.decode_to.result _
    (λ f. IsOfInput f → ¬ (MayBeTextUnder false c.args.schema.now c.args.bytes.now c.args.limits c.args.raw))
    (λ f exact rule. none_of_layout c.layer_laws.ensures.laws.one_layout c.args.schema.now c.in-Ok.layout
    (λ L. MayBeText false L c.args.bytes.now c.args.limits c.args.raw) c.in-Ok.ensures.accepted (exact rule))
    c.decode_to.ensures.exact

pub returns-in-Err-clause-refused : goal.returns-in-Err-clause-refused
returns-in-Err-clause-refused g c = c.in-Err.ensures.refused

pub returns-in-Err-clause-failed : goal.returns-in-Err-clause-failed
returns-in-Err-clause-failed g c = c.requires.fresh

pub returns-clause-printed : goal.returns-clause-printed
returns-clause-printed g c =
    on_ok_weaker c.decode_to.result
    (λ sent. record { layout = c.in-Ok.layout; accepted = c.in-Ok.ensures.accepted; has = sent })
    c.decode_to.ensures.printed

pub returns-clause-refused : goal.returns-clause-refused
returns-clause-refused g c =
    let start = g.W.Write.contents (writer_of c.args.out.now) in
    let known = g.W.Write.contents (writer_of c.decode_to.new.out) in
    IfErr-weaker c.decode_to.result _
    (PrintRefusedUnder false false c.args.schema.now c.args.bytes.now c.args.limits c.args.raw c.args.defaults start known)
    (refused_under c.args.schema.now (λ L. PrintRefused false false L c.args.bytes.now c.args.limits c.args.raw
    c.args.defaults start known) c.in-Ok.layout c.in-Ok.ensures.accepted (λ f none. none))
    c.decode_to.ensures.refused

pub returns-clause-failed : goal.returns-clause-failed
returns-clause-failed g c = c.decode_to.ensures.failed

pub returns-clause-untouched : goal.returns-clause-untouched
returns-clause-untouched g c = c.decode_to.ensures.untouched
