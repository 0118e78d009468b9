use Rattle.std.proofs.Common.{◌≡◌, ℕ, Some, Vec, Global, string_bytes, ap, ◌∙◌, ◌++◌}
use Rattle.flatc_tool.proofs.json_texts.PrintedIsTheJsonText.{text_refused}
use Rattle.flatc_tool.proofs.json_texts.decode.Goals as goal

pub returns-in-Err-clause-refused : goal.returns-in-Err-clause-refused
returns-in-Err-clause-refused c =
    let refused = text_refused c.args.options.now.compact c.args.options.now.size_prefixed c.args.layout.now
    c.args.bytes.now c.args.options.now.limits
    c.args.options.now.raw_binary c.args.options.now.defaults_json
    (Some c.over-out.result.inner.items) (Some c.decode_to.new.out.inner.items) c.in-Err.fault
    c.in-Err.ensures.refused in
    rw c.text_fault.ensures refused

pub returns-clause-text : goal.returns-clause-text
returns-clause-text c =
    let sent = c.in_default.ensures.printed in
    let items = λ (v : Vec ℕ Global). v.items in
    let same : string_bytes c.in-Ok.text ≡ sent.0 = ap items (c.in-Ok.ensures.ok ∙ c.into_inner.ensures) ∙ sent.3
    ∙ ap (λ front. front ++ sent.0) (ap items c.over-out.ensures.same ∙ c.new.ensures.items) in
    rw same sent.1
