use Rattle.flatc_tool.proofs.buffers.RefusalExcludesABuffer.{text_made, text_refused, text_excludes}
use Rattle.flatc_tool.proofs.buffers.encode_plan.Goals as goal

pub returns-in-Ok-clause-binary : goal.returns-in-Ok-clause-binary
returns-in-Ok-clause-binary c b laid =
    text_made c.layer_laws.ensures.laws c.args.options.now.size_prefixed c.args.json.now.items c.args.options.now.limits
    c.args.options.now.unknown_json
    c.args.layout.now b (c.in-Ok.ensures.planned b laid)

pub returns-in-Err-clause-refused : goal.returns-in-Err-clause-refused
returns-in-Err-clause-refused c =
    rw c.encode_fault.ensures
    (text_refused c.layer_laws.ensures.laws c.args.options.now.size_prefixed c.args.json.now.items
    c.args.options.now.limits
    c.args.options.now.unknown_json c.args.layout.now c.in-Err.fault c.in-Err.ensures.refused)

pub returns-in-Err-clause-exact : goal.returns-in-Err-clause-exact
returns-in-Err-clause-exact c rule =
    text_excludes c.layer_laws.ensures.laws c.args.options.now.size_prefixed c.args.json.now.items c.args.options.now.limits
    c.args.options.now.unknown_json c.args.layout.now c.in-Err.fault c.in-Err.ensures.refused
    (rw c.encode_fault.ensures at rule)
