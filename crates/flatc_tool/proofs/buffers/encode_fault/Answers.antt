use Rattle.std.proofs.Common.{sym, ap, ◌∙◌}
use Rattle.fb_encode.specs.declared.faults.JsonTextFault.TheVariants.{Encode}
use Rattle.flatc_tool.specs.Encodes.{encode_fault}
use Rattle.flatc_tool.proofs.buffers.encode_fault.Goals as goal

pub returns-in-Encode-Json : goal.returns-in-Encode-Json
returns-in-Encode-Json c =
    let inside = rw c.in-Encode-Json.is at c.in-Encode-Json.field-0-is in
    sym (ap encode_fault (c.in-Encode-Json.is ∙ ap Encode inside))
