-- How a refusal to encode is reported.
use Rattle.std.specs.Prelude.{⊤}
use Rattle.fb_encode.specs.declared.faults.EncodeFault.TheVariants as the_fault
use Rattle.fb_encode.specs.declared.faults.JsonTextFault.{JsonTextFault}
use Rattle.fb_encode.specs.declared.faults.JsonTextFault.TheVariants as the_text
use Rattle.fb_faults.specs.declared.faults.ToolFault.{ToolFault}
use Rattle.fb_faults.specs.declared.faults.ToolFault.TheVariants.{BadJson, Json, Build, Memory}

abbrev pub encode_fault : JsonTextFault → ToolFault
encode_fault the_text.BadJson = BadJson
encode_fault the_text.Memory = Memory
encode_fault (the_text.Encode (the_fault.Json f)) = Json f
encode_fault (the_text.Encode (the_fault.Build f)) = Build f

-- it is of the JSON text, which isn't JSON, or whose meaning breaks a rule
abbrev pub IsOfJson : ToolFault → Type 0
IsOfJson BadJson = ⊤
IsOfJson Memory = ⊤
IsOfJson (Json f) = ⊤
IsOfJson _ = ⊥
