use Rattle.std.proofs.Common.{◌≡◌, map, take}
use Rattle.fb_schema.specs.Seen.{field_seen}
use Rattle.fb_layout.specs.Required.{required_numbers}
use Rattle.fb_layout.proofs.required.required_in.Given as goal

abbrev pub invariant-loop-field : goal.invariant-loop-field
invariant-loop-field l = l.numbers.items ≡ required_numbers (map field_seen (take l.field-index l.slots))
