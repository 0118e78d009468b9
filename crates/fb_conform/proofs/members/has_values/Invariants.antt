use Rattle.std.proofs.Common.{map, string_bytes}
use Rattle.fb_schema.specs.Schema.{body_at, values_in}
use Rattle.fb_conform.proofs.members.OneMemberMore.{ValuesThere}
use Rattle.fb_conform.proofs.members.has_values.Given as goal

abbrev pub invariant-loop-value : goal.invariant-loop-value
invariant-loop-value l =
    ValuesThere (values_in (body_at l.layout.schema l.enumeration.0)) (map (λ v. (string_bytes v.0, v.1)) l.values)
    l.value-index
