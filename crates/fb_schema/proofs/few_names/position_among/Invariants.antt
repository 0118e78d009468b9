use Rattle.std.proofs.Common.{◌≡◌, drop, bytes_eq}
use Rattle.std.specs.List.{position_from}
use Rattle.fb_schema.proofs.few_names.position_among.Given as goal

abbrev pub invariant-loop-place : goal.invariant-loop-place
invariant-loop-place g l = position_from (λ x. bytes_eq l.name (g.T.Named.name x)) 0 l.items ≡ position_from
    (λ x. bytes_eq l.name (g.T.Named.name x)) l.place (drop l.place l.items)
