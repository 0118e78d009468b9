use Rattle.std.proofs.Common.{◌≡◌, max, length, map, drop}
use Rattle.fb_schema.specs.Schema.{slots_in}
use Rattle.fb_schema.specs.Seen.{type_seen}
use Rattle.fb_schema.specs.Alignments.{greatest_in}
use Rattle.fb_layout.proofs.bodies.most_slots.Given as goal

abbrev pub invariant-loop-info : goal.invariant-loop-info
invariant-loop-info l =
    max l.most (greatest_in (map (λ type. length (slots_in type.body)) (map type_seen (drop l.info-index l.types))))
    ≡ greatest_in (map (λ type. length (slots_in type.body)) (map type_seen l.types))
