use Rattle.std.proofs.Common.{◌≡◌, max, map, option_map, drop}
use Rattle.std.specs.Option.{unwrap_or}
use Rattle.fb_schema.specs.Alignments.{greatest_in}
use Rattle.fb_layout.specs.Laid.{no_struct}
use Rattle.fb_layout.specs.Known.{sizes_seen}
use Rattle.fb_layout.proofs.greatest.structs_align.Given as goal

abbrev pub invariant-loop-sizes : goal.invariant-loop-sizes
invariant-loop-sizes l =
    max l.greatest (greatest_in
    (map (λ r. r.align) (map (λ s. unwrap_or s no_struct)
    (map (option_map sizes_seen) (drop l.sizes-index l.structs)))))
    ≡ greatest_in (map (λ r. r.align) (map (λ s. unwrap_or s no_struct) (map (option_map sizes_seen) l.structs)))
