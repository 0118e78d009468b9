use Rattle.std.proofs.Common.{◌≡◌, ℕ, max, map, option_map, drop}
use Rattle.fb_schema.specs.Seen.{field_seen}
use Rattle.fb_schema.specs.Schema.{DeclaredField}
use Rattle.fb_schema.specs.Alignments.{greatest_in}
use Rattle.fb_layout.specs.Laid.{align_of, kind_in, stored_shape}
use Rattle.fb_layout.specs.Known.{sizes_seen, layout_known}
use Rattle.fb_layout.proofs.greatest.slots_align.Given as goal

abbrev pub invariant-loop-field : goal.invariant-loop-field
invariant-loop-field l = let align : DeclaredField → ℕ =
    λ f. align_of (layout_known l.schema (map (option_map sizes_seen) l.structs))
    (kind_in (stored_shape l.schema f.shape)) in
    max l.greatest (greatest_in (map align (map field_seen (drop l.field-index l.slots))))
    ≡ greatest_in (map align (map field_seen l.slots))
