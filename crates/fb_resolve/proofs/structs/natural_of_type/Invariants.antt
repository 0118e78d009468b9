use Rattle.std.proofs.Common.{◌≡◌, max, map, drop}
use Rattle.fb_schema.specs.Alignments.{greatest_in}
use Rattle.fb_resolve.specs.StructsRead.{align_in}
use Rattle.fb_resolve.proofs.structs.natural_of_type.Given as goal

abbrev pub invariant-loop-field : goal.invariant-loop-field
invariant-loop-field l = let align = align_in l.outline.types l.lower in
    max l.natural (greatest_in (map align (drop l.field-index l.field-items))) ≡ greatest_in (map align l.field-items)
