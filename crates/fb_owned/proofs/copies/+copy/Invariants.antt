use Rattle.std.proofs.Common.{◌≡◌, take, map, option_map}
use Rattle.fb_value.specs.View.{view}
use Rattle.fb_owned.proofs.copies.+copy.Given as goal

abbrev pub invariant-copy_parts-loop-part : goal.invariant-copy_parts-loop-part
invariant-copy_parts-loop-part l = map view l.copied.items ≡ map view (take l.part-index l.parts)

abbrev pub invariant-copy_entries-loop-entry : goal.invariant-copy_entries-loop-entry
invariant-copy_entries-loop-entry l = map (option_map view) l.copied.items
    ≡ map (option_map view) (take l.entry-index l.entries)
