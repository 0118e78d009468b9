use Rattle.std.proofs.Common.{◌≡◌, ◌<◌, ◌^◌, ◌+◌, max, drop, ◌&&◌}
use Rattle.fb_value.specs.View.{parts_view, entries_view}
use Rattle.fb_value.specs.Counts.{parts_cells, entries_cells, parts_depth, entries_depth, parts_whole, entries_whole}
use Rattle.fb_value.specs.UpTo.{at_most_usize}
use Rattle.fb_owned.proofs.counts.+count.Given as goal

abbrev pub invariant-count_parts-loop-part : goal.invariant-count_parts-loop-part
invariant-count_parts-loop-part l =
    let left = parts_view (drop l.part-index l.parts) in
    let all = parts_view l.parts in record {
      small : l.total.cells < 2 ^ 64;
      flat : l.total.depth < 2 ^ 64;
      cells : at_most_usize (l.total.cells + parts_cells left) ≡ at_most_usize (parts_cells all);
      depth : at_most_usize (max l.total.depth (parts_depth left)) ≡ at_most_usize (parts_depth all);
      whole : (l.total.is_whole && parts_whole left) ≡ parts_whole all;
    }

abbrev pub invariant-count_entries-loop-entry : goal.invariant-count_entries-loop-entry
invariant-count_entries-loop-entry l =
    let left = entries_view (drop l.entry-index l.entries) in
    let all = entries_view l.entries in record {
      small : l.total.cells < 2 ^ 64;
      flat : l.total.depth < 2 ^ 64;
      cells : at_most_usize (l.total.cells + entries_cells left) ≡ at_most_usize (entries_cells all);
      depth : at_most_usize (max l.total.depth (entries_depth left)) ≡ at_most_usize (entries_depth all);
      whole : (l.total.is_whole && entries_whole left) ≡ entries_whole all;
    }
