-- What a walk counts of a value.
use Rattle.std.specs.Prelude.{ℕ, ◌≡◌, Bool}
use Rattle.fb_owned.specs.declared.counts.Counts.{Counts}
use Rattle.fb_value.specs.Datum.{Datum, Parts, SlotEntries}
use Rattle.fb_value.specs.Counts.{cells, parts_cells, entries_cells, depth, parts_depth, entries_depth}
use Rattle.fb_value.specs.Counts.{is_whole, parts_whole, entries_whole}
use Rattle.fb_value.specs.UpTo.{at_most_usize}

-- Each number is counted up to the greatest `usize`.
pub record IsCount (c : Counts) (n most : ℕ) (known : Bool) : Type 0 where
  pub cells : c.cells ≡ at_most_usize n
  pub depth : c.depth ≡ at_most_usize most
  pub whole : c.is_whole ≡ known

abbrev pub IsCountOf : Counts → Datum → Type 0
IsCountOf c d = IsCount c (cells d) (depth d) (is_whole d)

abbrev pub IsCountOfParts : Counts → Parts → Type 0
IsCountOfParts c ds = IsCount c (parts_cells ds) (parts_depth ds) (parts_whole ds)

abbrev pub IsCountOfEntries : Counts → SlotEntries → Type 0
IsCountOfEntries c es = IsCount c (entries_cells es) (entries_depth es) (entries_whole es)
