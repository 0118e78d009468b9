-- A layout as it is held.
use Rattle.std.specs.Prelude.{ℕ, ◌≡◌, map, slice_index_or}
use Rattle.std.specs.Option.{option_map}
use Rattle.fb_layout.specs.declared.layouts.Layout.TheInside.{Inside}
use Rattle.fb_layout.specs.Laid.{LaidSchema}
use Rattle.fb_layout.specs.Widths.{widest, table_align, greatest, most_slots}
use Rattle.fb_layout.specs.RequiredHeld.{HaveRequired}
use Rattle.fb_layout.specs.WellMade.{IsWellMade}
use Rattle.fb_layout.specs.Known.{sizes_seen, no_table, layout_known}

abbrev pub layout_seen : Inside → LaidSchema
layout_seen l = layout_known l.schema (map (option_map sizes_seen) l.structs.items)

-- It is well made, and beside it stand the sizes of its tables, their required slots, the greatest alignment and the
-- most slots.
pub record IsLaid (l : Inside) : Type 0 where
  pub made : IsWellMade (layout_seen l)
  pub tables : (t : ℕ)
      → slice_index_or l.tables.items t no_table
      ≡ record { widest = widest (layout_seen l) t; align = table_align (layout_seen l) t }
  pub required : HaveRequired l.required (layout_seen l).schema.types
  pub greatest : l.greatest ≡ greatest (layout_seen l)
  pub most_slots : l.most_slots ≡ most_slots l.schema
