-- What a view stands for.
use Rattle.std.specs.Prelude.{ℕ, ◌+◌, ◌*◌, ◌≡◌, Option, None, Some}
use Rattle.fb_layout.specs.Laid.{parts_of, struct_at, stored_kind, size_of}
use Rattle.fb_value.specs.Datum.{Datum, Parts, count}
use Rattle.fb_value.specs.Places.{table_part, part_place}
use Rattle.fb_value.specs.Lies.{Lies, LiesParts, LiesItems}
use Rattle.fb_read.specs.declared.view.View.{View}
use Rattle.fb_read.specs.declared.fixed_view.FixedView.{FixedView}
use Rattle.fb_read.specs.declared.items.Items.{Items}
use Rattle.fb_read.specs.Views.{table_in, member_in, vector_in, struct_in}

-- the table that lies where the view is
abbrev pub Shows : View → Datum → Type 0
Shows view d = Lies view.layout.now view.bytes.now (part_place (table_part view.table.0)) view.at d

-- the view stands for the table that an entry is; there is no view where the entry is no table
abbrev pub ShowsTable : Option View → Option Datum → Type 0
ShowsTable None o = table_in o ≡ None
ShowsTable (Some view) o = (d : Datum) × (table_in o ≡ Some d) × Shows view d

-- the same of a union's member, under its code
abbrev pub ShowsMember : Option (ℕ × View) → Option Datum → Type 0
ShowsMember None o = member_in o ≡ None
ShowsMember (Some (code, view)) o = (d : Datum) × (member_in o ≡ Some (code, d)) × Shows view d

-- the fields of the struct that lies where the view is
abbrev pub ShowsFields : FixedView → Parts → Type 0
ShowsFields view ds = LiesParts view.layout.now view.bytes.now (parts_of view.layout.now view.structure.0)
    (struct_at view.layout.now view.structure.0).offsets view.at ds

-- the elements of the vector that lies where the view is
abbrev pub ShowsItems : Items → Parts → Type 0
ShowsItems items ds = (count ds ≡ items.len) × LiesItems items.layout.now items.bytes.now
    (stored_kind items.layout.now.schema items.kind) items.at ds

-- where element i stands
abbrev pub item_at : Items → ℕ → ℕ
item_at items i = items.at + i * size_of items.layout.now (stored_kind items.layout.now.schema items.kind)

-- the view stands for the struct that an entry is
abbrev pub ShowsStruct : Option FixedView → Option Datum → Type 0
ShowsStruct None o = struct_in o ≡ None
ShowsStruct (Some view) o = (ds : Parts) × (struct_in o ≡ Some ds) × ShowsFields view ds

-- the same of a vector
abbrev pub ShowsVector : Option Items → Option Datum → Type 0
ShowsVector None o = vector_in o ≡ None
ShowsVector (Some items) o = (ds : Parts) × (vector_in o ≡ Some ds) × ShowsItems items ds
