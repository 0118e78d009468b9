-- What an entry that is read in place stands for, and a weight that falls from each to what stands in it.
use Rattle.std.specs.Prelude.{ℕ, ◌+◌, ◌-◌, ◌^◌, ◌<◌, ◌≡◌, length, Option, None, Some}
use Rattle.fb_layout.specs.Laid.{LaidSchema}
use Rattle.fb_value.specs.Datum.{Datum, a_number, a_text, a_vector, a_struct, a_member, an_unknown, Parts}
use Rattle.fb_read.specs.declared.entry.Entry.{Entry}
use Rattle.fb_read.specs.declared.entry.Entry.TheVariants.{Absent, Number, Text, Fixed, Table, Member, Unknown, Vector}
use Rattle.fb_read.specs.declared.view.View.{View}
use Rattle.fb_read.specs.declared.fixed_view.FixedView.{FixedView}
use Rattle.fb_read.specs.declared.items.Items.{Items}
use Rattle.fb_read.specs.declared.stored.Stored.{Stored}
use Rattle.fb_read.specs.declared.stored.Stored.TheVariants.{Absent as Unstored, Code as StoredCode}
use Rattle.fb_read.specs.declared.stored.Stored.TheVariants.{Unknown as StoredUnknown, Number as StoredNumber}
use Rattle.fb_read.specs.declared.stored.Stored.TheVariants.{Fixed as StoredFixed, Text as StoredText}
use Rattle.fb_read.specs.declared.stored.Stored.TheVariants.{Table as StoredTable, Member as StoredMember}
use Rattle.fb_read.specs.declared.stored.Stored.TheVariants.{Vector as StoredVector}
use Rattle.fb_read.specs.Shows.{Shows, ShowsFields, ShowsItems}

-- the entry is what was found, read by the same layout
abbrev pub ShowsEntry : LaidSchema → Entry → Option Datum → Type 0
ShowsEntry L Absent o = o ≡ None
ShowsEntry L (Number n) o = o ≡ Some (a_number n)
ShowsEntry L (Text s) o = o ≡ Some (a_text s.now)
ShowsEntry L (Fixed view) o =
    (view.layout.now ≡ L) × (ds : Parts) × (o ≡ Some (a_struct ds)) × ShowsFields view ds
ShowsEntry L (Table view) o = (view.layout.now ≡ L) × (d : Datum) × (o ≡ Some d) × Shows view d
ShowsEntry L (Member c view) o =
    (view.layout.now ≡ L) × (d : Datum) × (o ≡ Some (a_member c d)) × Shows view d
ShowsEntry L (Unknown c) o = o ≡ Some (an_unknown c)
ShowsEntry L (Vector items) o =
    (items.layout.now ≡ L) × (ds : Parts) × (o ≡ Some (a_vector ds)) × ShowsItems items ds

-- References lead on only, and structs stand in structs of later numbers.
abbrev pub table_weight : View → ℕ
table_weight view = 2 ^ 64 + (length view.bytes.now - view.at)

abbrev pub items_weight : Items → ℕ
items_weight items = 2 ^ 64 + (1 + (length items.bytes.now - items.at))

abbrev pub struct_weight : FixedView → ℕ
struct_weight view = 1 + view.structure.0

abbrev pub weight_of : Entry → ℕ
weight_of Absent = 0
weight_of (Number n) = 0
weight_of (Text s) = 0
weight_of (Fixed view) = struct_weight view
weight_of (Table view) = table_weight view
weight_of (Member c view) = table_weight view
weight_of (Unknown c) = 0
weight_of (Vector items) = items_weight items

-- what is stored stands behind a position
abbrev pub StandsBehind : ℕ → Stored → Type 0
StandsBehind p (Unstored default) = Unit {0}
StandsBehind p (StoredCode code q) = p < q
StandsBehind p (StoredUnknown code q) = p < q
StandsBehind p (StoredNumber base q) = p < q
StandsBehind p (StoredFixed s q) = p < q
StandsBehind p (StoredText q) = p < q
StandsBehind p (StoredTable t q) = p < q
StandsBehind p (StoredMember code t q) = p < q
StandsBehind p (StoredVector kind q) = p < q
