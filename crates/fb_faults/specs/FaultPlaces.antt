-- What a fault of the tool says of its place, besides an offset: a declared type, a slot, how much was written.
use Rattle.std.specs.Prelude.{ℕ, Option, None, Some, option_map}
use Rattle.std.specs.Option.{option_map_or}
use Rattle.fb_declare.specs.TextFaultTable as schema_faults
use Rattle.fb_value.specs.declared.faults.ReadFault.TheVariants as the_read
use Rattle.fb_json.specs.FaultTable as json_faults
use Rattle.fb_json.specs.declared.faults.Place.{Place}
use Rattle.fb_text.specs.FaultTable as write_faults
use Rattle.fb_schema.specs.declared.kinds.TypeId.{TypeId}
use Rattle.fb_conform.specs.BreachTable as breaches
use Rattle.fb_faults.specs.declared.faults.ToolFault.{ToolFault}
use Rattle.fb_faults.specs.declared.faults.ToolFault.TheVariants.{Schema, Json, Read, Text, Write, Breach, Older}
use Rattle.fb_faults.specs.declared.faults.ToolFault.TheVariants.{Newer, NameMoved}

-- JSON, values and their texts have declared places, a type and one of its slots
abbrev pub place_of : ToolFault → Option Place
place_of (Json f) = json_faults.place_of f
place_of (Text f) = write_faults.text_place_of f
place_of (Write f) = write_faults.place_of f
place_of _ = None

-- the number of the type, of two schemas the old one's
abbrev pub owner_of : ToolFault → Option ℕ
owner_of (Schema f) = schema_faults.owner_of f
owner_of (Older f) = schema_faults.owner_of f
owner_of (Newer f) = schema_faults.owner_of f
owner_of (Breach b) = option_map (λ (t : TypeId). t.0) (breaches.type_of b)
owner_of (NameMoved m) = Some m.type_id.0
owner_of f = option_map (λ (p : Place). p.owner.0) (place_of f)

abbrev pub slot_of : ToolFault → Option ℕ
slot_of (Read (the_read.MissingRequired at slot)) = Some slot
slot_of (Breach b) = breaches.slot_of b
slot_of (NameMoved m) = Some m.slot
slot_of f = option_map_or (λ (p : Place). p.slot) (place_of f) None

-- how many bytes were written before a write failed
abbrev pub written_of : ToolFault → Option ℕ
written_of (Write f) = write_faults.written_of f
written_of _ = None
