-- The tool's faults: number, name and offset, of a layer's fault that layer's.
use Rattle.std.specs.Prelude.{ℕ, List, Option, None, codes}
use Rattle.fb_declare.specs.TextFaultTable as schema_faults
use Rattle.fb_value.specs.FaultTable as read_faults
use Rattle.fb_build.specs.FaultTable as build_faults
use Rattle.fb_json.specs.FaultTable as json_faults
use Rattle.fb_text.specs.FaultTable as write_faults
use Rattle.fb_conform.specs.BreachTable as breaches
use Rattle.fb_faults.specs.declared.faults.ToolFault.{ToolFault}
use Rattle.fb_faults.specs.declared.faults.ToolFault.TheVariants.{Schema, Json, Build, Read, Text, Write, Breach}
use Rattle.fb_faults.specs.declared.faults.ToolFault.TheVariants.{NameMoved}
use Rattle.fb_faults.specs.declared.faults.ToolFault.TheVariants.{Older, Newer, FileRead, FileWrite, FileTooLong}
use Rattle.fb_faults.specs.declared.faults.ToolFault.TheVariants.{BadJson, Memory}

-- the number, which no other fault has, and the name
abbrev pub row_of : ToolFault → ℕ × List ℕ
row_of (Schema f) = schema_faults.row_of f
row_of (Json f) = json_faults.row_of f
row_of (Build f) = build_faults.row_of f
row_of (Read f) = read_faults.row_of f
row_of (Text f) = write_faults.text_row_of f
row_of (Write f) = write_faults.row_of f
row_of (Breach b) = breaches.row_of b
row_of (NameMoved m) = (103, codes "NameMoved")
row_of (Older f) = schema_faults.row_of f
row_of (Newer f) = schema_faults.row_of f
row_of FileRead = (110, codes "FileRead")
row_of FileWrite = (111, codes "FileWrite")
row_of FileTooLong = (112, codes "FileTooLong")
row_of BadJson = (113, codes "BadJson")
row_of Memory = (114, codes "Memory")

abbrev pub number_of : ToolFault → ℕ
number_of f = (row_of f).0

abbrev pub name_of : ToolFault → List ℕ
name_of f = (row_of f).1

-- JSON, values and their texts have places of their own kind, a type and a slot.
abbrev pub offset_of : ToolFault → Option ℕ
offset_of (Schema f) = schema_faults.offset_of f
offset_of (Older f) = schema_faults.offset_of f
offset_of (Newer f) = schema_faults.offset_of f
offset_of (Read f) = read_faults.offset_of f
offset_of _ = None
