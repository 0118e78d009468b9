-- What C is told of a fault.
use Rattle.std.specs.Prelude.{◌≡◌, ◌-◌, ◌++◌, ℕ, List, length, take, replicate, is_some, unwrap_or, ⊤, Bool, ◌&&◌}
use Rattle.std.specs.Prelude.{not, nat_eq, nat_lt}
use Rattle.std.specs.List.{list_all, list_any}
use Rattle.fb_conform.specs.declared.breaches.Breach as breaches
use Rattle.fb_value.specs.declared.faults.ReadFault.{ReadFault}
use Rattle.fb_faults.specs.FaultTable.{name_of, number_of, offset_of}
use Rattle.fb_faults.specs.FaultPlaces.{owner_of, slot_of}
use Rattle.fb_faults.specs.declared.faults.ToolFault.{ToolFault}
use Rattle.fb_faults.specs.declared.faults.ToolFault.TheVariants.{Schema, Read, Breach, Write, NameMoved}
use Rattle.fb_faults.specs.declared.faults.ToolFault.TheVariants.{Older, Newer, FileRead, FileWrite, FileTooLong}
use Rattle.fb_declare.specs.declared.schema_layouts.SchemaTextFault.{SchemaTextFault}
use Rattle.flatc_c.specs.declared.faults.Fault.{Fault}

-- a name in a field of 32 bytes, with zeros after it, at least one: each fault's name is shorter than 32
abbrev pub name_field : List ℕ → List ℕ
name_field name = take 31 name ++ replicate (32 - length (take 31 name)) 0

-- The struct says which fault it is and where. What the fault doesn't have is false and 0.
pub record IsTold (t : Fault) (f : ToolFault) : Type 0 where
  pub number : t.number ≡ number_of f
  pub name : t.name ≡ name_field (name_of f)
  pub has_offset : t.has_offset ≡ is_some (offset_of f)
  pub offset : t.offset ≡ unwrap_or (offset_of f) 0
  pub has_type : t.has_type ≡ is_some (owner_of f)
  pub owner : t.type_id ≡ unwrap_or (owner_of f) 0
  pub has_slot : t.has_slot ≡ is_some (slot_of f)
  pub slot : t.slot ≡ unwrap_or (slot_of f) 0
  pub reserved : t.reserved ≡ replicate 10 0

-- The calls report it: it is none of files, of writing, of names that moved, or of the command's two schemas.
abbrev pub IsReported : ToolFault → Type 0
IsReported (Write f) = ⊥
IsReported (NameMoved m) = ⊥
IsReported (Older f) = ⊥
IsReported (Newer f) = ⊥
IsReported FileRead = ⊥
IsReported FileWrite = ⊥
IsReported FileTooLong = ⊥
IsReported f = ⊤

-- A text is a sentence: a byte of it is no blank and no control character, and none is a line feed (10).
abbrev pub is_sentence : List ℕ → Bool
is_sentence text = list_any (λ byte. nat_lt 32 byte) text && list_all (λ byte. not (nat_eq byte 10)) text

-- It tells a fault of which this is so.
abbrev pub Told : Fault → (ToolFault → Type 0) → Type 0
Told t P = (f : ToolFault) × IsTold t f × P f

abbrev pub OnSchemaFault : (SchemaTextFault → Type 0) → ToolFault → Type 0
OnSchemaFault P (Schema f) = P f
OnSchemaFault P _ = ⊥

abbrev pub OnReadFault : (ReadFault → Type 0) → ToolFault → Type 0
OnReadFault P (Read f) = P f
OnReadFault P _ = ⊥

abbrev pub OnBreach : (breaches.Breach → Type 0) → ToolFault → Type 0
OnBreach P (Breach b) = P b
OnBreach P _ = ⊥
