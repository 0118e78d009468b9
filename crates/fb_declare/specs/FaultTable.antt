-- The faults of declarations: number, name and offset.
use Rattle.std.specs.Prelude.{ℕ, List, Option, None, Some, codes}
use Rattle.fb_declare.specs.declared.faults.SchemaFault.{SchemaFault}
use Rattle.fb_declare.specs.declared.faults.SchemaFault.TheVariants as faults

-- the number of the rule, which no other fault has, the name of the variant, and where the rule fails
abbrev pub entry_of : SchemaFault → ℕ × List ℕ × Option ℕ
entry_of (faults.DuplicateName at) = (10, codes "DuplicateName", Some at)
entry_of (faults.UnknownType at) = (11, codes "UnknownType", Some at)
entry_of (faults.BadDefault at) = (12, codes "BadDefault", Some at)
entry_of (faults.BadIds at) = (13, codes "BadIds", Some at)
entry_of (faults.IncompleteStruct at) = (14, codes "IncompleteStruct", Some at)
entry_of (faults.EmptyStruct at) = (15, codes "EmptyStruct", Some at)
entry_of (faults.BadAttribute at) = (16, codes "BadAttribute", Some at)
entry_of (faults.UnknownAttribute at) = (17, codes "UnknownAttribute", Some at)
entry_of (faults.Unsupported at) = (18, codes "Unsupported", Some at)
entry_of (faults.BadEnumValue at) = (19, codes "BadEnumValue", Some at)
entry_of (faults.BadMember at) = (20, codes "BadMember", Some at)
entry_of (faults.BadRoot at) = (21, codes "BadRoot", Some at)
entry_of (faults.BadIdentifier at) = (22, codes "BadIdentifier", Some at)
entry_of faults.Memory = (23, codes "Memory", None)

-- the number and the name
abbrev pub row_of : SchemaFault → ℕ × List ℕ
row_of f = ((entry_of f).0, (entry_of f).1)

abbrev pub number_of : SchemaFault → ℕ
number_of f = (row_of f).0

abbrev pub name_of : SchemaFault → List ℕ
name_of f = (row_of f).1

-- in bytes from the text's start; running out of memory has no place
abbrev pub offset_of : SchemaFault → Option ℕ
offset_of f = (entry_of f).2
