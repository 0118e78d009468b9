-- The faults of a buffer: number, name and offset.
use Rattle.std.specs.Prelude.{ℕ, List, Option, None, Some, codes}
use Rattle.fb_value.specs.declared.faults.ReadFault.{ReadFault}
use Rattle.fb_value.specs.declared.faults.ReadFault.TheVariants.{Short, TooLong, WrongIdentifier, Misaligned}
use Rattle.fb_value.specs.declared.faults.ReadFault.TheVariants.{OutOfBounds, ZeroOffset, BadVtable, MissingRequired}
use Rattle.fb_value.specs.declared.faults.ReadFault.TheVariants.{NoTerminator, BadUtf8, UnionMismatch, TooDeep}
use Rattle.fb_value.specs.declared.faults.ReadFault.TheVariants.{TooManyCells, Memory}

-- the number of the rule, which no other fault has, and the name of the variant
abbrev pub row_of : ReadFault → ℕ × List ℕ
row_of (Short at) = (50, codes "Short")
row_of (TooLong at) = (51, codes "TooLong")
row_of (WrongIdentifier at) = (52, codes "WrongIdentifier")
row_of (Misaligned at) = (53, codes "Misaligned")
row_of (OutOfBounds at) = (54, codes "OutOfBounds")
row_of (ZeroOffset at) = (55, codes "ZeroOffset")
row_of (BadVtable at) = (56, codes "BadVtable")
row_of (MissingRequired at slot) = (57, codes "MissingRequired")
row_of (NoTerminator at) = (58, codes "NoTerminator")
row_of (BadUtf8 at) = (59, codes "BadUtf8")
row_of (UnionMismatch at) = (60, codes "UnionMismatch")
row_of (TooDeep at) = (62, codes "TooDeep")
row_of (TooManyCells at) = (63, codes "TooManyCells")
row_of Memory = (64, codes "Memory")

abbrev pub number_of : ReadFault → ℕ
number_of f = (row_of f).0

abbrev pub name_of : ReadFault → List ℕ
name_of f = (row_of f).1

-- where the rule fails, in bytes from the start; what isn't bound to a place has none
abbrev pub offset_of : ReadFault → Option ℕ
offset_of (Short at) = Some at
offset_of (TooLong at) = Some at
offset_of (WrongIdentifier at) = Some at
offset_of (Misaligned at) = Some at
offset_of (OutOfBounds at) = Some at
offset_of (ZeroOffset at) = Some at
offset_of (BadVtable at) = Some at
offset_of (MissingRequired at slot) = Some at
offset_of (NoTerminator at) = Some at
offset_of (BadUtf8 at) = Some at
offset_of (UnionMismatch at) = Some at
offset_of (TooDeep at) = Some at
offset_of (TooManyCells at) = Some at
offset_of Memory = None
