-- The line that tells a fault: its number and name, and of its place what it has.
use Rattle.std.specs.Prelude.{ℕ, ◌++◌, List, [], Option, None, Some, codes, decimal}
use Rattle.fb_faults.specs.FaultTable.{number_of, name_of, offset_of}
use Rattle.fb_faults.specs.FaultPlaces.{owner_of, slot_of, written_of}
use Rattle.fb_faults.specs.declared.faults.ToolFault.{ToolFault}
use Rattle.fb_faults.specs.declared.faults.ToolFault.TheVariants.{Older, Newer}

abbrev pub noted : List ℕ → Option ℕ → List ℕ
noted word None = []
noted word (Some n) = word ++ decimal n

-- which of two schemas is refused
abbrev pub side_of : ToolFault → List ℕ
side_of (Older f) = codes "old: "
side_of (Newer f) = codes "new: "
side_of _ = []

abbrev pub line_of : ToolFault → List ℕ
line_of f = side_of f ++ decimal (number_of f) ++ codes " " ++ name_of f
    ++ noted (codes " at ") (offset_of f) ++ noted (codes " in type ") (owner_of f)
    ++ noted (codes " slot ") (slot_of f) ++ noted (codes " after ") (written_of f)
