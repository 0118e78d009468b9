-- Which of several faults is reported: the one of least offset, then of lowest number.
use Rattle.std.specs.Prelude.{ℕ, ◌==◌, ◌&&◌, ◌||◌, Bool, List, [], ◌∷◌, Option, None, Some, if◌then◌else◌, nat_lt}
use Rattle.std.specs.Prelude.{unwrap_or}
use Rattle.fb_declare.specs.FaultTable.{number_of, offset_of}
use Rattle.fb_declare.specs.declared.faults.SchemaFault.{SchemaFault}

-- the offset by which faults are ordered
abbrev pub at_of : SchemaFault → ℕ
at_of f = unwrap_or (offset_of f) 0

abbrev pub comes_before : SchemaFault → SchemaFault → Bool
comes_before f g = nat_lt (at_of f) (at_of g) || (at_of f == at_of g && nat_lt (number_of f) (number_of g))

-- the one that comes before the other, if there are two
abbrev pub earlier : Option SchemaFault → Option SchemaFault → Option SchemaFault
earlier None g = g
earlier (Some f) None = Some f
earlier (Some f) (Some g) = if comes_before g f then Some g else Some f

-- the fault that is told of some
abbrev pub least_of : List SchemaFault → Option SchemaFault
least_of [] = None
least_of (f ∷ fs) = earlier (Some f) (least_of fs)
