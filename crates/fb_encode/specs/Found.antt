-- What a walk over a text found: what was asked for, or the first fault of what the text means.
use Rattle.std.specs.Prelude.{Option, None, Some, Result, Ok, Err, ⊤}
use Rattle.fb_json.specs.declared.faults.JsonFault.{JsonFault}
use Rattle.fb_encode.specs.declared.unnoted.Unnoted.{Unnoted}
use Rattle.fb_encode.specs.declared.unnoted.Unnoted.TheVariants.{Fault, Unread}

-- what was found, if the text was read
abbrev pub found_of : {A : Type 0} → Result A Unnoted → Option (Result A JsonFault)
found_of (Ok x) = Some (Ok x)
found_of (Err (Fault f)) = Some (Err f)
found_of (Err (Unread u)) = None

-- If the text was read, this holds of what was found.
abbrev pub IfFound : {A : Type 0} → Result A Unnoted → (Result A JsonFault → Type 0) → Type 0
IfFound (Ok x) P = P (Ok x)
IfFound (Err (Fault f)) P = P (Err f)
IfFound (Err (Unread u)) P = ⊤

-- If the text was read, this holds of its fault.
abbrev pub IfFault : Unnoted → (JsonFault → Type 0) → Type 0
IfFault (Fault f) P = P f
IfFault (Unread u) P = ⊤
