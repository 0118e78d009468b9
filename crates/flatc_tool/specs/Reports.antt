-- What the command writes of an answer.
use Rattle.std.specs.Prelude.{ℕ, ◌≤◌, ◌++◌, List, [], ◌∷◌, length, take, Bool, Option}
use Rattle.std.specs.Io.KnownBytes.{Appends}
use Rattle.fb_text.specs.Noted.{IsWrittenUnlessFailed}
use Rattle.flatc_tool.specs.FaultLines.{line_of}
use Rattle.fb_faults.specs.declared.faults.ToolFault.{ToolFault}

-- a line ends with a line feed
abbrev pub ended : List ℕ → List ℕ
ended line = line ++ (10 ∷ [])

-- The line of a fault was written, or its first bytes and then a write failed.
abbrev pub IsTold : ToolFault → Option (List ℕ) → Option (List ℕ) → Type 0
IsTold f start known = (m : ℕ) × (m ≤ length (ended (line_of f))) × Appends start known (take m (ended (line_of f)))

-- The line of a fault was written; or only its first bytes were, and the last write failed.
abbrev pub IsToldUnlessFailed : ToolFault → Bool → Option (List ℕ) → Option (List ℕ) → Type 0
IsToldUnlessFailed f failed start known = IsWrittenUnlessFailed (ended (line_of f)) failed start known
