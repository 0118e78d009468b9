-- The texts of findings, one for each.
use Rattle.std.specs.Prelude.{ℕ, ◌≡◌, ◌++◌, List, [], ◌∷◌, codes, decimal}
use Rattle.fb_faults.specs.FaultTable.{name_of, number_of}
use Rattle.fb_findings.specs.declared.finding.Finding.{Finding}
use Rattle.fb_explain_records.specs.Places.{position_shown, severity_word}

-- the file and the position of a finding
abbrev pub place_text : List ℕ → Finding → List ℕ
place_text file f = file ++ (codes ":" ++ (decimal (position_shown f.place).line ++ (codes ":"
    ++ decimal (position_shown f.place).column)))

-- the same, and how bad it is
abbrev pub head_of : List ℕ → Finding → List ℕ
head_of file f = place_text file f ++ (codes ": " ++ (severity_word f.severity ++ codes ": "))

-- the number and the name of its fault, which end the line
abbrev pub tail_of : Finding → List ℕ
tail_of f = codes " [" ++ (decimal (number_of f.fault) ++ (codes " " ++ (name_of f.fault ++ codes "]\n")))

-- FILE:LINE:COLUMN: error: WORDS [NUMBER NAME]
pub record IsShortLine (f : Finding) (line : List ℕ) : Type 0 where
  pub file : List ℕ
  pub words : List ℕ
  pub spelled : line ≡ head_of file f ++ (words ++ tail_of f)

-- The text is one record for each finding, in order.
abbrev pub AreRecords : (Finding → List ℕ → Type 0) → List Finding → List ℕ → Type 0
AreRecords P [] text = text ≡ []
AreRecords P (f ∷ fs) text = (line : List ℕ) × (rest : List ℕ) × (text ≡ line ++ rest) × P f line × AreRecords P fs rest
