-- Where a finding is shown, and how bad it is.
use Rattle.std.specs.Prelude.{ℕ, List, Option, None, Some, codes, unwrap_or}
use Rattle.fb_findings.specs.declared.finding.Severity.{Severity}
use Rattle.fb_findings.specs.declared.finding.Severity.TheVariants.{Error, Warning}
use Rattle.fb_findings.specs.declared.positions.Position.{Position}
use Rattle.fb_findings.specs.declared.sources.Location.{Location}

abbrev pub severity_word : Severity → List ℕ
severity_word Error = codes "error"
severity_word Warning = codes "warning"

abbrev pub first_position : Position
first_position = record { line = 1; column = 1 }

-- the position in a file, or the first one where there is none
abbrev pub position_shown : Option Location → Position
position_shown None = first_position
position_shown (Some l) = unwrap_or l.position first_position
