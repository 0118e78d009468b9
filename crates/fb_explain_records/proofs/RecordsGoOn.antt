-- A text of records, and one more.
use Rattle.std.proofs.Common.{◌≡◌, ◌++◌, ◌∷◌, ◌∙◌, ◌<◌, ◌+◌, List, [], ℕ, append-nil, append_assoc, ap, refl}
use Rattle.std.proofs.Common.{sym, take, length, get_or, subst}
use Rattle.std.proofs.lemmas.List.{take_more}
use Rattle.fb_findings.specs.declared.finding.Finding.{Finding}
use Rattle.fb_explain_records.specs.Records.{AreRecords}

pub with_last : (P : Finding → List ℕ → Type 0) (findings : List Finding) (f : Finding) (text line : List ℕ)
    → AreRecords P findings text → P f line → AreRecords P (findings ++ f ∷ []) (text ++ line)
with_last P [] f text line are is =
    (line, [], ap (λ (t : List ℕ). t ++ line) are ∙ sym (append-nil line), is, refl)
with_last P (first ∷ findings) f text line are is = (
  are.0,
  are.1 ++ line,
  ap (λ (t : List ℕ). t ++ line) are.2 ∙ append_assoc are.0 are.1 line,
  are.3,
  with_last P findings f are.1 line are.4 is,
)

pub one_more : (P : Finding → List ℕ → Type 0) (findings : List Finding) (i : ℕ) (f : Finding) (text new line : List ℕ)
    → i < length findings → f ≡ get_or findings i f → AreRecords P (take i findings) text → P f line
    → new ≡ text ++ line
    → AreRecords P (take (i + 1) findings) new
one_more P findings i f text new line lt same are is grown =
    rw (grown, take_more findings i f lt) (with_last P (take i findings) (get_or findings i f) text line are
    (subst (λ (g : Finding). P g line) same is))
