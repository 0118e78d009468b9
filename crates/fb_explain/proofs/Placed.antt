-- Findings at their faults' offsets.
use Rattle.std.specs.Prelude.{ℕ, ◌≡◌, Bool, true, false, if◌then◌else◌, List, Option, None, Some, IfSome}
use Rattle.std.specs.Prelude.{IfOk, Result, Ok, Err}
use Rattle.std.proofs.Common.{ap, sym, subst, ◌∙◌}
use Rattle.std.proofs.lemmas.Option.{none-some}
use Rattle.fb_faults.specs.FaultTable.{offset_of}
use Rattle.fb_faults.specs.declared.faults.ToolFault.{ToolFault}
use Rattle.fb_faults.specs.declared.faults.ToolFault.TheVariants as the_faults
use Rattle.fb_findings.specs.Findings.{own_offset, offset_in, is_of_ids, IsLineOf, IsPlacedIn}
use Rattle.fb_findings.specs.Positions.{IsPosition}
use Rattle.fb_findings.specs.declared.finding.Finding.{Finding}
use Rattle.fb_findings.specs.declared.sources.Location.{Location}

unless_none : (b : Bool) (x : Option ℕ) (o : ℕ) → (if b then None else x) ≡ Some o → x ≡ Some o
unless_none true x o is = absurd (none-some o is)
unless_none false x o is = is

own_is_offset : (f : ToolFault) (o : ℕ) → own_offset f ≡ Some o → offset_of f ≡ Some o
own_is_offset (the_faults.Schema f) o is = unless_none (is_of_ids f) (offset_of (the_faults.Schema f)) o is
own_is_offset (the_faults.Json f) o is = is
own_is_offset (the_faults.Build f) o is = is
own_is_offset (the_faults.Read f) o is = is
own_is_offset (the_faults.Text f) o is = is
own_is_offset (the_faults.Write f) o is = is
own_is_offset (the_faults.Breach f) o is = is
own_is_offset (the_faults.NameMoved f) o is = is
own_is_offset (the_faults.Older f) o is = unless_none (is_of_ids f) (offset_of (the_faults.Older f)) o is
own_is_offset (the_faults.Newer f) o is = unless_none (is_of_ids f) (offset_of (the_faults.Newer f)) o is
own_is_offset the_faults.FileRead o is = is
own_is_offset the_faults.FileWrite o is = is
own_is_offset the_faults.FileTooLong o is = is
own_is_offset the_faults.BadJson o is = is
own_is_offset the_faults.Memory o is = is

no_line : (text : List ℕ) (p : Option Location) → IfSome p (λ l. l.position ≡ None) → IfSome p (IsLineOf text)
no_line text None none = none
no_line text (Some l) none =
    subst (λ p. IfSome p (λ q. (offset : ℕ) → l.offset ≡ Some offset → IsPosition text offset q)) (sym none) tt

-- a finding at the offset of its fault, without a line
pub placed_at : {E : Type 0} (f : ToolFault) (text : List ℕ) (r : Result Finding E) → IfOk r (λ g. g.fault ≡ f)
    → IfOk r (λ g. offset_in g.place ≡ offset_of f) → IfOk r (λ g. IfSome g.place (λ l. l.position ≡ None))
    → IfOk r (IsPlacedIn text)
placed_at f text (Err e) fault place line = line
placed_at f text (Ok g) fault place line = record {
  at = λ o is. place ∙ own_is_offset f o (ap own_offset (sym fault) ∙ is);
  line = no_line text g.place line;
}

-- a finding of a fault that has no offset
pub placed_anywhere : {E : Type 0} (f : ToolFault) (text : List ℕ) (r : Result Finding E) → own_offset f ≡ None
    → IfOk r (λ g. g.fault ≡ f) → IfOk r (λ g. IfSome g.place (IsLineOf text)) → IfOk r (IsPlacedIn text)
placed_anywhere f text (Err e) none fault line = line
placed_anywhere f text (Ok g) none fault line = record {
  at = λ o is. absurd (none-some o (sym none ∙ (ap own_offset (sym fault) ∙ is)));
  line = line;
}

pub line_without_position : {E : Type 0} (text : List ℕ) (r : Result Finding E)
    → IfOk r (λ g. IfSome g.place (λ l. l.position ≡ None)) → IfOk r (λ g. IfSome g.place (IsLineOf text))
line_without_position text (Err e) none = none
line_without_position text (Ok g) none = no_line text g.place none

pub line_nowhere : {E : Type 0} (text : List ℕ) (r : Result Finding E) → IfOk r (λ g. g.place ≡ None)
    → IfOk r (λ g. IfSome g.place (IsLineOf text))
line_nowhere text (Err e) none = none
line_nowhere text (Ok g) none = subst (λ p. IfSome p (IsLineOf text)) (sym none) tt
