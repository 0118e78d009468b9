-- Findings at their faults' offsets.
use Rattle.std.specs.Prelude.{ℕ, ◌≡◌, ◌++◌, ◌∷◌, Bool, true, false, if◌then◌else◌, List, [], Option, None, Some, IfSome, All}
use Rattle.std.specs.Prelude.{IfOk, Result, Ok, Err}
use Rattle.std.proofs.Common.{ap, refl, sym, subst, ◌∙◌}
use Rattle.std.proofs.lemmas.Option.{none-some, same_Some}
use Rattle.std.proofs.lemmas.List.Elements.{All-nil, All-push}
use Rattle.fb_syntax.specs.FaultTable as syntax_faults
use Rattle.fb_declare.specs.FaultTable as schema_faults
use Rattle.fb_declare.specs.TextFaultTable.{offset_of}
use Rattle.fb_declare.specs.SchemaTexts.{IsWant}
use Rattle.fb_declare.specs.declared.schema_layouts.SchemaTextFault.TheVariants.{Syntax, Schema, Layout}
use Rattle.fb_declare.specs.declared.schema_layouts.SchemaTextFault.{SchemaTextFault}
use Rattle.fb_findings.specs.declared.finding.Finding.{Finding}
use Rattle.fb_findings.specs.declared.sources.Location.{Location}
use Rattle.fb_findings.specs.declared.positions.Position.{Position}
use Rattle.fb_findings.specs.Positions.{IsPosition}
use Rattle.fb_findings.specs.Findings.{own_offset, offset_in, is_of_ids, BeginsWith, IsPlacedIn, IsLineOf}
use Rattle.fb_faults.specs.declared.faults.ToolFault.{ToolFault}
use Rattle.fb_explain_schemas.specs.declared.refusals.Which.{Which}
use Rattle.fb_explain_schemas.specs.declared.refusals.Which.TheVariants.{Only, Older, Newer}
use Rattle.fb_explain_schemas.specs.Refusals.{refusal, AddsPlaced}

unless_none : (b : Bool) (x : Option ℕ) (o : ℕ) → (if b then None else x) ≡ Some o → (b ≡ false) × (x ≡ Some o)
unless_none true x o e = absurd (none-some o e)
unless_none false x o e = (refl, e)

-- the offset that a schema text's finding is at is the fault's, and the fault isn't one of ids
pub own_offset_of : (w : Which) (f : SchemaTextFault) (o : ℕ) → own_offset (refusal w f) ≡ Some o
    → (is_of_ids f ≡ false) × (offset_of f ≡ Some o)
own_offset_of Only f o e = unless_none (is_of_ids f) (offset_of f) o e
own_offset_of Older f o e = unless_none (is_of_ids f) (offset_of f) o e
own_offset_of Newer f o e = unless_none (is_of_ids f) (offset_of f) o e

line_at_offset : (text : List ℕ) (offset : ℕ) (at : Option ℕ) (p : Option Position) → at ≡ Some offset
    → IfSome p (IsPosition text offset) → IfSome p (λ q. (o : ℕ) → at ≡ Some o → IsPosition text o q)
line_at_offset text offset at None is line = line
line_at_offset text offset at (Some q) is line = λ o e.
    subst (λ x. IsPosition text x q) (same_Some offset o (sym is ∙ e)) line

-- a place whose line is that of its offset
pub line_of : (text : List ℕ) (l : Location) (offset : ℕ) → l.offset ≡ Some offset
    → IfSome l.position (IsPosition text offset) → IsLineOf text l
line_of text l offset is line = line_at_offset text offset l.offset l.position is line

pub placed_at : {E : Type 0} (w : Which) (f : SchemaTextFault) (text : List ℕ) (offset : ℕ) (r : Result Finding E)
    → offset_of f ≡ Some offset → IfOk r (λ g. g.fault ≡ refusal w f)
    → IfOk r (λ g. is_of_ids f ≡ false → offset_in g.place ≡ Some offset)
    → IfOk r (λ g. IfSome g.place (IsLineOf text)) → IfOk r (IsPlacedIn text)
placed_at w f text offset (Err e) has fault place line = line
placed_at w f text offset (Ok g) has fault place line = record {
  at = λ o is.
      let own = own_offset_of w f o (ap own_offset (sym fault) ∙ is) in
      place own.0 ∙ (sym has ∙ own.1);
  line = line;
}

pub placed_nowhere : {E : Type 0} (w : Which) (f : SchemaTextFault) (text : List ℕ) (r : Result Finding E)
    → offset_of f ≡ None → IfOk r (λ g. g.fault ≡ refusal w f) → IfOk r (λ g. IfSome g.place (IsLineOf text))
    → IfOk r (IsPlacedIn text)
placed_nowhere w f text (Err e) none fault line = line
placed_nowhere w f text (Ok g) none fault line = record {
  at = λ o is. absurd (none-some o (sym none ∙ (own_offset_of w f o (ap own_offset (sym fault) ∙ is)).1));
  line = line;
}

pub want_has_no_offset : (f : SchemaTextFault) → IsWant f → offset_of f ≡ None
want_has_no_offset (Syntax f) want = ap syntax_faults.offset_of want
want_has_no_offset (Schema f) want = ap schema_faults.offset_of want
want_has_no_offset (Layout f) want = refl

pub nowhere_has_no_line : {E : Type 0} (text : List ℕ) (r : Result Finding E) → IfOk r (λ g. g.place ≡ None)
    → IfOk r (λ g. IfSome g.place (IsLineOf text))
nowhere_has_no_line text (Err e) none = none
nowhere_has_no_line text (Ok g) none = subst (λ p. IfSome p (IsLineOf text)) (sym none) tt

pub begins_with_push : (fault : ToolFault) (l : List Finding) (f : Finding) → BeginsWith fault l
    → BeginsWith fault (l ++ f ∷ [])
begins_with_push fault [] f b = elim b [ ]
begins_with_push fault (g ∷ gs) f b = b

pub adds_one : (text : List ℕ) (l : List Finding) (f : Finding) → IsPlacedIn text f → AddsPlaced text l (l ++ f ∷ [])
adds_one text l f placed = record {
  first = λ fault b. begins_with_push fault l f b;
  placed = λ all. All-push (IsPlacedIn text) l f all placed;
}

pub adds_none : (text : List ℕ) (l : List Finding) → AddsPlaced text l l
adds_none text l = record { first = λ fault b. b; placed = λ all. all }

pub adds_both : (text : List ℕ) (l m n : List Finding) → AddsPlaced text l m → AddsPlaced text m n → AddsPlaced text l n
adds_both text l m n one other = record {
  first = λ fault b. other.first fault (one.first fault b);
  placed = λ all. other.placed (one.placed all);
}

-- what is added to one finding leaves it the first
pub begins_alone : (fault : ToolFault) (f : Finding) {text : List ℕ} {l m : List Finding} → l ≡ f ∷ [] → f.fault ≡ fault
    → AddsPlaced text l m → BeginsWith fault m
begins_alone fault f one is more = more.first fault (subst (BeginsWith fault) (sym one) is)

pub placed_alone : (f : Finding) {text : List ℕ} {l m : List Finding} → l ≡ f ∷ [] → IsPlacedIn text f
    → AddsPlaced text l m → All (IsPlacedIn text) m
placed_alone f {text = text} one placed more =
    more.placed (subst (All (IsPlacedIn text)) (sym one) (All-push (IsPlacedIn text) [] f
    (All-nil (IsPlacedIn text)) placed))
