-- What the parser's calls return, and why they stop.
use Rattle.std.specs.Prelude.{ℕ, ◌≡◌, ◌<◌, List, length, IfOk, Option, Some, None, Result, Ok, Err}
use Rattle.fb_syntax.specs.Lexemes.{Lexeme}
use Rattle.fb_syntax.specs.Rules.{Rule}
use Rattle.fb_syntax.specs.declared.faults.SyntaxFault.{SyntaxFault}
use Rattle.fb_syntax.specs.declared.faults.SyntaxFault.TheVariants.{Unexpected, NestedVector, Memory}
use Rattle.fb_syntax.specs.declared.parser.Stop.{Stop}
use Rattle.fb_syntax.specs.declared.parser.Stop.TheVariants as stops

-- What a call returned and left is what reading gives, unless memory ran out.
abbrev pub Fails : {Y : Type 0} → Stop → Option Y → Type 0
Fails stops.Memory read = Unit {0}
Fails _ read = read ≡ None

-- the fault of a parser that stops at an offset
abbrev pub fault_at : Stop → ℕ → SyntaxFault
fault_at stops.Memory offset = Memory
fault_at stops.Unexpected offset = Unexpected offset
fault_at stops.NestedVector offset = NestedVector offset

-- a fault of the grammar, or that memory ran out: no fault of a token
abbrev pub IsGrammarFault : SyntaxFault → Type 0
IsGrammarFault Memory = Unit {0}
IsGrammarFault (Unexpected at) = Unit {0}
IsGrammarFault (NestedVector at) = Unit {0}
IsGrammarFault _ = ⊥

abbrev pub Gives : {X Y : Type 0} → (X → Y) → Result X Stop → Option Y → Type 0
Gives view (Ok x) read = read ≡ Some (view x)
Gives view (Err e) read = Fails e read

-- What a call returned and left is what the rule reads, and where it returned something it took a token.
pub record Passes {X Y : Type 0} (view : X → Y) (result : Result X Stop) (rule : Rule Y) (old new : List Lexeme)
    : Type 0 where
  pub exact : Gives (λ x. (view x, new)) result (rule.read old)
  pub shorter : IfOk result (λ x. length new < length old)
