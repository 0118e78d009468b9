-- What each fault of a schema text says of the text (Writing a schema; Grammar).
use Rattle.std.specs.Prelude.{ℕ, ◌≤◌, List, IsUtf8, IfSome}
use Rattle.fb_syntax.specs.declared.tokens.Token.{Token}
use Rattle.fb_syntax.specs.declared.faults.SyntaxFault.{SyntaxFault}
use Rattle.fb_syntax.specs.declared.faults.SyntaxFault.TheVariants.{NotUtf8, BadByte, Unterminated, NumberTooBig}
use Rattle.fb_syntax.specs.declared.faults.SyntaxFault.TheVariants.{Unexpected, NestedVector}
use Rattle.fb_syntax.specs.FaultTable.{offset_of}
use Rattle.fb_syntax.specs.Spells.{SpellsText}

-- Every fault but NotUtf8 is that of a text that is UTF-8, and so is running out of memory.
abbrev pub IsToldOfUtf8 : List ℕ → SyntaxFault → Type 0
IsToldOfUtf8 text (NotUtf8 at) = Unit {0}
IsToldOfUtf8 text _ = IsUtf8 text

-- A byte that no token begins with, a comment or quoted text without an end, an integer too great: no tokens spell the
-- text.
abbrev pub IsToldOfNoTokens : List ℕ → SyntaxFault → Type 0
IsToldOfNoTokens text (BadByte at) = (tokens : List Token) → ¬ (SpellsText text tokens)
IsToldOfNoTokens text (Unterminated at) = (tokens : List Token) → ¬ (SpellsText text tokens)
IsToldOfNoTokens text (NumberTooBig at) = (tokens : List Token) → ¬ (SpellsText text tokens)
IsToldOfNoTokens text _ = Unit {0}

-- A token that the grammar doesn't expect: tokens spell the text.
abbrev pub IsToldOfTokens : List ℕ → SyntaxFault → Type 0
IsToldOfTokens text (Unexpected at) = (tokens : List Token) × SpellsText text tokens
IsToldOfTokens text (NestedVector at) = (tokens : List Token) × SpellsText text tokens
IsToldOfTokens text _ = Unit {0}

-- Where the fault stands, the text hasn't ended before it.
abbrev pub StandsWithin : ℕ → SyntaxFault → Type 0
StandsWithin len fault = IfSome (offset_of fault) (λ at. at ≤ len)

-- what a text that is UTF-8 may be refused for before its grammar is checked
abbrev pub IsTokenFault : SyntaxFault → Type 0
IsTokenFault (NotUtf8 at) = ⊥
IsTokenFault (Unexpected at) = ⊥
IsTokenFault (NestedVector at) = ⊥
IsTokenFault _ = Unit {0}
