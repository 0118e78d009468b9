-- Laws of what tokens read as.
use Rattle.std.specs.Prelude.{ℕ, ◌≡◌, List}
use Rattle.fb_syntax.specs.DeclsRead.{DeclsRead}
use Rattle.fb_syntax.specs.GrammarSchema.{Reads}
use Rattle.fb_syntax.specs.declared.tokens.Token.{Token}

-- The tokens of a text read as at most one list of declarations.
abbrev pub OneReading : Type 0
OneReading = (text : List ℕ) (tokens : List Token) (d e : DeclsRead) → Reads text tokens d → Reads text tokens e → d ≡ e
