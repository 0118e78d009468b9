-- What a schema text declares: tokens spell it, and they read as declarations.
-- From the FlatBuffers documentation, "Grammar".
use Rattle.std.specs.Prelude.{ℕ, List}
use Rattle.fb_syntax.specs.declared.tokens.Token.{Token}
use Rattle.fb_syntax.specs.DeclsRead.{DeclsRead}
use Rattle.fb_syntax.specs.Spells.{SpellsText}
use Rattle.fb_syntax.specs.GrammarSchema.{Reads}

-- the text is a schema text with these declarations
abbrev pub Parses : List ℕ → DeclsRead → Type 0
Parses text d = (tokens : List Token) × SpellsText text tokens × Reads text tokens d
