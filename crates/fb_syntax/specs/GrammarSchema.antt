-- The grammar of declarations, to the end of the tokens (Grammar).
use Rattle.std.specs.Prelude.{ℕ, ◌≡◌, List, [], length, Option, Some, None}
use Rattle.fb_syntax.specs.Located.{Located}
use Rattle.fb_syntax.specs.DeclsRead.{DeclsRead}
use Rattle.fb_syntax.specs.Lexemes.{Lexeme, lexemes}
use Rattle.fb_syntax.specs.Keywords.{spelling, keyword_of}
use Rattle.fb_syntax.specs.Signs.{byte}
use Rattle.fb_syntax.specs.Rules.{Front, Rule, and_then, IsToken, token_at}
use Rattle.fb_syntax.specs.Rules.{token, rule_before, give, ◌>>=◌, with_token, Repeated}
use Rattle.fb_syntax.specs.Grammar.{dotted_name, table, enumeration, union}
use Rattle.fb_syntax.specs.declared.tokens.Token.{Token}
use Rattle.fb_syntax.specs.declared.tokens.TokenKind.TheVariants.{Word, Quoted, Punct}
use Rattle.fb_syntax.specs.declared.parser.schema.Keyword.{Keyword}
use Rattle.fb_syntax.specs.declared.parser.schema.Keyword.TheVariants as keywords
use Rattle.fb_syntax.specs.declared.declarations.Declaration.{Declaration}
use Rattle.fb_syntax.specs.declared.declarations.Declaration.TheVariants as declarations
use Rattle.fb_syntax.specs.declared.declarations.TypeDecl.TheVariants as types
use Rattle.fb_syntax.specs.declared.declarations.Directive.TheVariants as directives

unfoldable pub keyword_at : List Lexeme → Front Keyword
keyword_at ts = and_then (token_at Word ts) (λ w. and_then (keyword_of (w.0).bytes) (λ k. Some (k, w.1)))

-- one of the grammar's own words
abbrev pub keyword : Rule Keyword
keyword = record {
  Is = λ ts k rest. (at : ℕ) × IsToken Word ts (record { bytes = spelling k; at = at }) rest;
  read = keyword_at;
}

-- [ name ] ";"
unfoldable pub namespace : Rule (Option Located)
namespace = with_token (Punct (byte ";")) (λ _. give None)
    (do name ← rule_before dotted_name (byte ";"); give (Some name))

-- ( Quoted | Word ) ";"
unfoldable pub attribute_decl : Rule Located
attribute_decl = rule_before (with_token Quoted (λ text. give text) (token Word)) (byte ";")

-- the declaration that a keyword begins
unfoldable pub declared : Keyword → Rule Declaration
declared keywords.Namespace = do n ← namespace; give (declarations.Namespace n)
declared keywords.Attribute = do a ← attribute_decl; give (declarations.Attribute a)
declared keywords.Table = do t ← table; give (declarations.Type (types.Table t))
declared keywords.Struct = do t ← table; give (declarations.Type (types.Struct t))
declared keywords.Enum = do e ← enumeration; give (declarations.Type (types.Enum e))
declared keywords.Union = do u ← union; give (declarations.Type (types.Union u))
declared keywords.Root = do
  n ← rule_before dotted_name (byte ";")
  give (declarations.Directive (directives.RootType n))
declared keywords.Extension = do
  t ← rule_before (token Quoted) (byte ";")
  give (declarations.Directive (directives.FileExtension t))
declared keywords.Identifier = do
  t ← rule_before (token Quoted) (byte ";")
  give (declarations.Directive (directives.FileIdentifier t))

unfoldable pub declaration : Rule Declaration
declaration = do
  k ← keyword
  declared k

-- The tokens of a text read as these declarations, to the last; with the text's length.
pub record Reads (text : List ℕ) (tokens : List Token) (d : DeclsRead) : Type 0 where
  pub whole : Repeated declaration.Is (lexemes text tokens) d.declarations []
  pub len : d.text_len ≡ length text
