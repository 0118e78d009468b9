-- Tokens with their text.
use Rattle.std.specs.Prelude.{ℕ, ◌+◌, ◌-◌, ◌≤◌, List, length, take, drop, map, All}
use Rattle.std.specs.Str.{IsCharBoundary}
use Rattle.fb_syntax.specs.TokenBytes.{IsSmall}
use Rattle.fb_syntax.specs.Located.{Located}
use Rattle.fb_syntax.specs.declared.tokens.Token.{Token}
use Rattle.fb_syntax.specs.declared.tokens.TokenKind.{TokenKind}
use Rattle.fb_syntax.specs.declared.tokens.TokenKind.TheVariants.{Quoted}

pub record Lexeme : Type 0 where
  pub kind : TokenKind
  pub text : Located

-- a quote on each side of a quoted text
abbrev pub margin : TokenKind → ℕ
margin Quoted = 1
margin _ = 0

-- what a token says: its bytes, or those between its quotes
abbrev pub content : List ℕ → Token → List ℕ
content text t = take (t.len - (margin t.kind + margin t.kind)) (drop (t.at + margin t.kind) text)

abbrev pub located : List ℕ → Token → Located
located text t = record { bytes = content text t; at = t.at }

abbrev pub lexeme_of : List ℕ → Token → Lexeme
lexeme_of text t = record { kind = t.kind; text = located text t }

abbrev pub lexemes : List ℕ → List Token → List Lexeme
lexemes text ts = map (lexeme_of text) ts

-- A token stands in the text, a quoted one with both quotes; what it says can be cut out as text, and an integer is not
-- too great.
pub record IsReadable (text : List ℕ) (t : Token) : Type 0 where
  pub quotes : margin t.kind + margin t.kind ≤ t.len
  pub within : t.at + t.len ≤ length text
  pub starts : IsCharBoundary text (t.at + margin t.kind)
  pub ends : IsCharBoundary text (t.at + t.len - margin t.kind)
  pub small : IsSmall t.kind (content text t)

abbrev pub AreReadable : List ℕ → List Token → Type 0
AreReadable text ts = All (IsReadable text) ts
