-- What is read of a text that needn't be right, token by token.
use Rattle.std.specs.Prelude.{ℕ, ◌≡◌, ◌≤◌, ◌<◌, ◌+◌, List, [], length, take, drop}
use Rattle.std.specs.Prelude.{Option, None, Some, Result, Ok, Err, IfSome, MatchOption}
use Rattle.fb_syntax.specs.declared.tokens.Token.{Token}
use Rattle.fb_syntax.specs.declared.tokens.BadToken.{BadToken}
use Rattle.fb_syntax.specs.declared.tokens.TokenKind.{TokenKind}
use Rattle.fb_syntax.specs.declared.scan.GapOrToken.{GapOrToken}
use Rattle.fb_syntax.specs.declared.scan.Tokens.{Tokens}
use Rattle.fb_syntax.specs.BadTokens.{bad_token}
use Rattle.fb_syntax.specs.Gaps.{IsGap}
use Rattle.fb_syntax.specs.Spells.{IsAtFront}
use Rattle.fb_syntax.specs.TokenBytes.{IsLongest, IsSmall}

-- What comes first in the text that begins at the place `at`, after blanks and comments: the longest token, or bytes
-- that are refused because none of these is there.
pub data ComesNext : ℕ → List ℕ → Option (Result Token BadToken) → Type 0 where
  ended : {at : ℕ} → ComesNext at [] None
  after_gap : {at : ℕ} {text : List ℕ} {found : Option (Result Token BadToken)} (n : ℕ) → IsGap n text
      → ComesNext (at + n) (drop n text) found → ComesNext at text found
  longest : {at : ℕ} {text : List ℕ} (kind : TokenKind) (n : ℕ) → IsLongest kind n text → IsSmall kind (take n text)
      → ComesNext at text (Some (Ok (record { kind = kind; at = at; len = n })))
  refused : {at : ℕ} {text : List ℕ} → 0 < length text → ((piece : GapOrToken) → ¬ (IsAtFront text piece))
      → ComesNext at text (Some (Err (bad_token at text)))

abbrev pub start_of : Result Token BadToken → ℕ
start_of (Ok token) = token.at
start_of (Err bad) = bad.at

abbrev pub end_of : Result Token BadToken → ℕ
end_of (Ok token) = token.at + token.len
end_of (Err bad) = bad.at + bad.len

-- a part of the text that isn't empty, at the place `at` or after it
pub record IsPartFrom (at : ℕ) (text : List ℕ) (found : Result Token BadToken) : Type 0 where
  pub after : at ≤ start_of found
  pub some : start_of found < end_of found
  pub within : end_of found ≤ length text

-- What `Tokens` returns next is what comes first from its offset on, and it goes on at the end of that. It returns None
-- only at the text's end.
pub record GivesToken (old : Tokens) (found : Option (Result Token BadToken)) (new : Tokens) : Type 0 where
  pub text : new.text.now ≡ old.text.now
  pub next : ComesNext old.at (drop old.at old.text.now) found
  pub part : IfSome found (IsPartFrom old.at old.text.now)
  pub passed : MatchOption found (length old.text.now ≤ new.at) (λ f. new.at ≡ end_of f)
