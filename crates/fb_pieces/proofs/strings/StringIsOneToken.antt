-- A text whose one token is a string's is read as that string, however deep it may nest.
use Rattle.std.proofs.Common.{◌≡◌, ℕ, zero, suc, List, [], ◌∷◌, Option, Some, option_and_then, refl, ap, ◌∙◌}
use Rattle.json.specs.Json as json
use Rattle.json.specs.Lex.{tokens}
use Rattle.json.specs.Token as token
use Rattle.json.specs.Token.{Token}
use Rattle.serde_json.specs.Data.{Data, string}
use Rattle.serde_json.specs.Read.{of_json}
use Rattle.fb_pieces.specs.Reads.{read_at}

-- What is read of tokens.
abbrev pub read_of : ℕ → List Token → Option Data
read_of levels ts = option_and_then of_json (option_and_then (λ p. json.if_last p.0 p.1) (json.value levels ts))

one : (levels : ℕ) (s : List ℕ) → read_of levels (token.string s ∷ []) ≡ Some (string s)
unfolding json.value
one zero s = refl
one (suc n) s = refl

pub string_is_one_token : (text s : List ℕ) → tokens text ≡ token.string s ∷ [] → (levels : ℕ)
    → read_at levels text ≡ Some (string s)
string_is_one_token text s is levels = ap (read_of levels) is ∙ one levels s
