-- A text is read exactly where its tokens are a value, nothing follows, and its numbers are in range.
use Rattle.std.proofs.Common.{◌≡◌, ℕ, true, List, [], Option, Some, None, is_some, refl, sym, ap, ◌∙◌}
use Rattle.std.proofs.Common.{option_map}
use Rattle.json.specs.Token.{Token}
use Rattle.json.specs.Lex.{tokens}
use Rattle.json.specs.Json as json
use Rattle.json.specs.Json.{skip_value}
use Rattle.serde_json.specs.Data.{Data}
use Rattle.fb_pieces.specs.Reads.{read_at}
use Rattle.fb_pieces.specs.JsonTexts.{are_in_range}
use Rattle.fb_pieces.proofs.laws.ReadTextHasTheTokensOfAValue.{spells_value, read_spelled}
use Rattle.fb_pieces.proofs.laws.JsonHasItsNumbersInRange.{value_in_range}

-- the value that is passed
passed : (o : Option (json.Json × List Token)) (rest : List Token) → option_map (λ p. p.1) o ≡ Some rest
    → (j : json.Json) × (o ≡ Some (j, rest))
passed None rest e = absurd cc
passed (Some (j, ts)) rest e = (j, cc)

-- a text whose tokens are a value and no more
pub read_in_range : (levels : ℕ) (text : List ℕ) → skip_value levels (tokens text) ≡ Some []
    → are_in_range (tokens text) ≡ is_some (read_at levels text)
read_in_range levels text e =
    let v = passed (json.value levels (tokens text)) [] e in
    let s = spells_value levels text v.0 v.1 in
    ap are_in_range s.spelled ∙ value_in_range v.0 ∙ ap is_some (sym (read_spelled levels text v.0 s))

pub some_read : (o : Option Data) → is_some o ≡ true → (d : Data) × (o ≡ Some d)
some_read None e = absurd cc
some_read (Some d) e = (d, refl)
