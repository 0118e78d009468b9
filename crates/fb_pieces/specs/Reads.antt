-- What `serde_json` reads of a text, where `levels` brackets may be open at once.
use Rattle.std.specs.Prelude.{◌≡◌, ℕ, List, Option, option_and_then, refl}
use Rattle.json.specs.Json as json
use Rattle.json.specs.Lex.{tokens}
use Rattle.serde_json.specs.Data.{Data}
use Rattle.serde_json.specs.Read.{of_json, read}

abbrev pub read_at : ℕ → List ℕ → Option Data
read_at levels text = option_and_then of_json (option_and_then (λ p. json.if_last p.0 p.1)
    (json.value levels (tokens text)))

-- `serde_json` reads with 127 levels.
pub read_at_127 : (text : List ℕ) → read text ≡ read_at 127 text
read_at_127 text = refl
