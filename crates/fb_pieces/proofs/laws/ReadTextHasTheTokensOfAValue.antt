-- A text is read exactly where its tokens are those of a value that nests no deeper than the levels.
use Rattle.std.proofs.Common.{◌≡◌, ℕ, ◌≤◌, List, [], ◌∷◌, Option, Some, None, option_and_then, refl, sym, ap, ◌∙◌}
use Rattle.std.proofs.Common.{append-nil}
use Rattle.json.specs.Token.{Token}
use Rattle.json.specs.Lex.{tokens}
use Rattle.json.specs.Json as json
use Rattle.json.specs.Tree as tree
use Rattle.json.specs.Tree.{json_tokens}
use Rattle.json.proofs.Printed.Trees.{value-json_tokens}
use Rattle.json.proofs.Unique.Spelling.{value-json_tokens_back}
use Rattle.json.proofs.Nesting.{value-depth}
use Rattle.serde_json.specs.Data.{Data}
use Rattle.serde_json.specs.Read.{of_json}
use Rattle.fb_pieces.specs.Reads.{read_at}

pub record Spells (levels : ℕ) (text : List ℕ) (j : json.Json) : Type 0 where
  pub spelled : tokens text ≡ json_tokens j
  pub shallow : tree.depth j ≤ levels

pub spells_value : (levels : ℕ) (text : List ℕ) (j : json.Json) → json.value levels (tokens text) ≡ Some (j, [])
    → Spells levels text j
spells_value levels text j e = record {
  spelled = value-json_tokens_back levels (tokens text) [] j e ∙ append-nil (json_tokens j);
  shallow = value-depth levels (tokens text) [] j e;
}

-- what is read of a text that spells j
pub read_spelled : (levels : ℕ) (text : List ℕ) (j : json.Json) → Spells levels text j → read_at levels text ≡ of_json j
read_spelled levels text j s =
    ap (λ o. option_and_then of_json (option_and_then (λ p. json.if_last p.0 p.1) o))
    (ap (json.value levels) (s.spelled ∙ sym (append-nil (json_tokens j))) ∙ value-json_tokens j levels [] s.shallow)

-- the value that a text spells that is read as d
pub record Value (levels : ℕ) (text : List ℕ) (d : Data) : Type 0 where
  pub was : json.Json
  pub spells : Spells levels text was
  pub data_of : of_json was ≡ Some d

last_some : (o : Option (json.Json × List Token)) (d : Data)
    → option_and_then of_json (option_and_then (λ p. json.if_last p.0 p.1) o) ≡ Some d
    → (j : json.Json) × (o ≡ Some (j, [])) × (of_json j ≡ Some d)
last_some None d e = absurd cc
last_some (Some (j, [])) d e = (j, refl, e)
last_some (Some (j, t ∷ ts)) d e = absurd cc

pub value_of : (levels : ℕ) (text : List ℕ) (d : Data) → read_at levels text ≡ Some d → Value levels text d
value_of levels text d e =
    let v = last_some (json.value levels (tokens text)) d e in
    record { was = v.0; spells = spells_value levels text v.0 v.1; data_of = v.2 }

pub read_value : (levels : ℕ) (text : List ℕ) (d : Data) → Value levels text d → read_at levels text ≡ Some d
read_value levels text d v = read_spelled levels text v.was v.spells ∙ v.data_of
