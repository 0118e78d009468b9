-- Texts that `serde_json` reads.
-- From the FlatBuffers documentation, "JSON parsing": the JSON is read whole before a schema gives it a meaning.
use Rattle.std.specs.Prelude.{◌≡◌, ◌≢◌, ℕ, suc, Bool, true, List, Some, is_some, IsUtf8, length}
use Rattle.std.specs.List.{list_all}
use Rattle.json.specs.Json as json
use Rattle.json.specs.Token.{Token, begin_object, end_object, begin_array, end_array, key, string, number, boolean}
use Rattle.json.specs.Token.{null, bad}
use Rattle.serde_json.specs.Data.{Data, array, Items, no_items, item}
use Rattle.serde_json.specs.Read.{number_of}
use Rattle.fb_pieces.specs.Reads.{read_at}

-- The text is UTF-8, and is read as this tree where this many brackets may be open at once.
pub record IsReadAs (levels : ℕ) (text : List ℕ) (d : Data) : Type 0 where
  pub utf8 : IsUtf8 text
  pub read : read_at levels text ≡ Some d

-- It is read as some tree.
abbrev pub IsRead : ℕ → List ℕ → Type 0
IsRead levels text = (d : Data) × IsReadAs levels text d

-- how many elements an array has
abbrev pub count : Items → ℕ
count no_items = 0
count (item d ds) = suc (count ds)

-- It is read as an array of n elements.
abbrev pub IsArrayOf : ℕ → List ℕ → ℕ → Type 0
IsArrayOf levels text n = (ds : Items) × IsReadAs levels text (array ds) × (n ≡ count ds)

-- ---- how that is decided without a tree

-- whether the token is no number that is too large for a binary64
abbrev pub is_in_range : Token → Bool
is_in_range begin_object = true
is_in_range end_object = true
is_in_range begin_array = true
is_in_range end_array = true
is_in_range (key s) = true
is_in_range (string s) = true
is_in_range (number s) = is_some (number_of s)
is_in_range (boolean b) = true
is_in_range null = true
is_in_range bad = true

-- whether all numbers among the tokens are in range
abbrev pub are_in_range : List Token → Bool
are_in_range ts = list_all is_in_range ts

-- how many values an array of the grammar has
abbrev pub count_values : json.Items → ℕ
count_values json.no_items = 0
count_values (json.item j js) = suc (count_values js)

-- how many elements come before the bracket that closes their array, and the tokens after it
abbrev pub elements_passed : ℕ → json.Parse ℕ
elements_passed levels ts = json.parse_map count_values (json.items (json.value levels) (length ts) ts)

-- The tokens before these are an array of n elements.
abbrev pub IsArrayPassed : ℕ → List Token → List Token → ℕ → Type 0
IsArrayPassed levels ts rest n =
    (js : json.Items) × (json.value levels ts ≡ Some (json.array js, rest)) × (n ≡ count_values js)

-- The tokens don't begin with an array.
abbrev pub BeginsNoArray : ℕ → List Token → Type 0
BeginsNoArray levels ts = (js : json.Items) (rest : List Token) → json.value levels ts ≢ Some (json.array js, rest)
