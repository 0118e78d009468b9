-- What a JSON text is.
-- From the FlatBuffers documentation, "JSON parsing": the JSON is read whole before a schema gives it a meaning.
use Rattle.std.specs.Prelude.{◌≡◌, ℕ, List, Some, IsUtf8}
use Rattle.serde_json.specs.Data.{Data}
use Rattle.serde_json.specs.Read.{read}

-- the bytes are a JSON text, and d is its tree
abbrev pub IsTree : List ℕ → Data → Type 0
IsTree bytes d = IsUtf8 bytes × (read bytes ≡ Some d)
