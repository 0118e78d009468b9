-- The texts of arrays and objects, put together from those of their elements and members, or of runs of them.
use Rattle.std.specs.Prelude.{ℕ, List, [], ◌∷◌, ◌++◌}
use Rattle.json.specs.Ascii as ascii

-- `,` e `,` .. `]`
abbrev pub array_rest : List (List ℕ) → List ℕ
array_rest [] = ascii.close_bracket ∷ []
array_rest (e ∷ es) = ascii.comma ∷ (e ++ array_rest es)

-- `[` e `,` .. `]`
abbrev pub array_text : List ℕ → List (List ℕ) → List ℕ
array_text e es = ascii.open_bracket ∷ (e ++ array_rest es)

-- `,` m `,` .. `}`
abbrev pub object_rest : List (List ℕ) → List ℕ
object_rest [] = ascii.close_brace ∷ []
object_rest (m ∷ ms) = ascii.comma ∷ (m ++ object_rest ms)

-- `{` m `,` .. `}`
abbrev pub object_text : List ℕ → List (List ℕ) → List ℕ
object_text m ms = ascii.open_brace ∷ (m ++ object_rest ms)

-- name `:` value
abbrev pub member_text : List ℕ × List ℕ → List ℕ
member_text m = m.0 ++ ascii.colon ∷ m.1
