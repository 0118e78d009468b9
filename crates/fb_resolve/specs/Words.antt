-- Names as paths of words.
-- From the FlatBuffers documentation, "Writing a schema": Namespaces.
use Rattle.std.specs.Prelude.{ℕ, suc, ◌==◌, ◌&&◌, ◌++◌, Bool, true, false, List, [], ◌∷◌, reverse}
use Rattle.std.specs.Prelude.{Option, None, Some, get_or, if◌then◌else◌}
use Rattle.std.specs.Option.{option_map}
use Rattle.std.specs.Str.{bytes_eq}
use Rattle.fb_syntax.specs.Signs.{dot}
use Rattle.fb_schema.specs.Schema.{Name}

-- a namespace or a full name, word by word
abbrev pub Path : Type 0
Path = List Name

-- with a byte more at the start of the first word
abbrev pub with_first : ℕ → Path → Path
with_first c [] = (c ∷ []) ∷ []
with_first c (w ∷ ws) = (c ∷ w) ∷ ws

-- the words of a name, between its dots
abbrev pub words : Name → Path
words [] = [] ∷ []
words (c ∷ cs) = if c == dot then [] ∷ words cs else with_first c (words cs)

-- whether two paths have the same words
abbrev pub is_same_path : Path → Path → Bool
is_same_path [] [] = true
is_same_path (v ∷ vs) (w ∷ ws) = bytes_eq v w && is_same_path vs ws
is_same_path _ _ = false

-- the first place of a path in a list
abbrev pub place_of_path : List Path → Path → Option ℕ
place_of_path [] path = None
place_of_path (p ∷ ps) path = if is_same_path path p then Some 0 else option_map suc (place_of_path ps path)

-- a namespace's path and, after it, the path of a name whose words are kept last first
abbrev pub full_path : List Path → List Path → ℕ → ℕ → Path
full_path paths names path name = get_or paths path [] ++ reverse (get_or names name [])
