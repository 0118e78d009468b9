-- A name means the type in the innermost namespace around its use.
-- From the FlatBuffers documentation, "Writing a schema": Namespaces.
use Rattle.std.specs.Prelude.{ℕ, ◌++◌, List, [], ◌∷◌, map, Option, None}
use Rattle.std.specs.Option.{option_or}
use Rattle.fb_resolve.specs.Words.{Path, place_of_path}

-- the beginnings of a path that have a word, the shortest first
abbrev pub beginnings : Path → List Path
beginnings [] = []
beginnings (w ∷ ws) = (w ∷ []) ∷ map (λ p. w ∷ p) (beginnings ws)

-- a namespace and those around it, the outermost first, which has no name
abbrev pub prefixes : Path → List Path
prefixes p = [] ∷ beginnings p

-- the last that is there
abbrev pub last_some : List (Option ℕ) → Option ℕ
last_some [] = None
last_some (o ∷ os) = option_or (last_some os) o

-- the type that a path means inside a namespace: the first of that full name in the innermost namespace that has one
abbrev pub innermost_type : List Path → Path → Path → Option ℕ
innermost_type types scope path = last_some (map (λ p. place_of_path types (p ++ path)) (prefixes scope))
