-- A part of a text, and where its first token stands.
use Rattle.std.specs.Prelude.{ℕ, List, ◌++◌, ◌∷◌}
use Rattle.fb_syntax.specs.Signs.{dot}

pub record Located : Type 0 where
  pub bytes : List ℕ
  pub at : ℕ

-- with a dot and a word after it
abbrev pub joined : Located → List ℕ → Located
joined s word = record { bytes = s.bytes ++ dot ∷ word; at = s.at }
