-- An integer constant as it is read: its value, and where its token stands.
use Rattle.std.specs.Prelude.{ℕ, ℤ}

pub record NumberRead : Type 0 where
  pub value : ℤ
  pub at : ℕ
