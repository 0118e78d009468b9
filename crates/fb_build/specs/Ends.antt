-- How bytes begin.
use Rattle.std.specs.Prelude.{◌≡◌, ◌++◌}
use Rattle.fb_value.specs.Num.{Bytes}

abbrev pub BeginsWith : Bytes → Bytes → Type 0
BeginsWith front s = (rest : Bytes) × (s ≡ front ++ rest)
