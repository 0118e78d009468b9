-- Lines of a stream.
use Rattle.std.specs.Prelude.{ℕ, ◌+◌, ◌==◌, Bool, List, Option}
use Rattle.std.specs.List.{position}
use Rattle.std.specs.Option.{option_map}

-- 10 is the line feed
abbrev pub is_feed : ℕ → Bool
is_feed byte = byte == 10

-- the length of the first line, its line feed included; none where there is no line feed
abbrev pub first_line_len : List ℕ → Option ℕ
first_line_len bytes = option_map (λ at. at + 1) (position is_feed bytes)
