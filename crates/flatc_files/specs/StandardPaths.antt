-- The names of standard input and output, and how often a line reads standard input.
use Rattle.std.specs.Prelude.{ℕ, Bool, ◌||◌, List, codes, count_by, nat_lt}
use Rattle.std.specs.Str.{bytes_eq}

-- a path or another word, by its bytes
abbrev pub Text : Type 0
Text = List ℕ

abbrev pub is_standard_input : Text → Bool
is_standard_input path = bytes_eq path (codes "-") || bytes_eq path (codes "/dev/stdin")
    || bytes_eq path (codes "/dev/fd/0") || bytes_eq path (codes "/proc/self/fd/0")

abbrev pub is_standard_output : Text → Bool
is_standard_output path = bytes_eq path (codes "-") || bytes_eq path (codes "/dev/stdout")
    || bytes_eq path (codes "/dev/fd/1") || bytes_eq path (codes "/proc/self/fd/1")

-- at most one of the paths is standard input, which is read once
abbrev pub is_read_once : List Text → Bool
is_read_once paths = nat_lt (count_by is_standard_input paths) 2
