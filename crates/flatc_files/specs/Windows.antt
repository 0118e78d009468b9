-- What a window shows of its stream.
use Rattle.std.specs.Prelude.{ℕ, Bool, List, slice_range}
use Rattle.flatc_files.specs.declared.window.Window.{Window}

-- the bytes that were read and not yet taken
abbrev pub pending : Window → List ℕ
pending window = slice_range window.bytes.items window.start window.end

-- whether a read found the end of the stream
abbrev pub is_ended : Window → Bool
is_ended window = window.is_ended
