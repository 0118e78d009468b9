-- The bytes that wait in a write buffer, and how many were written before them.
use Rattle.std.specs.Prelude.{ℕ, List, take}
use Rattle.fb_text.specs.declared.write_buffer.WriteBuffer.{WriteBuffer}

abbrev pub pending : WriteBuffer → List ℕ
pending buffer = take buffer.len buffer.bytes

abbrev pub written_before : WriteBuffer → ℕ
written_before buffer = buffer.written
