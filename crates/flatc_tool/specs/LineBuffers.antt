-- The text that is in a buffer on the stack.
use Rattle.std.specs.Prelude.{ℕ, List, take}
use Rattle.flatc_tool.specs.declared.command.line_buffer.LineBuffer.{LineBuffer}

abbrev pub text_of : LineBuffer → List ℕ
text_of line = take line.len line.bytes
