-- An alignment in one byte, which is one less than it is.
-- From the FlatBuffers documentation, "FlatBuffer Internals": scalars are aligned to their size.
use Rattle.std.specs.Prelude.{ℕ, ◌+◌}
use Rattle.fb_tape.specs.declared.ops.Alignment.{Alignment}

abbrev pub aligned_to : Alignment → ℕ
aligned_to a = a.less_one + 1
