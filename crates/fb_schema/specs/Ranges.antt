-- Whether a basic type holds a number, as a test.
-- From the FlatBuffers documentation, "Writing a schema": Types.
use Rattle.std.specs.Prelude.{◌&&◌, Bool, ℤ, pos, negsuc, int_le}
use Rattle.fb_schema.specs.declared.kinds.Base.{Base}
use Rattle.fb_schema.specs.declared.kinds.Base.TheVariants.{Bool as Boolean, I8, U8, I16, U16, I32, U32, I64, U64}

abbrev pub is_between : ℤ → ℤ → ℤ → Bool
is_between low high n = int_le low n && int_le n high

-- a `bool` is 0 or 1
unfoldable pub holds : Base → ℤ → Bool
holds Boolean n = is_between (pos 0) (pos 1) n
holds I8 n = is_between (negsuc 127) (pos 127) n
holds U8 n = is_between (pos 0) (pos 255) n
holds I16 n = is_between (negsuc 32767) (pos 32767) n
holds U16 n = is_between (pos 0) (pos 65535) n
holds I32 n = is_between (negsuc 2147483647) (pos 2147483647) n
holds U32 n = is_between (pos 0) (pos 4294967295) n
holds I64 n = is_between (negsuc 9223372036854775807) (pos 9223372036854775807) n
holds U64 n = is_between (pos 0) (pos 18446744073709551615) n
