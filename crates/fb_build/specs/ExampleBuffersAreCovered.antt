-- Worked buffers that are covered.
use Rattle.std.specs.Prelude.{[], ◌∷◌}
use Rattle.fb_value.specs.Num.{Bytes}
use Rattle.fb_value.specs.ExampleLayouts.{one_int, identified_int, table_vector, two_members, one_struct, wide_structs}
use Rattle.fb_value.specs.ExampleLayouts.{bools_everywhere}
use Rattle.fb_value.specs.ExampleTables.{seven_bytes}
use Rattle.fb_value.specs.ExampleIdentifier.{test_bytes}
use Rattle.fb_value.specs.ExampleVectors.{pair_bytes}
use Rattle.fb_value.specs.ExampleUnions.{member_bytes}
use Rattle.fb_value.specs.ExampleStructs.{struct_bytes, wide_bytes}
use Rattle.fb_value.specs.ExampleBools.{bools_bytes}
use Rattle.fb_build.specs.Covered.{Covered, EndsAligned}

-- a table without slots, and its vtable of two numbers
abbrev pub empty_bytes : Bytes
empty_bytes = 8 ∷ 0 ∷ 0 ∷ 0 ∷ 4 ∷ 0 ∷ 4 ∷ 0 ∷ 4 ∷ 0 ∷ 0 ∷ 0 ∷ []

-- Each is covered, and some are shown to end at a multiple of the greatest alignment in them.
pub record ExamplesAreCovered : Type 0 where
  -- a table of one number, with two zeros between the header and the vtable
  pub seven : Covered one_int seven_bytes
  -- a table that stores nothing: all bytes are pieces
  pub empty : Covered one_int empty_bytes
  -- a header of eight bytes
  pub identified : Covered identified_int test_bytes
  -- three tables of two types and a vector: one vtable, once, serves all
  pub pair : Covered table_vector pair_bytes
  -- a union's member after its code: two vtables, three zeros in the root's padding
  pub member : Covered two_members member_bytes
  -- a struct in its table, with zeros after its first and its last field
  pub struct : Covered one_struct struct_bytes
  -- elements that are aligned to 16: longer runs of zeros, each below 16
  pub wide : Covered wide_structs wide_bytes
  -- bools in a struct of a struct, in a vector of such structs and in a vector
  pub bools : Covered bools_everywhere bools_bytes
  pub seven_aligned : EndsAligned one_int seven_bytes
  pub struct_aligned : EndsAligned one_struct struct_bytes
  pub wide_aligned : EndsAligned wide_structs wide_bytes
