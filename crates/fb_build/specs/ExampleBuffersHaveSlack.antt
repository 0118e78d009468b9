-- Buffers that hold their value, and yet have something to spare.
use Rattle.std.specs.Prelude.{[], ◌∷◌, set}
use Rattle.fb_layout.specs.Laid.{LaidSchema}
use Rattle.fb_value.specs.Datum.{Datum, a_vector, a_table, no_parts, more_parts, no_entries, present_entry}
use Rattle.fb_value.specs.Num.{Bytes}
use Rattle.fb_value.specs.Lies.{LiesAt}
use Rattle.fb_value.specs.Holds.{root_place}
use Rattle.fb_value.specs.ExampleLayouts.{one_int, one_bool, two_ints, one_struct, bools_everywhere, table_vector}
use Rattle.fb_value.specs.ExampleLayouts.{two_members}
use Rattle.fb_value.specs.ExampleTables.{seven_bytes, one_number, two_numbers, bool_bytes}
use Rattle.fb_value.specs.ExampleVectors.{element}
use Rattle.fb_value.specs.ExampleUnions.{member_bytes, second_member, no_member}
use Rattle.fb_value.specs.ExampleStructs.{struct_bytes, struct_inline}
use Rattle.fb_value.specs.ExampleBools.{bools_bytes, bools}
use Rattle.fb_build.specs.Covered.{Covered}

-- a vtable with a second slot, which isn't stored
abbrev pub untrimmed_bytes : Bytes
untrimmed_bytes = 0x0c ∷ 0 ∷ 0 ∷ 0 ∷ 8 ∷ 0 ∷ 8 ∷ 0 ∷ 4 ∷ 0 ∷ 0 ∷ 0 ∷ 8 ∷ 0 ∷ 0 ∷ 0 ∷ 7 ∷ 0 ∷ 0 ∷ 0 ∷ []

-- the vtable tells 12 bytes of a table that has 8
abbrev pub wide_table_bytes : Bytes
wide_table_bytes = set seven_bytes 8 0x0c

-- two fields of a table in the same four bytes, and four zeros after them
abbrev pub one_place_bytes : Bytes
one_place_bytes = 0x0c ∷ 0 ∷ 0 ∷ 0 ∷ 8 ∷ 0 ∷ 0x0c ∷ 0 ∷ 4 ∷ 0 ∷ 4 ∷ 0 ∷ 8 ∷ 0 ∷ 0 ∷ 0 ∷ 7 ∷ 0 ∷ 0 ∷ 0 ∷ 0 ∷ 0 ∷ 0 ∷ 0
    ∷ []

-- a union whose code isn't stored, and four bytes of rubbish where its value stands
abbrev pub value_alone_bytes : Bytes
value_alone_bytes = 0x0c ∷ 0 ∷ 0 ∷ 0 ∷ 8 ∷ 0 ∷ 8 ∷ 0 ∷ 0 ∷ 0 ∷ 4 ∷ 0 ∷ 8 ∷ 0 ∷ 0 ∷ 0 ∷ 0xde ∷ 0xad ∷ 0xbe ∷ 0xef ∷ []

-- a byte other than 0 in front of a union's code
abbrev pub rubbish_in_table_bytes : Bytes
rubbish_in_table_bytes = set member_bytes 17 9

-- a byte other than 0 after the struct's first field
abbrev pub rubbish_in_struct_bytes : Bytes
rubbish_in_struct_bytes = set struct_bytes 17 9

-- a table in a vector, each of the two tables with a vtable of its own
abbrev pub twice_bytes : Bytes
twice_bytes =
    0x0c ∷ 0 ∷ 0 ∷ 0 ∷ 0 ∷ 0 ∷ 6 ∷ 0 ∷ 8 ∷ 0 ∷ 4 ∷ 0 ∷ 6 ∷ 0 ∷ 0 ∷ 0 ∷ 4 ∷ 0 ∷ 0 ∷ 0 ∷ 1 ∷ 0 ∷ 0 ∷ 0 ∷ 0x0c ∷ 0 ∷ 0 ∷ 0
    ∷ 0 ∷ 0 ∷ 6 ∷ 0 ∷ 8 ∷ 0 ∷ 4 ∷ 0 ∷ 6 ∷ 0 ∷ 0 ∷ 0 ∷ 1 ∷ 0 ∷ 0 ∷ 0 ∷ []

-- the root with its one table
abbrev pub single : Datum
single = a_table 1 (present_entry (a_vector (more_parts (element 1) no_parts)) no_entries)

-- a vtable at 4 that no table has, before the one at 10
abbrev pub discarded_bytes : Bytes
discarded_bytes = 0x10 ∷ 0 ∷ 0 ∷ 0 ∷ 6 ∷ 0 ∷ 8 ∷ 0 ∷ 4 ∷ 0 ∷ 6 ∷ 0 ∷ 8 ∷ 0 ∷ 4 ∷ 0 ∷ 6 ∷ 0 ∷ 0 ∷ 0 ∷ 7 ∷ 0 ∷ 0 ∷ 0 ∷ []

-- six zeros between the header and the vtable, where two would do
abbrev pub spare_bytes : Bytes
spare_bytes = 0x10 ∷ 0 ∷ 0 ∷ 0 ∷ 0 ∷ 0 ∷ 0 ∷ 0 ∷ 0 ∷ 0 ∷ 6 ∷ 0 ∷ 8 ∷ 0 ∷ 4 ∷ 0 ∷ 6 ∷ 0 ∷ 0 ∷ 0 ∷ 7 ∷ 0 ∷ 0 ∷ 0 ∷ []

-- The value lies at the root, and yet the buffer isn't covered.
pub record HasSlack (L : LaidSchema) (b : Bytes) (v : Datum) : Type 0 where
  pub lies : LiesAt L b (root_place L).sort 0 v
  pub uncovered : ¬ (Covered L b)

-- One buffer for each kind of slack.
pub record ExamplesHaveSlack : Type 0 where
  pub stored_default : HasSlack one_int (set seven_bytes 16 0) (one_number 0)
  pub untrimmed_vtable : HasSlack two_ints untrimmed_bytes (two_numbers 7 0)
  -- a vtable whose second number is wrong
  pub wrong_size : HasSlack one_int wide_table_bytes (one_number 7)
  -- a `bool` of neither 0 nor 1: in a table, in a struct of a struct, in a vector, in a struct of a vector
  pub odd_bool : HasSlack one_bool bool_bytes (one_number 1)
  pub odd_bool_in_struct : HasSlack bools_everywhere (set bools_bytes 22 0xff) bools
  pub odd_bool_in_vector : HasSlack bools_everywhere (set bools_bytes 38 0xff) bools
  pub odd_bool_in_element : HasSlack bools_everywhere (set bools_bytes 46 0xff) bools
  -- two fields that share their bytes
  pub one_place : HasSlack two_ints one_place_bytes (two_numbers 7 7)
  -- a union's value without its code, which isn't looked at
  pub value_alone : HasSlack two_members value_alone_bytes no_member
  pub rubbish_in_table : HasSlack two_members rubbish_in_table_bytes second_member
  pub rubbish_in_struct : HasSlack one_struct rubbish_in_struct_bytes struct_inline
  -- an equal vtable laid twice
  pub vtable_twice : HasSlack table_vector twice_bytes single
  -- a vtable of no table
  pub discarded_vtable : HasSlack one_int discarded_bytes (one_number 7)
  -- spare zeros at the front
  pub spare_zeros : HasSlack one_int spare_bytes (one_number 7)
