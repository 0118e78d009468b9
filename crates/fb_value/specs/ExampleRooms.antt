-- The room that a few values take.
use Rattle.std.specs.Prelude.{◌≡◌, refl}
use Rattle.fb_value.specs.Room.{room_of}
use Rattle.fb_value.specs.ExampleLayouts.{one_int, table_vector, wide_structs, two_members}
use Rattle.fb_value.specs.ExampleTables.{one_number}
use Rattle.fb_value.specs.ExampleVectors.{pair}
use Rattle.fb_value.specs.ExampleStructs.{wide}
use Rattle.fb_value.specs.ExampleUnions.{second_member}

-- one table with a number
pub room_of_number : room_of one_int (one_number 7) ≡ 28
room_of_number = refl

-- three tables, two of them in a vector
pub room_of_vector : room_of table_vector pair ≡ 77
room_of_vector = refl

-- a text, and a vector of structs aligned to 16
pub room_of_structs : room_of wide_structs wide ≡ 113
room_of_structs = refl

-- a table with a member
pub room_of_member : room_of two_members second_member ≡ 45
room_of_member = refl
