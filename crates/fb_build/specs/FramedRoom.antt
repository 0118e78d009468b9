-- The bound on a buffer's length, with its size prefix where it has one.
use Rattle.std.specs.Prelude.{ℕ, ◌+◌, Bool, true, false}
use Rattle.fb_layout.specs.Laid.{LaidSchema}
use Rattle.fb_value.specs.Datum.{Datum}
use Rattle.fb_value.specs.Room.{room_of}

abbrev pub framed_room : Bool → LaidSchema → Datum → ℕ
framed_room false L d = room_of L d
framed_room true L d = 4 + room_of L d
