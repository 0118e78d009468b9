-- The bound on a buffer's length includes its size prefix.
use Rattle.std.proofs.Common.{◌≡◌, ◌+◌, Bool, true, false, refl, arith}
use Rattle.fb_layout.specs.Laid.{LaidSchema}
use Rattle.fb_value.specs.Datum.{Datum}
use Rattle.fb_value.specs.Holds.{front_of}
use Rattle.fb_value.specs.Room.{room_of}
use Rattle.fb_build.specs.FramedRoom.{framed_room}

pub framed : (prefixed : Bool) (L : LaidSchema) (d : Datum) → framed_room prefixed L d ≡ front_of prefixed + room_of L d
framed false L d = omega arith
framed true L d = refl
