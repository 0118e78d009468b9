-- A tape as it is held.
use Rattle.std.specs.Prelude.{◌≤◌, length, take, drop}
use Rattle.fb_tape.specs.Tapes.{Taped}
use Rattle.fb_tape.specs.declared.tape.Tape.TheInside.{Inside}

abbrev pub tape_seen : Inside → Taped
tape_seen t = record {
  layout = t.layout.now;
  ops = t.ops.items;
  notes = t.fields.items;
  bytes = take t.finished t.bytes.items;
  unfinished = drop t.finished t.bytes.items;
  vtables = t.vtables;
  room = t.room;
}

pub record IsTape (t : Inside) : Type 0 where
  pub within : t.finished ≤ length t.bytes.items
