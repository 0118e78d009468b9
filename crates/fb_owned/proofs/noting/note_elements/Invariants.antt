use Rattle.std.proofs.Common.{◌≡◌, ◌≤◌, ◌+◌, List, length, map, take}
use Rattle.fb_value.specs.Room.{vector_room}
use Rattle.fb_value.specs.View.{view}
use Rattle.fb_value.specs.Bounds.{most_bytes}
use Rattle.fb_tape.specs.NamedParts.{NamedPart}
use Rattle.fb_tape.specs.Tapes.{IsUnfinished, Waits}
use Rattle.fb_build.specs.Fields.{kind_seen}
use Rattle.fb_owned.proofs.noting.note_elements.Given as goal

abbrev pub invariant-loop-item : goal.invariant-loop-item
invariant-loop-item l = record {
  waits : (others : List NamedPart) → Waits l.fn.tape others → Waits l.tape others;
  elements : l.fn.tape.room + vector_room l.fn.tape.layout (kind_seen l.fn.tape.layout l.kind) (length l.items)
      ≤ most_bytes → IsUnfinished l.fn.tape.layout (kind_seen l.fn.tape.layout l.kind) (length l.items)
      (map view (take l.item-index l.items)) l.tape.unfinished;
  room : l.tape.room ≡ l.fn.tape.room;
  layout : l.tape.layout ≡ l.fn.tape.layout;
}
