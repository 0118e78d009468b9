use Rattle.std.proofs.Common.{◌≡◌, ◌≤◌, [], List, length, drop}
use Rattle.std.specs.Vec.{vec_capacity}
use Rattle.fb_tape.specs.NamedParts.{NamedPart}
use Rattle.fb_tape.specs.Tapes.{Lay}
use Rattle.fb_build.specs.Tails.{Grows}
use Rattle.fb_build.specs.TapeLaid.{IsLaidUpTo, ops_end, tape_end, ops_most, tape_most}
use Rattle.fb_build.proofs.taped_ops.lay_tape.Given as goal

abbrev pub invariant-loop-i : goal.invariant-loop-i
invariant-loop-i l = record {
  fields_within : l.at_field ≤ length l.fields;
  bytes_within : l.at_byte ≤ length l.bytes;
  few : length l.laying.waiting.items ≤ l.i;
  waiting : vec_capacity l.laying.waiting ≡ vec_capacity l.fn.laying.waiting;
  places : vec_capacity l.laying.places ≡ vec_capacity l.fn.laying.places;
  laid : (qs : List NamedPart)
      → Lay l.tape.layout l.tape.vtables 0 l.tape.room [] l.tape.ops l.tape.notes l.tape.bytes qs
      → IsLaidUpTo l.tape.layout l.tape.vtables (drop l.i l.ops)
      (drop l.at_field l.fields) (drop l.at_byte l.bytes) qs l.laying;
  long : ops_end l.tape.vtables (length l.laying.places.items) (drop l.i l.ops) (drop l.at_field l.fields)
      (length l.laying.tail.bytes) ≡ tape_end l.tape;
  most : ops_most (drop l.i l.ops) l.laying.tail.most ≡ tape_most l.tape;
  grows : Grows l.fn.laying.tail l.laying.tail;
}
