-- One operation of a tape is laid.
use Rattle.std.specs.Prelude.{ℕ, ◌+◌, ◌≡◌, ◌≤◌, List, length}
use Rattle.std.specs.Vec.{vec_capacity}
use Rattle.fb_layout.specs.Laid.{LaidSchema}
use Rattle.fb_value.specs.Num.{Bytes}
use Rattle.fb_tape.specs.NamedParts.{NamedPart}
use Rattle.fb_tape.specs.Tapes.{known_after}
use Rattle.fb_tape.specs.declared.ops.NotedField.{NotedField}
use Rattle.fb_tape.specs.declared.ops.Op.{Op}
use Rattle.fb_build.specs.Tails.{Grows}
use Rattle.fb_build.specs.Waiting.{AreWaiting, MayStep, SomeStep}
use Rattle.fb_build.specs.declared.laying.Laying.{Laying}

-- it may be laid
abbrev pub MayLayNext : Op → Bytes → List NotedField → Bytes → Laying → Type 0
MayLayNext op vtable notes bytes a = SomeStep op vtable notes bytes a.waiting.items a.places.items a.tail

-- What waited before tells what waits now; it takes no memory.
pub record Steps (op : Op) (vtable : Bytes) (notes : List NotedField) (bytes : Bytes) (a b : Laying) : Type 0 where
  pub waits : (L : LaidSchema) (vtables : List Bytes) (room : ℕ) (ps qs : List NamedPart)
      → MayStep L vtables op room ps vtable notes bytes qs a.waiting.items a.places.items a.tail
      → AreWaiting L vtables qs b.waiting.items b.places.items b.tail
  pub come : length b.places.items ≡ known_after (length a.places.items) op
  pub most_waiting : length b.waiting.items ≤ length a.waiting.items + 1
  pub reserved_waiting : vec_capacity b.waiting ≡ vec_capacity a.waiting
  pub reserved_places : vec_capacity b.places ≡ vec_capacity a.places
  pub grows : Grows a.tail b.tail
