-- While a tape is laid: the parts that wait, and what is laid of them.
use Rattle.std.specs.Prelude.{ℕ, ◌+◌, ◌≡◌, ◌≤◌, true, List, length, map, slice_get, slice_index, Option, Some}
use Rattle.fb_layout.specs.Laid.{LaidSchema}
use Rattle.fb_layout.specs.WellMade.{IsWellMade}
use Rattle.fb_layout.specs.Widths.{greatest}
use Rattle.fb_value.specs.Num.{Bytes, divides}
use Rattle.fb_value.specs.Places.{part_place}
use Rattle.fb_tape.specs.NamedParts.{NamedPart}
use Rattle.fb_tape.specs.Tapes.{Lays, IsInTurn}
use Rattle.fb_tape.specs.declared.ops.NotedField.{NotedField}
use Rattle.fb_tape.specs.declared.ops.Op.{Op}
use Rattle.fb_tape.specs.declared.ops.Op.TheVariants.{Table}
use Rattle.fb_tape.specs.KnownVtables.{EachHasOneNumber}
use Rattle.fb_build.specs.Made.{IsMade, ends_parts}
use Rattle.fb_build.specs.NumberedVtables.{AreLaidInTurn}
use Rattle.fb_build.specs.OpLengths.{op_end}
use Rattle.fb_build.specs.Tails.{TailSeen, LaidInTail}

abbrev pub all_of : List NamedPart → List (Option NamedPart)
all_of ps = map (λ x. Some x) ps

-- Each part lies at its end-count. The tail is made of all of them and of the vtables that have come, and is padded to
-- no more than the layout's greatest alignment.
pub record AreWaiting (L : LaidSchema) (vtables : List Bytes) (ps : List NamedPart) (ends places : List ℕ)
    (o : TailSeen) : Type 0 where
  pub each : length ends ≡ length ps
  pub lie : (k : ℕ) (x : NamedPart) → slice_get ps k ≡ Some x
      → LaidInTail L o.most o.bytes (part_place x.target) (slice_index ends k) x.value
  pub made : IsMade L o places (ends_parts L o.bytes (all_of ps) ends)
  pub shared : AreLaidInTurn vtables places o.bytes
  pub four : divides 4 o.most ≡ true
  pub bound : o.most ≤ greatest L

-- a table's vtable
abbrev pub HasVtable : List Bytes → Op → Bytes → Type 0
HasVtable vtables (Table align fields number) vtable = slice_get vtables number ≡ Some vtable
HasVtable vtables _ vtable = Unit {0}

-- Where the parts ps wait, an operation may be laid, after which the parts qs wait.
pub record MayStep (L : LaidSchema) (vtables : List Bytes) (op : Op) (room : ℕ) (ps : List NamedPart) (vtable : Bytes)
    (notes : List NotedField) (bytes : Bytes) (qs : List NamedPart) (ends places : List ℕ) (o : TailSeen)
    : Type 0 where
  pub made : IsWellMade L
  pub waiting : AreWaiting L vtables ps ends places o
  pub different : EachHasOneNumber vtables
  pub turn : IsInTurn (length places) op
  pub has : HasVtable vtables op vtable
  pub lays : Lays L vtables op room ps notes bytes qs
  pub enough : op_end vtables (length places) op notes (length o.bytes) ≤ length o.bytes + o.free

-- some operation
pub record SomeStep (op : Op) (vtable : Bytes) (notes : List NotedField) (bytes : Bytes) (ends places : List ℕ) (o
    : TailSeen)
    : Type 0 where
  pub layout : LaidSchema
  pub vtables : List Bytes
  pub own_room : ℕ
  pub before : List NamedPart
  pub behind : List NamedPart
  pub may : MayStep layout vtables op own_room before vtable notes bytes behind ends places o
