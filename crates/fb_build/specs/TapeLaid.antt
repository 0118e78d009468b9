-- A tape, operation by operation.
use Rattle.std.specs.Prelude.{ℕ, ◌+◌, ◌≡◌, ◌≤◌, List, [], length, slice_get, Option, unwrap_or}
use Rattle.std.specs.List.{sum_by}
use Rattle.fb_layout.specs.Laid.{LaidSchema}
use Rattle.fb_layout.specs.WellMade.{IsWellMade}
use Rattle.fb_value.specs.Num.{Bytes}
use Rattle.fb_tape.specs.NamedParts.{NamedPart}
use Rattle.fb_tape.specs.OpenList.{own_size}
use Rattle.fb_value.specs.Datum.{Datum}
use Rattle.fb_tape.specs.Tapes.{Taped, Lay, Lays, MeansRoot}
use Rattle.fb_tape.specs.declared.ops.NotedField.{NotedField}
use Rattle.fb_tape.specs.declared.ops.Op.{Op}
use Rattle.fb_tape.specs.declared.ops.Op.TheVariants.{Data, References, Table}
pub use Rattle.fb_build.specs.OpLengths.{op_fields, op_end, ops_end, op_most, ops_most}
use Rattle.fb_build.specs.Lengths.{header_end}
use Rattle.fb_build.specs.Waiting.{MayStep, AreWaiting}
use Rattle.fb_build.specs.declared.laying.Laying.{Laying}

-- how many bytes the fields of a table have
abbrev pub notes_bytes : List NotedField → ℕ
notes_bytes notes = sum_by own_size notes

-- how many of the tape's bytes an operation has, with the fields that it has
abbrev pub op_bytes : Op → List NotedField → ℕ
op_bytes (Data align size) notes = size
op_bytes (References count) notes = 0
op_bytes (Table align fields number) notes = notes_bytes notes

-- a table's vtable
abbrev pub op_vtable : List Bytes → Op → Bytes
op_vtable vtables (Table align fields number) = unwrap_or (slice_get vtables number) []
op_vtable vtables _ = []

-- an operation of a tape may be laid
pub record MayLayOp (L : LaidSchema) (vtables : List Bytes) (op : Op) (notes : List NotedField) (bytes : Bytes)
    (a : Laying) : Type 0 where
  pub own_room : ℕ
  pub before : List NamedPart
  pub behind : List NamedPart
  pub may : MayStep L vtables op own_room before (op_vtable vtables op) notes bytes behind a.waiting.items
      a.places.items
      a.tail

-- of a whole tape, in front of nothing
abbrev pub tape_end : Taped → ℕ
tape_end t = ops_end t.vtables 0 t.ops t.notes 0

abbrev pub tape_most : Taped → ℕ
tape_most t = ops_most t.ops 4

-- a buffer of a tape alone, with what comes before it
abbrev pub buffer_end : ℕ → LaidSchema → Taped → ℕ
buffer_end front L t = header_end front L.schema.identifier (tape_most t) (tape_end t)

-- ---- the operations that are left

-- The parts that wait are those that the operations so far leave. The parts qs will wait after the others, and for
-- these the tail has room.
pub record IsLaidUpTo (L : LaidSchema) (vtables : List Bytes) (ops : List Op) (notes : List NotedField) (bytes : Bytes)
    (qs : List NamedPart) (a : Laying) : Type 0 where
  pub parts : List NamedPart
  pub room_left : ℕ
  pub lay : Lay L vtables (length a.places.items) room_left parts ops notes bytes qs
  pub waiting : AreWaiting L vtables parts a.waiting.items a.places.items a.tail
  pub enough : ops_end vtables (length a.places.items) ops notes (length a.tail.bytes)
      ≤ length a.tail.bytes + a.tail.free

-- Nothing is laid yet.
pub record IsFresh (a : Laying) : Type 0 where
  pub bytes : length a.tail.bytes ≡ 0
  pub most : a.tail.most ≡ 4
  pub none_wait : a.waiting.items ≡ []
  pub none_come : a.places.items ≡ []

-- The tape leaves some parts.
pub record SomeLay (t : Taped) : Type 0 where
  pub parts : List NamedPart
  pub lay : Lay t.layout t.vtables 0 t.room [] t.ops t.notes t.bytes parts

-- ---- counted, and not laid

-- an operation of a tape
pub record SomeOp (L : LaidSchema) (vtables : List Bytes) (op : Op) : Type 0 where
  pub room : ℕ
  pub before : List NamedPart
  pub behind : List NamedPart
  pub notes : List NotedField
  pub bytes : Bytes
  pub made : IsWellMade L
  pub lays : Lays L vtables op room before notes bytes behind

-- So many bytes are laid and so many vtables have come, and with the rooms of the operations that are left these are
-- `most` at most.
pub record IsCountedUpTo (L : LaidSchema) (vtables : List Bytes) (most known : ℕ) (ops : List Op)
    (notes : List NotedField) (laid : ℕ) : Type 0 where
  pub bytes : Bytes
  pub parts : List NamedPart
  pub behind : List NamedPart
  pub room_left : ℕ
  pub lay : Lay L vtables known room_left parts ops notes bytes behind
  pub enough : laid + room_left ≤ most

-- With the fields of the operations that are left, these make the whole tape.
pub record IsCountedSoFar (t : Taped) (ops : List Op) (known laid : ℕ) : Type 0 where
  pub notes : List NotedField
  pub counted : IsCountedUpTo t.layout t.vtables t.room known ops notes laid
  pub long : ops_end t.vtables known ops notes laid ≡ tape_end t

-- The tape means some value of the root table.
pub record SomeRoot (t : Taped) : Type 0 where
  pub entries : List (Option Datum)
  pub means : MeansRoot t entries
