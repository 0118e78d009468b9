-- Open fields as they are held: each one's bytes are among those of all.
use Rattle.std.specs.Prelude.{ℕ, ◌+◌, ◌≤◌, ◌≡◌, List, [], ◌∷◌, Some, map, length, slice_get}
use Rattle.fb_value.specs.Num.{Bytes, part_of}
use Rattle.fb_tape.specs.OpenFields.{OpenField}
use Rattle.fb_tape.specs.declared.open_fields.OpenField.{OpenField as Held}
use Rattle.fb_tape.specs.declared.open_fields.OpenFields.TheInside.{Inside}
use Rattle.fb_tape.specs.declared.ops.NotedField.{NotedField}
use Rattle.fb_tape.specs.declared.ops.NotedField.TheVariants.{Reference, Inline}

-- how many bytes a field has in its table's place, beside references
abbrev pub own_size : NotedField → ℕ
own_size Reference = 0
own_size (Inline n) = n

abbrev pub field_seen : Bytes → Held → OpenField
field_seen bytes x = record {
  slot = x.slot;
  align = x.align;
  note = x.note;
  bytes = part_of bytes x.first (own_size x.note);
}

abbrev pub open_seen : Inside → List OpenField
open_seen o = map (field_seen o.bytes.items) o.fields.items

-- The bytes of fields follow each other, from a position on and up to an end.
abbrev pub StandInTurn : ℕ → List Held → ℕ → Type 0
StandInTurn p [] end = p ≤ end
StandInTurn p (x ∷ xs) end = (p ≤ x.first) × StandInTurn (x.first + own_size x.note) xs end

abbrev pub IsOpenList : Inside → Type 0
IsOpenList o = StandInTurn 0 o.fields.items (length o.bytes.items)

-- The field of an index is this one, whatever its bytes.
abbrev pub IsFieldAt : List OpenField → ℕ → Held → Type 0
IsFieldAt xs i held = (all : Bytes) × (slice_get xs i ≡ Some (field_seen all held))

-- The field of an index has these bytes.
abbrev pub AreBytesAt : List OpenField → ℕ → Bytes → Type 0
AreBytesAt xs i bytes = (x : OpenField) → slice_get xs i ≡ Some x → bytes ≡ x.bytes
