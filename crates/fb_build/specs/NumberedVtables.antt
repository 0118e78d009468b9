-- Vtables that are laid by their numbers: those that have come are the first ones, each at its place.
use Rattle.std.specs.Prelude.{ℕ, ◌+◌, ◌-◌, ◌%◌, ◌≡◌, ◌≤◌, ◌⊎◌, max, List, [], ◌∷◌, length, take, Option, Some}
use Rattle.std.specs.Prelude.{slice_get}
use Rattle.std.specs.Prelude.{slice_index}
use Rattle.fb_layout.specs.Laid.{LaidSchema, slots_of}
use Rattle.fb_value.specs.Datum.{Datum, a_table}
use Rattle.fb_value.specs.Num.{Bytes, num}
use Rattle.fb_value.specs.Places.{table_part, part_place}
use Rattle.fb_value.specs.View.{entries_in}
use Rattle.fb_tape.specs.Vtables.{vtable_of}
use Rattle.fb_tape.specs.KnownVtables.{EachHasOneNumber}
use Rattle.fb_build.specs.Vtables.{AreLaid, TellsItsLength}
use Rattle.fb_build.specs.CoveredTails.{parts_in_tail}
use Rattle.fb_build.specs.Fields.{stored_in, stored_align}
use Rattle.fb_build.specs.Made.{Adds, FieldsFront, OldVtable, NewVtable, named_fields, ends_parts}
use Rattle.fb_build.specs.NotesLaid.{AreLaidNow}
use Rattle.fb_build.specs.Parts.{TableKnown}
use Rattle.fb_build.specs.TableBytes.{way_to}
use Rattle.fb_build.specs.Tails.{TailSeen, LaidInTail}

-- the vtables that are laid at so many places
abbrev pub come : List Bytes → List ℕ → List Bytes
come vtables places = take (length places) vtables

abbrev pub AreLaidInTurn : List Bytes → List ℕ → Bytes → Type 0
AreLaidInTurn vtables places s = AreLaid (come vtables places) places s

-- A vtable has a number: it is laid, or the next to come.
pub record IsVtableInTurn (vtables : List Bytes) (places : List ℕ) (number : ℕ) (vtable s : Bytes) : Type 0 where
  pub shared : AreLaidInTurn vtables places s
  pub is : slice_get vtables number ≡ Some vtable
  pub turn : number ≤ length places
  pub told : TellsItsLength vtable
  pub even : length vtable % 2 ≡ 0
  pub four : length s % 4 ≡ 0

-- The first number of its table was laid, and the vtable where it is new.
pub record IsVtableLaid (vtables : List Bytes) (number : ℕ) (vtable : Bytes) (before after : List ℕ) (old new : Bytes)
    (place : ℕ) : Type 0 where
  pub shared : AreLaidInTurn vtables after new
  pub laid : OldVtable (come vtables after) before after old new vtable
      ⊎ NewVtable (come vtables after) before after old new vtable
  pub key : slice_get (come vtables after) number ≡ Some vtable
  pub leads : num new (length new - place) 4 ≡ way_to (length new - place) (length new - slice_index after number)

-- The fields of a table are laid, and its first number is not.
pub record IsTableOpen (L : LaidSchema) (vtables : List Bytes) (t : ℕ) (entries : List (Option Datum)) (start : ℕ)
    (targets places : List ℕ) (number : ℕ) (vtable : Bytes) (o : TailSeen) : Type 0 where
  pub known : TableKnown L (slots_of L t) entries
  pub few : length (slots_of L t) ≤ 32765
  pub laid : AreLaidNow L (slots_of L t) (stored_in (slots_of L t) entries) targets start o
  pub narrow : length o.bytes ≤ start + 65528
  pub vtable_is : vtable ≡ vtable_of L (slots_of L t) (stored_in (slots_of L t) entries)
  pub is : slice_get vtables number ≡ Some vtable
  pub turn : number ≤ length places
  pub shared : AreLaidInTurn vtables places o.bytes
  pub different : EachHasOneNumber vtables

-- It is whole.
pub record IsTableClosed (L : LaidSchema) (vtables : List Bytes) (t : ℕ) (entries : List (Option Datum)) (start : ℕ)
    (targets before after : List ℕ) (e : ℕ) (o n : TailSeen) : Type 0 where
  pub lies : LaidInTail L n.most n.bytes (part_place (table_part t)) e (a_table t (entries_in entries))
  pub adds : (a : TailSeen)
      → FieldsFront a o start (max 4 (stored_align L (slots_of L t) (stored_in (slots_of L t) entries)))
      → Adds L a before n after (record { target = table_part t; at = length n.bytes - e } ∷ [])
  pub leads : parts_in_tail L n.bytes (table_part t) e (a_table t (entries_in entries))
      ≡ record { target = table_part t; at = length n.bytes - e }
      ∷ ends_parts L n.bytes (named_fields (slots_of L t) (stored_in (slots_of L t) entries)) targets
  pub shared : AreLaidInTurn vtables after n.bytes
