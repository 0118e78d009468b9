-- The texts of a table's members by its slots, or of a struct's by its fields, and what each slot is noted as.
use Rattle.std.specs.Prelude.{ℕ, ◌≡◌, ◌≤◌, true, false, Bool, List, Option, None, Some, Result, Ok, Err, length, map}
use Rattle.std.specs.Prelude.{option_map, slice_get, slice_set, if◌then◌else◌}
use Rattle.std.specs.List.{slice_index_or}
use Rattle.serde_json.specs.Data.{Data}
use Rattle.serde_json.specs.Find.{get_member}
use Rattle.fb_schema.specs.Schema.{DeclaredField}
use Rattle.fb_schema.specs.Seen.{field_seen}
use Rattle.fb_layout.specs.Laid.{LaidSchema}
use Rattle.fb_layout.specs.Seen.{slot_seen}
use Rattle.fb_value.specs.Datum.{Datum}
use Rattle.fb_json.specs.declared.faults.JsonFault.{JsonFault}
use Rattle.fb_json.specs.Meant.{Look, Meaner, code_after, entry_meant, meant, slot_place}
use Rattle.fb_json.specs.Outcome.{◌>>=◌, Counted, Fails}
use Rattle.fb_build.specs.declared.noting.Noting.{Noting}
use Rattle.fb_pieces.specs.declared.cut.Piece.{Piece}
use Rattle.fb_encode.specs.declared.entries.SlotRead.{SlotRead}
use Rattle.fb_encode.specs.declared.objects.AfterSlot.{AfterSlot}
use Rattle.fb_encode.specs.declared.reader.JsonExcerpt.{JsonExcerpt}
use Rattle.fb_encode.specs.MembersRead.{object_read, tree_read}
use Rattle.fb_encode.specs.TextsRead.{IsRead}
use Rattle.fb_encode.specs.TreesNoted.{IsEntryNoted}

-- The piece is a part of the text.
pub record IsPieceOf (text : List ℕ) (piece : Piece) : Type 0 where
  pub forward : piece.start ≤ piece.end
  pub within : piece.end ≤ length text

-- the tree that a text is read as
abbrev pub excerpt_tree : JsonExcerpt → Data
excerpt_tree e = tree_read e.brackets e.text.now

-- what a look-up gives that finds this text, or none
abbrev pub text_found : LaidSchema → Bool → Option JsonExcerpt → Option (Data × Meaner)
text_found L unknown o = option_map (λ e. (excerpt_tree e, meant L unknown (excerpt_tree e))) o

-- Each text at a slot is read.
abbrev pub AreTextsRead : List (Option JsonExcerpt) → Type 0
AreTextsRead texts = (k : ℕ) (e : JsonExcerpt) → slice_get texts k ≡ Some (Some e) → IsRead e.brackets e.text.now

-- Each slot in use has the text of the member that a look-up of its name finds, and a deprecated one has none.
pub record AreTextsOf (brackets : ℕ) (texts : List (Option JsonExcerpt)) (fs : List DeclaredField)
    (ms : List (List ℕ × List ℕ)) : Type 0 where
  pub all : length texts ≡ length fs
  pub each : (k : ℕ) (f : DeclaredField) → slice_get fs k ≡ Some f → f.deprecated ≡ false
      → slice_get (map (option_map excerpt_tree) texts) k ≡ Some (get_member f.name (object_read brackets ms))
  pub old : (k : ℕ) (f : DeclaredField) → slice_get fs k ≡ Some f → f.deprecated ≡ true
      → slice_get texts k ≡ Some None
  pub brackets_are : (k : ℕ) (e : JsonExcerpt) → slice_get texts k ≡ Some (Some e) → e.brackets ≡ brackets

-- the texts after a member with this text, whose name finds this field
abbrev pub texts_with : List (Option JsonExcerpt) → Option DeclaredField → JsonExcerpt → List (Option JsonExcerpt)
texts_with texts None e = texts
texts_with texts (Some f) e = if f.deprecated then texts else slice_set texts f.slot (Some e)

-- the text that no slot has then: this one, or the one that was at its slot
abbrev pub text_over : List (Option JsonExcerpt) → Option DeclaredField → JsonExcerpt → Option JsonExcerpt
text_over texts None e = Some e
text_over texts (Some f) e = if f.deprecated then Some e else slice_index_or texts f.slot (Some e)

-- ---- what a slot gives

-- the entry of a slot, by the union code that came last
abbrev pub slot_meant : LaidSchema → Look → SlotRead → ℕ → ℕ → ℕ → Counted (Option Datum)
slot_meant L seen slot code levels left =
    code_after L.schema seen (slot_place slot.owner.0 slot.number) code slot.field.now.deprecated
    (field_seen slot.field.now).name slot.field.now.shape >>= λ c.
    entry_meant L seen (field_seen slot.field.now) (slot_place slot.owner.0 slot.number) c levels left

-- The slot is noted, and the code and the cells after it are these; or this is its fault.
abbrev pub IsSlotNotedOr : LaidSchema → Look → SlotRead → ℕ → AfterSlot → Noting → Noting
    → Result AfterSlot JsonFault → Type 0
IsSlotNotedOr L seen slot levels before a b (Ok after) =
    (code_after L.schema seen (slot_place slot.owner.0 slot.number) before.code slot.field.now.deprecated
    (field_seen slot.field.now).name slot.field.now.shape ≡ Ok after.code)
    × IsEntryNoted L slot.number (slot_seen L slot.field.now)
    (entry_meant L seen (field_seen slot.field.now) (slot_place slot.owner.0 slot.number) after.code levels
    before.left) a.tape b.tape a.opened b.opened after.left
IsSlotNotedOr L seen slot levels before a b (Err f) = Fails f (slot_meant L seen slot before.code levels before.left)
