-- What was found of the slots of a table: they are noted, or this is the table's fault.
use Rattle.std.proofs.Common.{◌≡◌, ◌∙◌, ◌+◌, ◌-◌, ◌≤◌, ◌<◌, ◌||◌, ◌++◌, ◌∷◌, [], ℕ, Bool, List, Option, None, Some}
use Rattle.std.proofs.Common.{Result, Ok, Err, Bor, IfErr, IfOk, OnOk, length, get_or, map, slice_get, drop, refl, sym}
use Rattle.std.proofs.Common.{arith}
use Rattle.serde_json.specs.Data.{Members, object}
use Rattle.fb_schema.specs.declared.kinds.Kind.TheVariants.{Table}
use Rattle.fb_schema.specs.declared.kinds.Shape.TheVariants.{One}
use Rattle.fb_schema.specs.declared.kinds.TypeId.{TypeId}
use Rattle.fb_schema.specs.declared.types.FieldInfo.{FieldInfo}
use Rattle.fb_schema.specs.Schema.{body_at, slots_in}
use Rattle.fb_schema.specs.Seen.{field_seen}
use Rattle.fb_layout.specs.Laid.{LaidSchema, one_of, slot_of, slots_of, table_kind}
use Rattle.fb_layout.specs.WellMade.{IsWellMade}
use Rattle.fb_value.specs.Datum.{Datum, a_table}
use Rattle.fb_value.specs.Places.{table_part}
use Rattle.fb_value.specs.Room.{table_room}
use Rattle.fb_value.specs.UpTo.{at_most_usize}
use Rattle.fb_value.specs.View.{entries_in}
use Rattle.fb_tape.specs.NamedParts.{NamedPart, entries_apart}
use Rattle.fb_tape.specs.OpenFields.{IsOpenTable, OpenField}
use Rattle.fb_tape.specs.Tapes.{Taped, Waits}
use Rattle.fb_json.specs.declared.faults.JsonFault.{JsonFault}
use Rattle.fb_json.specs.declared.faults.Place.{Place}
use Rattle.fb_json.specs.Meant.{Look, code_after, entry_meant, if_known, look, names_known, slot_place, slots_meant}
use Rattle.fb_json.specs.Meant.{meant, table_meant, type_place}
use Rattle.fb_json.specs.Outcome.{◌>>=◌, Fails}
use Rattle.fb_json.proofs.slots.OneSlotOrFieldMore.{fails_by, fails_is}
use Rattle.fb_json.proofs.slots.SlotsDecideTheTable.{table_fails, table_gives}
use Rattle.fb_build.specs.declared.noting.Noting.{Noting}
use Rattle.fb_build.specs.Paired.{ArePaired}
use Rattle.fb_encode.specs.declared.objects.AfterSlot.{AfterSlot}
use Rattle.fb_encode.specs.declared.reader.JsonExcerpt.{JsonExcerpt}
use Rattle.fb_encode.specs.declared.unnoted.Unnoted.{Unnoted}
use Rattle.fb_encode.specs.declared.unnoted.Unnoted.TheVariants.{Fault, Unread}
use Rattle.fb_encode.specs.Found.{IfFault, IfFound}
use Rattle.fb_encode.specs.SlotTexts.{IsSlotNotedOr}
use Rattle.fb_encode.specs.TreesNoted.{IsEntryNoted, IsNoted}
use Rattle.fb_encode.proofs.parts.TreesByTheirKind.{table_by}
use Rattle.fb_encode.proofs.tables.SlotsAreNoted.{AreSlotsNoted, all_given, next_noted, none_noted, open_table}
use Rattle.fb_encode.proofs.tables.SlotsAreNoted.{table_noted, ungiven, untold}
use Rattle.fb_layout.proofs.slots.SlotsAreAsManyAsFields.{slots_long}

-- the brackets that may be open in a text
abbrev pub brackets_in : Option JsonExcerpt → ℕ
brackets_in None = 0
brackets_in (Some e) = e.brackets

module _ (L : LaidSchema) (unknown : Bool) (ms : Members) (t : ℕ) (slots : List FieldInfo) (at : Place) where
  -- The table has a level, a cell and known names alone, and the first k slots are noted.
  pub record AreSlotsFound (k levels left : ℕ) (a b : Taped) (before now : List OpenField) (after : AfterSlot) : Type 0
    where
      pub some : 0 < levels
      pub cell : 0 < left
      pub known : if_known (unknown || names_known (body_at L.schema t) ms) (type_place t) ≡ Ok tt
      pub noted : AreSlotsNoted L (look L unknown ms) t slots k after.code (levels - 1) (left - 1) after.left a b
          before now

  abbrev pub AreSlotsFoundOr : ℕ → ℕ → ℕ → Taped → Taped → List OpenField → List OpenField → Result AfterSlot JsonFault
      → Type 0
  AreSlotsFoundOr k levels left a b before now (Ok after) = AreSlotsFound k levels left a b before now after
  AreSlotsFoundOr k levels left a b before now (Err f) =
      Fails f (table_meant L unknown ms (look L unknown ms) t at levels left)

  pub first_found : (known : Result (Unit {0}) JsonFault)
      → known ≡ if_known (unknown || names_known (body_at L.schema t) ms) (type_place t)
      → (levels left : ℕ) (a : Taped) (opens : List OpenField) → a.unfinished ≡ [] → (r : Result AfterSlot Unnoted)
      → OnOk r (0 < levels) → OnOk r (0 < left) → OnOk r (known ≡ Ok tt) → IfOk r (λ first. first.left ≡ left - 1)
      → IfOk r (λ first. first.code ≡ 0)
      → IfErr r (λ e. IfFault e (λ f. table_meant L unknown ms (look L unknown ms) t at levels left ≡ Err f))
      → IfFound r (AreSlotsFoundOr 0 levels left a a opens opens)
  first_found known is levels left a opens whole (Err (Unread u)) some cell ok rest code fails = tt
  first_found known is levels left a opens whole (Err (Fault f)) some cell ok rest code fails = fails_is f _ fails
  first_found known is levels left a opens whole (Ok first) some cell ok rest code fails = record {
    some = some;
    cell = cell;
    known = sym is ∙ ok;
    noted = rw (code, rest)
        (none_noted L (look L unknown ms) t slots (levels - 1) (left - 1) a opens whole);
  }

module _ (L : LaidSchema) (unknown : Bool) (ms : Members) (owner : TypeId) (slots : List FieldInfo) (at : Place)
    (k levels left : ℕ) (f : Bor FieldInfo) (within : k < length slots) (is : f.now ≡ get_or slots k f.now)
    (all : map field_seen slots ≡ slots_in (body_at L.schema owner.0))
    (there : slice_get (slots_of L owner.0) k ≡ Some (slot_of L.schema (field_seen f.now)))
    (paired : ArePaired (slots_of L owner.0)) (a b : Taped) (before now : List OpenField) (after : AfterSlot)
    (inv : AreSlotsFound L unknown ms owner.0 slots at k levels left a b before now after) where
  abbrev seen : Look
  seen = look L unknown ms

  abbrev code_given : Result ℕ JsonFault
  code_given =
      code_after L.schema seen (slot_place owner.0 k) after.code f.now.deprecated (field_seen f.now).name f.now.shape

  -- the next slot is noted
  pub slot_found : (c : Taped) (later : List OpenField) (next : AfterSlot) → code_given ≡ Ok next.code
      → IsEntryNoted L k (slot_of L.schema (field_seen f.now))
      (entry_meant L seen (field_seen f.now) (slot_place owner.0 k) next.code (levels - 1) after.left) b c now later
      next.left
      → AreSlotsFound L unknown ms owner.0 slots at (k + 1) levels left a c before later next
  slot_found c later next code_is entry = record {
    some = inv.some;
    cell = inv.cell;
    known = inv.known;
    noted = next_noted L seen owner.0 slots k f.now within is after.code (levels - 1) (left - 1) after.left a b before
        now inv.noted there paired c later next.code next.left code_is entry;
  }

  -- or it has a fault, which is the table's
  slots_fail : (e : JsonFault) → (r : Result ℕ JsonFault) → code_given ≡ r
      → (r >>= λ c. entry_meant L seen (field_seen f.now) (slot_place owner.0 k) c (levels - 1) after.left) ≡ Err e
      → slots_meant L seen owner.0 (map field_seen slots) 0 0 (levels - 1) (left - 1) ≡ Err e
  slots_fail e (Err g) is_told fails =
      untold L seen owner.0 slots k f.now within is after.code (levels - 1) (left - 1) after.left a b before now
      inv.noted e (is_told ∙ cc)
  slots_fail e (Ok c) is_told fails =
      ungiven L seen owner.0 slots k f.now within is after.code (levels - 1) (left - 1) after.left a b before now
      inv.noted c e is_told fails

  pub slot_fails : (e : JsonFault)
      → Fails e (code_given >>= λ c. entry_meant L seen (field_seen f.now) (slot_place owner.0 k) c (levels - 1) after.left)
      → Fails e (table_meant L unknown ms seen owner.0 at levels left)
  slot_fails e fails =
      fails_by e _ _ (λ h. table_fails L unknown ms seen owner.0 at levels left e inv.some inv.cell inv.known
      (rw all at (slots_fail e code_given refl h))) fails

module _ (L : LaidSchema) (unknown : Bool) (ms : Members) (owner : TypeId) (slots : List FieldInfo) (at : Place)
    (k levels left : ℕ) (f : Bor FieldInfo) (within : k < length slots) (is : f.now ≡ get_or slots k f.now)
    (all : map field_seen slots ≡ slots_in (body_at L.schema owner.0))
    (there : slice_get (slots_of L owner.0) k ≡ Some (slot_of L.schema (field_seen f.now)))
    (paired : ArePaired (slots_of L owner.0)) (a : Taped) (before : List OpenField) (old new : Noting) where
  pub next_found : (after : AfterSlot) (now : Result AfterSlot JsonFault)
      → AreSlotsFound L unknown ms owner.0 slots at k levels left a old.tape before old.opened after
      → IsSlotNotedOr L (look L unknown ms) (record { owner = owner; number = k; field = f; code = 0 }) (levels - 1)
      after old new now
      → AreSlotsFoundOr L unknown ms owner.0 slots at (k + 1) levels left a new.tape before new.opened now
  next_found after (Ok next) inv noted =
      slot_found L unknown ms owner slots at k levels left f within is all there paired a old.tape before old.opened
      after inv new.tape new.opened next noted.0 noted.1
  next_found after (Err g) inv fails =
      slot_fails L unknown ms owner slots at k levels left f within is all there paired a old.tape before old.opened
      after inv g fails

-- ---- all slots

module _ (L : LaidSchema) (unknown : Bool) (ms : Members) (owner : TypeId) (slots : List FieldInfo) (at : Place)
    (k levels left : ℕ) (a b : Taped) (before now : List OpenField) (after : AfterSlot) (past : length slots ≤ k)
    (inv : AreSlotsFound L unknown ms owner.0 slots at k levels left a b before now after) (made : IsWellMade L)
    (all : map field_seen slots ≡ slots_in (body_at L.schema owner.0)) (end : k ≤ length slots) where
  long : length (slots_of L owner.0) ≡ k
  long = omega (arith, slots_long L owner.0 slots all, past, end)

  pub open_fields : IsOpenTable L owner.0 (drop (length before) now) inv.noted.entries
  open_fields =
      open_table L (look L unknown ms) owner.0 slots k after.code (levels - 1) (left - 1) after.left a b before now
      past inv.noted made long

  given : meant L unknown (object ms) (One (Table owner)) at levels left
      ≡ Ok (a_table owner.0 (entries_in inv.noted.entries), after.left)
  given =
      table_by L unknown at levels left owner (object ms) ms refl
      ∙ table_gives L unknown ms (look L unknown ms) owner.0 at levels left inv.noted.entries after.left inv.some
      inv.cell inv.known (rw all at (all_given L (look L unknown ms) owner.0 slots k after.code (levels - 1) (left - 1)
      after.left a b before now past inv.noted))

  pub all_noted : (c : Taped) (M : LaidSchema) → M ≡ L
      → ((others : List NamedPart) (xs : List (Option Datum)) → IsOpenTable M owner.0 (drop (length before) now) xs
      → Waits b (others ++ entries_apart (slots_of M owner.0) xs)
      → Waits c (others ++ (record { target = table_part owner.0; value = a_table owner.0 (entries_in xs) } ∷ [])))
      → c.room ≡ at_most_usize (b.room + table_room L owner.0) → c.unfinished ≡ [] → c.layout ≡ b.layout
      → IsNoted L (one_of (table_kind owner.0)) (meant L unknown (object ms) (One (Table owner)) at levels left) a c
      after.left
  all_noted c M same closed room whole layout =
      table_noted L (look L unknown ms) owner.0 slots k after.code (levels - 1) (left - 1) after.left a b before now
      past inv.noted made long _ given c M same closed room whole layout
