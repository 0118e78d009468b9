-- What a visit of a place gives: the cells that are spent behind it, or its first fault.
use Rattle.std.specs.Prelude.{ℕ, ◌+◌, ◌≡◌, List, map, find, slice_get, Option, None, Some, Result, Ok, Err, MatchResult}
use Rattle.std.specs.Prelude.{◌==◌, if◌then◌else◌}
use Rattle.fb_schema.specs.declared.types.FieldInfo.{FieldInfo}
use Rattle.fb_schema.specs.Seen.{field_seen}
use Rattle.fb_layout.specs.Laid.{LaidSchema, Slot, slot_of}
use Rattle.fb_value.specs.declared.faults.ReadFault.{ReadFault}
use Rattle.fb_value.specs.Bounds.{Bounds}
use Rattle.fb_value.specs.Num.{Bytes}
use Rattle.fb_value.specs.Missing.{is_missing_slot}
use Rattle.fb_value.specs.Places.{Place, member_part, ref_place, unknown_place}
use Rattle.fb_value.specs.Faults.{sum_over, all, first_among, fault_from}

abbrev pub outcome : Option ReadFault → ℕ → Result ℕ ReadFault
outcome None n = Ok n
outcome (Some f) n = Err f

-- at a place, with so many tables above it and so many cells spent before it
unfoldable pub visit : LaidSchema → Bytes → Bounds → Place → ℕ → ℕ → Result ℕ ReadFault
visit L b most x tables spent = outcome (fault_from L b most x tables spent) (spent + all L b x)

-- at several places, one after another
unfoldable pub visit_each : LaidSchema → Bytes → Bounds → List (Option Place) → ℕ → ℕ → Result ℕ ReadFault
visit_each L b most xs tables spent =
    outcome (first_among (λ y before. fault_from L b most y tables before) (all L b) spent xs) (spent
    + sum_over (all L b) xs)

-- at a slot's place, if it names one
abbrev pub visit_entry : LaidSchema → Bytes → Bounds → Option Place → ℕ → ℕ → Result ℕ ReadFault
visit_entry L b most None tables spent = Ok spent
visit_entry L b most (Some x) tables spent = visit L b most x tables spent

-- the slots of some fields
abbrev pub slot_seen : LaidSchema → FieldInfo → Slot
slot_seen L f = slot_of L.schema (field_seen f)

abbrev pub slots_seen : LaidSchema → List FieldInfo → List Slot
slots_seen L fs = map (slot_of L.schema) (map field_seen fs)

-- the first of some slots that is required and absent
abbrev pub first_unset : LaidSchema → Bytes → ℕ → List FieldInfo → List ℕ → Option ℕ
first_unset L b p fs required = find (λ k. is_missing_slot b p k (slice_get (slots_seen L fs) k)) required

-- what a visit returned is what it gives, with so many cells spent behind it
abbrev pub Visits : {T : Type 0} → Result T ReadFault → ℕ → Result ℕ ReadFault → Type 0
Visits result after given = MatchResult result (λ _. given ≡ Ok after) (λ f. given ≡ Err f)

-- the place of a union's value that is present, by its code's member; a code of 0 has none
abbrev pub union_place : ℕ → ℕ → Option ℕ → Option Place
union_place c p None = if c == 0 then None else Some (record { sort = unknown_place c; at = p })
union_place c p (Some t) = Some (record { sort = ref_place (member_part c t); at = p })
