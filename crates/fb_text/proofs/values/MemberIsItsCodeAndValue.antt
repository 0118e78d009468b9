-- What the printer's pieces add up to.
use Rattle.std.proofs.Common.{◌≡◌, ℕ, zero, suc, ◌<◌, ◌||◌, List, [], ◌∷◌, length, map, slice_get, slice_index_or, Bool}
use Rattle.std.proofs.Common.{true, false, Option, None, Some, Result, Err, refl, arith}
use Rattle.fb_schema.specs.declared.types.FieldInfo.{FieldInfo}
use Rattle.fb_schema.specs.Schema.{DeclaredField}
use Rattle.fb_schema.specs.Seen.{field_seen}
use Rattle.fb_layout.specs.Laid.{LaidSchema}
use Rattle.fb_value.specs.Datum.{Datum, a_number, a_text, a_vector, a_struct, a_table, a_member, an_unknown}
use Rattle.fb_text.specs.Texts.{has_code, code_text}
use Rattle.fb_text.specs.declared.faults.WriteFault.{WriteFault}
use Rattle.fb_text.specs.declared.faults.WriteFault.TheVariants.{NoMemberName}
use Rattle.fb_text.specs.Printed.{is_entry_printed, slot_text, named_text, IfUnnamed}
use Rattle.fb_text.specs.Shown.{IsTop}
use Rattle.fb_text.specs.declared.shown.ValueHead.{ValueHead}
use Rattle.fb_text.specs.declared.shown.ValueHead.TheVariants.{Absent, Number, Text, Vector}
use Rattle.fb_text.specs.declared.shown.ValueHead.TheVariants.{Struct, Table, Member, Unknown}
use Rattle.fb_text.specs.Writes.{State, Adds}
use Rattle.fb_text.proofs.noted.PiecesAddUp.{added_then}

-- field k of a type, as the schema has it
pub seen_there : (xs : List FieldInfo) (k : ℕ) (x : FieldInfo) → k < length xs → x ≡ slice_index_or xs k x
    → slice_get (map field_seen xs) k ≡ Some (field_seen x)
seen_there [] k x less is = absurd (omega arith)
seen_there (y ∷ xs) zero x less is = rw is refl
seen_there (y ∷ xs) (suc k) x less is = seen_there xs k x (omega arith) is

pub seen_long : (xs : List FieldInfo) → length (map field_seen xs) ≡ length xs
seen_long [] = refl
seen_long (x ∷ xs) = rw (seen_long xs) refl

-- A printed slot is its code, if it has one, and its name and value.
pub entry_added : (L : LaidSchema) (defaults : Bool) (inner : Option (List ℕ)) (some : Bool) (f : DeclaredField)
    (o : Option Datum) (more : Bool) (a b e : State) → true ≡ is_entry_printed defaults f o
    → ((d : Datum) → o ≡ Some d → Adds a b (code_text L.schema inner some f.name f.shape d))
    → ((d : Datum) → o ≡ Some d → more ≡ (some || has_code f.shape d))
    → ((d : Datum) → o ≡ Some d → Adds b e (named_text L defaults inner more f d))
    → Adds a e (slot_text L defaults inner some f o)
entry_added L defaults inner some f None more a b e printed code has named = cc
entry_added L defaults inner some f (Some d) more a b e printed code has named =
    rw (← printed) (added_then a b e (code_text L.schema inner some f.name f.shape d)
    (named_text L defaults inner (some || has_code f.shape d) f d) (code d refl)
    (rw (← (has d refl)) (named d refl)))

-- what was found of an entry is there
pub found_there : (found : ValueHead) (o : Option Datum) → (found ≡ Absent → ⊥) → IsTop found o
    → (d : Datum) × (o ≡ Some d)
found_there Absent o some top = absurd (some refl)
found_there (Number n) o some top = (a_number n, top)
found_there (Text s) o some top = (a_text s.now, top)
found_there Vector o some top = (a_vector top.0, top.1)
found_there Struct o some top = (a_struct top.0, top.1)
found_there (Table t) o some top = (a_table t.0 top.0, top.1)
found_there (Member code) o some top = (a_member code top.0, top.1)
found_there Unknown o some top = (an_unknown top.0, top.1)

pub is_some_now : (some : Bool) → true ≡ (some || true)
is_some_now true = refl
is_some_now false = refl

-- a writer that is never told a union without a name
pub never_unnamed : {A : Type 0} (r : Result A WriteFault) (P : Type 0) → IfUnnamed r ⊥ → IfUnnamed r P
never_unnamed (Err (NoMemberName at)) P never = absurd never
never_unnamed _ P never = tt
