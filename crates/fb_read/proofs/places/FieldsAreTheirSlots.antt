-- The slots of some fields, by position.
use Rattle.fb_schema.specs.declared.types.FieldInfo.{FieldInfo}
use Rattle.std.proofs.Common.{slice_index_or, slice_get, drop, length, ◌≡◌, ℕ, zero, suc, ◌+◌, ◌<◌, ◌≤◌, List, []}
use Rattle.std.proofs.Common.{◌∷◌, false, None, Some, refl, arith}
use Rattle.fb_layout.specs.Laid.{LaidSchema, Slot}
use Rattle.fb_value.specs.Places.{named_slots}
use Rattle.fb_value.specs.Num.{Bytes}
use Rattle.fb_value.specs.Missing.{is_missing_slot}
use Rattle.fb_value.specs.Rules.{is_missing}
use Rattle.fb_read.specs.Visits.{slot_seen, slots_seen}

-- the slot of one of some fields
pub slot_there : (L : LaidSchema) (xs : List FieldInfo) (k : ℕ) (x : FieldInfo) → k < length xs
    → x ≡ slice_index_or xs k x → slice_get (slots_seen L xs) k ≡ Some (slot_seen L x)
slot_there L [] k x less is = absurd (omega arith)
slot_there L (y ∷ xs) zero x less is = rw is refl
slot_there L (y ∷ xs) (suc k) x less is = slot_there L xs k x (omega arith) is

-- there is none past them
slot_none : (L : LaidSchema) (xs : List FieldInfo) (k : ℕ) → length xs ≤ k → slice_get (slots_seen L xs) k ≡ None
slot_none L [] k past = refl
slot_none L (y ∷ xs) zero past = absurd (omega arith)
slot_none L (y ∷ xs) (suc k) past = slot_none L xs k (omega arith)

pub unset_here : (L : LaidSchema) (b : Bytes) (p k : ℕ) (xs : List FieldInfo) (x : FieldInfo) → k < length xs
    → x ≡ slice_index_or xs k x → is_missing_slot b p k (slice_get (slots_seen L xs) k)
    ≡ is_missing b p k (slot_seen L x)
unset_here L b p k xs x less is = rw (slot_there L xs k x less is) refl

pub unset_past : (L : LaidSchema) (b : Bytes) (p k : ℕ) (xs : List FieldInfo) → length xs ≤ k
    → is_missing_slot b p k (slice_get (slots_seen L xs) k) ≡ false
unset_past L b p k xs past = rw (slot_none L xs k past) refl

-- the slots of the fields from one on
pub seen_drop : (L : LaidSchema) (xs : List FieldInfo) (n : ℕ) → drop n (slots_seen L xs) ≡ slots_seen L (drop n xs)
seen_drop L [] zero = refl
seen_drop L [] (suc n) = refl
seen_drop L (x ∷ xs) zero = refl
seen_drop L (x ∷ xs) (suc n) = seen_drop L xs n

-- nothing stands past a list's end
pub drop_past : {A : Type 0} (xs : List A) (k : ℕ) → length xs ≤ k → drop k xs ≡ []
drop_past [] zero h = refl
drop_past [] (suc k) h = refl
drop_past (x ∷ xs) zero h = absurd (omega arith)
drop_past (x ∷ xs) (suc k) h = drop_past xs k (omega arith)

-- the places that the rest of some slots name
pub named_drop : (L : LaidSchema) (b : Bytes) (p j k : ℕ) (fs : List Slot)
    → drop k (named_slots L b p j fs) ≡ named_slots L b p (j + k) (drop k fs)
unfolding named_slots
named_drop L b p j zero fs = let here : j + 0 ≡ j = omega arith in rw here refl
named_drop L b p j (suc k) [] = refl
named_drop L b p j (suc k) (f ∷ fs) =
    let there : j + suc k ≡ suc j + k = omega arith in
    rw there (named_drop L b p (suc j) k fs)
