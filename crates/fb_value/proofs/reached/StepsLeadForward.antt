-- A place that keeps its rules is within the bytes, and what it names is at greater positions.
use Rattle.std.proofs.Common.{◌≡◌, ℕ, zero, suc, ◌+◌, ◌-◌, ◌<◌, ◌≤◌, Bool, true, false, not, nat_eq, cond, List, []}
use Rattle.std.proofs.Common.{◌∷◌, length, Option, None, Some, slice_get, refl, arith}
use Rattle.std.proofs.lemmas.Bool.{leb-true, ltb-true, and_parts}
use Rattle.fb_value.specs.Num.{Bytes, num}
use Rattle.fb_layout.specs.Laid.{LaidSchema, Slot, StoredKind, table_kind, union_kind, text_kind}
use Rattle.fb_layout.specs.Laid.{StoredShape, one_of, slots_of, member_by_code}
use Rattle.fb_value.specs.Places.{Target, table_part, member_part, text_part, vector_part, Sort, ref_place, part_place}
use Rattle.fb_value.specs.Places.{Place, named, named_slots, named_slot}
use Rattle.fb_value.specs.Places.{named_union, named_elements, slot_number, is_present, code_at}
use Rattle.fb_value.specs.Rules.{Keeps, fault_by}
use Rattle.fb_value.proofs.rules.RulesHoldOneByOne.{rule_held}

-- An entry names one place.
pub same_place : (x y : Place) → Some (Some x) ≡ Some (Some y) → x ≡ y
same_place x y e = cc

-- a reference or part that keeps its rules is within the bytes
pub keeps_within : (L : LaidSchema) (b : Bytes) (s : Sort) (p k : ℕ) (y : Place) → Keeps L b s p
    → slice_get (named L b s p) k ≡ Some (Some y) → p + 4 ≤ length b
unfolding fault_by
keeps_within L b (ref_place X) p k y e n = leb-true _ _ (rule_held _ _ _ (rule_held _ _ _ e).1).0
keeps_within L b (part_place (table_part t)) p k y e n = leb-true _ _ (rule_held _ _ _ (rule_held _ _ _ e).1).0
keeps_within L b (part_place (member_part c t)) p k y e n = leb-true _ _ (rule_held _ _ _ (rule_held _ _ _ e).1).0
keeps_within L b (part_place (vector_part kind)) p k y e n =
    leb-true _ _ (and_parts _ _ (rule_held _ _ _ (rule_held _ _ _ e).1).0).0
keeps_within L b _ p k y e n = cc

-- a place that stands only where a test holds
pub if_there : (c : Bool) (x y : Place) → cond c (Some x) None ≡ Some y → (c ≡ true) × (x ≡ y)
if_there true x y e = (refl, cc)
if_there false x y e = cc

-- What a slot names is at a greater position.
higher : (b : Bytes) (p k : ℕ) (s : Sort) (y : Place)
    → cond (is_present b p k) (Some (record { sort = s; at = p + slot_number b p k })) None ≡ Some y → p < y.at
higher b p k s y e =
    let found = if_there _ _ y e in
    let there : 0 < slot_number b p k = ltb-true _ _ found.0 in
    rw (← found.1) (omega arith)

-- The same of a union's value.
union_higher : (b : Bytes) (p k c : ℕ) (o : Option ℕ) (y : Place) → named_union b p k c o ≡ Some y → p < y.at
union_higher b p k c None y e =
    let found = if_there _ _ y e in
    let there : 0 < slot_number b p k = ltb-true _ _ (and_parts (not (nat_eq c 0)) (is_present b p k) found.0).1 in
    rw (← found.1) (omega arith)
union_higher b p k c (Some t) y e = higher b p k (ref_place (member_part c t)) y e

-- The same of any slot.
slot_higher : (L : LaidSchema) (b : Bytes) (p k : ℕ) (fs : List Slot) (s : StoredShape) (y : Place)
    → named_slot L b p k fs s ≡ Some y → p < y.at
slot_higher L b p k fs (one_of (union_kind u)) y e =
    union_higher b p k (code_at b p (k - 1)) (member_by_code L u (code_at b p (k - 1))) y e
slot_higher L b p k fs _ y e = higher b p k _ y e

-- The same where the slot may be deprecated.
either_higher : (p : ℕ) (deprecated : Bool) (o : Option Place) (y : Place) → ((z : Place) → o ≡ Some z → p < z.at)
    → Some (cond deprecated None o) ≡ Some (Some y) → p < y.at
either_higher p true o y known e = cc
either_higher p false o y known e = known y cc

-- What the slots of a table name is at greater positions.
pub slots_higher : (L : LaidSchema) (b : Bytes) (p k : ℕ) (fs : List Slot) (j : ℕ) (y : Place)
    → slice_get (named_slots L b p k fs) j ≡ Some (Some y) → p < y.at
unfolding named_slots
slots_higher L b p k [] j y e = cc
slots_higher L b p k (f ∷ fs) zero y e = either_higher p f.deprecated (named_slot L b p k fs f.shape) y
    (λ z h. slot_higher L b p k fs f.shape z h) e
slots_higher L b p k (f ∷ fs) (suc j) y e = slots_higher L b p (suc k) fs j y e

-- References stand from their first position on.
pub elements_higher : (X : Target) (p n j : ℕ) (y : Place) → slice_get (named_elements X p n) j ≡ Some (Some y)
    → p ≤ y.at
unfolding named_elements
elements_higher X p zero j y e = cc
elements_higher X p (suc n) zero y e =
    rw (← (same_place (record { sort = ref_place X; at = p }) y e)) (omega arith)
elements_higher X p (suc n) (suc j) y e = omega (arith, elements_higher X (p + 4) n j y e)

-- What a vector names is at greater positions.
pub vector_higher : (L : LaidSchema) (b : Bytes) (p : ℕ) (kind : StoredKind) (j : ℕ) (y : Place)
    → slice_get (named L b (part_place (vector_part kind)) p) j ≡ Some (Some y) → p < y.at
vector_higher L b p text_kind j y e = omega (arith, elements_higher text_part (p + 4) _ j y e)
vector_higher L b p (table_kind t) j y e = omega (arith, elements_higher (table_part t) (p + 4) _ j y e)
vector_higher L b p _ j y e = cc

-- What a reference leads to is at a greater position.
pub ref_higher : (L : LaidSchema) (b : Bytes) (X : Target) (p k : ℕ) (y : Place) → Keeps L b (ref_place X) p
    → slice_get (named L b (ref_place X) p) k ≡ Some (Some y) → p < y.at
unfolding fault_by
ref_higher L b X p zero y e n =
    let above : 0 < num b p 4 = ltb-true _ _ (rule_held _ _ _ (rule_held _ _ _ (rule_held _ _ _ e).1).1).0 in
    rw (← (same_place (record { sort = part_place X; at = p + num b p 4 }) y n)) (omega arith)
ref_higher L b X p (suc k) y e n = cc

-- each step leads to a greater position
pub steps_up : (L : LaidSchema) (b : Bytes) (s : Sort) (p k : ℕ) (y : Place) → Keeps L b s p
    → slice_get (named L b s p) k ≡ Some (Some y) → p < y.at
steps_up L b (ref_place X) p k y e n = ref_higher L b X p k y e n
steps_up L b (part_place (table_part t)) p k y e n = slots_higher L b p 0 (slots_of L t) k y n
steps_up L b (part_place (member_part c t)) p k y e n = slots_higher L b p 0 (slots_of L t) k y n
steps_up L b (part_place (vector_part kind)) p k y e n = vector_higher L b p kind k y n
steps_up L b _ p k y e n = cc
