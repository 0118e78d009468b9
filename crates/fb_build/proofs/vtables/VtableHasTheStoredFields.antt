-- The fields that a table's vtable tells of are those whose entries are stored.
use Rattle.std.proofs.Common.{◌≡◌, ◌≢◌, ℕ, zero, suc, ◌+◌, ◌-◌, ◌<◌, ◌≤◌, Bool, true, false, if◌then◌else◌, max, List}
use Rattle.std.proofs.Common.{[], ◌∷◌, length, map, sum_by, slice_get, slice_index, Option, None, Some, refl, ap}
use Rattle.std.proofs.Common.{◌∙◌, subst, arith}
use Rattle.std.proofs.lemmas.Bool.{lt-ltb, or_left, or_right}
use Rattle.std.proofs.lemmas.List.Sums.{sum_by-cons}
use Rattle.std.specs.Prelude.{ℤ}
use Rattle.fb_schema.specs.Alignments.{greatest_in}
use Rattle.fb_layout.specs.Laid.{LaidSchema, Slot}
use Rattle.fb_layout.specs.Widths.{inline_size, inline_align}
use Rattle.fb_value.specs.Datum.{Datum}
use Rattle.fb_value.specs.Num.{Bytes}
use Rattle.fb_value.specs.Places.{slot_number, is_present}
use Rattle.fb_build.specs.Fields.{is_stored, fields_size, stored_align, EntriesEnd, StoredEnd}
use Rattle.fb_build.specs.Stored.{StoredSlot, stored_from, is_in_field, absent_number, stored_number, NoneIsDefault}
use Rattle.fb_build.specs.Stored.{HoldsBit, AllHoldBits, StandApart, StandsApartFrom, AllStandApart}
use Rattle.fb_build.specs.TableBytes.{offset_from}
use Rattle.fb_tape.specs.Taken.{is_within}

-- From slot j on, the table at p has a number for the slots whose entries are stored.
abbrev pub TellsStored : Bytes → ℕ → ℕ → List Slot → List (Option Datum) → Type 0
TellsStored b p j fs xs = (k : ℕ) (f : Slot) (x : Option Datum) → slice_get fs k ≡ Some f → slice_get xs k ≡ Some x
    → is_present b p (j + k) ≡ is_stored f x

tells_first : (b : Bytes) (p j : ℕ) (f : Slot) (fs : List Slot) (x : Option Datum) (xs : List (Option Datum))
    → TellsStored b p j (f ∷ fs) (x ∷ xs) → is_present b p j ≡ is_stored f x
tells_first b p j f fs x xs h = let at : j + 0 ≡ j = omega arith in
    rw (← at) (h 0 f x refl refl)

tells_rest : (b : Bytes) (p j : ℕ) (f : Slot) (fs : List Slot) (x : Option Datum) (xs : List (Option Datum))
    → TellsStored b p j (f ∷ fs) (x ∷ xs) → TellsStored b p (suc j) fs xs
tells_rest b p j f fs x xs h k g y gk yk = let at : j + suc k ≡ suc j + k = omega arith in
    rw (← at) (h (suc k) g y gk yk)

on_first : (P : ℕ → Type 0) (j : ℕ) → P (j + 0) → P j
on_first P j h = let at : j + 0 ≡ j = omega arith in subst P at h

on_rest : (P : ℕ → Type 0) (j k : ℕ) → P (j + suc k) → P (suc j + k)
on_rest P j k h = let at : j + suc k ≡ suc j + k = omega arith in subst P at h

-- a field that is told, or is not
abbrev pub told_if : Bool → StoredSlot → List StoredSlot → List StoredSlot
told_if t r rest = if t then r ∷ rest else rest

-- The sizes of what is told are those of what is stored.
pub stored_size : (L : LaidSchema) (b : Bytes) (p j : ℕ) (fs : List Slot) (xs : List (Option Datum))
    → length fs ≡ length xs → TellsStored b p j fs xs
    → sum_by (λ r. inline_size L r.slot.shape) (stored_from b p j fs) ≡ fields_size L fs xs
unfolding stored_from
stored_size L b p j [] [] long h = refl
stored_size L b p j [] (x ∷ xs) long h = absurd (omega (arith, long))
stored_size L b p j (f ∷ fs) [] long h = absurd (omega (arith, long))
stored_size L b p j (f ∷ fs) (x ∷ xs) long h =
    let rest = stored_size L b p (suc j) fs xs (omega (arith, long)) (tells_rest b p j f fs x xs h) in
    one_more (record { slot = f; at = slot_number b p j }) (stored_from b p (suc j) fs) (fields_size L fs xs) rest
    (is_present b p j) (is_stored f x) (tells_first b p j f fs x xs h)
  where
    one_more : (r : StoredSlot) (rs : List StoredSlot) (n : ℕ) → sum_by (λ r. inline_size L r.slot.shape) rs ≡ n
        → (t u : Bool) → t ≡ u → sum_by (λ r. inline_size L r.slot.shape) (told_if t r rs)
        ≡ (if u then inline_size L r.slot.shape else 0) + n
    one_more r rs n e true true same = sum_by-cons (λ r. inline_size L r.slot.shape) r rs
        ∙ ap (λ m. inline_size L r.slot.shape + m) e
    one_more r rs n e false false same = omega (arith, e)
    one_more r rs n e true false same = cc
    one_more r rs n e false true same = cc

-- The greatest alignment of what is told is that of what is stored.
pub stored_greatest : (L : LaidSchema) (b : Bytes) (p j : ℕ) (fs : List Slot) (xs : List (Option Datum))
    → length fs ≡ length xs → TellsStored b p j fs xs
    → greatest_in (map (λ r. inline_align L r.slot.shape) (stored_from b p j fs)) ≡ stored_align L fs xs
unfolding stored_from
stored_greatest L b p j [] [] long h = refl
stored_greatest L b p j [] (x ∷ xs) long h = absurd (omega (arith, long))
stored_greatest L b p j (f ∷ fs) [] long h = absurd (omega (arith, long))
stored_greatest L b p j (f ∷ fs) (x ∷ xs) long h =
    let rest = stored_greatest L b p (suc j) fs xs (omega (arith, long)) (tells_rest b p j f fs x xs h) in
    one_more (record { slot = f; at = slot_number b p j }) (stored_from b p (suc j) fs) (stored_align L fs xs) rest
    (is_present b p j) (is_stored f x) (tells_first b p j f fs x xs h)
  where
    one_more : (r : StoredSlot) (rs : List StoredSlot) (n : ℕ)
        → greatest_in (map (λ r. inline_align L r.slot.shape) rs) ≡ n → (t u : Bool) → t ≡ u
        → greatest_in (map (λ r. inline_align L r.slot.shape) (told_if t r rs))
        ≡ max (if u then inline_align L r.slot.shape else 0) n
    one_more r rs n e true true same = ap (λ m. max (inline_align L r.slot.shape) m) e
    one_more r rs n e false false same = omega (arith, e)
    one_more r rs n e true false same = cc
    one_more r rs n e false true same = cc

-- A byte of a field that is told is one of a field.
pub in_stored : (L : LaidSchema) (b : Bytes) (p j : ℕ) (fs : List Slot) (k : ℕ) (f : Slot) (i : ℕ)
    → slice_get fs k ≡ Some f → is_present b p (j + k) ≡ true
    → is_within (slot_number b p (j + k)) (inline_size L f.shape) i ≡ true
    → is_in_field L (stored_from b p j fs) i ≡ true
unfolding stored_from
in_stored L b p j [] k f i fk there within = cc
in_stored L b p j (g ∷ fs) zero f i fk there within =
    let at : j + 0 ≡ j = omega arith in
    let same : g ≡ f = cc in
    let own : is_within (slot_number b p j) (inline_size L f.shape) i ≡ true =
    rw (← at) within in
    rw (same, rw at at there) (or_left _ _ own)
in_stored L b p j (g ∷ fs) (suc k) f i fk there within =
    let at : j + suc k ≡ suc j + k = omega arith in
    let rest = in_stored L b p (suc j) fs k f i fk (rw (← at) there)
    (rw (← at) within) in
    one_more (record { slot = g; at = slot_number b p j }) (stored_from b p (suc j) fs) rest (is_present b p j)
  where
    one_more : (r : StoredSlot) (rs : List StoredSlot) → is_in_field L rs i ≡ true → (t : Bool)
        → is_in_field L (told_if t r rs) i ≡ true
    one_more r rs e true = or_right _ _ e
    one_more r rs e false = e

-- the number of a field isn't its default
abbrev pub IsNoDefault : Bytes → ℕ → Slot → ℕ → Type 0
IsNoDefault b p f at = (n : ℤ) → absent_number f f.shape ≡ Some n → stored_number b (p + at) f.shape ≢ n

-- What holds of each field that is told holds of all.
pub none_default : (b : Bytes) (p j : ℕ) (fs : List Slot)
    → ((k : ℕ) (f : Slot) → slice_get fs k ≡ Some f → is_present b p (j + k) ≡ true
    → IsNoDefault b p f (slot_number b p (j + k))) → NoneIsDefault b p (stored_from b p j fs)
unfolding stored_from
none_default b p j [] h = tt
none_default b p j (f ∷ fs) h =
    let at : j + 0 ≡ j = omega arith in
    let rest = none_default b p (suc j) fs (λ k g gk there. (let on : j + suc k ≡ suc j + k = omega arith in
    rw (← on) (h (suc k) g gk (rw on there)))) in
    one_more (stored_from b p (suc j) fs) rest (is_present b p j)
    (λ there. rw (← at) (h 0 f refl
    (rw at there)))
  where
    one_more : (rs : List StoredSlot) → NoneIsDefault b p rs → (t : Bool)
        → (t ≡ true → IsNoDefault b p f (slot_number b p j))
        → NoneIsDefault b p (told_if t (record { slot = f; at = slot_number b p j }) rs)
    one_more rs e true h = (h refl, e)
    one_more rs e false h = e

-- The same of bits.
pub all_bits : (b : Bytes) (p j : ℕ) (fs : List Slot)
    → ((k : ℕ) (f : Slot) → slice_get fs k ≡ Some f → is_present b p (j + k) ≡ true
    → HoldsBit b (p + slot_number b p (j + k)) f.shape) → AllHoldBits b p (stored_from b p j fs)
unfolding stored_from
all_bits b p j [] h = tt
all_bits b p j (f ∷ fs) h =
    let rest = all_bits b p (suc j) fs (λ k g gk. on_rest (λ i. is_present b p i ≡ true
    → HoldsBit b (p + slot_number b p i) g.shape) j k (h (suc k) g gk)) in
    one_more (stored_from b p (suc j) fs) rest (is_present b p j)
    (on_first (λ i. is_present b p i ≡ true → HoldsBit b (p + slot_number b p i) f.shape) j (h 0 f refl))
  where
    one_more : (rs : List StoredSlot) → AllHoldBits b p rs → (t : Bool)
        → (t ≡ true → HoldsBit b (p + slot_number b p j) f.shape)
        → AllHoldBits b p (told_if t (record { slot = f; at = slot_number b p j }) rs)
    one_more rs e true h = (h refl, e)
    one_more rs e false h = e

-- ---- bytes of their own

abbrev pub field_at : Bytes → ℕ → ℕ → Slot → StoredSlot
field_at b p k f = record { slot = f; at = slot_number b p k }

-- a field inside of a table of a size, if it is told
abbrev pub StandsInside : LaidSchema → Bytes → ℕ → ℕ → Slot → ℕ → Type 0
StandsInside L b p size f k = is_present b p k ≡ true
    → (4 ≤ slot_number b p k) × (slot_number b p k + inline_size L f.shape ≤ size)

-- two fields that share no byte, if they are told
abbrev pub TheyStandApart : LaidSchema → Bytes → ℕ → Slot → Slot → ℕ → ℕ → Type 0
TheyStandApart L b p f g j k = is_present b p j ≡ true → is_present b p k ≡ true
    → StandApart L (field_at b p j f) (field_at b p k g)

apart_from : (L : LaidSchema) (b : Bytes) (p j : ℕ) (fs : List Slot) (r : StoredSlot)
    → ((k : ℕ) (g : Slot) → slice_get fs k ≡ Some g → is_present b p (j + k) ≡ true
    → StandApart L r (field_at b p (j + k) g)) → StandsApartFrom L r (stored_from b p j fs)
unfolding stored_from
apart_from L b p j [] r h = tt
apart_from L b p j (f ∷ fs) r h =
    let rest = apart_from L b p (suc j) fs r
    (λ k g gk. on_rest (λ i. is_present b p i ≡ true → StandApart L r (field_at b p i g)) j k (h (suc k) g gk)) in
    one_more (stored_from b p (suc j) fs) rest (is_present b p j)
    (on_first (λ i. is_present b p i ≡ true → StandApart L r (field_at b p i f)) j (h 0 f refl))
  where
    one_more : (rs : List StoredSlot) → StandsApartFrom L r rs → (t : Bool)
        → (t ≡ true → StandApart L r (field_at b p j f)) → StandsApartFrom L r (told_if t (field_at b p j f) rs)
    one_more rs e true h = (h refl, e)
    one_more rs e false h = e

-- Where fields that are told stand inside and apart, all do.
pub all_apart : (L : LaidSchema) (b : Bytes) (p size j : ℕ) (fs : List Slot)
    → ((k : ℕ) (f : Slot) → slice_get fs k ≡ Some f → StandsInside L b p size f (j + k))
    → ((k l : ℕ) (f g : Slot) → k < l → slice_get fs k ≡ Some f → slice_get fs l ≡ Some g
    → TheyStandApart L b p f g (j + k) (j + l)) → AllStandApart L size (stored_from b p j fs)
unfolding stored_from
all_apart L b p size j [] inside apart = tt
all_apart L b p size j (f ∷ fs) inside apart =
    let rest = all_apart L b p size (suc j) fs (λ k g gk. on_rest (StandsInside L b p size g) j k (inside (suc k) g gk))
    (λ k l g d low gk dl. on_rest (λ i. TheyStandApart L b p g d (suc j + k) i) j l
    (on_rest (λ i. TheyStandApart L b p g d i (j + suc l)) j k
    (apart (suc k) (suc l) g d (omega (arith, low)) gk dl))) in
    one_more (stored_from b p (suc j) fs) rest (is_present b p j)
    (on_first (StandsInside L b p size f) j (inside 0 f refl))
    (λ there. apart_from L b p (suc j) fs (field_at b p j f)
    (λ l d dl. on_rest (λ i. is_present b p i ≡ true
    → StandApart L (field_at b p j f) (field_at b p i d)) j l
    (on_first (λ i. TheyStandApart L b p f d i (j + suc l)) j (apart 0 (suc l) f d (omega arith) refl dl) there)))
  where
    one_more : (rs : List StoredSlot) → AllStandApart L size rs → (t : Bool)
        → (t ≡ true → (4 ≤ slot_number b p j) × (slot_number b p j + inline_size L f.shape ≤ size))
        → (t ≡ true → StandsApartFrom L (field_at b p j f) rs) → AllStandApart L size (told_if t (field_at b p j f) rs)
    one_more rs e true h more = ((h refl).0, (h refl).1, more refl, e)
    one_more rs e false h more = e

-- ---- by end-counts

pub number_at : (c e : ℕ) → 0 < e → offset_from c e ≡ c - e
number_at c zero some = absurd (omega (arith, some))
number_at c (suc e) some = refl

-- Where each slot's number is by its end-count, the slots that are stored are told.
pub tells_stored : (L : LaidSchema) (low m c : ℕ) (s b : Bytes) (p : ℕ) (fs : List Slot) (xs : List (Option Datum))
    (ends : List ℕ) → EntriesEnd L low m s (λ k f. true) fs xs ends → ((k : ℕ) → slice_index ends k < c)
    → ((k : ℕ) → slot_number b p k ≡ offset_from c (slice_index ends k)) → TellsStored b p 0 fs xs
tells_stored L low m c s b p fs xs ends state under numbers k f x fk xk =
    let none : 0 + k ≡ k = omega arith in
    rw none (by_stored (is_stored f x) refl)
  where
    high : (y : Option Datum) → StoredEnd L low m s true f y (slice_index ends k) → 0 < slice_index ends k
    high None h = absurd h
    high (Some d) h = omega (arith, h.0)

    by_stored : (t : Bool) → is_stored f x ≡ t → is_present b p k ≡ is_stored f x
    by_stored true is =
        let some = high x ((state k f x fk xk).stored is) in
        rw is (lt-ltb _ _ (omega (arith, numbers k, number_at c (slice_index ends k) some, under k)))
    by_stored false out =
        let zero_end = (state k f x fk xk).absent out in
        let number : slot_number b p k ≡ 0 = numbers k ∙ ap (offset_from c) zero_end in
        rw (out, number) refl
