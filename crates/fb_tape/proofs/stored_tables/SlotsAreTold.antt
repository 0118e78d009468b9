-- Where each field stands is told by its slot, once the fields of all alignments are noted.
use Rattle.std.proofs.Common.{◌≡◌, ◌≤◌, ◌<◌, ◌+◌, ◌-◌, ◌^◌, ◌==◌, ◌&&◌, ◌∙◌, ◌⊎◌, inl, inr, ℕ, zero, suc, true, false}
use Rattle.std.proofs.Common.{Bool}
use Rattle.std.proofs.Common.{if◌then◌else◌, nat_lt, List, [], ◌∷◌, Option, Some, slice_get, slice_index, length, take}
use Rattle.std.proofs.Common.{flat_map, refl, ap, arith}
use Rattle.std.proofs.Math.Pow.{pow_mono}
use Rattle.std.proofs.lemmas.Bool.{eqb-true, le-ltb}
use Rattle.std.specs.List.{All}
use Rattle.fb_layout.specs.Laid.{LaidSchema, Slot}
use Rattle.fb_layout.specs.Sizes.{IsAlignment}
use Rattle.fb_layout.specs.Widths.{inline_align, inline_size}
use Rattle.fb_value.specs.Datum.{Datum}
use Rattle.fb_tape.specs.LayingOrder.{falling_alignments}
use Rattle.fb_tape.specs.OpenFields.{OpenField, AreOpen}
use Rattle.fb_tape.specs.StoredFields.{is_at, size_if_at, size_at, size_above}
use Rattle.fb_tape.specs.Defaults.{is_stored}
use Rattle.fb_tape.specs.StoredTables.{taken, at_align, placed, StoredAligned}
use Rattle.fb_tape.proofs.laying_order.AlignmentsFall.{among, EachOnce, falling_from, first_or_below, is_among}
use Rattle.fb_tape.proofs.laying_order.AlignmentsFall.{same_power, other_power, next_or_above}
use Rattle.fb_tape.proofs.stored_tables.FieldsInTurn.{placed_both, placed_long}
use Rattle.fb_tape.proofs.stored_tables.OpenFieldsAreStored.{taken_at_is}
use Rattle.fb_tape.proofs.stored_tables.OffsetsAreTold.{all_told}

-- what comes before the fields of an alignment
abbrev pub laid_before : LaidSchema → List Slot → List (Option Datum) → List ℕ → ℕ → ℕ
laid_before L fs xs [] a = 0
laid_before L fs xs (b ∷ bs) a = if a == b then 0 else size_at L b fs xs + laid_before L fs xs bs a

module _ (L : LaidSchema) (size : ℕ) (fs : List Slot) (xs : List (Option Datum)) (opens : List OpenField)
    (are : AreOpen L 0 fs xs opens)
  where
    abbrev ToldBy : List ℕ → ℕ → List ℕ → List ℕ → Type 0
    ToldBy aligns laid slots told = (i : ℕ) (f : Slot) (x : Option Datum) → slice_get fs i ≡ Some f
        → slice_get xs i ≡ Some x → slice_index told i ≡ (if is_stored f x && among (inline_align L f.shape) aligns
        then size - ((laid + laid_before L fs xs aligns (inline_align L f.shape))
        + size_at L (inline_align L f.shape) (take (suc i) fs) (take (suc i) xs)) else slice_index slots i)

    one_more : (b : ℕ) (bs : List ℕ) (laid i s n m told : ℕ) (f : Slot) (x : Option Datum) → (t u : Bool)
        → is_stored f x ≡ t → (inline_align L f.shape == b) ≡ u → among b bs ≡ false
        → n ≡ (if is_at L b f x then size - (laid + size_at L b (take (suc i) fs) (take (suc i) xs)) else s)
        → m ≡ laid + size_at L b fs xs
        → told ≡ (if is_stored f x && among (inline_align L f.shape) bs
        then size - ((m + laid_before L fs xs bs (inline_align L f.shape))
        + size_at L (inline_align L f.shape) (take (suc i) fs) (take (suc i) xs)) else n)
        → told ≡ (if is_stored f x && among (inline_align L f.shape) (b ∷ bs)
        then size - ((laid + laid_before L fs xs (b ∷ bs) (inline_align L f.shape))
        + size_at L (inline_align L f.shape) (take (suc i) fs) (take (suc i) xs)) else s)
    one_more b bs laid i s n m told f x false u stored is once own all h =
        rw stored at h ∙ (rw stored (rw stored at own))
    one_more b bs laid i s n m told f x true true stored is once own all h =
        let a_is : inline_align L f.shape ≡ b = eqb-true _ _ is in
        let none : laid + 0 ≡ laid = omega arith in
        let own_is = rw (stored, is) at own in
        let told_is = rw (stored, a_is, once) at h in
        let self : (b == b) ≡ true = rw a_is at is in
        rw (stored, a_is, self, none) (told_is ∙ own_is)
    one_more b bs laid i s n m told f x true false stored is once own all h =
        let own_is = rw (stored, is) at own in
        let sum : (laid + (size_at L b fs xs + laid_before L fs xs bs (inline_align L f.shape)))
        ≡ m + laid_before L fs xs bs (inline_align L f.shape) = omega (arith, all) in
        rw (stored, is, sum) (rw own_is at (rw stored at h))

    pub each_told : (aligns : List ℕ) → EachOnce aligns → (laid : ℕ) (slots : List ℕ)
        → All (λ o. o.slot < length slots) opens
        → ToldBy aligns laid slots (placed size laid (flat_map (λ a. at_align a opens) aligns) slots)
    each_told [] once laid slots low i f x fi xi = by_test (is_stored f x)
      where
        by_test : (t : Bool) → slice_index slots i ≡ (if t && false then size - ((laid + 0)
            + size_at L (inline_align L f.shape) (take (suc i) fs) (take (suc i) xs)) else slice_index slots i)
        by_test true = refl
        by_test false = refl
    each_told (b ∷ bs) once laid slots low i f x fi xi =
        let own = at_align b opens in
        let rest = flat_map (λ a. at_align a opens) bs in
        let told = placed size laid own slots in
        let same : 0 + i ≡ i = omega arith in
        let here = rw same at ((all_told L b size 0 fs xs opens are laid slots low).here i f x fi xi) in
        let long : length told ≡ length slots = placed_long size laid own slots in
        let behind = each_told bs once.1 (laid + taken own) told (rw long low) i f x fi xi in
        let sum : laid + taken own ≡ laid + size_at L b fs xs =
        ap (λ (n : ℕ). laid + n) (taken_at_is L b 0 fs xs opens are) in
        rw (placed_both size laid own rest slots)
        (one_more b bs laid i (slice_index slots i) (slice_index told i) (laid + taken own) _ f x (is_stored f x)
        (inline_align L f.shape == b) refl refl once.0 here sum behind)

-- ---- what is aligned above an alignment

-- What is above an alignment is what is at the next one and above that, and nothing is above the greatest.
pub record AreAbove (L : LaidSchema) (fs : List Slot) (xs : List (Option Datum)) : Type 0 where
  pub next : (e : ℕ) → size_above L (2 ^ e) fs xs
      ≡ size_at L (2 ^ suc e) fs xs + size_above L (2 ^ suc e) fs xs
  pub none : size_above L (2 ^ 8) fs xs ≡ 0

-- what a slot takes that is stored above an alignment
abbrev size_if_above : LaidSchema → ℕ → Slot → Option Datum → ℕ
size_if_above L a f x = if is_stored f x && nat_lt a (inline_align L f.shape) then inline_size L f.shape else 0

-- what a slot adds to each of these sums
abbrev AddsAbove : LaidSchema → Slot → Option Datum → Type 0
AddsAbove L f x = ((e : ℕ) → size_if_above L (2 ^ e) f x
    ≡ size_if_at L (2 ^ suc e) f x + size_if_above L (2 ^ suc e) f x) × (size_if_above L (2 ^ 8) f x ≡ 0)

adds_above : (L : LaidSchema) (f : Slot) (x : Option Datum) → (t : Bool) → is_stored f x ≡ t
    → (t ≡ true → IsAlignment (inline_align L f.shape)) → AddsAbove L f x
adds_above L f x false stored aligned = rw stored ((λ e. refl), refl)
adds_above L f x true stored aligned =
    let own = aligned refl in
    let low : 2 ^ own.exponent ≤ 2 ^ 8 = pow_mono own.few in
    rw (stored, own.is)
    ((λ e. next_or_above e own.exponent (inline_size L f.shape)), rw (le-ltb (2 ^ 8) (2 ^ own.exponent) low) refl)

pub all_above : (L : LaidSchema) (fs : List Slot) (xs : List (Option Datum)) → StoredAligned L fs xs → AreAbove L fs xs
all_above L [] xs aligned = record { next = λ e. refl; none = refl }
all_above L (f ∷ fs) [] aligned = record { next = λ e. refl; none = refl }
all_above L (f ∷ fs) (x ∷ xs) aligned =
    let rest = all_above L fs xs (λ k g y fk xk. aligned (suc k) g y fk xk) in
    let own = adds_above L f x (is_stored f x) refl (aligned 0 f x refl refl) in
    record { next = λ e. omega (arith, own.0 e, rest.next e); none = omega (arith, own.1, rest.none) }

-- What comes before an alignment, of those that fall from one on, is what is above it, but for what is above all.
before_is_above : (L : LaidSchema) (fs : List Slot) (xs : List (Option Datum)) → AreAbove L fs xs → (e d : ℕ) → e ≤ d
    → laid_before L fs xs (falling_from d) (2 ^ e) + size_above L (2 ^ d) fs xs ≡ size_above L (2 ^ e) fs xs
before_is_above L fs xs h zero zero low = omega arith
before_is_above L fs xs h (suc e) zero low = absurd (omega (arith, low))
before_is_above L fs xs h e (suc d) low = by_place (first_or_below e d low) (before_is_above L fs xs h e d)
  where
    by_place : (e ≡ suc d) ⊎ (e ≤ d) → (e ≤ d
        → laid_before L fs xs (falling_from d) (2 ^ e) + size_above L (2 ^ d) fs xs ≡ size_above L (2 ^ e) fs xs)
        → laid_before L fs xs (falling_from (suc d)) (2 ^ e) + size_above L (2 ^ suc d) fs xs
        ≡ size_above L (2 ^ e) fs xs
    by_place (inl is) behind = rw (is, same_power (suc d)) (omega arith)
    by_place (inr less) behind =
        rw ((other_power e (suc d) (omega (arith, less))).0) (omega (arith, behind less, h.next d))

-- Of the falling alignments those before one are all that are above it.
pub at_falling : (L : LaidSchema) (fs : List Slot) (xs : List (Option Datum)) (e a : ℕ) → e ≤ 8 → a ≡ 2 ^ e
    → AreAbove L fs xs → (among a falling_alignments ≡ true)
    × (laid_before L fs xs falling_alignments a ≡ size_above L a fs xs)
at_falling L fs xs e a few is h =
    let before : laid_before L fs xs falling_alignments (2 ^ e) ≡ size_above L (2 ^ e) fs xs =
    omega (arith, before_is_above L fs xs h e 8 few, h.none) in
    let known : among (2 ^ e) falling_alignments ≡ true = is_among e 8 few in
    rw is (known, before)
