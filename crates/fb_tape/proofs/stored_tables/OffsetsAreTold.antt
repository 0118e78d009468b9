-- Where the fields of one alignment stand is told slot by slot.
use Rattle.std.proofs.Common.{◌≡◌, ◌<◌, ◌+◌, ◌-◌, ◌==◌, ◌∙◌, ℕ, zero, suc, true, false, Bool, if◌then◌else◌}
use Rattle.std.proofs.Common.{List, [], ◌∷◌, Option, Some, slice_get, slice_index, slice_set, length, take, refl, sym}
use Rattle.std.proofs.Common.{arith}
use Rattle.std.proofs.lemmas.List.{get_or-set_same, get_or-set_other, length-set}
use Rattle.std.proofs.lemmas.List.Elements.{All-tail}
use Rattle.std.specs.List.{All}
use Rattle.fb_layout.specs.Laid.{LaidSchema, Slot}
use Rattle.fb_layout.specs.Widths.{inline_align, inline_size}
use Rattle.fb_value.specs.Datum.{Datum}
use Rattle.fb_tape.specs.OpenFields.{OpenField, IsOpenIf, AreOpen}
use Rattle.fb_tape.specs.StoredFields.{is_at, size_at, size_if_at}
use Rattle.fb_tape.specs.Defaults.{is_stored}
use Rattle.fb_tape.specs.StoredTables.{taken_by, at_align, placed}
use Rattle.fb_tape.proofs.stored_tables.FieldsInTurn.{at_align_more, at_align_other}
use Rattle.fb_tape.proofs.stored_tables.OpenFieldsAreStored.{same_align, noted_size}

-- what slot k + i is told, of slots that begin with slot k
pub record AreTold (L : LaidSchema) (a size laid k : ℕ) (fs : List Slot) (xs : List (Option Datum))
    (slots told : List ℕ) : Type 0 where
  pub here : (i : ℕ) (f : Slot) (x : Option Datum) → slice_get fs i ≡ Some f → slice_get xs i ≡ Some x
      → slice_index told (k + i) ≡ (if is_at L a f x
      then size - (laid + size_at L a (take (suc i) fs) (take (suc i) xs)) else slice_index slots (k + i))
  pub before : (j : ℕ) → j < k → slice_index told j ≡ slice_index slots j

module _ (L : LaidSchema) (a size : ℕ) where
  -- one slot in front of others
  module _ (laid n k : ℕ) (f : Slot) (x : Option Datum) (fs : List Slot) (xs : List (Option Datum))
      (slots now told : List ℕ) (takes : size_if_at L a f x ≡ n)
      (first : slice_index told k ≡ (if is_at L a f x then size - (laid + n) else slice_index slots k))
      (same : (j : ℕ) → (j ≡ k → ⊥) → slice_index now j ≡ slice_index slots j)
      (rest : AreTold L a size (laid + n) (suc k) fs xs now told)
    where
      here : (i : ℕ) (g : Slot) (y : Option Datum) → slice_get (f ∷ fs) i ≡ Some g → slice_get (x ∷ xs) i ≡ Some y
          → slice_index told (k + i) ≡ (if is_at L a g y
          then size - (laid + size_at L a (take (suc i) (f ∷ fs)) (take (suc i) (x ∷ xs)))
          else slice_index slots (k + i))
      here zero g y gi yi =
          let g_is : f ≡ g = cc in
          let y_is : x ≡ y = cc in
          let at : k + 0 ≡ k = omega arith in
          let sum : laid + (size_if_at L a f x + 0) ≡ laid + n = omega (arith, takes) in
          rw (← g_is) (rw (← y_is) (rw (at, sum) first))
      here (suc i) g y gi yi =
          let at : k + suc i ≡ suc k + i = omega arith in
          let sum : laid + (size_if_at L a f x + size_at L a (take (suc i) fs) (take (suc i) xs))
          ≡ (laid + n) + size_at L a (take (suc i) fs) (take (suc i) xs) = omega (arith, takes) in
          let other : slice_index now (suc k + i) ≡ slice_index slots (suc k + i) =
          same (suc k + i) (λ e. omega (arith, e)) in
          rw (at, sum) (rw other at (rest.here i g y gi yi))

      pub join_told : AreTold L a size laid k (f ∷ fs) (x ∷ xs) slots told
      join_told = record {
        here = here;
        before = λ j low. rest.before j (omega (arith, low)) ∙ same j (λ e. omega (arith, e, low));
      }

  abbrev Told : ℕ → List Slot → List (Option Datum) → List OpenField → Type 0
  Told k fs xs opens = (laid : ℕ) (slots : List ℕ) → All (λ o. o.slot < length slots) opens
      → AreTold L a size laid k fs xs slots (placed size laid (at_align a opens) slots)

  one_told : (k : ℕ) (f : Slot) (x : Option Datum) (fs : List Slot) (xs : List (Option Datum))
      (opens : List OpenField) → ((os : List OpenField) → AreOpen L (suc k) fs xs os → Told (suc k) fs xs os)
      → (t u : Bool) → is_stored f x ≡ t → (inline_align L f.shape == a) ≡ u
      → IsOpenIf t L k f x opens (λ behind. AreOpen L (suc k) fs xs behind) → Told k (f ∷ fs) (x ∷ xs) opens
  one_told k f x fs xs opens again true true stored is h laid slots low =
      let n = taken_by h.field.note in
      let own : n ≡ inline_size L f.shape = noted_size L f h.value h.field.note h.field.bytes h.noted in
      let more = at_align_more a h.field h.behind (same_align a _ _ h.align_is true is) in
      let lows = rw h.opens_are at low in
      let under : k < length slots = omega (arith, h.slot_is, lows 0 h.field (omega arith)) in
      let now = slice_set slots k (size - (laid + n)) in
      let longer : length now ≡ length slots = length-set slots k (size - (laid + n)) in
      let rest = again h.behind h.rest (laid + n) now
      (rw longer (All-tail (λ (o : OpenField). o.slot < length slots) h.field h.behind lows)) in
      let told = placed size (laid + n) (at_align a h.behind) now in
      let takes : size_if_at L a f x ≡ n = rw (stored, is) (sym own) in
      let first : slice_index told k ≡ (if is_at L a f x then size - (laid + n) else slice_index slots k) =
      rw (stored, is) (rest.before k (omega arith) ∙ get_or-set_same slots k (size - (laid + n)) 0 under) in
      rw (h.opens_are, more, h.slot_is) (join_told laid n k f x fs xs slots now told takes first
      (λ j ne. get_or-set_other slots k j (size - (laid + n)) 0 ne) rest)
  one_told k f x fs xs opens again true false stored is h laid slots low =
      let other = at_align_other a h.field h.behind (same_align a _ _ h.align_is false is) in
      let lows = rw h.opens_are at low in
      let none : laid + 0 ≡ laid = omega arith in
      let rest = again h.behind h.rest laid slots
      (All-tail (λ (o : OpenField). o.slot < length slots) h.field h.behind lows) in
      let told = placed size laid (at_align a h.behind) slots in
      let takes : size_if_at L a f x ≡ 0 = rw (stored, is) refl in
      let first : slice_index told k ≡ (if is_at L a f x then size - (laid + 0) else slice_index slots k) =
      rw (stored, is) (rest.before k (omega arith)) in
      rw (h.opens_are, other) (join_told laid 0 k f x fs xs slots slots told takes first (λ j ne. refl) (rw none rest))
  one_told k f x fs xs opens again false u stored is h laid slots low =
      let none : laid + 0 ≡ laid = omega arith in
      let rest = again opens h laid slots low in
      let told = placed size laid (at_align a opens) slots in
      let takes : size_if_at L a f x ≡ 0 = rw stored refl in
      let first : slice_index told k ≡ (if is_at L a f x then size - (laid + 0) else slice_index slots k) =
      rw stored (rest.before k (omega arith)) in
      join_told laid 0 k f x fs xs slots slots told takes first (λ j ne. refl) (rw none rest)

  none_told : (k : ℕ) (fs : List Slot) (xs : List (Option Datum)) → ((i : ℕ) (f : Slot) (x : Option Datum)
      → slice_get fs i ≡ Some f → slice_get xs i ≡ Some x → ⊥) → Told k fs xs []
  none_told k fs xs empty laid slots low = record {
    here = λ i f x fi xi. absurd (empty i f x fi xi);
    before = λ j low. refl;
  }

  pub all_told : (k : ℕ) (fs : List Slot) (xs : List (Option Datum)) (opens : List OpenField)
      → AreOpen L k fs xs opens → Told k fs xs opens
  all_told k [] xs opens h = rw h (none_told k [] xs (λ i f x fi xi. cc))
  all_told k (f ∷ fs) [] opens h = rw h (none_told k (f ∷ fs) [] (λ i g x fi xi. cc))
  all_told k (f ∷ fs) (x ∷ xs) opens h = one_told k f x fs xs opens (λ os o. all_told (suc k) fs xs os o)
      (is_stored f x) (inline_align L f.shape == a) refl refl h
