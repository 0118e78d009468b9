-- The fields of a table that are laid fill its bytes, from one field that is laid to the next.
use Rattle.std.proofs.Common.{◌≡◌, ℕ, ◌+◌, ◌<◌, ◌≤◌, ◌⊎◌, inl, inr, Bool, true, false, nat_lt, List, length, slice_get}
use Rattle.std.proofs.Common.{slice_index, slice_set, Option, Some, refl, sym, ◌∙◌, arith}
use Rattle.std.proofs.lemmas.Bool.{false≢true, lt-ltb, le-leb, ltb-true, ltb-false, cases_eq}
use Rattle.std.proofs.lemmas.Bool.Decides.{nat_tests}
use Rattle.std.proofs.lemmas.List.{get_or-set_same, get_or-set_other}
use Rattle.fb_layout.specs.Laid.{LaidSchema, Slot}
use Rattle.fb_layout.specs.Widths.{inline_size, inline_align}
use Rattle.fb_value.specs.Datum.{Datum}
use Rattle.fb_build.specs.Fields.{is_stored, above}
use Rattle.fb_build.specs.FieldOrder.{before}
use Rattle.fb_build.specs.Filled.{IsLaidSlot, IsFilled, AreFilled}
use Rattle.fb_build.proofs.fields.SlotStoresItsEntry.{same_some}
use Rattle.fb_layout.proofs.sizes.AlignmentsArePowersOfTwo.{lower}

-- What is stored is laid by the one test where it is by the other, and ends in the same place.
abbrev pub SameLaid : (ℕ → Slot → Bool) → (ℕ → Slot → Bool) → List Slot → List (Option Datum) → List ℕ → List ℕ → Type 0
SameLaid t u fs xs ends others = (k : ℕ) (f : Slot) (x : Option Datum) → slice_get fs k ≡ Some f
    → slice_get xs k ≡ Some x → is_stored f x ≡ true → (t k f ≡ u k f) × (slice_index others k ≡ slice_index ends k)

pub all_still : (L : LaidSchema) (start count : ℕ)
    (t u : ℕ → Slot → Bool) (fs : List Slot) (xs : List (Option Datum)) (ends others : List ℕ)
    → SameLaid t u fs xs ends others
    → AreFilled L start count t fs xs ends → AreFilled L start count u fs xs others
all_still L start count t u fs xs ends others same h = record {
  each = λ e over within. still e (h.each e over within);
  between = λ k f x at. (let now = same k f x at.is at.has at.stored in let own = h.between k f x (back k f x at) in
      (omega (arith, now.1, own.0), omega (arith, now.1, own.1)));
  apart = λ j k f g x y a b ne. (rw ((same j f x a.is a.has a.stored).1, (same k g y b.is b.has b.stored).1)
      (h.apart j k f g x y (back j f x a) (back k g y b) ne));
}
  where
    back : (k : ℕ) (f : Slot) (x : Option Datum) → IsLaidSlot u fs xs k f x → IsLaidSlot t fs xs k f x
    back k f x at = record {
      is = at.is;
      has = at.has;
      stored = at.stored;
      laid = (same k f x at.is at.has at.stored).0 ∙ at.laid;
    }

    still : (e : ℕ) → IsFilled L t fs xs ends e → IsFilled L u fs xs others e
    still e w =
        let now = same w.slot w.field w.entry w.there.is w.there.has w.there.stored in
        record {
          slot = w.slot;
          field = w.field;
          entry = w.entry;
          there = record {
            is = w.there.is;
            has = w.there.has;
            stored = w.there.stored;
            laid = sym now.0 ∙ w.there.laid;
          };
          behind = omega (arith, now.1, w.behind);
          before = omega (arith, now.1, w.before);
        }

-- before any field is laid
pub none_filled : (L : LaidSchema) (start count : ℕ)
    (done : ℕ → Slot → Bool) (fs : List Slot) (xs : List (Option Datum)) (ends : List ℕ) → count ≤ start
    → ((k : ℕ) (f : Slot) (x : Option Datum) → slice_get fs k ≡ Some f → slice_get xs k ≡ Some x → is_stored f x ≡ true
    → done k f ≡ false) → AreFilled L start count done fs xs ends
none_filled L start count done fs xs ends none out = record {
  each = λ e over within. absurd (omega (arith, none, over, within));
  between = λ k f x at. absurd (nothing k f x at);
  apart = λ j k f g x y a b ne. absurd (nothing j f x a);
}
  where
    nothing : (k : ℕ) (f : Slot) (x : Option Datum) → IsLaidSlot done fs xs k f x → ⊥
    nothing k f x at = false≢true (sym (out k f x at.is at.has at.stored) ∙ at.laid)

-- ---- one more field

other_test : (j k : ℕ) → (j ≡ k → ⊥) → nat_lt j k ≡ nat_lt j (k + 1)
other_test j k ne = by_test (nat_lt j k) refl (nat_lt j (k + 1)) refl
  where
    by_test : (t : Bool) → nat_lt j k ≡ t → (u : Bool) → nat_lt j (k + 1) ≡ u → t ≡ u
    by_test true p true q = refl
    by_test false p false q = refl
    by_test true p false q = absurd (omega (arith, ltb-true j k p, ltb-false j (k + 1) q))
    by_test false p true q = absurd (ne (omega (arith, ltb-false j k p, ltb-true j (k + 1) q)))

pub other_slot : (L : LaidSchema) (a j k : ℕ) (f : Slot) → (j ≡ k → ⊥) → before L a k j f ≡ before L a (k + 1) j f
other_slot L a j k f ne = rw (other_test j k ne) refl

pub not_itself : (k : ℕ) → nat_lt k k ≡ false
not_itself k = grind (arith, nat_tests)

below_next : (k : ℕ) → nat_lt k (k + 1) ≡ true
below_next k = lt-ltb k (k + 1) (omega arith)

-- one that is
module _ (L : LaidSchema) (start count more a k e : ℕ) (fs : List Slot) (xs : List (Option Datum)) (ends : List ℕ)
    (f : Slot) (x : Option Datum) (under : k < length ends) (fk : slice_get fs k ≡ Some f)
    (xk : slice_get xs k ≡ Some x)
    (is : is_stored f x ≡ true) (at : inline_align L f.shape ≡ a) (low : start ≤ count)
    (size : more ≡ count + inline_size L f.shape) (end : e ≡ more)
    (h : AreFilled L start count (before L a k) fs xs ends) where
  now : ℕ → Slot → Bool
  now = before L a (k + 1)

  others : List ℕ
  others = slice_set ends k e

  own_end : slice_index others k ≡ e
  unfolding others
  own_end = get_or-set_same ends k e 0 under

  other_end : (j : ℕ) → (j ≡ k → ⊥) → slice_index others j ≡ slice_index ends j
  unfolding others
  other_end j ne = get_or-set_other ends k j e 0 ne

  older : (j : ℕ) (g : Slot) (y : Option Datum) → (j ≡ k → ⊥) → IsLaidSlot now fs xs j g y
      → IsLaidSlot (before L a k) fs xs j g y
  unfolding now
  older j g y ne w = record { is = w.is; has = w.has; stored = w.stored; laid = other_slot L a j k g ne ∙ w.laid }

  newer : (j : ℕ) (g : Slot) (y : Option Datum) → (j ≡ k → ⊥) → IsLaidSlot (before L a k) fs xs j g y
      → IsLaidSlot now fs xs j g y
  unfolding now
  newer j g y ne w = record { is = w.is; has = w.has; stored = w.stored; laid = sym (other_slot L a j k g ne) ∙ w.laid }

  own_slot : IsLaidSlot now fs xs k f x
  unfolding now
  own_slot = record {
    is = fk;
    has = xk;
    stored = is;
    laid = rw (below_next k) (le-leb a (inline_align L f.shape) (omega (arith, at)));
  }

  the_field : (j : ℕ) (g : Slot) (y : Option Datum) → j ≡ k → IsLaidSlot now fs xs j g y → g ≡ f
  the_field j g y same w = same_some (slice_get fs k) g f (rw same at w.is) fk

  -- slot k wasn't laid before
  not_yet : (j : ℕ) (g : Slot) (y : Option Datum) → IsLaidSlot (before L a k) fs xs j g y → j ≡ k → ⊥
  not_yet j g y w same =
      let g_is : g ≡ f = same_some (slice_get fs k) g f (rw same at w.is) fk in
      let own : above L a f ≡ true = rw (same, not_itself k, g_is) at w.laid in
      omega (arith, at, ltb-true a (inline_align L f.shape) own)

  one_filled : (c : ℕ) → start < c → c ≤ more → IsFilled L now fs xs others c
  one_filled c over within = by_case (lower c count)
    where
      by_case : (c ≤ count) ⊎ (count < c) → IsFilled L now fs xs others c
      by_case (inl old) =
          let w = h.each c over old in
          let ne = not_yet w.slot w.field w.entry w.there in
          let same = other_end w.slot ne in
          record {
            slot = w.slot;
            field = w.field;
            entry = w.entry;
            there = newer w.slot w.field w.entry ne w.there;
            behind = omega (arith, same, w.behind);
            before = omega (arith, same, w.before);
          }
      by_case (inr new) = record {
        slot = k;
        field = f;
        entry = x;
        there = own_slot;
        behind = omega (arith, own_end, end, size, new);
        before = omega (arith, own_end, end, within);
      }

  one_between : (j : ℕ) (g : Slot) (y : Option Datum) → IsLaidSlot now fs xs j g y
      → (start + inline_size L g.shape ≤ slice_index others j) × (slice_index others j ≤ more)
  one_between j g y w = by_slot (cases_eq j k)
    where
      by_slot : (j ≡ k) ⊎ (j ≡ k → ⊥) → (start + inline_size L g.shape ≤ slice_index others j)
          × (slice_index others j ≤ more)
      by_slot (inl same) =
          let g_is = the_field j g y same w in
          rw (same, g_is) (omega (arith, own_end, end, size, low), omega (arith, own_end, end))
      by_slot (inr ne) =
          let old = h.between j g y (older j g y ne w) in
          let still = other_end j ne in
          (omega (arith, still, old.0), omega (arith, still, old.1, size))

  one_apart : (i j : ℕ) (d g : Slot) (z y : Option Datum) → IsLaidSlot now fs xs i d z → IsLaidSlot now fs xs j g y
      → (i ≡ j → ⊥)
      → (slice_index others i + inline_size L g.shape ≤ slice_index others j)
      ⊎ (slice_index others j + inline_size L d.shape ≤ slice_index others i)
  one_apart i j d g z y v w differ = by_slots (cases_eq i k) (cases_eq j k)
    where
      by_slots : (i ≡ k) ⊎ (i ≡ k → ⊥) → (j ≡ k) ⊎ (j ≡ k → ⊥)
          → (slice_index others i + inline_size L g.shape ≤ slice_index others j)
          ⊎ (slice_index others j + inline_size L d.shape ≤ slice_index others i)
      by_slots (inl p) (inl q) = absurd (differ (p ∙ sym q))
      by_slots (inl p) (inr q) =
          let old = h.between j g y (older j g y q w) in
          let still = other_end j q in
          let d_is = the_field i d z p v in
          inr (rw (p, d_is) (omega (arith, still, old.1, own_end, end, size)))
      by_slots (inr p) (inl q) =
          let old = h.between i d z (older i d z p v) in
          let still = other_end i p in
          let g_is = the_field j g y q w in
          inl (rw (q, g_is) (omega (arith, still, old.1, own_end, end, size)))
      by_slots (inr p) (inr q) = rw (other_end i p, other_end j q)
          (h.apart i j d g z y (older i d z p v) (older j g y q w) differ)

  pub filled_laid : AreFilled L start more (before L a (k + 1)) fs xs (slice_set ends k e)
  unfolding now others
  filled_laid = record { each = one_filled; between = one_between; apart = one_apart }
