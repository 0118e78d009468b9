-- One entry or element more fits with those before it.
use Rattle.std.proofs.Common.{◌≡◌, ℕ, zero, suc, ◌+◌, ◌<◌, ◌++◌, ◌&&◌, ◌⊎◌, inl, inr, true, List, [], ◌∷◌, length}
use Rattle.std.proofs.Common.{slice_get, Option, None, Some, refl, ap, sym, ◌∙◌, subst, arith}
use Rattle.fb_layout.specs.Laid.{LaidSchema, Slot, StoredKind, one_of}
use Rattle.fb_value.specs.Counts.{is_whole, parts_whole, entries_whole}
use Rattle.fb_value.specs.Datum.{Datum}
use Rattle.fb_value.specs.Fits.{EntriesFit, EachFits, Fits}
use Rattle.fb_value.specs.Room.{parts_room, room}
use Rattle.fb_value.specs.View.{entries_in, parts_in}
use Rattle.fb_build.specs.OneByOne.{EachEntryFits, EachElementFits}

pub got_more : {A : Type 0} (xs : List A) (x y : A) (k : ℕ) → slice_get (xs ++ (x ∷ [])) k ≡ Some y
    → ((k < length xs) × (slice_get xs k ≡ Some y)) ⊎ ((k ≡ length xs) × (x ≡ y))
got_more [] x y zero is = inr (refl, (let same : x ≡ y = cc in same))
got_more [] x y (suc k) is = cc
got_more (z ∷ xs) x y zero is = inl (omega arith, is)
got_more (z ∷ xs) x y (suc k) is = elim (got_more xs x y k is) [
  | inl h ↦ inl (omega (arith, h.0), h.1)
  | inr h ↦ inr (ap suc h.0, h.1)
]

pub long_more : {A : Type 0} (xs : List A) (x : A) → length (xs ++ (x ∷ [])) ≡ suc (length xs)
long_more [] x = refl
long_more (y ∷ xs) x = ap suc (long_more xs x)

pub fits_more : (L : LaidSchema) (fs : List Slot) (xs : List (Option Datum)) (f0 : Slot) (x0 : Option Datum)
    → slice_get fs (length xs) ≡ Some f0 → EachEntryFits L (f0 ∷ []) (x0 ∷ []) → EachEntryFits L fs xs
    → EachEntryFits L fs (xs ++ (x0 ∷ []))
fits_more L fs xs f0 x0 at now before k f x fk xk = elim (got_more xs x0 x k xk) [
  | inl h ↦ before k f x fk h.1
  | inr h ↦ (
      let same_slot : Some f0 ≡ Some f = sym at ∙ (ap (slice_get fs) (sym h.0) ∙ fk) in
      let f_is : f0 ≡ f = cc in
      rw (← f_is, ← h.1) (now 0 f0 x0 refl refl))
]

pub elements_more : (L : LaidSchema) (kind : StoredKind) (ds : List Datum) (d0 : Datum)
    → EachElementFits L kind (d0 ∷ []) → EachElementFits L kind ds → EachElementFits L kind (ds ++ (d0 ∷ []))
elements_more L kind ds d0 now before k d at = elim (got_more ds d0 d k at) [
  | inl h ↦ before k d h.1
  | inr h ↦ subst (λ (x : Datum). Fits L (one_of kind) x × (is_whole x ≡ true)) h.1 (now 0 d0 refl)
]

pub parts_room_more : (L : LaidSchema) (kind : StoredKind) (ds : List Datum) (d : Datum)
    → parts_room L kind (parts_in (ds ++ (d ∷ []))) ≡ parts_room L kind (parts_in ds) + room L (one_of kind) d
parts_room_more L kind [] d = omega arith
parts_room_more L kind (x ∷ ds) d = omega (arith, parts_room_more L kind ds d)

-- ---- all of them

both : (a b : _) → a ≡ true → b ≡ true → (a && b) ≡ true
both a b p q = rw (p, q) refl

pub all_fit : (L : LaidSchema) (fs : List Slot) (xs : List (Option Datum)) → length fs ≡ length xs
    → EachEntryFits L fs xs → EntriesFit L fs (entries_in xs) × (entries_whole (entries_in xs) ≡ true)
all_fit L [] [] long each = (tt, refl)
all_fit L [] (x ∷ xs) long each = cc
all_fit L (f ∷ fs) [] long each = cc
all_fit L (f ∷ fs) (None ∷ xs) long each =
    let own = each 0 f None refl refl in
    let rest = all_fit L fs xs (omega (arith, long)) (λ k g x gk xk. each (suc k) g x gk xk) in
    ((own.0, rest.0), rest.1)
all_fit L (f ∷ fs) (Some d ∷ xs) long each =
    let own = each 0 f (Some d) refl refl in
    let rest = all_fit L fs xs (omega (arith, long)) (λ k g x gk xk. each (suc k) g x gk xk) in
    ((own.0.0, own.0.1, rest.0), both (is_whole d) (entries_whole (entries_in xs)) own.1 rest.1)

pub elements_fit : (L : LaidSchema) (kind : StoredKind) (ds : List Datum) → EachElementFits L kind ds
    → EachFits L kind (parts_in ds) × (parts_whole (parts_in ds) ≡ true)
elements_fit L kind [] each = (tt, refl)
elements_fit L kind (d ∷ ds) each =
    let own = each 0 d refl in
    let rest = elements_fit L kind ds (λ k x at. each (suc k) x at) in
    ((own.0, rest.0), both (is_whole d) (parts_whole (parts_in ds)) own.1 rest.1)
