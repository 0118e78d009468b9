-- What a table's slots store is known where its entries fit and are whole.
use Rattle.std.proofs.Common.{◌≡◌, ℕ, zero, suc, true, List, [], ◌∷◌, length, slice_get, Option, None, Some, refl, ap}
use Rattle.std.proofs.Common.{subst}
use Rattle.std.proofs.lemmas.Bool.{and_parts}
use Rattle.fb_layout.specs.Laid.{LaidSchema, Slot, slots_of}
use Rattle.fb_layout.specs.WellMade.{IsWellMade}
use Rattle.fb_layout.proofs.sizes.AlignmentsArePowersOfTwo.{slot_below}
use Rattle.fb_value.specs.Counts.{is_whole, entries_whole}
use Rattle.fb_value.specs.Datum.{Datum}
use Rattle.fb_value.specs.Entries.{EntryFits}
use Rattle.fb_value.specs.Fits.{EntriesFit}
use Rattle.fb_value.specs.View.{entries_in}
use Rattle.fb_build.specs.Parts.{EntryWhole, TableKnown}
use Rattle.fb_build.proofs.fields.AlignmentDividesTheSize.{all_known}
use Rattle.fb_build.proofs.fields.CodeIsBeforeItsUnion.{slots_paired, stored_known}
use Rattle.fb_build.proofs.fields.NumbersHaveDefaults.{slots_default}

entries_for_slots : (L : LaidSchema) (fs : List Slot) (xs : List (Option Datum)) → EntriesFit L fs (entries_in xs)
    → length fs ≡ length xs
entries_for_slots L [] [] h = refl
entries_for_slots L [] (None ∷ xs) h = absurd h
entries_for_slots L [] (Some d ∷ xs) h = absurd h
entries_for_slots L (f ∷ fs) [] h = absurd h
entries_for_slots L (f ∷ fs) (None ∷ xs) h = ap suc (entries_for_slots L fs xs h.1)
entries_for_slots L (f ∷ fs) (Some d ∷ xs) h = ap suc (entries_for_slots L fs xs h.2)

entry_fits : (L : LaidSchema) (fs : List Slot) (xs : List (Option Datum)) → EntriesFit L fs (entries_in xs)
    → (k : ℕ) (f : Slot) (x : Option Datum) → slice_get fs k ≡ Some f → slice_get xs k ≡ Some x → EntryFits L f x
entry_fits L [] [] h k f x a b = cc
entry_fits L [] (None ∷ xs) h k f x a b = absurd h
entry_fits L [] (Some d ∷ xs) h k f x a b = absurd h
entry_fits L (g ∷ fs) [] h k f x a b = absurd h
entry_fits L (g ∷ fs) (None ∷ xs) h zero f x a b =
    let f_is : g ≡ f = cc in let x_is : None ≡ x = cc in
    rw (← x_is) (rw (← f_is) h.0)
entry_fits L (g ∷ fs) (Some d ∷ xs) h zero f x a b =
    let f_is : g ≡ f = cc in let x_is : Some d ≡ x = cc in
    rw (← x_is) (rw (← f_is) (h.0, h.1))
entry_fits L (g ∷ fs) (None ∷ xs) h (suc k) f x a b = entry_fits L fs xs h.1 k f x a b
entry_fits L (g ∷ fs) (Some d ∷ xs) h (suc k) f x a b = entry_fits L fs xs h.2 k f x a b

entry_whole : (xs : List (Option Datum)) → entries_whole (entries_in xs) ≡ true → (k : ℕ) (x : Option Datum)
    → slice_get xs k ≡ Some x → EntryWhole x
entry_whole [] h k x a = cc
entry_whole (None ∷ xs) h zero x a = let is : None ≡ x = cc in subst EntryWhole is tt
entry_whole (Some d ∷ xs) h zero x a =
    let is : Some d ≡ x = cc in
    subst EntryWhole is (and_parts (is_whole d) (entries_whole (entries_in xs)) h).0
entry_whole (None ∷ xs) h (suc k) x a = entry_whole xs h k x a
entry_whole (Some d ∷ xs) h (suc k) x a =
    entry_whole xs (and_parts (is_whole d) (entries_whole (entries_in xs)) h).1 k x a

pub known_in : (L : LaidSchema) (t : ℕ) (xs : List (Option Datum)) → IsWellMade L
    → EntriesFit L (slots_of L t) (entries_in xs) → entries_whole (entries_in xs) ≡ true
    → TableKnown L (slots_of L t) xs
known_in L t xs made fits whole =
    let fs = slots_of L t in
    let long = entries_for_slots L fs xs fits in
    let each = entry_fits L fs xs fits in
    let paired = slots_paired L made.declared t in
    let all = entry_whole xs whole in
    record {
      long = long;
      paired = paired;
      fits = each;
      whole = all;
      known = stored_known L made.declared fs xs long paired each all (all_known L made t)
          (λ k f at. slot_below L t k f at) (λ k f n at is. slots_default L made.declared t k f n at is);
    }
