-- The slots of a table are noted one after the other.
use Rattle.std.proofs.Common.{◌≡◌, ◌+◌, ◌≤◌, ◌++◌, ◌∙◌, ℕ, zero, suc, List, [], ◌∷◌, length}
use Rattle.std.proofs.Common.{slice_get, take, Option, Some, refl, sym, ap, arith}
use Rattle.std.proofs.lemmas.List.{append_assoc, append-nil, take_all}
use Rattle.fb_layout.specs.Laid.{LaidSchema, Slot}
use Rattle.fb_value.specs.Datum.{Datum}
use Rattle.fb_value.specs.Entries.{EntryFits, entry_room}
use Rattle.fb_value.specs.Room.{entries_room}
use Rattle.fb_value.specs.View.{entries_in}
use Rattle.fb_tape.specs.NamedParts.{entry_apart, entries_apart, as_list}
use Rattle.fb_tape.specs.OpenFields.{OpenField}
use Rattle.fb_tape.specs.Tapes.{Taped}
use Rattle.fb_build.specs.Fields.{stored_in}
use Rattle.fb_build.specs.Noted.{AddsFields, AddsParts, AddsSlots}
use Rattle.fb_build.specs.Paired.{ArePaired}
use Rattle.fb_build.proofs.noted.PartsAreAdded.{adds_none, adds_same, adds_then}
use Rattle.fb_build.proofs.noted.SlotsAreNoted.{no_apart, apart_more, no_room, room_more, none_stored, empty_open}
use Rattle.fb_build.proofs.noted.SlotsAreNoted.{open_more}

-- The first k entries are noted.
pub record AreNotedUpTo (L : LaidSchema) (fs : List Slot) (xs : List (Option Datum)) (k : ℕ) (a b : Taped)
    (before now : List OpenField) : Type 0 where
  pub adds : AddsParts a b (entries_apart fs (take k xs)) (entries_room L fs (entries_in (take k xs)))
  pub slots : AddsSlots L fs (stored_in fs (take k xs)) before now

pub none_noted : (L : LaidSchema) (fs : List Slot) (xs : List (Option Datum)) (a : Taped) (before : List OpenField)
    → a.unfinished ≡ [] → AreNotedUpTo L fs xs 0 a a before before
none_noted L fs xs a before whole = record {
  adds = adds_same a a [] _ 0 _ (sym (no_apart fs)) (sym (no_room L fs)) (adds_none a whole);
  slots = ([], sym (append-nil before), rw (none_stored fs) (empty_open L 0 fs));
}

pub take_more : {A : Type 0} (xs : List A) (k : ℕ) (x : A) → slice_get xs k ≡ Some x
    → (take (k + 1) xs ≡ take k xs ++ (x ∷ [])) × (length (take k xs) ≡ k)
take_more [] k x at = cc
take_more (y ∷ xs) zero x at = let same : y ≡ x = cc in (ap (λ z. z ∷ []) same, refl)
take_more (y ∷ xs) (suc k) x at =
    let rest = take_more xs k x at in
    let more : suc k + 1 ≡ suc (k + 1) = omega arith in
    (rw more (ap (λ zs. y ∷ zs) rest.0), ap suc rest.1)

taken_at : {A : Type 0} (xs : List A) (k j : ℕ) (x : A) → slice_get (take k xs) j ≡ Some x → slice_get xs j ≡ Some x
taken_at xs zero j x at = cc
taken_at [] (suc k) j x at = cc
taken_at (y ∷ xs) (suc k) zero x at = at
taken_at (y ∷ xs) (suc k) (suc j) x at = taken_at xs k j x at

pub next_noted : (L : LaidSchema) (fs : List Slot) (xs : List (Option Datum)) (k : ℕ) (a b c : Taped)
    (before now after : List OpenField) (f : Slot) (x : Option Datum) → slice_get fs k ≡ Some f
    → slice_get xs k ≡ Some x → ArePaired fs → ((j : ℕ) (g : Slot) (y : Option Datum)
    → slice_get fs j ≡ Some g → slice_get xs j ≡ Some y → EntryFits L g y)
    → AreNotedUpTo L fs xs k a b before now
    → AddsParts b c (as_list (entry_apart f x)) (entry_room L f x) → AddsFields L k f x now after
    → AreNotedUpTo L fs xs (k + 1) a c before after
next_noted L fs xs k a b c before now after f x fk xk paired fits h adds fields =
    let step = take_more xs k x xk in
    let at : slice_get fs (length (take k xs)) ≡ Some f = rw step.1 fk in
    let more = open_more L fs (take k xs) f h.slots.0 fields.0 at h.slots.2 x paired
    (λ j g y gj yj. fits j g y gj (taken_at xs k j y yj)) (fits k f x fk xk) (rw step.1 fields.2) in
    record {
      adds = rw step.0 (adds_same a c _ _ _ _ (sym (apart_more fs (take k xs) f x at))
          (sym (room_more L fs (take k xs) f x at)) (adds_then a b c _ _ _ _ h.adds adds));
      slots = (
        h.slots.0 ++ fields.0,
        fields.1 ∙ ap (λ os. os ++ fields.0) h.slots.1 ∙ append_assoc before h.slots.0 fields.0,
        rw step.0 more,
      );
    }

pub all_noted : (L : LaidSchema) (fs : List Slot) (xs : List (Option Datum)) (k : ℕ) (a b : Taped)
    (before now : List OpenField) → length xs ≤ k → AreNotedUpTo L fs xs k a b before now
    → AddsParts a b (entries_apart fs xs) (entries_room L fs (entries_in xs))
    × AddsSlots L fs (stored_in fs xs) before now
all_noted L fs xs k a b before now low h =
    let all = take_all k xs low in (rw all at h.adds, rw all at h.slots)
