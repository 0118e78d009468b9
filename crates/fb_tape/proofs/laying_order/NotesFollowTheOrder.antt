-- The notes of open fields are those of stored slots, in the order of laying.
use Rattle.std.proofs.Common.{◌≡◌, ◌+◌, ◌++◌, ◌==◌, ◌&&◌, ◌∙◌, ℕ, suc, true, false, Bool, if◌then◌else◌}
use Rattle.std.proofs.Common.{List, [], ◌∷◌, Option, Some, slice_get, flat_map, refl, sym, ap, arith}
use Rattle.std.proofs.lemmas.List.{append_assoc}
use Rattle.fb_layout.specs.Laid.{LaidSchema, Slot}
use Rattle.fb_layout.specs.Widths.{inline_align}
use Rattle.fb_value.specs.Datum.{Datum}
use Rattle.fb_value.specs.Num.{Bytes}
use Rattle.fb_tape.specs.LayingOrder.{slots_at, laying_order, falling_alignments}
use Rattle.fb_tape.specs.NotedFields.{AreNoted}
use Rattle.fb_tape.specs.OpenFields.{OpenField, IsOpenIf, AreOpen}
use Rattle.fb_tape.specs.Defaults.{is_stored}
use Rattle.fb_tape.specs.StoredTables.{at_align, in_order, notes_of, bytes_of}
use Rattle.fb_tape.specs.declared.ops.NotedField.{NotedField}
use Rattle.fb_tape.proofs.stored_tables.FieldsInTurn.{at_align_more, at_align_other, notes_both, bytes_both}
use Rattle.fb_tape.proofs.stored_tables.OpenFieldsAreStored.{same_align}

-- A list is another from an index on.
abbrev pub StandsFrom : {A : Type 0} → List A → ℕ → List A → Type 0
StandsFrom all k some = (j : ℕ) → slice_get some j ≡ slice_get all (k + j)

pub stands_whole : {A : Type 0} (all : List A) → StandsFrom all 0 all
stands_whole all j = let same : 0 + j ≡ j = omega arith in rw same refl

pub stands_behind : {A : Type 0} (all : List A) (k : ℕ) (x : A) (some : List A) → StandsFrom all k (x ∷ some)
    → StandsFrom all (suc k) some
stands_behind all k x some h j = let one : k + suc j ≡ suc k + j = omega arith in rw (← one) (h (suc j))

pub stands_here : {A : Type 0} (all : List A) (k : ℕ) (x : A) (some : List A) → StandsFrom all k (x ∷ some)
    → slice_get all k ≡ Some x
stands_here all k x some h = let one : k + 0 ≡ k = omega arith in sym (rw one at (h 0))

pub noted_both : (L : LaidSchema) (fs : List Slot) (xs : List (Option Datum)) (ks ls : List ℕ)
    (ns ms : List NotedField) (bs cs : Bytes) → AreNoted L fs xs ks ns bs → AreNoted L fs xs ls ms cs
    → AreNoted L fs xs (ks ++ ls) (ns ++ ms) (bs ++ cs)
noted_both L fs xs [] ls ns ms bs cs h more = rw (h.0, h.1) more
noted_both L fs xs (k ∷ ks) ls ns ms bs cs h more = record {
  field = h.field;
  value = h.value;
  note = h.note;
  own = h.own;
  notes_behind = h.notes_behind ++ ms;
  bytes_behind = h.bytes_behind ++ cs;
  is = h.is;
  has = h.has;
  notes_are = ap (λ n. n ++ ms) h.notes_are;
  bytes_are = ap (λ b. b ++ cs) h.bytes_are ∙ append_assoc h.own h.bytes_behind cs;
  noted = h.noted;
  rest = noted_both L fs xs ks ls h.notes_behind ms h.bytes_behind cs h.rest more;
}

module _ (L : LaidSchema) (a : ℕ) (FS : List Slot) (XS : List (Option Datum)) where
  abbrev Noted : ℕ → List Slot → List (Option Datum) → List OpenField → Type 0
  Noted k fs xs opens =
      AreNoted L FS XS (slots_at L a k fs xs) (notes_of (at_align a opens)) (bytes_of (at_align a opens))

  one_noted : (k : ℕ) (f : Slot) (x : Option Datum) (fs : List Slot) (xs : List (Option Datum))
      (opens : List OpenField) → slice_get FS k ≡ Some f → slice_get XS k ≡ Some x
      → ((os : List OpenField) → AreOpen L (suc k) fs xs os → Noted (suc k) fs xs os) → (t u : Bool)
      → (inline_align L f.shape == a) ≡ u → IsOpenIf t L k f x opens (λ behind. AreOpen L (suc k) fs xs behind)
      → AreNoted L FS XS (if t && u then k ∷ slots_at L a (suc k) fs xs else slots_at L a (suc k) fs xs)
      (notes_of (at_align a opens)) (bytes_of (at_align a opens))
  one_noted k f x fs xs opens fk xk again true true is h =
      let here = at_align_more a h.field h.behind (same_align a _ _ h.align_is true is) in
      rw (h.opens_are, here) (record {
        field = f;
        value = h.value;
        note = h.field.note;
        own = h.field.bytes;
        notes_behind = notes_of (at_align a h.behind);
        bytes_behind = bytes_of (at_align a h.behind);
        is = fk;
        has = xk ∙ ap (λ (y : Option Datum). Some y) h.value_is;
        notes_are = refl;
        bytes_are = refl;
        noted = h.noted;
        rest = again h.behind h.rest;
      })
  one_noted k f x fs xs opens fk xk again true false is h =
      let other = at_align_other a h.field h.behind (same_align a _ _ h.align_is false is) in
      rw (h.opens_are, other) (again h.behind h.rest)
  one_noted k f x fs xs opens fk xk again false u is h = again opens h

  pub notes_at : (k : ℕ) (fs : List Slot) (xs : List (Option Datum)) (opens : List OpenField) → StandsFrom FS k fs
      → StandsFrom XS k xs → AreOpen L k fs xs opens
      → AreNoted L FS XS (slots_at L a k fs xs) (notes_of (at_align a opens)) (bytes_of (at_align a opens))
  unfolding slots_at
  notes_at k [] xs opens fk xk h = rw h (refl, refl)
  notes_at k (f ∷ fs) [] opens fk xk h = rw h (refl, refl)
  notes_at k (f ∷ fs) (x ∷ xs) opens fk xk h =
      one_noted k f x fs xs opens (stands_here FS k f fs fk) (stands_here XS k x xs xk)
      (λ os o. notes_at (suc k) fs xs os (stands_behind FS k f fs fk) (stands_behind XS k x xs xk) o)
      (is_stored f x) (inline_align L f.shape == a) refl h

-- by falling alignment
each_noted : (L : LaidSchema) (fs : List Slot) (xs : List (Option Datum)) (opens : List OpenField)
    → AreOpen L 0 fs xs opens → (aligns : List ℕ)
    → AreNoted L fs xs (flat_map (λ a. slots_at L a 0 fs xs) aligns)
    (notes_of (flat_map (λ a. at_align a opens) aligns)) (bytes_of (flat_map (λ a. at_align a opens) aligns))
each_noted L fs xs opens h [] = (refl, refl)
each_noted L fs xs opens h (a ∷ aligns) =
    rw (
      notes_both (at_align a opens) (flat_map (λ b. at_align b opens) aligns),
      bytes_both (at_align a opens) (flat_map (λ b. at_align b opens) aligns),
    )
    (noted_both L fs xs (slots_at L a 0 fs xs) (flat_map (λ b. slots_at L b 0 fs xs) aligns) _ _ _ _
    (notes_at L a fs xs 0 fs xs opens (stands_whole fs) (stands_whole xs) h) (each_noted L fs xs opens h aligns))

pub all_in_order : (L : LaidSchema) (fs : List Slot) (xs : List (Option Datum)) (opens : List OpenField)
    → AreOpen L 0 fs xs opens
    → AreNoted L fs xs (laying_order L fs xs) (notes_of (in_order opens)) (bytes_of (in_order opens))
all_in_order L fs xs opens h = each_noted L fs xs opens h falling_alignments
