-- What the end-counts of a table's slots are within.
use Rattle.std.proofs.Common.{◌≡◌, ℕ, zero, suc, ◌+◌, ◌<◌, ◌≤◌, ◌⊎◌, inl, inr, Bool, true, false, not, List, [], ◌∷◌}
use Rattle.std.proofs.Common.{length, slice_get, slice_index, Option, None, Some, refl, arith}
use Rattle.fb_layout.specs.Laid.{LaidSchema, Slot}
use Rattle.fb_value.specs.Datum.{Datum}
use Rattle.fb_value.specs.Num.{Bytes}
use Rattle.fb_value.specs.OldSlots.{is_in_use}
use Rattle.fb_build.specs.Fields.{EntryEnd, EntriesEnd, AreKnown, StoredFits}
use Rattle.fb_build.specs.TableBytes.{offset_from}
use Rattle.fb_build.proofs.fields.FieldHasItsValue.{entry_under, entry_high}
use Rattle.std.proofs.lemmas.Bool.{cases_lt}
use Rattle.fb_tape.proofs.stored.SizesOfWhatIsStored.{got}

pub index_past : (xs : List ℕ) (k : ℕ) → length xs ≤ k → slice_index xs k ≡ 0
index_past [] k h = refl
index_past (x ∷ xs) zero h = absurd (omega (arith, h))
index_past (x ∷ xs) (suc k) h = index_past xs k (omega (arith, h))

-- a slot that isn't in use stores nothing
unused_entry : (L : LaidSchema) (low m : ℕ) (s : Bytes) (f : Slot) (x : Option Datum) (e : ℕ) → StoredFits L f x
    → EntryEnd L low m s true f x e → not f.deprecated ≡ false → e ≡ 0
unused_entry L low m s f None e fits h out = h.absent refl
unused_entry L low m s f (Some d) e fits h out = absurd (no_both f.deprecated fits.0 out)
  where
    no_both : (b : Bool) → b ≡ false → not b ≡ false → ⊥
    no_both true a b = cc
    no_both false a b = cc

module _ (L : LaidSchema) (low m : ℕ) (s : Bytes) (fs : List Slot) (xs : List (Option Datum)) (ends : List ℕ)
    (known : AreKnown L fs xs) (each : length ends ≡ length fs)
    (state : EntriesEnd L low m s (λ k f. true) fs xs ends) where
  pub ends_under : (k : ℕ) → slice_index ends k ≤ length s
  ends_under k = by_case (cases_lt k (length fs))
    where
      by_case : (k < length fs) ⊎ (length fs ≤ k) → slice_index ends k ≤ length s
      by_case (inl under) =
          let f = got fs k under in
          let x = got xs k (omega (arith, under, known.long)) in
          entry_under L low m s f.0 x.0 (slice_index ends k) (state k f.0 x.0 f.1 x.1)
      by_case (inr past) = omega (arith, index_past ends k (omega (arith, past, each)))

  pub ends_high : (k : ℕ) → 0 < slice_index ends k → low < slice_index ends k
  ends_high k some = by_case (cases_lt k (length fs))
    where
      by_case : (k < length fs) ⊎ (length fs ≤ k) → low < slice_index ends k
      by_case (inl under) =
          let f = got fs k under in
          let x = got xs k (omega (arith, under, known.long)) in
          entry_high L low m s f.0 x.0 (slice_index ends k) (state k f.0 x.0 f.1 x.1) some
      by_case (inr past) = absurd (omega (arith, index_past ends k (omega (arith, past, each)), some))

  pub unused_end : (k : ℕ) → is_in_use (slice_get fs k) ≡ false → slice_index ends k ≡ 0
  unused_end k out = by_case (cases_lt k (length fs))
    where
      by_case : (k < length fs) ⊎ (length fs ≤ k) → slice_index ends k ≡ 0
      by_case (inl under) =
          let f = got fs k under in
          let x = got xs k (omega (arith, under, known.long)) in
          unused_entry L low m s f.0 x.0 (slice_index ends k) (known.each k f.0 x.0 f.1 x.1).1 (state k f.0 x.0 f.1 x.1)
          (rw f.1 at out)
      by_case (inr past) = index_past ends k (omega (arith, past, each))

pub offset_small : (place e low : ℕ) → (0 < e → low < e) → place ≤ low + 65536 → offset_from place e < 65536
offset_small place zero low high near = omega arith
offset_small place (suc e) low high near = let h = high (omega arith) in omega (arith, h, near)
