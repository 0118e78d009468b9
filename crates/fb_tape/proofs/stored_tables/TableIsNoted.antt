-- A table that is whole is noted: its fields, and where each stands.
use Rattle.std.proofs.Common.{◌≡◌, ◌≤◌, ◌<◌, ◌+◌, ◌-◌, ◌&&◌, ◌∙◌, ℕ, zero, suc, true, false, Bool}
use Rattle.std.proofs.Common.{if◌then◌else◌, List, [], ◌∷◌, Option, Some, slice_get, slice_index, get_or, length}
use Rattle.std.proofs.Common.{take, replicate}
use Rattle.std.proofs.Common.{refl, sym, arith}
use Rattle.std.proofs.lemmas.List.{ext_get_or, length-replicate}
use Rattle.std.proofs.lemmas.Option.{slice_get-get_or}
use Rattle.std.specs.List.{All}
use Rattle.fb_layout.specs.Laid.{LaidSchema, Slot}
use Rattle.fb_layout.specs.Sizes.{IsAlignment}
use Rattle.fb_layout.specs.Widths.{inline_align}
use Rattle.fb_value.specs.Datum.{Datum}
use Rattle.fb_tape.specs.LayingOrder.{falling_alignments}
use Rattle.fb_tape.specs.OpenFields.{OpenField, AreOpen}
use Rattle.fb_tape.specs.StoredFields.{size_at}
use Rattle.fb_tape.specs.Defaults.{is_stored}
use Rattle.fb_tape.specs.StoredTables.{in_order, placed, StoredAligned}
use Rattle.fb_tape.specs.Vtables.{stored_end, table_size, offsets_from, trimmed}
use Rattle.fb_tape.proofs.laying_order.AlignmentsFall.{among, each_once}
use Rattle.fb_tape.proofs.stored_tables.FieldsInTurn.{placed_long}
use Rattle.fb_tape.proofs.stored_tables.SlotsAreTold.{laid_before, all_above, at_falling, each_told}
use Rattle.fb_tape.proofs.stored.OffsetsAreTrimmed.{trimmed_index, all_used, offset_at}
use Rattle.fb_tape.proofs.stored.OffsetsAreTrimmed.{trimmed_short}
use Rattle.fb_tape.proofs.stored.SizesOfWhatIsStored.{got}

zeros_at : (n i : ℕ) → slice_index (replicate n 0) i ≡ 0
zeros_at zero i = refl
zeros_at (suc n) zero = refl
zeros_at (suc n) (suc i) = zeros_at n i

offsets_short : (L : LaidSchema) (FS : List Slot) (XS : List (Option Datum)) (k : ℕ) (fs : List Slot)
    (xs : List (Option Datum)) → (length (offsets_from L FS XS k fs xs) ≤ length fs)
    × (length (offsets_from L FS XS k fs xs) ≤ length xs)
unfolding offsets_from
offsets_short L FS XS k [] xs = (omega arith, omega arith)
offsets_short L FS XS k (f ∷ fs) [] = (omega arith, omega arith)
offsets_short L FS XS k (f ∷ fs) (x ∷ xs) =
    let rest = offsets_short L FS XS (suc k) fs xs in (omega (arith, rest.0), omega (arith, rest.1))

module _ (L : LaidSchema) (fs : List Slot) (xs : List (Option Datum)) (opens : List OpenField)
    (aligned : StoredAligned L fs xs) (are : AreOpen L 0 fs xs opens)
  where
    abbrev told_offsets : List ℕ
    told_offsets = trimmed (offsets_from L fs xs 0 fs xs)

    pub used_few : length told_offsets ≤ length fs
    used_few = omega (
      arith,
      trimmed_short (offsets_from L fs xs 0 fs xs),
      (offsets_short L fs xs 0 fs xs).0,
    )

    pub low_slots : All (λ o. o.slot < length told_offsets) opens
    low_slots k d low =
        let at = slice_get-get_or opens k d low in
        let used = ((all_used L fs xs 0 fs xs opens are).low k (get_or opens k d) at).1 in omega (arith, used)

    zeros_low : All (λ o. o.slot < length (replicate {A = ℕ} (length told_offsets) 0)) opens
    zeros_low = let long : length (replicate {A = ℕ} (length told_offsets) 0) ≡ length told_offsets =
        length-replicate (length told_offsets) 0 in rw long low_slots

    by_stored : (i told : ℕ) (f : Slot) (t u : Bool) → (t ≡ true → IsAlignment (inline_align L f.shape))
        → u ≡ among (inline_align L f.shape) falling_alignments
        → told ≡ (if t && u then table_size L fs xs
        - ((0 + laid_before L fs xs falling_alignments (inline_align L f.shape))
        + size_at L (inline_align L f.shape) (take (suc i) fs) (take (suc i) xs)) else 0)
        → told ≡ (if t then table_size L fs xs - stored_end L fs xs i f else 0)
    by_stored i told f false u power is h = h
    by_stored i told f true u power is h =
        let own = power refl in
        let at = at_falling L fs xs own.exponent (inline_align L f.shape) own.few own.is (all_above L fs xs aligned) in
        let sum : (0 + laid_before L fs xs falling_alignments (inline_align L f.shape))
        + size_at L (inline_align L f.shape) (take (suc i) fs) (take (suc i) xs) ≡ stored_end L fs xs i f =
        omega (arith, at.1) in
        rw (is, at.0, sum) at h

    one_placed : (i : ℕ) (f : Slot) (x : Option Datum) → slice_get fs i ≡ Some f → slice_get xs i ≡ Some x
        → slice_index (placed (table_size L fs xs) 0 (in_order opens) (replicate (length told_offsets) 0)) i
        ≡ slice_index told_offsets i
    one_placed i f x fi xi =
        let told = each_told L (table_size L fs xs) fs xs opens are falling_alignments
        (each_once 8) 0 (replicate (length told_offsets) 0) zeros_low i f x fi xi in
        let none = zeros_at (length told_offsets) i in
        let own = by_stored i _ f (is_stored f x) _ (aligned i f x fi xi) refl (rw none at told) in
        let same : 0 + i ≡ i = omega arith in
        own ∙ sym (trimmed_index (offsets_from L fs xs 0 fs xs) i ∙ rw same at (offset_at L fs xs 0 fs xs i f x fi xi))

    pub all_placed : placed (table_size L fs xs) 0 (in_order opens) (replicate (length told_offsets) 0) ≡ told_offsets
    all_placed = ext_get_or 0 _ _ long each
      where
        long : length (placed (table_size L fs xs) 0 (in_order opens) (replicate (length told_offsets) 0))
            ≡ length told_offsets
        long = placed_long (table_size L fs xs) 0 (in_order opens) (replicate (length told_offsets) 0)
            ∙ length-replicate (length told_offsets) 0

        each : (i : ℕ) → i < length (placed (table_size L fs xs) 0 (in_order opens) (replicate (length told_offsets) 0))
            → slice_index (placed (table_size L fs xs) 0 (in_order opens) (replicate (length told_offsets) 0)) i
            ≡ slice_index told_offsets i
        each i low =
            let short = offsets_short L fs xs 0 fs xs in
            let less = trimmed_short (offsets_from L fs xs 0 fs xs) in
            let f = got fs i (omega (arith, low, long, less, short.0)) in
            let x = got xs i (omega (arith, low, long, less, short.1)) in
            one_placed i f.0 x.0 f.1 x.1
