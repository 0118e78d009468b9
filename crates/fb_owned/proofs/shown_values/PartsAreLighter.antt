-- What is in a `Value`: the entry of a slot, the part of a number, and how heavy they are.
use Rattle.std.proofs.Common.{◌≡◌, ℕ, zero, suc, ◌≤◌, Bor, List, [], ◌∷◌, slice_get, Option, None, Some, option_map}
use Rattle.std.proofs.Common.{refl, arith}
use Rattle.std.specs.Option.{option_copied}
use Rattle.fb_value.specs.Datum.{Datum, Parts, no_parts, more_parts, SlotEntries, no_entries, absent_entry}
use Rattle.fb_value.specs.Datum.{present_entry}
use Rattle.fb_value.specs.Nth.{nth_entry, nth_part}
use Rattle.fb_value.specs.View.{view, parts_view, entries_view}
use Rattle.fb_value.specs.declared.values.Value.{Value}
use Rattle.fb_owned.specs.ShownValues.{parts_size, entries_size, size_in}

pub part_viewed : (vs : List Value) (i : ℕ) (o : Option Value) → o ≡ slice_get vs i
    → nth_part (parts_view vs) i ≡ option_map view o
part_viewed [] i o e = rw e refl
part_viewed (v ∷ vs) zero o e = rw e refl
part_viewed (v ∷ vs) (suc i) o e = part_viewed vs i o e

pub entry_viewed : (es : List (Option Value)) (k : ℕ) (o : Option Value) → Some o ≡ slice_get es k
    → nth_entry (entries_view es) k ≡ option_map view o
entry_viewed [] k o e = cc
entry_viewed (None ∷ es) zero o e = let is : None ≡ o = cc in rw (← is) refl
entry_viewed (Some v ∷ es) zero o e = let is : Some v ≡ o = cc in rw (← is) refl
entry_viewed (None ∷ es) (suc k) o e = entry_viewed es k o e
entry_viewed (Some v ∷ es) (suc k) o e = entry_viewed es k o e

pub entry_past : (es : List (Option Value)) (k : ℕ) → None ≡ slice_get es k → nth_entry (entries_view es) k ≡ None
entry_past [] k e = refl
entry_past (None ∷ es) zero e = cc
entry_past (Some v ∷ es) zero e = cc
entry_past (None ∷ es) (suc k) e = entry_past es k e
entry_past (Some v ∷ es) (suc k) e = entry_past es k e

pub part_light : (ds : Parts) (i : ℕ) → size_in (nth_part ds i) ≤ parts_size ds
part_light no_parts i = omega arith
part_light (more_parts d ds) zero = omega arith
part_light (more_parts d ds) (suc i) = omega (arith, part_light ds i)

pub entry_light : (es : SlotEntries) (k : ℕ) → size_in (nth_entry es k) ≤ entries_size es
entry_light no_entries k = omega arith
entry_light (absent_entry es) (suc k) = entry_light es k
entry_light _ zero = omega arith
entry_light (present_entry d es) (suc k) = omega (arith, entry_light es k)

-- the value that a reference leads to
pub seen_there : (o : Option (Bor Value)) (v : Bor Value) (d : Datum) → o ≡ Some v
    → Some d ≡ option_map (λ w. view w.now) o → view v.now ≡ d
seen_there o v d is shows = let here : Some d ≡ Some (view v.now) = rw is at shows in cc

pub copied_view : (o : Option (Bor Value)) → option_map view (option_copied o) ≡ option_map (λ w. view w.now) o
copied_view None = refl
copied_view (Some v) = refl
