-- The first entries of a table and the first elements of a vector, one more at a time.
use Rattle.std.proofs.Common.{◌≡◌, ℕ, zero, suc, ◌+◌, ◌<◌, List, [], ◌∷◌, ◌++◌, length, map, Option, None, Some}
use Rattle.std.proofs.Common.{option_map, refl, sym, ap, ◌∙◌, add-one, arith}
use Rattle.std.proofs.lemmas.List.{map-append}
use Rattle.fb_layout.specs.Laid.{LaidSchema, Slot}
use Rattle.fb_value.specs.declared.values.Value.{Value}
use Rattle.fb_value.specs.Datum.{Datum, Parts, no_parts, more_parts, SlotEntries, no_entries, absent_entry}
use Rattle.fb_value.specs.Datum.{present_entry, count}
use Rattle.fb_value.specs.Lies.{LiesSlots}
use Rattle.fb_value.specs.Nth.{nth_entry, nth_part}
use Rattle.fb_value.specs.Num.{Bytes}
use Rattle.fb_value.specs.Places.{Place}
use Rattle.fb_value.specs.View.{view, parts_in, entries_in, parts_view, entries_view}
use Rattle.fb_value.proofs.types.PartsByTheirIndex.{part_there}

-- the first k entries
abbrev pub first_entries : ℕ → SlotEntries → List (Option Datum)
first_entries zero es = []
first_entries (suc k) no_entries = []
first_entries (suc k) (absent_entry es) = None ∷ first_entries k es
first_entries (suc k) (present_entry d es) = Some d ∷ first_entries k es

-- the first i elements or fields
abbrev pub first_parts : ℕ → Parts → List Datum
first_parts zero ds = []
first_parts (suc i) no_parts = []
first_parts (suc i) (more_parts d ds) = d ∷ first_parts i ds

module _ (L : LaidSchema) (b : Bytes) where
  -- one entry more
  entry_step : (fs : List Slot) (xs : List (Option Place)) (es : SlotEntries) (k : ℕ) → LiesSlots L b fs xs es
      → k < length fs → first_entries (suc k) es ≡ first_entries k es ++ nth_entry es k ∷ []
  entry_step [] [] no_entries k lies less = absurd (omega arith)
  entry_step (f ∷ fs) (x ∷ xs) (absent_entry es) zero lies less = refl
  entry_step (f ∷ fs) (x ∷ xs) (present_entry d es) zero lies less = refl
  entry_step (f ∷ fs) (x ∷ xs) (absent_entry es) (suc k) lies less =
      ap (λ os. None ∷ os) (entry_step fs xs es k lies.1 (omega (arith, less)))
  entry_step (f ∷ fs) (x ∷ xs) (present_entry d es) (suc k) lies less =
      ap (λ os. Some d ∷ os) (entry_step fs xs es k lies.1 (omega (arith, less)))
  entry_step _ _ _ k lies less = absurd lies

  pub entry_more : (os : List (Option Value)) (o : Option Value) (fs : List Slot) (xs : List (Option Place))
      (es : SlotEntries) (k : ℕ) → map (option_map view) os ≡ first_entries k es → LiesSlots L b fs xs es
      → k < length fs → option_map view o ≡ nth_entry es k
      → map (option_map view) (os ++ o ∷ []) ≡ first_entries (k + 1) es
  entry_more os o fs xs es k before lies less known =
      rw add-one (map-append (option_map view) os (o ∷ []) ∙ (ap (λ ps. ps ++ option_map view o ∷ []) before
      ∙ (ap (λ d. first_entries k es ++ d ∷ []) known ∙ sym (entry_step fs xs es k lies less))))

  -- all of them
  entries_all : (fs : List Slot) (xs : List (Option Place)) (es : SlotEntries) (k : ℕ) → LiesSlots L b fs xs es
      → k ≡ length fs → entries_in (first_entries k es) ≡ es
  entries_all [] [] no_entries zero lies end = refl
  entries_all [] [] no_entries (suc k) lies end = refl
  entries_all (f ∷ fs) (x ∷ xs) (absent_entry es) zero lies end = absurd (omega arith)
  entries_all (f ∷ fs) (x ∷ xs) (present_entry d es) zero lies end = absurd (omega arith)
  entries_all (f ∷ fs) (x ∷ xs) (absent_entry es) (suc k) lies end =
      ap (λ (os : SlotEntries). absent_entry os) (entries_all fs xs es k lies.1 (omega (arith, end)))
  entries_all (f ∷ fs) (x ∷ xs) (present_entry d es) (suc k) lies end =
      ap (λ (os : SlotEntries). present_entry d os) (entries_all fs xs es k lies.1 (omega (arith, end)))
  entries_all _ _ _ k lies end = absurd lies

  pub entries_whole : (os : List (Option Value)) (fs : List Slot) (xs : List (Option Place)) (es : SlotEntries) (k : ℕ)
      → map (option_map view) os ≡ first_entries k es → LiesSlots L b fs xs es → k ≡ length fs → entries_view os ≡ es
  entries_whole os fs xs es k before lies end = ap entries_in before ∙ entries_all fs xs es k lies end

-- one element or field more, where there is one
part_more : (ds : Parts) (i : ℕ) (d : Datum) → nth_part ds i ≡ Some d
    → first_parts (suc i) ds ≡ first_parts i ds ++ d ∷ []
part_more no_parts i d here = cc
part_more (more_parts x ds) zero d here = let is : x ≡ d = cc in rw is refl
part_more (more_parts x ds) (suc i) d here = ap (λ os. x ∷ os) (part_more ds i d here)

-- of the value that was found there
pub value_more : (vs : List Value) (ds : Parts) (i : ℕ) (found : Option Value) (v : Value)
    → map view vs ≡ first_parts i ds → i < count ds → option_map view found ≡ nth_part ds i → found ≡ Some v
    → map view (vs ++ v ∷ []) ≡ first_parts (i + 1) ds
value_more vs ds i found v before less known is =
    let here : nth_part ds i ≡ Some (view v) = sym known ∙ ap (option_map view) is in
    rw add-one (map-append view vs (v ∷ []) ∙ (ap (λ os. os ++ view v ∷ []) before
    ∙ sym (part_more ds i (view v) here)))

-- A value was found there.
pub none_missed : (ds : Parts) (i : ℕ) (found : Option Value) → i < count ds
    → option_map view found ≡ nth_part ds i → found ≡ None → ⊥
none_missed ds i found less known is =
    let there = part_there ds i less in
    let none : nth_part ds i ≡ None = sym known ∙ ap (option_map view) is in
    cc

-- all of them
parts_all : (ds : Parts) (i : ℕ) → i ≡ count ds → parts_in (first_parts i ds) ≡ ds
parts_all no_parts zero end = refl
parts_all no_parts (suc i) end = refl
parts_all (more_parts d ds) zero end = absurd (omega arith)
parts_all (more_parts d ds) (suc i) end = ap (λ (os : Parts). more_parts d os) (parts_all ds i (omega (arith, end)))

pub values_all : (vs : List Value) (ds : Parts) (i : ℕ) → map view vs ≡ first_parts i ds → i ≡ count ds
    → parts_view vs ≡ ds
values_all vs ds i before end = ap parts_in before ∙ parts_all ds i end
