-- The parts that wait for a table, and its slots.
use Rattle.std.proofs.Common.{◌≡◌, ℕ, zero, suc, ◌⊎◌, inl, inr, ◌++◌, Bool, true, false, if◌then◌else◌}
use Rattle.std.proofs.Common.{List, [], ◌∷◌, length, drop, slice_get, slice_index, Option, None, Some, refl, ap}
use Rattle.std.proofs.Common.{sym, ◌∙◌, arith}
use Rattle.std.proofs.lemmas.Bool.{both_ways}
use Rattle.fb_layout.specs.Laid.{LaidSchema, Slot, StoredShape, scalar_kind, struct_kind, table_kind, union_kind}
use Rattle.fb_layout.specs.Laid.{code_kind, text_kind, one_of, vector_of}
use Rattle.fb_value.specs.Datum.{Datum, a_number, a_text, a_vector, a_struct, a_table, a_member, an_unknown}
use Rattle.fb_value.specs.Datum.{SlotEntries}
use Rattle.fb_value.specs.Num.{Bytes}
use Rattle.fb_value.specs.Places.{Target, part_place, table_part, member_part, text_part, vector_part}
use Rattle.fb_tape.specs.NamedParts.{NamedPart, apart_of, entry_apart, entries_apart}
use Rattle.fb_build.specs.CoveredTails.{parts_in_tail}
use Rattle.fb_build.specs.Fields.{EntryEnd, EntriesEnd, StoredEnd, StoredFits, SlotFits, is_stored, is_reference}
use Rattle.fb_build.specs.Fields.{stored_here, stored_in, next_code, target_for}
use Rattle.fb_build.specs.Made.{ends_parts, named_of, named_stored, named_fields}
use Rattle.fb_build.specs.Tails.{LaidInTail}
use Rattle.fb_build.specs.Waiting.{all_of}
use Rattle.fb_build.proofs.tables.EndsNameTheParts.{first_dropped}

-- ---- what is behind the reference of a slot

pub data ShapeParts (L : LaidSchema) (shape : StoredShape) (d : Datum) : Type 0 where
  in_place : apart_of shape d ≡ None → is_reference shape ≡ false → target_for shape d ≡ None → ShapeParts L shape d
  behind : (part : NamedPart) (X : Target) → apart_of shape d ≡ Some part → is_reference shape ≡ true
      → target_for shape d ≡ Some X → ((f : Slot) → is_stored f (Some d) ≡ true)
      → ((m : ℕ) (s : Bytes) (e : ℕ) → LaidInTail L m s (part_place part.target) e part.value
      → LaidInTail L m s (part_place X) e d)
      → ((s : Bytes) (e : ℕ) → parts_in_tail L s X e d ≡ parts_in_tail L s part.target e part.value)
      → ShapeParts L shape d

member_laid : (L : LaidSchema) (c t : ℕ) (es : SlotEntries) (m : ℕ) (s : Bytes) (e : ℕ)
    → LaidInTail L m s (part_place (table_part t)) e (a_table t es)
    → LaidInTail L m s (part_place (member_part c t)) e (a_member c (a_table t es))
member_laid L c t es m s e h = record {
  lies = record { within = h.lies.within; lies = (refl, h.lies.lies) };
  old = h.old;
  tight = h.tight;
  inline = h.inline;
}

pub shape_parts : (L : LaidSchema) (shape : StoredShape) (d : Datum) → SlotFits L shape d → ShapeParts L shape d
shape_parts L (one_of (scalar_kind b)) d fits = in_place refl refl refl
shape_parts L (one_of (struct_kind s)) d fits = in_place refl refl refl
shape_parts L (one_of (code_kind u)) d fits = in_place refl refl refl
shape_parts L (one_of text_kind) (a_text b) fits = behind (record { target = text_part; value = a_text b }) text_part
    refl refl refl (λ f. refl) (λ m s e h. h) (λ s e. refl)
shape_parts L (one_of text_kind) (a_number n) fits = absurd fits
shape_parts L (one_of text_kind) (a_vector ds) fits = absurd fits
shape_parts L (one_of text_kind) (a_struct ds) fits = absurd fits
shape_parts L (one_of text_kind) (a_table t es) fits = absurd fits
shape_parts L (one_of text_kind) (a_member c d) fits = absurd fits
shape_parts L (one_of text_kind) (an_unknown c) fits = absurd fits
shape_parts L (one_of (table_kind u)) (a_table t es) fits =
    behind (record { target = table_part u; value = a_table t es }) (table_part u)
    refl refl refl (λ f. refl) (λ m s e h. h) (λ s e. refl)
shape_parts L (one_of (table_kind u)) (a_number n) fits = absurd fits
shape_parts L (one_of (table_kind u)) (a_text b) fits = absurd fits
shape_parts L (one_of (table_kind u)) (a_vector ds) fits = absurd fits
shape_parts L (one_of (table_kind u)) (a_struct ds) fits = absurd fits
shape_parts L (one_of (table_kind u)) (a_member c d) fits = absurd fits
shape_parts L (one_of (table_kind u)) (an_unknown c) fits = absurd fits
shape_parts L (one_of (union_kind u)) (a_member c (a_table t es)) fits =
    behind (record { target = table_part t; value = a_table t es }) (member_part c t)
    refl refl refl (λ f. refl) (λ m s e h. member_laid L c t es m s e h) (λ s e. refl)
shape_parts L (one_of (union_kind u)) (a_member c (a_number n)) fits = absurd fits.2
shape_parts L (one_of (union_kind u)) (a_member c (a_text b)) fits = absurd fits.2
shape_parts L (one_of (union_kind u)) (a_member c (a_vector ds)) fits = absurd fits.2
shape_parts L (one_of (union_kind u)) (a_member c (a_struct ds)) fits = absurd fits.2
shape_parts L (one_of (union_kind u)) (a_member c (a_member k d)) fits = absurd fits.2
shape_parts L (one_of (union_kind u)) (a_member c (an_unknown k)) fits = absurd fits.2
shape_parts L (one_of (union_kind u)) (a_number n) fits = absurd fits
shape_parts L (one_of (union_kind u)) (a_text b) fits = absurd fits
shape_parts L (one_of (union_kind u)) (a_vector ds) fits = absurd fits
shape_parts L (one_of (union_kind u)) (a_struct ds) fits = absurd fits
shape_parts L (one_of (union_kind u)) (a_table t es) fits = absurd fits
shape_parts L (one_of (union_kind u)) (an_unknown c) fits = absurd fits
shape_parts L (vector_of kind) (a_vector ds) fits =
    behind (record { target = vector_part kind; value = a_vector ds }) (vector_part kind)
    refl refl refl (λ f. refl) (λ m s e h. h) (λ s e. refl)
shape_parts L (vector_of kind) (a_number n) fits = absurd fits
shape_parts L (vector_of kind) (a_text b) fits = absurd fits
shape_parts L (vector_of kind) (a_struct ds) fits = absurd fits
shape_parts L (vector_of kind) (a_table t es) fits = absurd fits
shape_parts L (vector_of kind) (a_member c d) fits = absurd fits
shape_parts L (vector_of kind) (an_unknown c) fits = absurd fits

-- ---- a slot, whose entry is x and that stores z

-- whether it is one of a reference that is there
abbrev pub refers : Slot → Option Datum → Bool
refers f None = false
refers f (Some d) = is_reference f.shape

pub data SlotParts (L : LaidSchema) (f : Slot) (x z : Option Datum) : Type 0 where
  no_part : entry_apart f x ≡ None → refers f z ≡ false → named_stored f z ≡ None
      → ((d : Datum) → z ≡ Some d → target_for f.shape d ≡ None) → SlotParts L f x z
  one_part : (part : NamedPart) (d : Datum) (X : Target) → entry_apart f x ≡ Some part → refers f z ≡ true
      → z ≡ Some d → target_for f.shape d ≡ Some X → is_stored f z ≡ true
      → ((m : ℕ) (s : Bytes) (e : ℕ) → LaidInTail L m s (part_place part.target) e part.value
      → LaidInTail L m s (part_place X) e d)
      → ((s : Bytes) (e : ℕ) → parts_in_tail L s X e d ≡ parts_in_tail L s part.target e part.value)
      → SlotParts L f x z

code_or_same : (shape : StoredShape) (code : Option ℕ) (x : Option Datum)
    → (stored_here shape code x ≡ x) ⊎ ((u : ℕ) × (shape ≡ one_of (code_kind u)))
code_or_same (one_of (scalar_kind b)) code x = inl refl
code_or_same (one_of (struct_kind b)) code x = inl refl
code_or_same (one_of (table_kind b)) code x = inl refl
code_or_same (one_of (union_kind b)) code x = inl refl
code_or_same (one_of (code_kind u)) code x = inr (u, refl)
code_or_same (one_of text_kind) code x = inl refl
code_or_same (vector_of kind) code x = inl refl

code_parts : (L : LaidSchema) (f : Slot) (u : ℕ) (x z : Option Datum) → f.shape ≡ one_of (code_kind u)
    → SlotParts L f x z
code_parts L f u x z is = no_part (apart x) (reference z) (name z) (λ d same. rw is refl)
  where
    apart : (x : Option Datum) → entry_apart f x ≡ None
    apart None = refl
    apart (Some d) = ap (λ (s : StoredShape). apart_of s d) is

    reference : (z : Option Datum) → refers f z ≡ false
    reference None = refl
    reference (Some d) = ap is_reference is

    name : (z : Option Datum) → named_stored f z ≡ None
    name None = refl
    name (Some d) = ap (λ (s : StoredShape). named_of s d) is

same_parts : (L : LaidSchema) (f : Slot) (x : Option Datum) → StoredFits L f x → SlotParts L f x x
same_parts L f None fits = no_part refl refl refl (λ d is. cc)
same_parts L f (Some d) fits = elim (shape_parts L f.shape d fits.1) [
  | in_place none inline leads ↦ no_part none inline (named_none leads)
      (λ y is. let same : d ≡ y = cc in rw (← same) leads)
  | behind part X is reference leads stored lies parts ↦ one_part part d X is reference refl leads (stored f) lies parts
]
  where
    named_none : target_for f.shape d ≡ None → named_of f.shape d ≡ None
    named_none leads = rw leads refl

pub slot_parts : (L : LaidSchema) (f : Slot) (x : Option Datum) (code : Option ℕ)
    → StoredFits L f (stored_here f.shape code x) → SlotParts L f x (stored_here f.shape code x)
slot_parts L f x code fits = elim (code_or_same f.shape code x) [
  | inl same ↦ rw same (same_parts L f x (rw (← same) fits))
  | inr code_is ↦ code_parts L f code_is.0 x (stored_here f.shape code x) code_is.1
]

-- ---- all slots

-- the end-counts of the parts, each at its slot
abbrev pub spread : List Slot → List (Option Datum) → List ℕ → List ℕ
spread (f ∷ fs) (z ∷ zs) es =
    if refers f z then slice_index es 0 ∷ spread fs zs (drop 1 es) else 0 ∷ spread fs zs es
spread _ _ es = []

-- how many there are
abbrev pub refer_count : List Slot → List (Option Datum) → ℕ
refer_count (f ∷ fs) (z ∷ zs) = if refers f z then suc (refer_count fs zs) else refer_count fs zs
refer_count _ _ = 0

abbrev pub AllFit : LaidSchema → List Slot → List (Option Datum) → Type 0
AllFit L fs zs = (k : ℕ) (f : Slot) (z : Option Datum) → slice_get fs k ≡ Some f → slice_get zs k ≡ Some z
    → StoredFits L f z

pub spread_long : (fs : List Slot) (zs : List (Option Datum)) (es : List ℕ) → length fs ≡ length zs
    → length (spread fs zs es) ≡ length fs
spread_long [] zs es long = refl
spread_long (f ∷ fs) [] es long = absurd (omega (arith, long))
spread_long (f ∷ fs) (z ∷ zs) es long =
    by_test (refers f z) (ap suc (spread_long fs zs (drop 1 es) (omega (arith, long))))
    (ap suc (spread_long fs zs es (omega (arith, long))))
  where
    by_test : (t : Bool) → suc (length (spread fs zs (drop 1 es))) ≡ suc (length fs)
        → suc (length (spread fs zs es)) ≡ suc (length fs)
        → length (if t then slice_index es 0 ∷ spread fs zs (drop 1 es) else 0 ∷ spread fs zs es) ≡ suc (length fs)
    by_test true first second = first
    by_test false first second = second

pub apart_many : (L : LaidSchema) (fs : List Slot) (xs : List (Option Datum)) → AllFit L fs (stored_in fs xs)
    → length (entries_apart fs xs) ≡ refer_count fs (stored_in fs xs)
apart_many L [] xs fit = refl
apart_many L (f ∷ fs) [] fit = refl
apart_many L (f ∷ fs) (x ∷ xs) fit =
    let rest = apart_many L fs xs (λ k g z gk zk. fit (suc k) g z gk zk) in
    elim (slot_parts L f x (next_code xs) (fit 0 f (stored_here f.shape (next_code xs) x) refl refl)) [
      | no_part none out named leads ↦ rw (none, out) rest
      | one_part part d X is refer has leads stored lies parts ↦ rw (is, refer) (ap suc rest)
    ]

-- each slot has what its reference leads to
entry_there : (L : LaidSchema) (m : ℕ) (s : Bytes) (f : Slot) (x z : Option Datum) (e : ℕ) → SlotParts L f x z
    → (refers f z ≡ false → e ≡ 0)
    → ((part : NamedPart) → entry_apart f x ≡ Some part → LaidInTail L m s (part_place part.target) e part.value)
    → EntryEnd L 0 m s false f z e
entry_there L m s f x z e (no_part none out named leads) zero_is there = record {
  stored = λ is. by_entry z is leads;
  absent = λ _. zero_is out;
}
  where
    by_entry : (z : Option Datum) → is_stored f z ≡ true → ((d : Datum) → z ≡ Some d → target_for f.shape d ≡ None)
        → StoredEnd L 0 m s false f z e
    by_entry None is leads = let bad : false ≡ true = is in cc
    by_entry (Some d) is leads = rw (leads d refl) tt
entry_there L m s f x z e (one_part part d X is refer has leads stored lies parts) zero_is there = record {
  stored = λ _. (rw (has, leads) (lies m s e (there part is)));
  absent = λ out. absurd (both_ways (is_stored f z) out stored);
}

pub spread_state : (L : LaidSchema) (m : ℕ) (s : Bytes) (fs : List Slot) (xs : List (Option Datum)) (es : List ℕ)
    → AllFit L fs (stored_in fs xs)
    → ((k : ℕ) (p : NamedPart) → slice_get (entries_apart fs xs) k ≡ Some p
    → LaidInTail L m s (part_place p.target) (slice_index es k) p.value)
    → EntriesEnd L 0 m s (λ k f. false) fs (stored_in fs xs) (spread fs (stored_in fs xs) es)
spread_state L m s [] xs es fit lie k f z fk zk = cc
spread_state L m s (g ∷ fs) [] es fit lie k f z fk zk = cc
spread_state L m s (g ∷ fs) (x ∷ xs) es fit lie k f z fk zk =
    let y = stored_here g.shape (next_code xs) x in
    elim (slot_parts L g x (next_code xs) (fit 0 g y refl refl)) [
      | no_part none out named leads ↦ (
          let rest = spread_state L m s fs xs es (λ j h w hj wj. fit (suc j) h w hj wj)
          (λ j p at. lie j p (rw none at)) in
          rw out (by_slot k f z (0 ∷ spread fs (stored_in fs xs) es) fk zk
          (entry_there L m s g x y 0 (no_part none out named leads) (λ _. refl) (λ p is. let bad : None ≡ Some p =
          sym none ∙ is in cc)) rest))
      | one_part part d X is refer has leads stored lies same ↦ (
          let rest = spread_state L m s fs xs (drop 1 es) (λ j h w hj wj. fit (suc j) h w hj wj)
          (λ j p at. rw (first_dropped es j) (lie (suc j) p (rw is at))) in
          rw refer (by_slot k f z (slice_index es 0 ∷ spread fs (stored_in fs xs) (drop 1 es)) fk zk
          (entry_there L m s g x y (slice_index es 0) (one_part part d X is refer has leads stored lies same) (λ
          out. absurd (both_ways (refers g y) out refer))
          (λ p at. lie 0 p (rw at refl))) rest))
    ]
  where
    by_slot : (k : ℕ) (f : Slot) (z : Option Datum) (ends : List ℕ) → slice_get (g ∷ fs) k ≡ Some f
        → slice_get (stored_in (g ∷ fs) (x ∷ xs)) k ≡ Some z
        → EntryEnd L 0 m s false g (stored_here g.shape (next_code xs) x) (slice_index ends 0)
        → EntriesEnd L 0 m s (λ k f. false) fs (stored_in fs xs) (drop 1 ends)
        → EntryEnd L 0 m s false f z (slice_index ends k)
    by_slot zero f z ends fk zk first rest =
        let f_is : g ≡ f = cc in
        let z_is : stored_here g.shape (next_code xs) x ≡ z = cc in
        rw (← f_is, ← z_is) first
    by_slot (suc k) f z ends fk zk first rest = rw (← first_dropped ends k) (rest k f z fk zk)

pub spread_parts : (L : LaidSchema) (s : Bytes) (fs : List Slot) (xs : List (Option Datum)) (es : List ℕ)
    → AllFit L fs (stored_in fs xs)
    → ends_parts L s (named_fields fs (stored_in fs xs)) (spread fs (stored_in fs xs) es)
    ≡ ends_parts L s (all_of (entries_apart fs xs)) es
spread_parts L s [] xs es fit = refl
spread_parts L s (f ∷ fs) [] es fit = refl
spread_parts L s (f ∷ fs) (x ∷ xs) es fit =
    let y = stored_here f.shape (next_code xs) x in
    let fits : AllFit L fs (stored_in fs xs) = λ k g z gk zk. fit (suc k) g z gk zk in
    elim (slot_parts L f x (next_code xs) (fit 0 f y refl refl)) [
      | no_part none out named leads ↦ rw (none, out, named) (spread_parts L s fs xs es fits)
      | one_part part d X is refer has leads stored lies same ↦ (
          let named : named_stored f y ≡ Some (record { target = X; value = d }) =
          ap (named_stored f) has ∙ named_some f.shape d X leads in
          rw (is, refer, named) (ap (λ ps. ps ++ ends_parts L s (named_fields fs (stored_in fs xs))
          (spread fs (stored_in fs xs) (drop 1 es))) (same s (slice_index es 0))
          ∙ ap (λ ps. parts_in_tail L s part.target (slice_index es 0) part.value ++ ps)
          (spread_parts L s fs xs (drop 1 es) fits)))
    ]
  where
    named_some : (shape : StoredShape) (d : Datum) (X : Target) → target_for shape d ≡ Some X
        → named_of shape d ≡ Some (record { target = X; value = d })
    named_some shape d X leads = rw leads refl
