-- The open fields of a table are what it stores.
use Rattle.std.proofs.Common.{◌≡◌, ◌+◌, ◌==◌, ◌&&◌, ◌∙◌, ℕ, suc, Bool, true, false, if◌then◌else◌}
use Rattle.std.proofs.Common.{List, [], ◌∷◌, Option, max, map, refl, sym, arith}
use Rattle.std.proofs.lemmas.List.Elements.{All-cons}
use Rattle.std.specs.List.{All}
use Rattle.fb_schema.specs.Alignments.{greatest_in}
use Rattle.fb_layout.specs.Laid.{LaidSchema, Slot, StoredShape, one_of, scalar_kind, struct_kind}
use Rattle.fb_layout.specs.Laid.{code_kind, size_of}
use Rattle.fb_layout.specs.Sizes.{IsAlignment}
use Rattle.fb_layout.specs.Widths.{inline_size, inline_align}
use Rattle.fb_value.specs.Datum.{Datum}
use Rattle.fb_value.specs.Num.{Bytes}
use Rattle.fb_tape.specs.NotedFields.{IsNoted}
use Rattle.fb_tape.specs.OpenFields.{OpenField, IsOpenIf, AreOpen}
use Rattle.fb_tape.specs.StoredFields.{is_reference, inline_kind, fields_size, size_at, stored_align}
use Rattle.fb_tape.specs.Defaults.{is_stored}
use Rattle.fb_tape.specs.StoredTables.{taken_by, taken, at_align, StoredAligned}
use Rattle.fb_tape.specs.declared.ops.NotedField.{NotedField}
use Rattle.fb_tape.specs.declared.ops.NotedField.TheVariants.{Reference, Inline}
use Rattle.fb_tape.proofs.stored_tables.FieldsInTurn.{taken_more, at_align_more, at_align_other}
use Rattle.fb_tape.proofs.stored.SizesOfWhatIsStored.{reference_size}

-- ---- one field

inline_size_is : (L : LaidSchema) (shape : StoredShape) → is_reference shape ≡ false
    → size_of L (inline_kind shape) ≡ inline_size L shape
inline_size_is L (one_of (code_kind u)) is = refl
inline_size_is L (one_of (scalar_kind b)) is = refl
inline_size_is L (one_of (struct_kind s)) is = refl
inline_size_is L _ is = cc

-- it takes what its slot takes
pub noted_size : (L : LaidSchema) (f : Slot) (d : Datum) (note : NotedField) (bytes : Bytes)
    → IsNoted L f d note bytes → taken_by note ≡ inline_size L f.shape
noted_size L f d Reference bytes h = sym (reference_size L f.shape h.0)
noted_size L f d (Inline n) bytes h = h.1 ∙ h.2.long ∙ inline_size_is L f.shape h.0

-- ---- all fields: what slots take together, at each alignment, and the greatest alignment

abbrev Rest : LaidSchema → ℕ → List Slot → List (Option Datum) → (List OpenField → Type 0) → Type 0
Rest L k fs xs P = (opens : List OpenField) → AreOpen L (suc k) fs xs opens → P opens

pub taken_is : (L : LaidSchema) (k : ℕ) (fs : List Slot) (xs : List (Option Datum)) (opens : List OpenField)
    → AreOpen L k fs xs opens → taken opens ≡ fields_size L fs xs
taken_is L k [] xs opens h = rw h refl
taken_is L k (f ∷ fs) [] opens h = rw h refl
taken_is L k (f ∷ fs) (x ∷ xs) opens h =
    by_test (λ os o. taken_is L (suc k) fs xs os o) (is_stored f x) h
  where
    by_test : Rest L k fs xs (λ os. taken os ≡ fields_size L fs xs) → (t : Bool)
        → IsOpenIf t L k f x opens (λ behind. AreOpen L (suc k) fs xs behind)
        → taken opens ≡ (if t then inline_size L f.shape else 0) + fields_size L fs xs
    by_test again true h =
        let rest = again h.behind h.rest in
        let more = taken_more h.field h.behind in
        let own = noted_size L f h.value h.field.note h.field.bytes h.noted in
        rw h.opens_are (omega (arith, more, own, rest))
    by_test again false h = let rest = again opens h in omega (arith, rest)

pub same_align : (a b c : ℕ) → b ≡ c → (t : Bool) → (c == a) ≡ t → (b == a) ≡ t
same_align a b c same t is = rw same is

pub taken_at_is : (L : LaidSchema) (a k : ℕ) (fs : List Slot) (xs : List (Option Datum)) (opens : List OpenField)
    → AreOpen L k fs xs opens → taken (at_align a opens) ≡ size_at L a fs xs
taken_at_is L a k [] xs opens h = rw h refl
taken_at_is L a k (f ∷ fs) [] opens h = rw h refl
taken_at_is L a k (f ∷ fs) (x ∷ xs) opens h =
    by_test (λ os o. taken_at_is L a (suc k) fs xs os o) (is_stored f x) (inline_align L f.shape == a) refl h
  where
    by_test : Rest L k fs xs (λ os. taken (at_align a os) ≡ size_at L a fs xs) → (t u : Bool)
        → (inline_align L f.shape == a) ≡ u
        → IsOpenIf t L k f x opens (λ behind. AreOpen L (suc k) fs xs behind)
        → taken (at_align a opens) ≡ (if t && u then inline_size L f.shape else 0) + size_at L a fs xs
    by_test again true true is h =
        let rest = again h.behind h.rest in
        let own = noted_size L f h.value h.field.note h.field.bytes h.noted in
        let here = at_align_more a h.field h.behind (same_align a _ _ h.align_is true is) in
        let more = taken_more h.field (at_align a h.behind) in
        rw (h.opens_are, here) (omega (arith, more, own, rest))
    by_test again true false is h =
        let rest = again h.behind h.rest in
        let other = at_align_other a h.field h.behind (same_align a _ _ h.align_is false is) in
        rw (h.opens_are, other) (omega (arith, rest))
    by_test again false u is h = let rest = again opens h in omega (arith, rest)

pub greatest_is : (L : LaidSchema) (k : ℕ) (fs : List Slot) (xs : List (Option Datum)) (opens : List OpenField)
    → AreOpen L k fs xs opens → greatest_in (map (λ y. y.align) opens) ≡ stored_align L fs xs
greatest_is L k [] xs opens h = rw h refl
greatest_is L k (f ∷ fs) [] opens h = rw h refl
greatest_is L k (f ∷ fs) (x ∷ xs) opens h =
    by_test (λ os o. greatest_is L (suc k) fs xs os o) (is_stored f x) h
  where
    by_test : Rest L k fs xs (λ os. greatest_in (map (λ y. y.align) os) ≡ stored_align L fs xs) → (t : Bool)
        → IsOpenIf t L k f x opens (λ behind. AreOpen L (suc k) fs xs behind)
        → greatest_in (map (λ y. y.align) opens)
        ≡ max (if t then inline_align L f.shape else 0) (stored_align L fs xs)
    by_test again true h = rw (h.opens_are, h.align_is, again h.behind h.rest) refl
    by_test again false h = let rest = again opens h in omega (arith, rest)

-- ---- what each is aligned to

pub all_aligned : (L : LaidSchema) (k : ℕ) (fs : List Slot) (xs : List (Option Datum)) (opens : List OpenField)
    → StoredAligned L fs xs → AreOpen L k fs xs opens → All (λ x. IsAlignment x.align) opens
all_aligned L k [] xs opens aligned h = rw h (λ i d low. absurd (omega (arith, low)))
all_aligned L k (f ∷ fs) [] opens aligned h = rw h (λ i d low. absurd (omega (arith, low)))
all_aligned L k (f ∷ fs) (x ∷ xs) opens aligned h =
    by_test (λ os o. all_aligned L (suc k) fs xs os (λ j g y fj xj. aligned (suc j) g y fj xj) o) (is_stored f x) refl h
  where
    by_test : Rest L k fs xs (λ os. All (λ y. IsAlignment y.align) os) → (t : Bool) → is_stored f x ≡ t
        → IsOpenIf t L k f x opens (λ behind. AreOpen L (suc k) fs xs behind)
        → All (λ y. IsAlignment y.align) opens
    by_test again true is h =
        let own : IsAlignment h.field.align = rw h.align_is (aligned 0 f x refl refl is) in
        rw h.opens_are (All-cons (λ (y : OpenField). IsAlignment y.align) h.field h.behind own (again h.behind h.rest))
    by_test again false is h = again opens h
