-- The references of a table come in the order of its slots while its fields are laid.
use Rattle.std.proofs.Common.{◌≡◌, ℕ, suc, ◌+◌, ◌++◌, Bool, true, false, if◌then◌else◌}
use Rattle.std.proofs.Common.{List, [], ◌∷◌, length, drop, slice_get, slice_index, Option, None, Some, refl, ap}
use Rattle.std.proofs.Common.{sym, ◌∙◌, arith}
use Rattle.std.proofs.Common.{append-nil}
use Rattle.std.proofs.lemmas.Bool.{and_parts, eqb-true, both_ways}
use Rattle.fb_layout.specs.Laid.{LaidSchema, Slot}
use Rattle.fb_layout.specs.Widths.{inline_align}
use Rattle.fb_value.specs.Datum.{Datum}
use Rattle.fb_value.specs.Num.{Bytes}
use Rattle.fb_tape.specs.LayingOrder.{slots_at, laying_order}
use Rattle.fb_tape.specs.NotedFields.{AreNoted, IsNoted}
use Rattle.fb_tape.specs.declared.ops.NotedField.{NotedField}
use Rattle.fb_tape.specs.declared.ops.NotedField.TheVariants.{Reference, Inline}
use Rattle.fb_build.specs.Fields.{StoredFits, is_stored, is_reference}
use Rattle.fb_build.specs.Fields.{is_at}
use Rattle.fb_build.specs.NotesLaid.{AreReferences}
use Rattle.fb_build.proofs.taped.NotedFieldsAreLaidInTurn.{reference_aligned}
use Rattle.fb_build.proofs.taped.PartsOfATable.{refers, spread, refer_count, AllFit, shape_parts, in_place}
use Rattle.fb_build.proofs.taped.PartsOfATable.{behind}

-- ---- in the order of laying references come in the order of slots

abbrev pub refers_at : Option Slot → Option (Option Datum) → Bool
refers_at (Some f) (Some z) = refers f z
refers_at _ _ = false

module _ (fs : List Slot) (zs : List (Option Datum)) (targets : List ℕ) where
  abbrev pub refer_ends : List ℕ → List ℕ
  refer_ends [] = []
  refer_ends (k ∷ ks) =
      if refers_at (slice_get fs k) (slice_get zs k) then slice_index targets k ∷ refer_ends ks else refer_ends ks

pub noted_references : (L : LaidSchema) (fs : List Slot) (zs : List (Option Datum)) (targets ks : List ℕ)
    (notes : List NotedField) (bytes : Bytes) → AreNoted L fs zs ks notes bytes
    → AreReferences notes ks targets (refer_ends fs zs targets ks)
noted_references L fs zs targets [] [] bytes noted = tt
noted_references L fs zs targets [] (Reference ∷ notes) bytes noted = tt
noted_references L fs zs targets [] (Inline n ∷ notes) bytes noted = tt
noted_references L fs zs targets (k ∷ ks) [] bytes noted = tt
noted_references L fs zs targets (k ∷ ks) (Reference ∷ notes) bytes noted =
    let note_is : noted.note ≡ Reference = (let both = noted.notes_are in cc) in
    let notes_is : noted.notes_behind ≡ notes = (let both = noted.notes_are in cc) in
    let is : IsNoted L noted.field noted.value Reference noted.own = rw note_is at noted.noted in
    let rest = noted_references L fs zs targets ks notes noted.bytes_behind (rw notes_is at noted.rest) in
    let there : refers_at (slice_get fs k) (slice_get zs k) ≡ true = rw (noted.is, noted.has) is.0 in
    record { behind = refer_ends fs zs targets ks; is = rw there refl; rest = rest }
noted_references L fs zs targets (k ∷ ks) (Inline n ∷ notes) bytes noted =
    let note_is : noted.note ≡ Inline n = (let both = noted.notes_are in cc) in
    let notes_is : noted.notes_behind ≡ notes = (let both = noted.notes_are in cc) in
    let is : IsNoted L noted.field noted.value (Inline n) noted.own = rw note_is at noted.noted in
    let rest = noted_references L fs zs targets ks notes noted.bytes_behind (rw notes_is at noted.rest) in
    let out : refers_at (slice_get fs k) (slice_get zs k) ≡ false = rw (noted.is, noted.has) is.0 in
    rw out rest

ends_join : (fs : List Slot) (zs : List (Option Datum)) (targets ks js : List ℕ)
    → refer_ends fs zs targets (ks ++ js) ≡ refer_ends fs zs targets ks ++ refer_ends fs zs targets js
ends_join fs zs targets [] js = refl
ends_join fs zs targets (k ∷ ks) js =
    by_test (refers_at (slice_get fs k) (slice_get zs k)) (ends_join fs zs targets ks js)
  where
    by_test : (t : Bool)
        → refer_ends fs zs targets (ks ++ js) ≡ refer_ends fs zs targets ks ++ refer_ends fs zs targets js
        → (if t then slice_index targets k ∷ refer_ends fs zs targets (ks ++ js) else refer_ends fs zs targets (ks
        ++ js))
        ≡ (if t then slice_index targets k ∷ refer_ends fs zs targets ks else refer_ends fs zs targets ks)
        ++ refer_ends fs zs targets js
    by_test true rest = ap (λ es. slice_index targets k ∷ es) rest
    by_test false rest = rest

refers_aligned : (L : LaidSchema) (f : Slot) (z : Option Datum) → refers f z ≡ true → inline_align L f.shape ≡ 4
refers_aligned L f None is = cc
refers_aligned L f (Some d) is = reference_aligned L f.shape is

refers_stored : (L : LaidSchema) (f : Slot) (z : Option Datum) → StoredFits L f z → refers f z ≡ true
    → is_stored f z ≡ true
refers_stored L f None fits is = cc
refers_stored L f (Some d) fits is = elim (shape_parts L f.shape d fits.1) [
  | in_place none inline leads ↦ absurd (both_ways (is_reference f.shape) inline is)
  | behind part X at reference leads stored lies parts ↦ stored f
]

module _ (L : LaidSchema) (fs : List Slot) (zs : List (Option Datum)) (targets : List ℕ)
    (fit : AllFit L fs zs) where
  -- none at another alignment
  none_there : (a k : ℕ) (gs : List Slot) (ys : List (Option Datum)) → (a ≡ 4 → ⊥)
      → ((i : ℕ) → slice_get gs i ≡ slice_get fs (k + i)) → ((i : ℕ) → slice_get ys i ≡ slice_get zs (k + i))
      → refer_ends fs zs targets (slots_at L a k gs ys) ≡ []
  unfolding slots_at
  none_there a k [] ys other fields entries = refl
  none_there a k (g ∷ gs) [] other fields entries = refl
  none_there a k (g ∷ gs) (y ∷ ys) other fields entries =
      let here : k + 0 ≡ k = omega arith in
      let f0 : slice_get fs k ≡ Some g = sym (rw (← here) (fields 0)) in
      let z0 : slice_get zs k ≡ Some y = sym (rw (← here) (entries 0)) in
      let rest = none_there a (suc k) gs ys other
      (λ i. let e : k + suc i ≡ suc k + i = omega arith in
      rw (← e) (fields (suc i)))
      (λ i. let e : k + suc i ≡ suc k + i = omega arith in
      rw (← e) (entries (suc i))) in
      by_test (is_at L a g y) refl f0 z0 rest
    where
      by_test : (t : Bool) → is_at L a g y ≡ t → slice_get fs k ≡ Some g → slice_get zs k ≡ Some y
          → refer_ends fs zs targets (slots_at L a (suc k) gs ys) ≡ []
          → refer_ends fs zs targets (if t then k ∷ slots_at L a (suc k) gs ys else slots_at L a (suc k) gs ys) ≡ []
      by_test false is f0 z0 rest = rest
      by_test true is f0 z0 rest =
          let align : inline_align L g.shape ≡ a = eqb-true _ _ (and_parts _ _ is).1 in
          let out : refers g y ≡ false = by_refers (refers g y) refl align in
          rw (f0, z0, out) rest
        where
          by_refers : (t : Bool) → refers g y ≡ t → inline_align L g.shape ≡ a → refers g y ≡ false
          by_refers false is align = is
          by_refers true is align = absurd (other (sym align ∙ refers_aligned L g y is))

  -- all at 4
  all_there : (k : ℕ) (gs : List Slot) (ys : List (Option Datum)) (es : List ℕ) → length es ≡ refer_count gs ys
      → ((i : ℕ) → slice_get gs i ≡ slice_get fs (k + i)) → ((i : ℕ) → slice_get ys i ≡ slice_get zs (k + i))
      → ((i : ℕ) → slice_index (spread gs ys es) i ≡ slice_index targets (k + i))
      → length gs ≡ length ys → refer_ends fs zs targets (slots_at L 4 k gs ys) ≡ es
  unfolding slots_at
  all_there k [] ys [] many fields entries at long = refl
  all_there k [] ys (e ∷ es) many fields entries at long = absurd (omega (arith, many))
  all_there k (g ∷ gs) [] es many fields entries at long = absurd (omega (arith, long))
  all_there k (g ∷ gs) (y ∷ ys) es many fields entries at long =
      let here : k + 0 ≡ k = omega arith in
      let f0 : slice_get fs k ≡ Some g = sym (rw (← here) (fields 0)) in
      let z0 : slice_get zs k ≡ Some y = sym (rw (← here) (entries 0)) in
      let rest = λ (ds : List ℕ) (ok : length ds ≡ refer_count gs ys)
      (next : (i : ℕ) → slice_index (spread gs ys ds) i ≡ slice_index targets (suc k + i)).
      all_there (suc k) gs ys ds ok
      (λ i. let e : k + suc i ≡ suc k + i = omega arith in
      rw (← e) (fields (suc i)))
      (λ i. let e : k + suc i ≡ suc k + i = omega arith in
      rw (← e) (entries (suc i))) next (omega (arith, long)) in
      let fits = fit k g y f0 z0 in
      by_refers (refers g y) refl fits f0 z0 many (λ i. at i) rest
    where
      moved : (spreads : List ℕ) (i : ℕ) → slice_index spreads (suc i) ≡ slice_index targets (k + suc i)
          → slice_index spreads (suc i) ≡ slice_index targets (suc k + i)
      moved spreads i h = let e : k + suc i ≡ suc k + i = omega arith in
          rw (← e) h

      one : (es : List ℕ) (n : ℕ) → length es ≡ suc n → (e : ℕ) × (ds : List ℕ) × (es ≡ e ∷ ds) × (length ds ≡ n)
      one [] n many = absurd (omega (arith, many))
      one (e ∷ ds) n many = (e, ds, refl, omega (arith, many))

      by_refers : (t : Bool) → refers g y ≡ t → StoredFits L g y → slice_get fs k ≡ Some g → slice_get zs k ≡ Some y
          → length es ≡ (if t then suc (refer_count gs ys) else refer_count gs ys)
          → ((i : ℕ) → slice_index (if t then slice_index es 0 ∷ spread gs ys (drop 1 es) else 0 ∷ spread gs ys es) i
          ≡ slice_index targets (k + i))
          → ((ds : List ℕ) → length ds ≡ refer_count gs ys
          → ((i : ℕ) → slice_index (spread gs ys ds) i ≡ slice_index targets (suc k + i))
          → refer_ends fs zs targets (slots_at L 4 (suc k) gs ys) ≡ ds)
          → refer_ends fs zs targets
          (if is_at L 4 g y then k ∷ slots_at L 4 (suc k) gs ys else slots_at L 4 (suc k) gs ys) ≡ es
      by_refers true is fits f0 z0 many at rest =
          let first = one es (refer_count gs ys) many in
          let align = refers_aligned L g y is in
          let stored = refers_stored L g y fits is in
          let four : is_at L 4 g y ≡ true = rw (stored, align) refl in
          let next = rest first.1 first.3 (λ i. moved (first.0 ∷ spread gs ys first.1) i (rw first.2 at (at (suc
          i)))) in
          let here : k + 0 ≡ k = omega arith in
          let own : slice_index targets k ≡ first.0 =
          sym (rw (← here) (rw first.2 at (at 0))) in
          rw four (rw (f0, z0, is, own, next) (sym first.2))
      by_refers false is fits f0 z0 many at rest =
          let next = rest es many (λ i. moved (0 ∷ spread gs ys es) i (at (suc i))) in
          by_at (is_at L 4 g y) (rw (f0, z0, is) refl) next
        where
          by_at : (t : Bool) → refers_at (slice_get fs k) (slice_get zs k) ≡ false
              → refer_ends fs zs targets (slots_at L 4 (suc k) gs ys) ≡ es
              → refer_ends fs zs targets (if t then k ∷ slots_at L 4 (suc k) gs ys else slots_at L 4 (suc k) gs ys) ≡ es
          by_at true out next = rw out next
          by_at false out next = next

pub spread_references : (L : LaidSchema) (fs : List Slot) (zs : List (Option Datum)) (es : List ℕ) → AllFit L fs zs
    → length fs ≡ length zs → length es ≡ refer_count fs zs
    → refer_ends fs zs (spread fs zs es) (laying_order L fs zs) ≡ es
spread_references L fs zs es fit long many =
    let ts = spread fs zs es in
    let i0 : (i : ℕ) → 0 + i ≡ i = (λ i. omega arith) in
    let none : (a : ℕ) → (a ≡ 4 → ⊥) → refer_ends fs zs ts (slots_at L a 0 fs zs) ≡ [] =
    λ a other. none_there L fs zs ts fit a 0 fs zs other (λ i. rw (i0 i) refl) (λ i. rw (i0 i) refl) in
    let all = all_there L fs zs ts fit 0 fs zs es many (λ i. rw (i0 i) refl) (λ i. rw (i0 i) refl)
    (λ i. rw (i0 i) refl) long in
    let last = slots_at L 2 0 fs zs ++ (slots_at L 1 0 fs zs ++ []) in
    let none_last : refer_ends fs zs ts last ≡ [] =
    skip 2 _ (none 2 (λ e. omega (arith, e))) (skip 1 [] (none 1 (λ e. omega (arith, e))) refl) in
    skip 256 _ (none 256 (λ e. omega (arith, e))) (skip 128 _ (none 128 (λ e. omega (arith, e)))
    (skip 64 _ (none 64 (λ e. omega (arith, e))) (skip 32 _ (none 32 (λ e. omega (arith, e)))
    (skip 16 _ (none 16 (λ e. omega (arith, e))) (skip 8 _ (none 8 (λ e. omega (arith, e)))
    (ends_join fs zs ts (slots_at L 4 0 fs zs) last ∙ ap (λ (ds : List ℕ). ds ++ refer_ends fs zs ts last) all
    ∙ ap (λ (ds : List ℕ). es ++ ds) none_last ∙ append-nil es))))))
  where
    skip : (a : ℕ) (rest : List ℕ) {ds : List ℕ} → refer_ends fs zs (spread fs zs es) (slots_at L a 0 fs zs) ≡ []
        → refer_ends fs zs (spread fs zs es) rest ≡ ds
        → refer_ends fs zs (spread fs zs es) (slots_at L a 0 fs zs ++ rest) ≡ ds
    skip a rest none h = ends_join fs zs (spread fs zs es) (slots_at L a 0 fs zs) rest
        ∙ ap (λ ds. ds ++ refer_ends fs zs (spread fs zs es) rest) none ∙ h
