-- What each slot of a table stores, and its end-count once its field is laid.
use Rattle.std.proofs.Common.{◌≡◌, ℕ, ◌+◌, ◌<◌, ◌≤◌, ◌⊎◌, inl, inr, Bool, true, false, cond, nat_lt, List}
use Rattle.std.proofs.Common.{length, slice_get, slice_index, slice_set, Option, Some}
use Rattle.std.proofs.Common.{refl, sym, ◌∙◌, arith}
use Rattle.std.proofs.lemmas.List.{get_or-set_same, get_or-set_other}
use Rattle.std.proofs.lemmas.Bool.{lt-ltb, ltb-true, ltb-false, cases_eq}
use Rattle.fb_layout.specs.Laid.{LaidSchema, Slot}
use Rattle.fb_layout.specs.Widths.{inline_size, inline_align}
use Rattle.fb_value.specs.Datum.{Datum}
use Rattle.fb_value.specs.Num.{divides}
use Rattle.fb_build.specs.Tails.{TailSeen, Grows}
use Rattle.fb_build.specs.Fields.{IsSimple, above, from, EntryEnd, EntriesEnd}
use Rattle.fb_build.proofs.fields.FieldHasItsValue.{entry_grown}
use Rattle.fb_build.proofs.tail.MultiplesAdd.{sum_divides}
use Rattle.fb_build.proofs.fields.AlignmentDividesTheSize.{simple_multiple}

pub ltb_yes : (j k : ℕ) → nat_lt j k ≡ true → j < k
ltb_yes j k e = ltb-true j k e

pub ltb_out : (j k : ℕ) → nat_lt j k ≡ false → k ≤ j
ltb_out j k e = ltb-false j k e

pub whole_step : (L : LaidSchema) (a long longer free new : ℕ) (f : Slot) → IsSimple L f.shape
    → inline_align L f.shape ≡ a → longer + new ≡ long + free → new + inline_size L f.shape ≡ free
    → divides a long ≡ true → divides a longer ≡ true
whole_step L a long longer free new f simple at e now h =
    let own : divides a (inline_size L f.shape) ≡ true =
    rw (← at) (simple_multiple L f.shape simple) in
    sum_divides a long (inline_size L f.shape) longer h own (omega (arith, e, now))

pub same_some : {A : Type 0} (o : Option A) (x y : A) → o ≡ Some x → o ≡ Some y → x ≡ y
same_some o x y e f = let both : Some x ≡ Some y = sym e ∙ f in cc

-- the state once slot k is passed, whose end-count alone may be another
pub passed : (L : LaidSchema) (low : ℕ) (o n : TailSeen) (a k e : ℕ) (fs : List Slot) (xs : List (Option Datum))
    (ends others : List ℕ) (f0 : Slot) (x0 : Option Datum) → Grows o n → slice_index others k ≡ e
    → ((j : ℕ) → (j ≡ k → ⊥) → slice_index others j ≡ slice_index ends j)
    → slice_get fs k ≡ Some f0 → slice_get xs k ≡ Some x0 → EntryEnd L low n.most n.bytes (from L a f0) f0 x0 e
    → EntriesEnd L low o.most o.bytes (λ j f. cond (nat_lt j k) (from L a f) (above L a f)) fs xs ends
    → EntriesEnd L low n.most n.bytes (λ j f. cond (nat_lt j (k + 1)) (from L a f) (above L a f)) fs xs others
passed L low o n a k e fs xs ends others f0 x0 g own rest fk xk now before j f x fj xj = by_case (cases_eq j k)
  where
    test_same : (k : ℕ) → nat_lt k (k + 1) ≡ true
    test_same k = lt-ltb _ _ (omega arith)

    test_other : (j ≡ k → ⊥) → nat_lt j (k + 1) ≡ nat_lt j k
    test_other ne = by_test (nat_lt j k) refl (nat_lt j (k + 1)) refl
      where
        by_test : (t : Bool) → nat_lt j k ≡ t → (u : Bool) → nat_lt j (k + 1) ≡ u → u ≡ t
        by_test true a true b = refl
        by_test false a false b = refl
        by_test true a false b = absurd (omega (arith, ltb_yes j k a, ltb_out j (k + 1) b))
        by_test false a true b = absurd (ne (omega (arith, ltb_out j k a, ltb_yes j (k + 1) b)))

    by_case : (j ≡ k) ⊎ (j ≡ k → ⊥)
        → EntryEnd L low n.most n.bytes (cond (nat_lt j (k + 1)) (from L a f) (above L a f)) f x (slice_index others j)
    by_case (inl same) =
        let f_is : f ≡ f0 = same_some (slice_get fs k) f f0 (rw same at fj) fk in
        let x_is : x ≡ x0 = same_some (slice_get xs k) x x0 (rw same at xj) xk in
        rw same (rw (test_same k, own, f_is, x_is) now)
    by_case (inr ne) = rw (test_other ne, rest j ne)
        (entry_grown L low o n (cond (nat_lt j k) (from L a f) (above L a f)) f x (slice_index ends j) g
        (before j f x fj xj))

-- once its field is laid
pub passed_laid : (L : LaidSchema) (low : ℕ) (o n : TailSeen) (a k e : ℕ) (fs : List Slot) (xs : List (Option Datum))
    (ends : List ℕ) (f : Slot) (x : Option Datum) → Grows o n → k < length ends
    → slice_get fs k ≡ Some f → slice_get xs k ≡ Some x → EntryEnd L low n.most n.bytes (from L a f) f x e
    → EntriesEnd L low o.most o.bytes (λ j f. cond (nat_lt j k) (from L a f) (above L a f)) fs xs ends
    → EntriesEnd L low n.most n.bytes (λ j f. cond (nat_lt j (k + 1)) (from L a f) (above L a f)) fs xs
    (slice_set ends k e)
passed_laid L low o n a k e fs xs ends f x g under fk xk now before =
    passed L low o n a k e fs xs ends (slice_set ends k e) f x g (get_or-set_same ends k e 0 under)
    (λ j ne. get_or-set_other ends k j e 0 ne) fk xk now before
