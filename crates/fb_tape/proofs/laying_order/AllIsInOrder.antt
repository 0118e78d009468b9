-- By falling alignment all fields come, each once.
use Rattle.std.proofs.Common.{◌≡◌, ◌+◌, ◌++◌, ◌==◌, ◌∙◌, ◌||◌, ℕ, true, false, Bool, if◌then◌else◌, flat_map}
use Rattle.std.proofs.Common.{List, [], ◌∷◌, sum_by, length, refl, sym, arith}
use Rattle.std.proofs.lemmas.Bool.{eqb-true}
use Rattle.std.proofs.lemmas.List.Elements.{All-tail}
use Rattle.std.proofs.lemmas.List.Sums.{sum_by-cons}
use Rattle.std.specs.List.{All}
use Rattle.fb_layout.specs.Sizes.{IsAlignment}
use Rattle.fb_tape.specs.OpenFields.{OpenField}
use Rattle.fb_tape.specs.StoredTables.{taken_by, taken, at_align, in_order}
use Rattle.fb_tape.proofs.laying_order.AlignmentsFall.{among, EachOnce, falling_from, is_among, each_once}
use Rattle.fb_tape.proofs.stored_tables.FieldsInTurn.{at_align_more, at_align_other}

-- Whatever each field weighs: in that order all weigh as much as before.
module _ (w : OpenField → ℕ) where
  abbrev weigh : List OpenField → ℕ
  weigh xs = sum_by w xs

  more_weighs : (x : OpenField) (xs : List OpenField) → weigh (x ∷ xs) ≡ w x + weigh xs
  more_weighs x xs = sum_by-cons w x xs

  both : (xs ys : List OpenField) → weigh (xs ++ ys) ≡ weigh xs + weigh ys
  both [] ys = omega arith
  both (x ∷ xs) ys = omega (arith, more_weighs x (xs ++ ys), more_weighs x xs, both xs ys)

  -- what the fields of an alignment take, with one in front
  with_one : (a : ℕ) (x : OpenField) (xs : List OpenField) (t : Bool) → (x.align == a) ≡ t
      → weigh (at_align a (x ∷ xs)) ≡ (if t then w x else 0) + weigh (at_align a xs)
  with_one a x xs true is =
      let more = more_weighs x (at_align a xs) in rw (at_align_more a x xs is) more
  with_one a x xs false is = rw (at_align_other a x xs is) (omega arith)

  abbrev all_at : List ℕ → List OpenField → List OpenField
  all_at aligns xs = flat_map (λ a. at_align a xs) aligns

  -- what the fields of some alignments take, with one in front
  one_more : (x : OpenField) (xs : List OpenField) (aligns : List ℕ) → EachOnce aligns
      → weigh (all_at aligns (x ∷ xs)) ≡ (if among x.align aligns then w x else 0) + weigh (all_at aligns xs)
  one_more x xs [] once = omega arith
  one_more x xs (a ∷ aligns) once = omega (
    arith,
    both (at_align a (x ∷ xs)) (all_at aligns (x ∷ xs)),
    both (at_align a xs) (all_at aligns xs),
    with_one a x xs (x.align == a) refl,
    one_more x xs aligns once.1,
    once_counted (x.align == a) refl,
  )
    where
      once_counted : (t : Bool) → (x.align == a) ≡ t → (if t || among x.align aligns then w x else 0)
          ≡ (if t then w x else 0) + (if among x.align aligns then w x else 0)
      once_counted true is = rw (eqb-true x.align a is, once.0) (omega arith)
      once_counted false is = omega arith

  pub all_weighed : (xs : List OpenField) → All (λ x. IsAlignment x.align) xs → weigh (in_order xs) ≡ weigh xs
  all_weighed [] aligned = refl
  all_weighed (x ∷ xs) aligned =
      let own = aligned 0 x (omega arith) in
      let rest = all_weighed xs (All-tail (λ (y : OpenField). IsAlignment y.align) x xs aligned) in
      let known : among x.align (falling_from 8) ≡ true = rw own.is (is_among own.exponent 8 own.few) in
      let once = rw known at (one_more x xs (falling_from 8) (each_once 8)) in
      omega (arith, once, more_weighs x xs, rest)

pub all_taken : (xs : List OpenField) → All (λ x. IsAlignment x.align) xs → taken (in_order xs) ≡ taken xs
all_taken xs aligned = all_weighed (λ x. taken_by x.note) xs aligned

counted : (xs : List OpenField) → sum_by (λ x. 1) xs ≡ length xs
counted [] = refl
counted (x ∷ xs) = omega (arith, sum_by-cons (λ (y : OpenField). 1) x xs, counted xs)

pub all_counted : (xs : List OpenField) → All (λ x. IsAlignment x.align) xs → length (in_order xs) ≡ length xs
all_counted xs aligned = sym (counted (in_order xs)) ∙ all_weighed (λ x. 1) xs aligned ∙ counted xs
