-- A buffer is covered where its tail has no slack.
use Rattle.std.proofs.Common.{◌≡◌, ℕ, ◌+◌, ◌-◌, ◌++◌, inl, inr, true, ◌==◌, List, [], ◌∷◌, length, take, drop, map}
use Rattle.std.proofs.Common.{slice_index, refl, ap, sym, ◌∙◌, arith, length-append}
use Rattle.std.proofs.lemmas.Bool.{false≢true, or_cases, or_left, or_right, eqb-true, eq-eqb}
use Rattle.std.proofs.lemmas.List.{get_or-append-add}
use Rattle.std.proofs.Math.Seq.{drop-append-add}
use Rattle.fb_value.specs.Num.{Bytes, num}
use Rattle.fb_value.specs.Places.{table_part, part_place}
use Rattle.fb_value.specs.Tails.{from_end}
use Rattle.fb_value.proofs.tails.SameBytesHoldTheSameFurtherOn.{each_at_moved}
use Rattle.fb_build.specs.Stored.{IsTightTable}
use Rattle.fb_build.specs.Pieces.{is_among, reached, reached_parts, tables_vtables}
use Rattle.fb_build.specs.Covered.{vtable_at, EqualVtablesAreOne}
use Rattle.fb_build.specs.CoveredTails.{parts_in_tail, IsTightInTail}
use Rattle.fb_build.specs.CoveredSteps.{CoveredWhole}
use Rattle.fb_value.proofs.tails.SameBytesReadTheSameFurtherOn.{number_moved}
use Rattle.fb_build.proofs.covered.TightTableStaysTightFurtherOn.{tight_further_on}
use Rattle.fb_build.proofs.covered.TightStructStaysTightFurtherOn.{inline_front_shown}
use Rattle.fb_build.proofs.covered.ReachedVtablesAreInside.{reached_front_shown}

same_vtable : (front s : Bytes) (q : ℕ) → vtable_at (front ++ s) (length front + q) ≡ vtable_at s q
same_vtable front s q =
    ap (λ n. take n (drop (length front + q) (front ++ s)))
    (number_moved s (front ++ s) (length front) (λ i. get_or-append-add front s i 0) q 2)
    ∙ ap (λ (xs : Bytes). take (num s q 2) xs) (drop-append-add front s q)

pub before_moved : (k n : ℕ) (ms : List ℕ) → is_among n (map (λ q. k + q) ms) ≡ true
    → (m : ℕ) × (n ≡ k + m) × (is_among m ms ≡ true)
before_moved k n [] h = absurd (false≢true h)
before_moved k n (m ∷ ms) h =
    elim (or_cases (n == (k + m)) (is_among n (map (λ q. k + q) ms)) h) [
      | inl e ↦ (m, eqb-true n (k + m) e, or_left (m == m) (is_among m ms) (eq-eqb m m refl))
      | inr more ↦ (let rest = before_moved k n ms more in
          (rest.0, rest.1, or_right (rest.0 == m) (is_among rest.0 ms) rest.2))
    ]

equal_further : (front s : Bytes) (qs : List ℕ) → EqualVtablesAreOne s qs
    → EqualVtablesAreOne (front ++ s) (map (λ q. length front + q) qs)
equal_further front s qs h q r here there same =
    let x = before_moved (length front) q qs here in
    let y = before_moved (length front) r qs there in
    let b = front ++ s in
    let was : vtable_at s x.0 ≡ vtable_at s y.0 = sym (same_vtable front s x.0) ∙ ap (vtable_at b) (sym x.1) ∙ same
    ∙ ap (vtable_at b) y.1 ∙ same_vtable front s y.0 in
    x.1 ∙ ap (λ n. length front + n) (h x.0 y.0 x.2 y.2 was) ∙ sym y.1

pub covered_shown : CoveredWhole
covered_shown L m front s e v lies tight inline one root made =
    let b = front ++ s in
    let k = length front in
    let X = table_part L.schema.root in
    let whole : length b ≡ k + length s = length-append front s in
    let behind : k + (length s - e) ≡ 0 + num b 0 4 = omega (arith, root, whole, lies.within) in
    let at : length b - e ≡ 0 + num b 0 4 = omega (arith, root) in
    let bytes : (i : ℕ) → slice_index b (k + i) ≡ slice_index s i = λ i. get_or-append-add front s i 0 in
    let kept = reached_front_shown L m front s X e v lies in
    let places : tables_vtables b (reached_parts L b v)
    ≡ map (λ q. k + q) (tables_vtables s (parts_in_tail L s X e v)) =
    ap (λ q. tables_vtables b (reached L b X q v)) (sym at) ∙ kept.vtables in
    record {
      made = made;
      shared = rw places (equal_further front s (tables_vtables s (parts_in_tail L s X e v)) one);
      tables = rw (← behind) (each_at_moved L (from_end s m) (λ a p. true) s b k (omega (arith, whole)) bytes
          (λ a p low is. refl)
          (λ t p. IsTightInTail L s t p) (λ t p. IsTightTable L b t p)
          (λ t p slots known. (tight_further_on L s b k bytes t p slots known).tight) (part_place X)
          (length s - e) v lies.lies tight);
      inline = rw (← at) (inline_front_shown L m front s
          (part_place X) e v lies inline);
    }
