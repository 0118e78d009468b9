-- The least missing slot, among all slots and among the required ones.
use Rattle.std.proofs.Common.{◌≡◌, ℕ, suc, ◌+◌, ◌&&◌, Bool, true, false, cond, List, [], ◌∷◌, Option, Some, find}
use Rattle.std.proofs.Common.{slice_get, refl, ap, sym, ◌∙◌, arith}
use Rattle.fb_layout.specs.Laid.{Slot, slots_of}
use Rattle.fb_layout.proofs.slots.RequiredSlotsAreNumbered.{required_from, required_in_order}
use Rattle.fb_value.specs.Num.{Bytes}
use Rattle.fb_value.specs.Rules.{first_missing}
use Rattle.fb_value.specs.Missing.{is_missing_slot, FirstMissing}

-- one slot, required or not
step : (test : ℕ → Bool) (required absent : Bool) (k : ℕ) (rest : List ℕ) (more : Option ℕ)
    → test k ≡ (required && absent) → more ≡ find test rest
    → cond (required && absent) (Some k) more ≡ find test (cond required (k ∷ rest) rest)
step test true absent k rest more is e = rw (is, e) refl
step test false absent k rest more is e = e

found_from : (b : Bytes) (p : ℕ) (all fs : List Slot) (k : ℕ) → ((i : ℕ) → slice_get all (k + i) ≡ slice_get fs i)
    → first_missing b p k fs ≡ find (λ i. is_missing_slot b p i (slice_get all i)) (required_from k fs)
found_from b p all [] k same = refl
found_from b p all (f ∷ fs) k same =
    let here : slice_get all k ≡ Some f = ap (slice_get all) (let none : k ≡ k + 0 = omega arith in none) ∙ same 0 in
    let rest = found_from b p all fs (suc k) (λ i. ap (slice_get all) (let next : suc k + i ≡ k + suc i = omega arith in
    next) ∙ same (suc i)) in
    step (λ i. is_missing_slot b p i (slice_get all i)) f.required _ k (required_from (suc k) fs) _
    (ap (is_missing_slot b p k) here) rest

pub first_shown : FirstMissing
first_shown L b t p =
    found_from b p (slots_of L t) (slots_of L t) 0
    (λ i. ap (slice_get (slots_of L t)) (let none : 0 + i ≡ i = omega arith in none))
    ∙ ap (find (λ k. is_missing_slot b p k (slice_get (slots_of L t) k))) (sym (required_in_order L t))
