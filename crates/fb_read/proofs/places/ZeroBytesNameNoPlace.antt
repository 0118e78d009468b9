-- Where eight bytes of a vtable are zero, four slots are absent.
use Rattle.std.proofs.Common.{◌≡◌, ◌<◌, ◌≤◌, ℕ, zero, suc, ◌+◌, ◌-◌, ◌*◌, Bool, true, false, cond, nat_le, refl, ap}
use Rattle.std.proofs.Common.{◌∙◌, arith}
use Rattle.fb_value.specs.Num.{Bytes, num}
use Rattle.fb_value.specs.Places.{slot_number, vtable}
use Rattle.fb_value.proofs.numbers.BytesSumToTheirNumber.{lowest}

none : (b : Bytes) (p : ℕ) → num b p 0 ≡ 0
unfolding num
none b p = refl

-- the first two of some bytes that are zero, and the others
unset_pair : (b : Bytes) (p n : ℕ) → num b p (suc (suc n)) ≡ 0 → (num b p 2 ≡ 0) × (num b (p + 2) n ≡ 0)
unset_pair b p n e =
    let one = lowest b p (suc n) in
    let two = lowest b (p + 1) n in
    let first = lowest b p 1 in
    let second = lowest b (p + 1) 0 in
    let nothing = none b ((p + 1) + 1) in
    let behind : num b ((p + 1) + 1) n ≡ num b (p + 2) n = ap (λ q. num b q n) (omega arith) in
    (omega (arith, one, two, first, second, nothing, e), omega (arith, one, two, behind, e))

pair_unset : (b : Bytes) (p i : ℕ) → num b p 8 ≡ 0 → i < 4 → num b (p + 2 * i) 2 ≡ 0
pair_unset b p i e less =
    let a = unset_pair b p 6 e in
    let c = unset_pair b (p + 2) 4 a.1 in
    let d = unset_pair b ((p + 2) + 2) 2 c.1 in
    by_pair i a.0 c.0 d.0 d.1 less
  where
    by_pair : (j : ℕ) → num b p 2 ≡ 0 → num b (p + 2) 2 ≡ 0 → num b ((p + 2) + 2) 2 ≡ 0
        → num b (((p + 2) + 2) + 2) 2 ≡ 0 → j < 4 → num b (p + 2 * j) 2 ≡ 0
    by_pair zero a c d f less = ap (λ q. num b q 2) (let same : p + 0 ≡ p = omega arith in same) ∙ a
    by_pair (suc zero) a c d f less = c
    by_pair (suc (suc zero)) a c d f less =
        ap (λ q. num b q 2) (let same : p + 4 ≡ (p + 2) + 2 = omega arith in same) ∙ d
    by_pair (suc (suc (suc zero))) a c d f less =
        ap (λ q. num b q 2) (let same : p + 6 ≡ ((p + 2) + 2) + 2 = omega arith in same) ∙ f
    by_pair (suc (suc (suc (suc j)))) a c d f less = absurd (omega (arith, less))

pub four_unset : (b : Bytes) (p slot k : ℕ) → num b (vtable b p + (4 + 2 * slot)) 8 ≡ 0 → slot ≤ k → k < slot + 4
    → slot_number b p k ≡ 0
unfolding slot_number
four_unset b p slot k e low less =
    let place : vtable b p + (4 + 2 * k) ≡ (vtable b p + (4 + 2 * slot)) + 2 * (k - slot) = omega (arith, low) in
    let pair : num b (vtable b p + (4 + 2 * k)) 2 ≡ 0 =
    ap (λ q. num b q 2) place ∙ pair_unset b (vtable b p + (4 + 2 * slot)) (k - slot) e (omega (arith, low, less)) in
    rw pair (by_test (nat_le (6 + 2 * k) (num b (vtable b p) 2)))
  where
    by_test : (c : Bool) → cond {A = ℕ} c 0 0 ≡ 0
    by_test true = refl
    by_test false = refl
