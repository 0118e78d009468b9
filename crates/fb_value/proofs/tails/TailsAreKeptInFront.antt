-- The laws of tails.
use Rattle.std.proofs.Common.{◌≡◌, ℕ, ◌+◌, ◌-◌, ◌%◌, ◌≤◌, ◌++◌, true, length, slice_index, refl, ap, sym, ◌∙◌}
use Rattle.std.proofs.Common.{arith, length-append}
use Rattle.std.proofs.lemmas.Bool.{eqb-true, eq-eqb, and_parts, and_from}
use Rattle.std.proofs.lemmas.List.{get_or-append-add}
use Rattle.std.proofs.Math.Nat.{dvd_iff_mod-eq-zero, dvd-sub, mod-mod_of_dvd, zero-mod}
use Rattle.fb_value.specs.Datum.{Datum}
use Rattle.fb_value.specs.Num.{Bytes, divides}
use Rattle.fb_layout.specs.Laid.{LaidSchema}
use Rattle.fb_value.specs.Places.{Sort}
use Rattle.fb_value.specs.Rules.{Aligned, from_start}
use Rattle.fb_value.specs.Lies.{LiesAtBy}
use Rattle.fb_value.specs.Tails.{from_end}
use Rattle.fb_value.specs.EachTable.{IsOldTable}
use Rattle.fb_value.specs.TailLaws.{KeptInFront, KeptByMultiple, LiesInWhole, OldKeptInFront}
use Rattle.fb_value.proofs.tails.SameBytesHoldTheSameFurtherOn.{at_moved, each_at_moved}

zero_rest : (a n : ℕ) → divides a n ≡ true → n % a ≡ 0
zero_rest a n h = eqb-true _ _ h

-- a divides m, and m divides n
pub through : (a m n : ℕ) → divides a m ≡ true → divides m n ≡ true → divides a n ≡ true
through a m n am mn =
    let step : (n % m) % a ≡ n % a = mod-mod_of_dvd a n ((dvd_iff_mod-eq-zero a).1 (zero_rest a m am)) in
    let none : (n % m) % a ≡ 0 = ap (λ x. x % a) (zero_rest m n mn) ∙ zero-mod a in
    eq-eqb _ _ (sym step ∙ none)

-- what a multiple is less of a multiple
pub from_other_end : (a n p : ℕ) → p ≤ n → divides a n ≡ true → divides a (n - p) ≡ true → divides a p ≡ true
from_other_end a n p within whole rest =
    let both = dvd-sub a ((dvd_iff_mod-eq-zero a).1 (zero_rest a n whole))
    ((dvd_iff_mod-eq-zero a).1 (zero_rest a (n - p) rest)) in
    let back : n - (n - p) ≡ p = omega arith in
    eq-eqb _ _ (ap (λ x. x % a) (sym back) ∙ (dvd_iff_mod-eq-zero a).0 both)

pub front_shown : KeptInFront
front_shown L m front s sort e d h =
    let whole : length (front ++ s) ≡ length front + length s = length-append front s in
    let at : length front + (length s - e) ≡ length (front ++ s) - e = omega (arith, h.within, whole) in
    record {
      within = omega (arith, h.within, whole);
      lies = rw (← at) (at_moved L (from_end s m) (from_end (front ++ s) m) s (front ++ s) (length front)
          (omega (arith, whole))
          (λ i. get_or-append-add front s i 0) (λ a p low is. same a p whole is) sort (length s - e) d h.lies);
    }
  where
    same : (a p : ℕ) → length (front ++ s) ≡ length front + length s → from_end s m a p ≡ true
        → from_end (front ++ s) m a (length front + p) ≡ true
    same a p whole is =
        let count : length (front ++ s) - (length front + p) ≡ length s - p = omega (arith, whole) in
        rw count is

-- the same bytes, under another notion of multiples
at_once : (L : LaidSchema) (al al2 : Aligned) (b : Bytes) → ((a p : ℕ) → p ≤ length b → al a p ≡ true → al2 a p ≡ true)
    → (sort : Sort) (p : ℕ) (d : Datum) → LiesAtBy al L b sort p d → LiesAtBy al2 L b sort p d
at_once L al al2 b same sort p d h =
    let still : (q : ℕ) → 0 + q ≡ q = λ q. omega arith in
    rw (← (still p)) (at_moved L al al2 b b 0 (omega arith) (λ i. ap (λ j. slice_index b j) (still i))
    (λ a q low is. rw (still q) (same a q low is)) sort p d h)

pub multiple_shown : KeptByMultiple
multiple_shown L m n s sort e d mn h =
    record {
      within = h.within;
      lies = at_once L (from_end s m) (from_end s n) s (λ a p low is. same a p is) sort (length s - e) d h.lies;
    }
  where
    same : (a p : ℕ) → from_end s m a p ≡ true → from_end s n a p ≡ true
    same a p is =
        let parts = and_parts (divides a (length s - p)) (divides a m) is in
        and_from _ _ parts.0 (through a m n parts.1 mn)

pub whole_shown : LiesInWhole
whole_shown L m s sort e d whole h =
    at_once L (from_end s m) from_start s (λ a p low is. same a p low is) sort (length s - e) d h.lies
  where
    same : (a p : ℕ) → p ≤ length s → from_end s m a p ≡ true → from_start a p ≡ true
    same a p low is =
        let parts = and_parts (divides a (length s - p)) (divides a m) is in
        from_other_end a (length s) p low (through a m (length s) parts.1 whole) parts.0

pub old_shown : OldKeptInFront
old_shown L m front s sort e d h old =
    let whole : length (front ++ s) ≡ length front + length s = length-append front s in
    let at : length front + (length s - e) ≡ length (front ++ s) - e = omega (arith, h.within, whole) in
    rw (← at) (each_at_moved L (from_end s m) (λ a p. true) s (front ++ s) (length front) (omega (arith, whole))
    (λ i. get_or-append-add front s i 0) (λ a p low is. refl)
    (λ t p. IsOldTable L s t p) (λ t p. IsOldTable L (front ++ s) t p) (λ t p slots known j out. slots j ∙ known j out)
    sort (length s - e) d h.lies old)
