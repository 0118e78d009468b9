-- What few slots have is the first of some places.
use Rattle.std.proofs.Common.{◌≡◌, ◌≤◌, ◌<◌, ℕ, zero, suc, List, Option, None, true, replicate, set, nat_le}
use Rattle.std.proofs.Common.{arith}
use Rattle.std.proofs.Math.Seq.{take-set-lt}
use Rattle.std.proofs.lemmas.Bool.Decides.{nat_tests}
use Rattle.std.proofs.lemmas.List.{drop-replicate, length-replicate, take-replicate}
use Rattle.fb_json.specs.SlotMembers.{by_slot, AreFew}

pub put_few : {X : Type 0} (n : ℕ) (few many : List X) → n ≤ 16 → (k : ℕ) (x : X) → k < n
    → by_slot n (set few k x) many ≡ set (by_slot n few many) k x
put_few n few many is k x within =
    let e : nat_le n 16 ≡ true = grind (arith, nat_tests) in
    rw e (take-set-lt n few k x within)

-- ---- places without a member

pub few_empty : {X : Type 0} (n : ℕ) (few many : List (Option X)) → n ≤ 16 → few ≡ replicate 16 None
    → by_slot n few many ≡ replicate n None
few_empty n few many is empty =
    let e : nat_le n 16 ≡ true = grind (arith, nat_tests) in
    rw (e, empty) (take-replicate n 16 None is)

pub are_few_empty : {X : Type 0} (n : ℕ) (few : List (Option X)) → few ≡ replicate 16 None → AreFew n few
are_few_empty {X = X} n few empty = record {
  all = rw empty (length-replicate {A = Option X} 16 None);
  beyond = rw empty (drop-replicate {X = Option X} n 16 None);
}

pub empty_of_no_slots : {X : Type 0} (n : ℕ) (few : List (Option X)) → AreFew n few → n ≡ 0 → few ≡ replicate 16 None
empty_of_no_slots zero few are none = are.beyond
empty_of_no_slots (suc n) few are none = absurd cc
