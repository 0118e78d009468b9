-- What a walk has counted, one step on.
use Rattle.std.proofs.Common.{◌≡◌, ℕ, ◌+◌, ◌<◌, ◌≤◌, arith}

-- at a part that isn't entered yet, and at one that is
pub not_entered : (ticks spent most : ℕ) → spent ≤ most → ticks + spent ≤ ticks + (most + 1)
not_entered ticks spent most few = omega arith

pub just_entered : (old new spent most : ℕ) → new ≡ old + 1 → spent ≤ most → new + spent ≤ old + (most + 1)
just_entered old new spent most is few = omega arith

-- What was entered and spent before goes with what comes then.
pub entered_then : (old spent mid spent_mid new spent_new last spent_last : ℕ) → mid + spent ≤ old + spent_mid
    → new + spent_mid ≤ mid + spent_new → last ≡ new → spent_last ≡ spent_new → last + spent ≤ old + spent_last
entered_then old spent mid spent_mid new spent_new last spent_last before here is_new is_spent = omega arith

pub refused_then : (old spent mid spent_mid new last most : ℕ) → mid + spent ≤ old + spent_mid
    → new + spent_mid ≤ mid + (most + 1) → last ≡ new → last + spent ≤ old + (most + 1)
refused_then old spent mid spent_mid new last most before here is_new = omega arith

-- What was entered before a fault goes with what was entered on the way to it.
pub exact_then : (old mid new last before here : ℕ) → mid ≡ old + before → new ≡ mid + here → last ≡ new
    → last ≡ old + (before + here)
exact_then old mid new last before here is_mid is_new is_last = omega arith

-- a table itself, and what its entries take
pub table_then : (old mid spent new spent_new : ℕ) → mid ≡ old + 1 → new + (spent + 1) ≤ mid + spent_new
    → new + spent ≤ old + spent_new
table_then old mid spent new spent_new is here = omega arith

pub table_refused_then : (old mid spent new most : ℕ) → mid ≡ old + 1 → new + (spent + 1) ≤ mid + (most + 1)
    → new + spent ≤ old + (most + 1)
table_refused_then old mid spent new most is here = omega arith

pub at_end : (i n : ℕ) → i ≤ n → n ≤ i → i ≡ n
at_end i n few most = omega arith

pub below : (i n m : ℕ) → i < n → n ≤ m → i < m
below i n m less few = omega arith
