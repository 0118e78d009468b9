-- Fields that stand in order after a position end after it.
use Rattle.std.proofs.Common.{ℕ, ◌+◌, ◌≤◌, List, [], ◌∷◌, arith}
use Rattle.fb_layout.specs.Laid.{LaidSchema, StoredKind, size_of}
use Rattle.fb_layout.specs.WellMade.{StandInOrder}

pub order_rises : (L : LaidSchema) (p : ℕ) (kinds : List StoredKind) (os : List ℕ) (end : ℕ)
    → StandInOrder L p kinds os end → p ≤ end
order_rises L p [] [] end stand = omega (arith, stand)
order_rises L p (kind ∷ kinds) (o ∷ os) end stand =
    let rest = order_rises L (o + size_of L kind) kinds os end stand.1 in omega (arith, rest, stand.0.above)
order_rises L p _ _ end stand = absurd stand
