-- The rooms of all parts are summed up, also where they are too big for a buffer together.
use Rattle.std.proofs.Common.{ℕ, ◌+◌, ◌-◌, ◌^◌, ◌≡◌, ◌≤◌, ◌<◌, min, ◌↔◌, IsTrue, true, false, ap, sym, ◌∙◌}
use Rattle.std.proofs.Common.{refl, arith}
use Rattle.fb_value.specs.UpTo.{at_most_usize}
use Rattle.fb_value.specs.Bounds.{most_bytes}
use Rattle.fb_tape.specs.Tapes.{Taped}

-- A tape that isn't over a buffer's most bytes has room for each of them.
pub not_over : (room : ℕ) → (IsTrue false ↔ (most_bytes < room)) → room ≤ most_bytes
not_over room over = grind (arith, over.1)

pub room_added : (before own room after : ℕ) → after ≡ min (before + own) (2 ^ 64 - 1) → own ≡ at_most_usize room
    → (IsTrue false ↔ (most_bytes < after)) → after ≡ before + room
room_added before own room after sum is over = let small = not_over after over in omega (arith, sum, is, small)

-- the tape t with this room
abbrev pub with_room : Taped → ℕ → Taped
with_room t room = record t { room = room }

-- what it is where that isn't over
pub room_known : (before sized : Taped) (own room : ℕ) → sized ≡ with_room before (at_most_usize (before.room + own))
    → own ≡ at_most_usize room → (IsTrue false ↔ (most_bytes < sized.room))
    → at_most_usize (before.room + own) ≡ before.room + room
room_known before sized own room e is over =
    let sum : sized.room ≡ at_most_usize (before.room + own) = ap (λ (t : Taped). t.room) e in
    sym sum ∙ room_added before.room own room sized.room sum is over

-- Nothing is said of a tape that is over.
pub over_fits : {P : Type 0} (room held : ℕ) → (IsTrue true ↔ (most_bytes < room)) → held ≡ room
    → held ≤ most_bytes → P
over_fits room held over same fits = let past = over.0 refl in absurd (omega (arith, past, same, fits))

-- The rooms of all parts are cut off at most once.
pub room_capped : (before own room after : ℕ) → after ≡ at_most_usize (before + own) → own ≡ at_most_usize room
    → after ≡ at_most_usize (before + room)
room_capped before own room after sum is = omega (arith, sum, is)

pub room_is : (before sized : Taped) (own room : ℕ) → sized ≡ with_room before (at_most_usize (before.room + own))
    → own ≡ room → sized.room ≡ at_most_usize (before.room + room)
room_is before sized own room e is =
    ap (λ (t : Taped). t.room) e ∙ ap (λ n. at_most_usize (before.room + n)) is
