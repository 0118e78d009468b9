-- Bytes that nothing takes.
use Rattle.std.specs.Prelude.{ℕ, zero, suc, ◌+◌, ◌≡◌, ◌<◌, ◌↔◌, Bool, true, false, ◌&&◌, ◌||◌, ◌==◌, nat_lt, nat_le}
use Rattle.std.specs.Prelude.{slice_index}
use Rattle.fb_value.specs.Num.{Bytes}

-- whether byte i is one of so many from a position on
abbrev pub is_within : ℕ → ℕ → ℕ → Bool
is_within at size i = nat_le at i && nat_lt i (at + size)

-- Of n bytes from p on, those that aren't taken are 0.
abbrev pub ZeroUnless : (ℕ → Bool) → Bytes → ℕ → ℕ → Type 0
ZeroUnless taken b p n = (i : ℕ) → i < n → taken i ≡ false → slice_index b (p + i) ≡ 0

-- the same, computed
unfoldable pub are_zero_unless : (ℕ → Bool) → Bytes → ℕ → ℕ → Bool
are_zero_unless taken b p zero = true
are_zero_unless taken b p (suc n) = (taken n || (slice_index b (p + n) == 0)) && are_zero_unless taken b p n

-- What is computed is whether those bytes are 0.
abbrev pub ZeroIsComputed : Type 0
ZeroIsComputed = (taken : ℕ → Bool) (b : Bytes) (p n : ℕ)
    → (are_zero_unless taken b p n ≡ true) ↔ ZeroUnless taken b p n
