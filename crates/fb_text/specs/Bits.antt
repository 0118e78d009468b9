-- Which of an enum's bits have names.
use Rattle.std.specs.Prelude.{◌≡◌, ℕ, ◌<◌, ◌^◌, pos, true, is_some}
use Rattle.fb_schema.specs.Schema.{DeclaredBody}
use Rattle.fb_schema.specs.Found.{name_numbered}

-- each bit at a place below n
abbrev pub AreBitsNamed : DeclaredBody → ℕ → Type 0
AreBitsNamed body n = (k : ℕ) → k < n → is_some (name_numbered body (pos (2 ^ k))) ≡ true
