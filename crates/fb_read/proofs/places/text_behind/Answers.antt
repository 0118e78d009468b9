use Rattle.std.proofs.Common.{◌≡◌, ◌+◌, ◌-◌, arith}
use Rattle.std.proofs.lemmas.Str.{IsUtf8-from_is_utf8}
use Rattle.fb_read.proofs.places.text_behind.Goals as goal

pub from_utf8_unchecked-requires : goal.from_utf8_unchecked-requires
from_utf8_unchecked-requires c = IsUtf8-from_is_utf8 _
    (rw (c.u32_at-2.ensures, c.u32_at.ensures) (rw (long _ _) c.requires.valid))
  where
    long : (p n : _) → (((p + 4) + n) - (p + 4)) ≡ n
    long p n = omega arith
