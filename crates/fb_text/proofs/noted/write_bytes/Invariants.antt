use Rattle.std.proofs.Common.{◌≡◌, ◌≤◌, ◌-◌, length, take, false}
use Rattle.std.specs.Io.KnownBytes.{Appends}
use Rattle.fb_text.proofs.noted.write_bytes.Given as goal

-- the writer has got the bytes up to `at`, and no write failed
abbrev pub invariant-loop-at : goal.invariant-loop-at
invariant-loop-at g l = record {
  within : l.at ≤ length l.bytes;
  fine : l.failed ≡ false;
  got : Appends (g.W.Write.contents l.initial.inner) (g.W.Write.contents l.inner) (take l.at l.bytes);
}

abbrev pub decreases-loop-at : goal.decreases-loop-at
decreases-loop-at g l = length l.bytes - l.at
