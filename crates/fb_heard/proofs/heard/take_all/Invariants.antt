use Rattle.std.proofs.Common.{◌≡◌, ◌≤◌, length, take, false}
use Rattle.std.specs.Io.KnownBytes.{Consumes}
use Rattle.fb_heard.specs.Heard.{read_failed, reader_of}
use Rattle.fb_heard.proofs.heard.take_all.Given as goal

-- what is filled is what the reader has given, a byte a turn at the least, and no read failed
abbrev pub invariant-loop : goal.invariant-loop
invariant-loop g l = record {
  turns : l.counter ≤ l.filled;
  few : l.filled ≤ l.limit;
  room : l.filled ≤ length l.found.items;
  calm : read_failed l.from ≡ false;
  given : Consumes (g.R.Read.remaining (reader_of l.initial.from)) (g.R.Read.remaining (reader_of l.from))
      (take l.filled l.found.items);
}
