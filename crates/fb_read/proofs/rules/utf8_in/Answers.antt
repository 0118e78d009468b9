use Rattle.std.proofs.Common.{arith}
use Rattle.std.proofs.lemmas.Str.{utf8_valid_len-IsUtf8, IsUtf8-from_ascii}
use Rattle.fb_read.proofs.rules.utf8_in.Goals as goal

pub from_utf8_unchecked-requires : goal.from_utf8_unchecked-requires
from_utf8_unchecked-requires c = IsUtf8-from_ascii c.args.bytes.now (rw c.if-is_ascii.true at c.is_ascii.ensures.cases)

pub returns-then-is_ascii-clause-valid : goal.returns-then-is_ascii-clause-valid
returns-then-is_ascii-clause-valid c = utf8_valid_len-IsUtf8 c.args.bytes.now
    (IsUtf8-from_ascii c.args.bytes.now (rw c.if-is_ascii.true at c.is_ascii.ensures.cases))

pub from_utf8_unchecked-requires-2 : goal.from_utf8_unchecked-requires-2
from_utf8_unchecked-requires-2 c = c.valid_up_to-valid.ensures.whole (grind arith)

pub returns-clause-valid : goal.returns-clause-valid
returns-clause-valid c = utf8_valid_len-IsUtf8 c.args.bytes.now (c.valid_up_to-valid.ensures.whole (grind arith))
