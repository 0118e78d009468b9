use Rattle.json.specs.Written.{PlainBetween}
use Rattle.fb_text.proofs.plain.is_each_plain.Given as goal

abbrev pub invariant-loop-byte : goal.invariant-loop-byte
invariant-loop-byte l = PlainBetween l.text 0 l.byte-index
