use Rattle.std.proofs.Common.{◌≡◌, ◌++◌, replicate}
use Rattle.fb_encode.proofs.reader.Reader.put_in_brackets.Given as goal

-- The opening brackets are there.
abbrev pub invariant-loop : goal.invariant-loop
invariant-loop l = l.self.bracketed.items ≡ replicate l.counter 91

-- Then the text, and closing ones.
abbrev pub invariant-loop-2 : goal.invariant-loop-2
invariant-loop-2 l = l.self.bracketed.items ≡ replicate l.brackets 91 ++ (l.text ++ replicate l.counter 93)
