use Rattle.std.proofs.Common.{rules, ◌≡◌, [], ◌∷◌, length, arith}
use Rattle.std.specs.Prelude.{IsSome}
use Rattle.fb_value.specs.Messages.{whole_rules}
use Rattle.fb_value.specs.Num.{Bytes}
use Rattle.fb_value.specs.Rules.{first_failing}
use Rattle.flatc_jobs.proofs.messages.next_buffer.Goals as goal

-- nothing has no message in front
nothing_is_cut : (b : Bytes) → length b ≡ 0 → IsSome (first_failing (whole_rules b))
unfolding first_failing
nothing_is_cut [] none = search rules
nothing_is_cut (x ∷ b) none = absurd (omega arith)

pub returns-in-Ok-None : goal.returns-in-Ok-None
returns-in-Ok-None c =
    (search rules, nothing_is_cut c.args.bytes.now (rw c.in-Ok-None.field-0-is at c.in-Ok-None.ensures.message))
