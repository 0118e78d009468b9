use Rattle.std.proofs.Common.{map, string_bytes}
use Rattle.fb_schema.specs.Schema.{body_at}
use Rattle.fb_conform.proofs.members.OneMemberMore.{CodesKept}
use Rattle.fb_conform.proofs.members.keeps_codes.Given as goal

abbrev pub invariant-loop-i : goal.invariant-loop-i
invariant-loop-i l = CodesKept l.old.schema l.new.schema (map (λ m. (string_bytes m.0, m.1.0)) l.members)
    (body_at l.new.schema l.union.0) l.i
