use Rattle.std.proofs.Common.{ap, rules}
use Rattle.std.specs.Option.{option_map}
use Rattle.flatc_tool.proofs.checks.RefusedBytesAreUnsound.{accepted_of, some_unsound}
use Rattle.flatc_tool.proofs.checks.check.Goals as goal

pub returns-in-Err-clause-exact : goal.returns-in-Err-clause-exact
returns-in-Err-clause-exact c rule sound =
    let accepted = accepted_of c.args.schema.now _ c.args.limits c.args.raw sound in
    c.in-Err.ensures.exact rule accepted.0 accepted.1

pub returns-in-Ok-verify-clause-sound : goal.returns-in-Ok-verify-clause-sound
returns-in-Ok-verify-clause-sound c = search rules

pub returns-clause-sound : goal.returns-clause-sound
returns-clause-sound c = tt

pub returns-clause-refused : goal.returns-clause-refused
returns-clause-refused c =
    rw c.in-Some.is (c.in-Ok.layout, c.in-Ok.ensures.accepted, c.in-Err-verify.ensures.fault)

pub returns-clause-exact : goal.returns-clause-exact
returns-clause-exact c rule =
    some_unsound c.layer_laws.ensures.laws c.args.schema.now (option_map (λ b. b.now) c.args.bytes) c.in-Some.bytes.now
    c.args.limits c.args.raw c.in-Ok.layout c.in-Err-verify.fault (ap (option_map (λ b. b.now)) c.in-Some.is)
    c.in-Ok.ensures.accepted c.in-Err-verify.ensures.fault
