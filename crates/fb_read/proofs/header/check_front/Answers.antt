use Rattle.std.proofs.Common.{◌≡◌, ◌∙◌, List, Option, None, Some, Result, Ok, Err, MatchResult, true}
use Rattle.std.proofs.lemmas.Result.{err_from_is_err_and}
use Rattle.fb_value.specs.declared.faults.ReadFault.{ReadFault}
use Rattle.fb_value.specs.Num.{Bytes}
use Rattle.fb_value.specs.Rules.{Rule, first_failing}
use Rattle.fb_value.specs.Holds.{prefix_rules, header_rules, front_fault, prefixed_fault}
use Rattle.fb_read.proofs.header.check_front.Goals as goal

-- the rules of the size prefix, and then those of the header after it
in_turn : (b : Bytes) (o : Option Bytes) (r : Option ReadFault)
    → first_failing (prefix_rules b (header_rules 4 b o)) ≡ r → front_fault true b o ≡ r
unfolding prefixed_fault
in_turn b o r e = e

passed_on : (b : Bytes) (o : Option Bytes) (r : Result (Unit {0}) ReadFault)
    → ((others : List Rule) → first_failing (prefix_rules b others) ≡ first_failing others)
    → MatchResult r (λ x. first_failing (header_rules 4 b o) ≡ None) (λ f. first_failing (header_rules 4 b o) ≡ Some f)
    → MatchResult r (λ x. front_fault true b o ≡ None) (λ f. front_fault true b o ≡ Some f)
passed_on b o (Ok x) passes h = in_turn b o None (passes (header_rules 4 b o) ∙ h)
passed_on b o (Err f) passes h = in_turn b o (Some f) (passes (header_rules 4 b o) ∙ h)

pub returns-clause-rules : goal.returns-clause-rules
returns-clause-rules c =
    rw c.if-not-prefixed.false (passed_on c.args.bytes.now c.args.identifier c.check_header-2.result
    c.in_ok-check_prefix.ensures.rules c.check_header-2.ensures.rules)

pub returns-in_err-check_prefix-clause-rules : goal.returns-in_err-check_prefix-clause-rules
returns-in_err-check_prefix-clause-rules c =
    let p = err_from_is_err_and c.from_residual.result c.from_residual.ensures.1 in
    rw (p.1, p.2) (rw c.if-not-prefixed.false (in_turn c.args.bytes.now c.args.identifier _
    (c.in_err-check_prefix.ensures.rules (header_rules 4 c.args.bytes.now c.args.identifier))))
