use Rattle.std.proofs.Common.{◌≡◌, sym, ◌∙◌, refl, Some, Ok, Err, Result, IfErr, length, drop}
use Rattle.std.specs.Prelude.{IsErrAnd}
use Rattle.fb_syntax.specs.NextToken.{ComesNext}
use Rattle.fb_syntax.specs.Refusals.{IsTokenFault, StandsWithin}
use Rattle.fb_syntax.specs.declared.faults.SyntaxFault.{SyntaxFault}
use Rattle.fb_syntax.proofs.Repeat.{kept_ok}
use Rattle.fb_syntax.proofs.BadTokens.{next_fault}
use Rattle.fb_syntax.proofs.FrontPieces.{begun, over_token, over_bad, over_end}
use Rattle.fb_syntax.proofs.scan.tokens_in.Goals as goal

kept : {X : Type 0} (r : Result X SyntaxFault) (fault : SyntaxFault) (P : SyntaxFault → Type 0)
    → IsErrAnd r (λ e. e ≡ fault) → P fault → IfErr r P
kept (Ok x) fault P same is = tt
kept (Err e) fault P same is = rw same is

pub loop-token-init : goal.loop-token-init
loop-token-init c =
    let of = c.of-token-items.ensures in
    let within = rw (of.at, c.as_bytes.ensures.value) at of.within in
    rw c.into_iter-token-iterator.ensures.into_iter_gives (record {
      text = of.text ∙ c.as_bytes.ensures.value;
      scanned = rw (of.at, c.as_bytes.ensures.value, c.new-found.ensures.items) (begun _ _ within);
    })

pub loop-token-preserved : goal.loop-token-preserved
loop-token-preserved c =
    let old = c.loop-token.invariant in
    let gives = c.in-Some.ensures.steps in
    let pushed = rw (kept_ok c.push.result _ _ (sym c.or.ensures ∙ c.in_ok-or.was)) at c.push.ensures.items in
    let next = rw (old.text, c.in_ok-token.was) at gives.next in
    record {
      text = gives.text ∙ old.text;
      scanned = rw (gives.passed, c.in_ok-token.was, pushed)
          (over_token _ _ _ _ _ c.in_ok-token.field-0 refl old.scanned next);
    }

bad_here : (c : goal.After-drop-found) → ComesNext c.loop-token.token-iterator.at
    (drop c.loop-token.token-iterator.at c.args.text.now) (Some (Err c.in_err-token.field-0.0))
bad_here c = rw (c.loop-token.invariant.text, c.in_err-token.was) at c.in-Some.ensures.steps.next

fault_here : (c : goal.After-drop-found) → IsTokenFault c.in_err-token.field-0.0.fault
    × StandsWithin (length c.args.text.now) c.in_err-token.field-0.0.fault
fault_here c = next_fault _ _ c.in_err-token.field-0.0 (c.loop-token.invariant.scanned).within (bad_here c)

pub returns-in_err-token-clause-only : goal.returns-in_err-token-clause-only
returns-in_err-token-clause-only c = λ tokens spelled. absurd (over_bad _ _ _ _ _ c.in_err-token.field-0.0 refl
    c.loop-token.invariant.scanned (bad_here c) tokens spelled.spelled)

pub returns-in_err-token-clause-fault : goal.returns-in_err-token-clause-fault
returns-in_err-token-clause-fault c = kept _ _ IsTokenFault c.from_residual.ensures.1 (fault_here c).0

pub returns-in_err-token-clause-within : goal.returns-in_err-token-clause-within
returns-in_err-token-clause-within c =
    kept _ _ (StandsWithin (length c.args.text.now)) c.from_residual.ensures.1 (fault_here c).1

pub returns-clause-found : goal.returns-clause-found
returns-clause-found c =
    let old = c.loop-token.invariant in
    let gives = c.in-None.ensures.steps in
    record {
      utf8 = c.utf8.text;
      spelled = (over_end _ _ _ _ _ refl old.scanned (rw old.text at gives.next)).0;
    }

pub returns-clause-only : goal.returns-clause-only
returns-clause-only c =
    let old = c.loop-token.invariant in
    let gives = c.in-None.ensures.steps in
    λ tokens spelled. (over_end _ _ _ _ _ refl old.scanned (rw old.text at gives.next)).1 tokens spelled.spelled
