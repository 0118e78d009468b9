use Rattle.std.proofs.Common.{◌-◌, ◌<◌, ◌≡◌, length, drop, arith, refl, [], Option, None, Some, Result}
use Rattle.std.proofs.Common.{length-drop}
use Rattle.std.specs.Iterator.{MakesProgress, at_most}
use Rattle.std.proofs.lemmas.List.{take_rest, drop-drop}
use Rattle.std.proofs.lemmas.Grind.{common_steps}
use Rattle.fb_syntax.specs.declared.scan.GapOrToken.TheVariants as pieces
use Rattle.fb_syntax.specs.declared.scan.Tokens.{Tokens}
use Rattle.fb_syntax.specs.declared.tokens.Token.{Token}
use Rattle.fb_syntax.specs.declared.tokens.BadToken.{BadToken}
use Rattle.fb_syntax.specs.NextToken.{GivesToken, ended, after_gap, longest, refused}
use Rattle.fb_syntax.proofs.FrontPieces.{piece_within}
use Rattle.fb_syntax.proofs.scan.TokensIterator.next.Goals as goal

makes_progress : (old new : Tokens) (found : Option (Result Token BadToken)) → GivesToken old found new
    → MakesProgress (λ _. Unit {0}) (λ tokens. at_most (length tokens.text.now - tokens.at)) old found new
makes_progress old new None h = record { on = λ _. tt; keeps = tt; rests = λ _. tt }
makes_progress old new (Some f) h = record { on = λ _. (tt, tt, less); keeps = tt; rests = λ _. tt } where
  less : length new.text.now - new.at < length old.text.now - old.at
  less = rw h.text (omega (arith, h.passed, (h.part).after, (h.part).some, (h.part).within))

pub loop-self-init : goal.loop-self-init
loop-self-init c = record { text = refl; after = omega arith; gaps = λ found next. next }

pub overflow_add-self : goal.overflow_add-self
overflow_add-self c =
    let gap = rw (take_rest, c.in-Ok-Gap.field-0-is) at c.in-Ok-Gap.ensures.piece in
    let within = piece_within (pieces.Gap c.in-Ok-Gap.len) _ gap in
    rw c.in-Ok-Gap.field-0-is (omega (arith, within.1, length-drop c.loop-self.self.at c.loop-self.self.text.now))

pub loop-self-preserved : goal.loop-self-preserved
loop-self-preserved c =
    let old = c.loop-self.invariant in
    let gap = rw (take_rest, old.text, c.in-Ok-Gap.field-0-is) at c.in-Ok-Gap.ensures.piece in
    rw c.in-Ok-Gap.field-0-is (record {
      text = old.text;
      after = omega (arith, old.after);
      gaps = λ found next. old.gaps found (after_gap c.in-Ok-Gap.len gap
          (rw (drop-drop c.in-Ok-Gap.len c.loop-self.self.at c.args.self.now.text.now) next));
    })

pub returns-in-Ok-Token-clause-steps : goal.returns-in-Ok-Token-clause-steps
returns-in-Ok-Token-clause-steps c =
    let old = c.loop-self.invariant in
    let here = rw (take_rest, old.text, c.in-Ok-Token.field-0-is) at c.in-Ok-Token.ensures.piece in
    let within = piece_within (pieces.Token c.in-Ok-Token.kind c.in-Ok-Token.len) _ here in
    rw c.in-Ok-Token.field-0-is (record {
      text = old.text;
      next = old.gaps _ (longest c.in-Ok-Token.kind c.in-Ok-Token.len here.0 here.1);
      part = record {
        after = old.after;
        some = omega (arith, within.0);
        within = omega (arith, within.1, length-drop c.loop-self.self.at c.args.self.now.text.now);
      };
      passed = refl;
    })

pub returns-in-Ok-Token-clause-goes : goal.returns-in-Ok-Token-clause-goes
returns-in-Ok-Token-clause-goes c = makes_progress _ _ _ (returns-in-Ok-Token-clause-steps c)

pub returns-in-Err-clause-steps : goal.returns-in-Err-clause-steps
returns-in-Err-clause-steps c =
    let old = c.loop-self.invariant in
    let none = rw (take_rest, old.text) at c.in-Err.ensures.piece in
    let test = rw old.text at c.loop-self-test.true in
    let some : 0 < length (drop c.loop-self.self.at c.args.self.now.text.now) =
    omega (arith, test, length-drop c.loop-self.self.at c.args.self.now.text.now) in
    let len = rw (take_rest, old.text) at c.refused_len-len.ensures.some in
    let within = rw (take_rest, old.text) at c.refused_len-len.ensures.within in
    record {
      text = old.text;
      next = rw (c.in-Err.ensures.fault, c.refused_len-len.ensures.len, take_rest, old.text)
          (old.gaps _ (refused some none));
      part = record {
        after = old.after;
        some = omega (arith, len some);
        within = omega (arith, test, within, length-drop c.loop-self.self.at c.args.self.now.text.now);
      };
      passed = refl;
    }

pub returns-in-Err-clause-goes : goal.returns-in-Err-clause-goes
returns-in-Err-clause-goes c = makes_progress _ _ _ (returns-in-Err-clause-steps c)

pub returns-clause-steps : goal.returns-clause-steps
returns-clause-steps c =
    let old = c.loop-self.invariant in
    let last = rw old.text at c.loop-self-test.false in
    let none : drop c.loop-self.self.at c.args.self.now.text.now ≡ [] = grind (arith, common_steps, last) in
    record { text = old.text; next = old.gaps _ (rw none ended); part = tt; passed = last }
