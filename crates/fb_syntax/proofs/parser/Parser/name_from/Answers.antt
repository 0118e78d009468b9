use Rattle.std.proofs.Common.{ap, sym, arith, ◌∙◌}
use Rattle.std.proofs.lemmas.Result.{err_from_is_err_and}
use Rattle.fb_syntax.specs.Located.{Located}
use Rattle.fb_syntax.specs.Rules.{dot_word, no_dot, with_word}
use Rattle.fb_syntax.proofs.Agrees.{dot_lacks, dot_read}
use Rattle.fb_syntax.proofs.Repeat.{kept_ok, goes_on, ends, fails}
use Rattle.fb_syntax.proofs.parser.Parser.name_from.Goals as goal

pub returns-in_err-word-clause-exact : goal.returns-in_err-word-clause-exact
returns-in_err-word-clause-exact c =
    let p = err_from_is_err_and c.from_residual.result c.from_residual.ensures.1 in
    let dot = dot_read _ _ _ (rw c.loop-self-test.true at c.skip.ensures.exact) in
    rw (p.1, p.2) (fails dot_word.read no_dot with_word _ c.in_err-word.field-0.0 _ _ _ c.loop-self.invariant.so_far
    dot.0 (rw dot.1 c.in_err-word.ensures.exact))

pub loop-self-preserved : goal.loop-self-preserved
loop-self-preserved c =
    let dot = dot_read _ _ _ (rw c.loop-self-test.true at c.skip.ensures.exact) in
    record {
      within = omega (
        arith,
        c.skip.ensures.shorter c.loop-self-test.true,
        c.in_ok-word.ensures.shorter,
        c.loop-self.invariant.within,
      );
      so_far = rw (
        rw (kept_ok c.join.result _ _ (sym c.or.ensures ∙ c.in_ok-name.was)) at c.join.ensures,
        ap (λ (t : Located). t.bytes) c.word.view_is,
      )
          (goes_on dot_word.read no_dot with_word _ _ _ _ _ _
          (omega (arith, c.skip.ensures.shorter c.loop-self-test.true, c.in_ok-word.ensures.shorter))
          c.loop-self.invariant.so_far dot.0 (dot.1 ∙ c.in_ok-word.ensures.exact));
    }

pub returns-clause-exact : goal.returns-clause-exact
returns-clause-exact c = let over = rw c.loop-self-test.false at c.skip.ensures.exact in
    rw over.1 (ends dot_word.read no_dot with_word _ _ _ _ c.loop-self.invariant.so_far (dot_lacks _ over.0))
