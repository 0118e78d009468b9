use Rattle.std.proofs.Common.{[], sym, ◌∙◌, arith}
use Rattle.std.proofs.lemmas.Result.{err_from_is_err_and}
use Rattle.fb_syntax.specs.Rules.{closes, push}
use Rattle.fb_syntax.proofs.Repeat.{kept_ok, begins, goes_on, ends, fails}
use Rattle.fb_syntax.proofs.parser.Parser.items.Goals as goal

pub returns-in_err-item-clause-exact : goal.returns-in_err-item-clause-exact
returns-in_err-item-clause-exact g c =
    let p = err_from_is_err_and c.from_residual.result c.from_residual.ensures.1 in
    rw (p.1, p.2) (fails g.T.ListItem.rule.read (closes c.args.close) push [] c.in_err-item.field-0.0 _ _ _
    c.loop-close.invariant.so_far (sym c.is_closed.ensures ∙ c.loop-close-test.true) c.in_err-item.ensures.exact)

pub loop-close-init : goal.loop-close-init
loop-close-init g c = record {
  within = omega arith;
  so_far =
      rw c.new-items.ensures.items (begins g.T.ListItem.rule.read (closes c.args.close) push [] _);
}

pub loop-close-preserved : goal.loop-close-preserved
loop-close-preserved g c =
    record {
      within = omega (arith, c.in_ok-item.ensures.shorter, c.loop-close.invariant.within);
      so_far = rw (rw (kept_ok c.push.result _ _ (sym c.or.ensures ∙ c.in_ok-or.was)) at c.push.ensures.items)
          (goes_on g.T.ListItem.rule.read (closes c.args.close) push [] _ _ _ _ c.in_ok-item.item
          c.in_ok-item.ensures.shorter c.loop-close.invariant.so_far
          (sym c.is_closed.ensures ∙ c.loop-close-test.true) c.in_ok-item.ensures.exact);
    }

pub returns-clause-exact : goal.returns-clause-exact
returns-clause-exact g c = ends g.T.ListItem.rule.read (closes c.args.close) push [] _ _ _ c.loop-close.invariant.so_far
    (sym c.is_closed.ensures ∙ c.loop-close-test.false)
