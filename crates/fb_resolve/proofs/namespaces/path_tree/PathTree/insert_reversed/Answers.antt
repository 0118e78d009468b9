use Rattle.std.proofs.Common.{rules, ap, reverse, Some, None}
use Rattle.std.proofs.lemmas.Result.{IfOk-weaker}
use Rattle.fb_resolve.specs.Words.{words}
use Rattle.fb_resolve.specs.PathTree.{paths}
use Rattle.fb_resolve.proofs.namespaces.WordsSplit.{words-last}
use Rattle.fb_resolve.proofs.namespaces.PathsLeft.{left_more, left_last, reversed_last}
use Rattle.fb_resolve.proofs.namespaces.path_tree.PathTree.insert_reversed.Goals as goal

pub loop-before-preserved : goal.loop-before-preserved
loop-before-preserved c =
    let rest = c.loop-before.rest.now in
    let split = words-last rest (Some (c.in-Some.before, c.in-Some.word)) c.in-Some.ensures.cases in
    record {
      text = search rules;
      tree = search rules;
      kept = λ n p at. c.in_ok-path.ensures.kept n p (c.loop-before.invariant.kept n p at);
      left = left_more (paths c.loop-before.self) (paths c.insert.new.self) c.loop-before.path c.in_ok-path.path
          c.in-Some.word.now (reverse (words rest)) (reverse (words c.in-Some.before.now))
          (reverse (words c.args.name.now))
          c.loop-before.invariant.left (reversed_last (words c.in-Some.before.now) c.in-Some.word.now
          (words rest) split) c.in_ok-path.ensures.child;
    }

pub returns-clause-path : goal.returns-clause-path
returns-clause-path c =
    let rest = c.loop-before.rest.now in
    let one = words-last rest None c.in_default.ensures.cases in
    IfOk-weaker c.insert-2.result _ _ (λ n at. left_last (paths c.loop-before.self)
    (paths c.insert-2.new.self) c.loop-before.path n rest (reverse (words rest))
    (reverse (words c.args.name.now)) c.loop-before.invariant.left (ap reverse one) at) c.insert-2.ensures.child
