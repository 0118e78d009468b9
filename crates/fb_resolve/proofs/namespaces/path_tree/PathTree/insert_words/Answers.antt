use Rattle.std.proofs.Common.{arith, rules, ◌++◌, [], get_or}
use Rattle.std.proofs.lemmas.Result.{IfOk-weaker}
use Rattle.fb_resolve.specs.Words.{words}
use Rattle.fb_resolve.specs.PathTree.{paths}
use Rattle.fb_resolve.proofs.namespaces.WordsSplit.{words-first, words-one}
use Rattle.fb_resolve.proofs.namespaces.PathsLeft.{left_more, left_last}
use Rattle.fb_resolve.proofs.namespaces.path_tree.PathTree.insert_words.Goals as goal

pub loop-word-preserved : goal.loop-word-preserved
loop-word-preserved c =
    let split = c.in-Some.ensures.byte (omega arith) (λ w o h. h) in
    let rest = c.loop-word.rest.now in
    record {
      text = search rules;
      tree = search rules;
      kept = λ n p at. c.in_ok-path.ensures.kept n p (c.loop-word.invariant.kept n p at);
      left = left_more (paths c.loop-word.self) (paths c.insert.new.self) c.loop-word.path c.in_ok-path.path
          c.in-Some.word.now (words rest) (words c.in-Some.behind.now)
          (get_or (paths c.args.self.now) c.args.path [] ++ words c.args.name.now)
          c.loop-word.invariant.left (words-first rest c.in-Some.word.now c.in-Some.behind.now split.0 split.1 split.2)
          c.in_ok-path.ensures.child;
    }

pub returns-clause-path : goal.returns-clause-path
returns-clause-path c =
    let rest = c.loop-word.rest.now in
    let one = words-one rest (c.in_default.ensures.byte (omega arith) (λ w o h. h)) in
    IfOk-weaker c.insert-2.result _ _ (λ n at. left_last (paths c.loop-word.self)
    (paths c.insert-2.new.self) c.loop-word.path n rest (words rest)
    (get_or (paths c.args.self.now) c.args.path [] ++ words c.args.name.now) c.loop-word.invariant.left one at)
    c.insert-2.ensures.child
