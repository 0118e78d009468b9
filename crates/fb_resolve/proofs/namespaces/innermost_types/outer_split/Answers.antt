use Rattle.std.proofs.Common.{rules}
use Rattle.std.proofs.lemmas.Option.{slice_get_within}
use Rattle.fb_resolve.specs.PathTree.{paths}
use Rattle.fb_resolve.proofs.namespaces.PathsLeft.{if_none}
use Rattle.fb_resolve.proofs.namespaces.LastWordMoves.{no_shorter, one_shorter, same_moved}
use Rattle.fb_resolve.proofs.namespaces.innermost_types.outer_split.Goals as goal

pub returns-in_err-longer-clause-last : goal.returns-in_err-longer-clause-last
returns-in_err-longer-clause-last c = if_none {P = Unit {0}} c.from_residual-in_err-longer.result
    (λ u p n at_path at_name same.
    no_shorter (paths c.args.tree.now) c.args.used.now c.requires.used c.args.path c.args.name c.in_ok-outer.outer
    c.in_ok-outer.word.now c.in_ok-outer.ensures.word c.in_err-longer.ensures.missing p n at_name same)
    (search rules)

pub returns-clause-path : goal.returns-clause-path
returns-clause-path c = c.in_ok-outer.ensures.before

pub returns-clause-name : goal.returns-clause-name
returns-clause-name c = slice_get_within (paths c.args.used.now) c.in_ok-longer.longer _ c.in_ok-longer.ensures.found

pub returns-clause-same : goal.returns-clause-same
returns-clause-same c = same_moved (paths c.args.tree.now) (paths c.args.used.now) c.args.path c.args.name
    c.in_ok-outer.outer c.in_ok-longer.longer c.in_ok-outer.word.now c.in_ok-outer.ensures.word
    c.in_ok-longer.ensures.found

pub returns-clause-shorter : goal.returns-clause-shorter
returns-clause-shorter c = one_shorter (paths c.args.tree.now) c.args.path c.in_ok-outer.outer c.in_ok-outer.word.now
    c.in_ok-outer.ensures.word
