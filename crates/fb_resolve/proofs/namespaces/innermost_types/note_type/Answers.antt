use Rattle.std.proofs.Common.{rules, ◌∙◌, [], get_or, arith}
use Rattle.fb_resolve.specs.PathTree.{paths}
use Rattle.fb_resolve.specs.NamedTypes.{type_at}
use Rattle.fb_resolve.proofs.namespaces.innermost_types.TypeIsNotedForEachUse.{noting_first, noting_more}
use Rattle.fb_resolve.proofs.namespaces.innermost_types.TypeIsNotedForEachUse.{outer_split_of}
use Rattle.fb_resolve.proofs.namespaces.innermost_types.note_type.Goals as goal

pub loop-next-init : goal.loop-next-init
loop-next-init c = record {
  room = c.requires.room;
  noting = noting_first (paths c.args.tree.now) (paths c.args.used.now) c.args.full_name c.args.number
      (type_at c.args.noted.now) c.requires.full_name c.requires.used.first;
}

pub loop-next-preserved : goal.loop-next-preserved
loop-next-preserved c =
    let ps = paths c.args.tree.now in
    let ks = paths c.args.used.now in
    let path = c.in-Some.path in
    let name = c.in-Some.name in
    let before = c.loop-next.noted in
    let room = c.loop-next.invariant.room in
    let noting = rw c.in-Some.is at c.loop-next.invariant.noting in
    let out = outer_split_of ps ks path name c.outer_split-next.result c.outer_split-next.ensures.name
    c.outer_split-next.ensures.path
    noting.ahead.0 c.outer_split-next.ensures.same c.outer_split-next.ensures.shorter c.outer_split-next.ensures.last in
    let kept = c.in_ok-note_use.ensures in
    record {
      room = record { maps = search rules; path = kept.paths ∙ room.path; name = omega (arith, kept.names, room.name) };
      noting = noting_more c.args.tree.now c.args.used.now c.requires.tree c.requires.used
          (get_or ps c.args.full_name []) c.args.number (type_at c.args.noted.now) (type_at before)
          (type_at c.note_use.new.noted) path name c.outer_split-next.result
          noting (λ p n at_p some at_n. kept.noted p n some) out;
    }
