use Rattle.std.proofs.Common.{rules, ◌∙◌, [], length, get_or, Some, None, sym, ap, arith, if◌then◌else◌}
use Rattle.fb_resolve.specs.PathTree.{paths}
use Rattle.fb_resolve.specs.NamedTypes.{HasRoom}
use Rattle.fb_resolve.specs.Words.{full_path, is_same_path}
use Rattle.fb_resolve.proofs.namespaces.PathsNamed.{place_of_path-next}
use Rattle.fb_resolve.proofs.namespaces.innermost_types.note_types.Goals as goal

pub loop-number-preserved : goal.loop-number-preserved
loop-number-preserved c =
    let ps = paths c.args.tree.now in
    let room : HasRoom c.note_type.new.noted (length (paths c.args.tree.now)) (length (paths c.args.used.now)) =
    search rules in
    record {
      room = room;
      noted = λ p n at_p some at_n. c.in_ok-note_type.ensures.noted p n at_p some at_n
          ∙ ap (λ o. Rattle.std.specs.Option.option_or o
          (if is_same_path (full_path ps (paths c.args.used.now) p n)
          (get_or ps (get_or c.args.full_names.now c.loop-number.number 0) []) then Some c.loop-number.number else
          None)) (c.loop-number.invariant.noted p n at_p some at_n)
          ∙ sym (place_of_path-next (λ f. get_or ps f []) c.args.full_names.now c.loop-number.number 0
          (full_path ps (paths c.args.used.now) p n) (omega arith));
    }
