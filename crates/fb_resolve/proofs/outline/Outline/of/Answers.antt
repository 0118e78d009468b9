use Rattle.std.proofs.Common.{◌≡◌, ◌∙◌, arith, ap}
use Rattle.std.proofs.lemmas.Grind.{common_steps}
use Rattle.fb_resolve.specs.Outline.{nothing_read, outline_behind, outline_of}
use Rattle.fb_resolve.proofs.outline.Outline.of.Goals as goal

pub returns : goal.returns
returns c =
    let items = c.declarations.result.now in
    let len = c.text_len.result in
    let all : outline_behind nothing_read items len ≡ outline_of c.args.decls.now = grind (arith, common_steps) in
    rw (c.in_ok-repeats.ensures.passed len ∙ ap (λ read. outline_behind read items len) c.new-walk.ensures.empty ∙ all)
    at c.outline.ensures
