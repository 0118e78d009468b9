use Rattle.std.proofs.Common.{◌∙◌, ap}
use Rattle.std.proofs.lemmas.Result.{err_from_is_err_and}
use Rattle.fb_schema.specs.Schema.{DeclaredSchema}
use Rattle.fb_encode.proofs.excerpts.NotedOrRefused.{fault_refuses}
use Rattle.fb_encode.proofs.trees.RootIsNoted.{at_root, root_noted}
use Rattle.fb_encode.proofs.texts.FirstFaultIsRefused.{text_refused}
use Rattle.fb_encode.proofs.texts.note_pieces.Goals as goal

pub returns-clause-noted : goal.returns-clause-noted
returns-clause-noted c =
    let L = c.args.source.layout.now in
    let root = c.root-root.ensures ∙ ap (λ (s : DeclaredSchema). s.root) c.schema.ensures.schema in
    let made = c.requires in
    let found = c.in_ok-note_excerpt.ensures.noted in (
      found.0,
      found.1,
      root_noted L c.args.limits c.args.source.unknown found.0 c.root-root.result.0 c.most_depth.result
          c.most_cells.result root c.most_depth.ensures.exact c.most_cells.ensures _ _ _ made.layout
          made.waits made.room found.2 c.only_what_is_meant.ensures c.schema.ensures.made,
    )

pub returns-in_err-note_excerpt-clause-refused : goal.returns-in_err-note_excerpt-clause-refused
returns-in_err-note_excerpt-clause-refused c =
    let L = c.args.source.layout.now in
    let root = c.root-root.ensures ∙ ap (λ (s : DeclaredSchema). s.root) c.schema.ensures.schema in
    let p = err_from_is_err_and c.from_residual.result c.from_residual.ensures.1 in
    rw (p.1, p.2) (fault_refuses c.in_err-note_excerpt.field-0.0 _ _ (λ f found.
    let same = at_root L c.args.limits c.args.source.unknown found.0 c.root-root.result.0 c.most_depth.result
    c.most_cells.result root c.most_depth.ensures.exact c.most_cells.ensures in
    text_refused L c.args.limits c.args.source.unknown c.args.json.now found.0 found.1 c.first_fault_refuses.ensures f
    (rw (← same) found.2)) c.in_err-note_excerpt.ensures.noted)
