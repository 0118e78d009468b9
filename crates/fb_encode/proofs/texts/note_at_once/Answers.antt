use Rattle.serde_json.specs.View.{view as tree_view}
use Rattle.fb_encode.proofs.trees.RefusalsComeInOrder.{tree_refused}
use Rattle.fb_encode.proofs.texts.note_at_once.Goals as goal

pub returns-clause-refused : goal.returns-clause-refused
returns-clause-refused c prefixed =
    let t = tree_view c.in-Ok.tree in
    let failed = c.in-Err-note_root.ensures in (
      t,
      record { utf8 = c.in-Ok.ensures.ok.0; read = c.in-Ok.ensures.ok.1 },
      tree_refused c.args.source.layout.now c.args.limits c.args.source.unknown t c.first_fault_refuses.ensures
          c.in-Err-note_root.fault failed.memory failed.first,
    )
