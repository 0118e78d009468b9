-- A text or a table that a reference leads to is noted.
use Rattle.serde_json.specs.View.{view as tree_view, members_view}
use Rattle.fb_encode.proofs.parts.TreesByTheirKind.{no_table_by, table_by, text_by}
use Rattle.fb_encode.proofs.+notes.Goals as goal

pub no_object_refused : goal.parts::note_object-returns-in_default-clause-refused
no_object_refused t c =
    no_table_by c.args.source.layout.now c.args.source.unknown c.args.place c.args.levels c.args.left c.args.owner
    (tree_view c.args.tree.now) c.in_default.ensures

pub object_adds_itself : goal.parts::note_object-returns-clause-noted
object_adds_itself t c =
    rw (table_by c.args.source.layout.now c.args.source.unknown c.args.place c.args.levels c.args.left c.args.owner
    (tree_view c.args.tree.now) (members_view c.in-Some.members.now.entries) c.in-Some.ensures)
    c.note_table.ensures.noted

pub object_fault_refused : goal.parts::note_object-returns-clause-refused
object_fault_refused t c =
    rw (table_by c.args.source.layout.now c.args.source.unknown c.args.place c.args.levels c.args.left c.args.owner
    (tree_view c.args.tree.now) (members_view c.in-Some.members.now.entries) c.in-Some.ensures)
    c.note_table.ensures.refused

pub text_adds_itself : goal.parts::note_target-returns-in-Text-clause-noted
text_adds_itself t c =
    rw (
      c.in-Text.is,
      text_by c.args.source.layout.now c.args.source.unknown c.args.place c.args.levels c.args.left
          (tree_view c.args.tree.now),
    ) (rw (← c.requires.layout) c.note_text.ensures.noted)

pub text_fault_refused : goal.parts::note_target-returns-in-Text-clause-refused
text_fault_refused t c =
    rw (
      c.in-Text.is,
      text_by c.args.source.layout.now c.args.source.unknown c.args.place c.args.levels c.args.left
          (tree_view c.args.tree.now),
    ) c.note_text.ensures.refused
