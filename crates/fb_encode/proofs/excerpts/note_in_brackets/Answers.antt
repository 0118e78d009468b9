use Rattle.std.proofs.Common.{◌∙◌, Some, ap}
use Rattle.serde_json.specs.View.{view as tree_view}
use Rattle.fb_layout.specs.Laid.{stored_shape}
use Rattle.fb_encode.proofs.excerpts.NotedOrRefused.{if_found_then}
use Rattle.fb_encode.proofs.outlines.OutlineMeansTheSame.{stands_in}
use Rattle.fb_encode.proofs.stand_ins.ValueIsNotedByItsStandIn.{noted_by_stand_in}
use Rattle.fb_encode.proofs.reader.TextInBrackets.{read_without}
use Rattle.fb_encode.specs.TextsRead.{IsReadAs}
use Rattle.fb_encode.proofs.excerpts.note_in_brackets.Goals as goal

pub returns-clause-noted : goal.returns-clause-noted
returns-clause-noted c =
    let excerpt = c.args.excerpt in
    let t = tree_view c.in-Some-innermost.tree.now in
    let law = c.text_is_read_without_brackets.ensures in
    let as_tree : IsReadAs excerpt.brackets excerpt.text.now t = record {
      utf8 = c.in_ok-read.ensures.utf8;
      read = read_without law excerpt.brackets excerpt.text.now t c.requires.brackets
          (c.in_ok-read.ensures.tree ∙ ap Some c.in-Some-innermost.ensures);
    } in
    if_found_then c.note_wanted-2.result _ _ (λ r found. (t, as_tree, found)) c.note_wanted-2.ensures.noted

pub returns-in-Some-clause-noted : goal.returns-in-Some-clause-noted
returns-in-Some-clause-noted c =
    let L = c.args.source.layout.now in
    let unknown = c.args.source.unknown in
    let wanted = c.args.wanted in
    let excerpt = c.args.excerpt in
    let d = tree_view c.in-Some.outline in
    let o = stands_in L unknown excerpt.brackets excerpt.text.now wanted.shape d
    (rw c.in-Some.is at c.in_ok-outline.ensures) in
    if_found_then c.note_wanted.result _ _ (λ r bare. (
      o.tree,
      o.read,
      noted_by_stand_in L unknown o.tree d (stored_shape L.schema wanted.shape) wanted.shape wanted.place wanted.levels
          wanted.left c.args.walk.now.noting.tape c.note_wanted.new.walk.noting.tape r o.alike bare,
    )) c.note_wanted.ensures.noted
