use Rattle.std.proofs.Common.{◌∙◌, sym}
use Rattle.fb_schema.specs.Seen.{field_seen}
use Rattle.fb_json.specs.Meant.{slot_place}
use Rattle.fb_json.proofs.slots.OneSlotOrFieldMore.{fails_by}
use Rattle.fb_encode.proofs.excerpts.NotedOrRefused.{fault_found}
use Rattle.fb_encode.proofs.tables.SlotsAreNoted.{entry_by}
use Rattle.fb_encode.proofs.objects.note_tree.Goals as goal

pub returns-in-Ok : goal.returns-in-Ok
returns-in-Ok c = record {
  noted = λ seen found.
      let slot = c.args.slot in
      let by = entry_by c.args.source.layout.now c.args.source.unknown seen (field_seen slot.field.now) c.args.tree
      (slot_place slot.owner.0 slot.number) c.in_ok-code.code c.args.levels c.args.after.left found in
      (sym (rw c.place.ensures at (c.in_ok-code.ensures seen found)), rw by c.in-Ok.ensures.noted);
}

pub returns-in_ok-trace_member-in-Err : goal.returns-in_ok-trace_member-in-Err
returns-in_ok-trace_member-in-Err c = record {
  noted = λ seen found.
      let slot = c.args.slot in
      let code = sym (rw c.place.ensures at (c.in_ok-code.ensures seen found)) in
      let by = entry_by c.args.source.layout.now c.args.source.unknown seen (field_seen slot.field.now) c.args.tree
      (slot_place slot.owner.0 slot.number) c.in_ok-code.code c.args.levels c.args.after.left found in
      fault_found c.from.result c.in-Err.fault _ c.from.ensures
      (fails_by c.in-Err.fault _ _ (λ h. rw code (by ∙ h)) c.in-Err.ensures.refused);
}
