use Rattle.std.proofs.Common.{◌≡◌, ◌+◌, ◌*◌, ◌-◌, ◌<◌, ℕ, Some, map, slice_get}
use Rattle.serde_json.specs.View.{members_view}
use Rattle.fb_pieces.specs.CutTexts.{member_texts}
use Rattle.fb_encode.specs.declared.reader.JsonExcerpt.{JsonExcerpt}
use Rattle.fb_encode.specs.MembersRead.{object_read}
use Rattle.fb_encode.specs.TextsRead.{IsRead}
use Rattle.fb_encode.proofs.objects.SlotsAreFound.{brackets_in}
use Rattle.fb_encode.proofs.stand_ins.FieldsArePut.{AreFieldsPut}
use Rattle.fb_encode.proofs.stand_ins.+stand_ins.Given as goal

-- The brackets go down, and in the same ones a caller ranks above what it calls.

abbrev pub decreases-stand_in : goal.decreases-stand_in
decreases-stand_in l = 4 * l.excerpt.brackets + 1

abbrev pub decreases-own_fields : goal.decreases-own_fields
decreases-own_fields l = 4 * l.excerpt.brackets

abbrev pub decreases-put_field : goal.decreases-put_field
decreases-put_field l = 4 * brackets_in l.text + 3

abbrev pub decreases-field_tree : goal.decreases-field_tree
decreases-field_tree l = 4 * l.text.brackets + 2

abbrev pub invariant-own_fields-loop-k : goal.invariant-own_fields-loop-k
invariant-own_fields-loop-k l = record {
  put : AreFieldsPut l.source.layout.now l.source.unknown l.structure.0
      (object_read (l.excerpt.brackets - 1) (map (member_texts l.excerpt.text.now) l.members.items))
      (members_view l.object.entries) l.k;
  read : (j : ℕ) (e : JsonExcerpt) → j < l.k → slice_get l.texts.items j ≡ Some (Some e) → IsRead e.brackets e.text.now;
}
