use Rattle.std.proofs.Common.{◌-◌, map, take}
use Rattle.fb_schema.specs.Seen.{field_seen}
use Rattle.fb_pieces.specs.CutTexts.{member_texts}
use Rattle.fb_encode.proofs.slot_texts.TextsAreAtTheirSlots.{ArePutSoFar}
use Rattle.fb_encode.proofs.slot_texts.texts_by_slot.Given as goal

abbrev pub invariant-loop-member : goal.invariant-loop-member
invariant-loop-member l = ArePutSoFar l.source.layout.now.schema l.owner.0 (map field_seen l.slots)
    l.source.unknown (l.excerpt.brackets - 1) l.texts.items l.known
    (map (member_texts l.excerpt.text.now) (take l.member-index l.members))
