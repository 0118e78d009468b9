use Rattle.std.proofs.Common.{◌≡◌, ◌||◌, map}
use Rattle.serde_json.specs.View.{members_view}
use Rattle.fb_schema.specs.Schema.{body_at}
use Rattle.fb_schema.specs.Seen.{field_seen}
use Rattle.fb_json.specs.Meant.{names_known}
use Rattle.fb_json.specs.SlotMembers.{tree_seen}
use Rattle.fb_json.proofs.slot_members.MemberIsPutAtItsSlot.{AreFound, ArePutSoFar}
use Rattle.fb_json.proofs.slot_members.put_members.Given as goal

abbrev pub invariant-loop-name : goal.invariant-loop-name
invariant-loop-name l = record {
  put : ArePutSoFar (map field_seen l.slots) (map tree_seen l.found)
      (members_view l.members.entries) (members_view l.name-iterator);
  there : AreFound l.members l.name-iterator;
  known : (l.source.unknown || names_known (body_at l.source.layout.now.schema l.owner.0)
      (members_view l.members.entries))
      ≡ (l.source.unknown || names_known (body_at l.source.layout.now.schema l.owner.0)
      (members_view l.name-iterator));
}
