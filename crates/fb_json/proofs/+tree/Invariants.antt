use Rattle.std.proofs.Common.{◌≡◌, ◌≤◌, ◌+◌, ◌*◌, Ok, map, take, drop, length, option_map, vec_len, vec_capacity}
use Rattle.serde_json.specs.Data.{Members}
use Rattle.serde_json.specs.View.{view as tree_view, items_view, members_view}
use Rattle.fb_schema.specs.Seen.{field_seen}
use Rattle.fb_value.specs.View.{view}
use Rattle.fb_json.specs.FaultPaths.{read_all, element_reader, slot_reader, field_reader}
use Rattle.fb_json.specs.Meant.{items_meant, slots_meant, parts_meant, look}
use Rattle.fb_json.specs.SlotMembers.{AreMembersOf}
use Rattle.fb_json.proofs.slots.OneSlotOrFieldMore.{after}
use Rattle.fb_json.proofs.slots.PartsNestLess.{items_nested, members_nested, most_nested, nested, tree_nested}
use Rattle.fb_json.proofs.+tree.Given as goal

abbrev pub invariant-tree::items-loop-i : goal.invariant-tree::items-loop-i
invariant-tree::items-loop-i l = record {
  gives : items_meant l.source.layout.now l.source.unknown (items_view l.elements) l.kind l.place l.room.levels
      l.fn.room.left
      ≡ after (map view l.found.items)
      (items_meant l.source.layout.now l.source.unknown (items_view (drop l.i l.elements)) l.kind
      l.place l.room.levels l.left);
  before : read_all (element_reader l.source.layout.now l.source.unknown l.kind l.place l.room.levels) 0
      (take l.i (map tree_view l.elements)) l.fn.room.left ≡ Ok l.left;
  trail : l.trail ≡ l.fn.trail;
  filled : vec_len l.found ≡ l.i;
  room : length l.elements ≤ vec_capacity l.found;
}

abbrev pub invariant-tables::entries-loop-k : goal.invariant-tables::entries-loop-k
invariant-tables::entries-loop-k l = record {
  read : (ms : Members) → AreMembersOf l.trees (map field_seen l.slots) ms
      → let L = l.source.layout.now in let seen = look L l.source.unknown ms in
      (slots_meant L seen l.owner.0 (map field_seen l.slots) 0 0 l.room.levels l.fn.room.left
      ≡ after (map (option_map view) l.found.items)
      (slots_meant L seen l.owner.0 (map field_seen (drop l.k l.slots)) l.k l.code l.room.levels l.left))
      × (read_all (slot_reader L seen l.owner.0 l.room.levels) 0 (take l.k (map field_seen l.slots))
      (0, l.fn.room.left) ≡ Ok (l.code, l.left));
  trail : l.trail ≡ l.fn.trail;
  filled : vec_len l.found ≡ l.k;
  room : length l.slots ≤ vec_capacity l.found;
}

abbrev pub invariant-structs::parts-loop-k : goal.invariant-structs::parts-loop-k
invariant-structs::parts-loop-k l = record {
  read : (ms : Members) → AreMembersOf l.trees (map field_seen l.fields) ms
      → let seen = look l.source.layout.now l.source.unknown ms in
      (parts_meant seen l.owner.0 (map field_seen l.fields) 0 l.room.levels l.fn.room.left
      ≡ after (map view l.found.items)
      (parts_meant seen l.owner.0 (map field_seen (drop l.k l.fields)) l.k l.room.levels l.left))
      × (read_all (field_reader seen l.owner.0 l.room.levels) 0 (take l.k (map field_seen l.fields)) l.fn.room.left
      ≡ Ok l.left);
  trail : l.trail ≡ l.fn.trail;
  filled : vec_len l.found ≡ l.k;
  room : length l.fields ≤ vec_capacity l.found;
}

-- ---- each call is of a part, or of what is below it in this order

abbrev pub decreases-tree::value : goal.decreases-tree::value
decreases-tree::value l = 16 * nested (tree_view l.tree.now)

abbrev pub decreases-tree::vector : goal.decreases-tree::vector
decreases-tree::vector l = 16 * items_nested (items_view l.elements.now) + 2

abbrev pub decreases-tree::items : goal.decreases-tree::items
decreases-tree::items l = 16 * items_nested (items_view l.elements.now) + 1

abbrev pub decreases-tree::object : goal.decreases-tree::object
decreases-tree::object l = 16 * members_nested (members_view l.members.now.entries) + 8

abbrev pub decreases-tables::table : goal.decreases-tables::table
decreases-tables::table l = 16 * members_nested (members_view l.members.now.entries) + 7

abbrev pub decreases-tables::entries : goal.decreases-tables::entries
decreases-tables::entries l = 16 * most_nested l.trees.now + 6

abbrev pub decreases-entries::entry : goal.decreases-entries::entry
decreases-entries::entry l = 16 * tree_nested l.tree + 5

abbrev pub decreases-entries::with_tree : goal.decreases-entries::with_tree
decreases-entries::with_tree l = 16 * nested (tree_view l.tree.now) + 3

abbrev pub decreases-entries::member : goal.decreases-entries::member
decreases-entries::member l = 16 * nested (tree_view l.tree.now) + 2

abbrev pub decreases-structs::structure : goal.decreases-structs::structure
decreases-structs::structure l = 16 * members_nested (members_view l.members.now.entries) + 5

abbrev pub decreases-structs::struct_of : goal.decreases-structs::struct_of
decreases-structs::struct_of l = 16 * members_nested (members_view l.members.now.entries) + 4

abbrev pub decreases-structs::parts : goal.decreases-structs::parts
decreases-structs::parts l = 16 * most_nested l.trees.now + 3

abbrev pub decreases-structs::part : goal.decreases-structs::part
decreases-structs::part l = 16 * tree_nested l.tree + 2
