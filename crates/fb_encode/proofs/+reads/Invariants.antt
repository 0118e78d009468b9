use Rattle.std.proofs.Common.{◌≡◌, ◌+◌, ◌*◌, ◌-◌, ◌<◌, ℕ, Ok, Some, map, slice_get, take}
use Rattle.fb_layout.specs.Laid.{stored_kind}
use Rattle.fb_json.specs.Outcome.{spent}
use Rattle.fb_encode.proofs.vectors.RunsAreNoted.{AreRunsNoted}
use Rattle.fb_encode.specs.TreesNoted.{AddsTargets}
use Rattle.fb_pieces.specs.CutTexts.{member_texts}
use Rattle.fb_encode.specs.declared.reader.JsonExcerpt.{JsonExcerpt}
use Rattle.fb_encode.specs.MembersRead.{object_read}
use Rattle.fb_encode.specs.TextsRead.{IsRead}
use Rattle.fb_encode.proofs.objects.SlotsAreFound.{AreSlotsFound, brackets_in}
use Rattle.fb_encode.proofs.+reads.Given as goal

-- The brackets go down, and in the same ones a caller ranks above what it calls.

-- ---- excerpts and vectors

abbrev pub decreases-excerpts::note_excerpt : goal.decreases-excerpts::note_excerpt
decreases-excerpts::note_excerpt l = 10 * l.excerpt.brackets + 9

abbrev pub decreases-vectors::note_runs : goal.decreases-vectors::note_runs
decreases-vectors::note_runs l = 10 * l.excerpt.brackets + 8

abbrev pub decreases-vectors::note_run : goal.decreases-vectors::note_run
decreases-vectors::note_run l = 10 * l.array.brackets + 7

abbrev pub decreases-vectors::note_element : goal.decreases-vectors::note_element
decreases-vectors::note_element l = 10 * l.excerpt.brackets + 10

abbrev pub invariant-vectors::note_runs-loop-i : goal.invariant-vectors::note_runs-loop-i
invariant-vectors::note_runs-loop-i l = record {
  runs : AreRunsNoted l.source.layout.now
      (AddsTargets l.source.layout.now (stored_kind l.source.layout.now.schema l.elements.kind)) l.source.unknown
      l.elements.kind l.elements.place l.elements.levels (spent (1 + l.count) l.elements.place l.left)
      l.excerpt.brackets l.excerpt.text.now (take l.i l.runs) l.fn.walk.noting.tape l.walk.noting.tape
      (Ok l.after.left);
  opened : l.walk.noting.opened ≡ l.fn.walk.noting.opened;
}

-- ---- objects

abbrev pub decreases-objects::note_members : goal.decreases-objects::note_members
decreases-objects::note_members l = 10 * l.excerpt.brackets + 8

abbrev pub decreases-objects::note_next : goal.decreases-objects::note_next
decreases-objects::note_next l = 10 * brackets_in l.text + 13

abbrev pub decreases-objects::note_slot_text : goal.decreases-objects::note_slot_text
decreases-objects::note_slot_text l = 10 * brackets_in l.text + 12

abbrev pub decreases-objects::note_named : goal.decreases-objects::note_named
decreases-objects::note_named l = 10 * l.text.brackets + 10

abbrev pub decreases-objects::note_reference : goal.decreases-objects::note_reference
decreases-objects::note_reference l = 10 * l.text.brackets + 11

abbrev pub decreases-objects::note_union : goal.decreases-objects::note_union
decreases-objects::note_union l = 10 * l.text.brackets + 11

abbrev pub invariant-objects::note_members-loop-k : goal.invariant-objects::note_members-loop-k
invariant-objects::note_members-loop-k l = record {
  found : AreSlotsFound l.source.layout.now l.source.unknown
      (object_read (l.excerpt.brackets - 1) (map (member_texts l.excerpt.text.now) l.members.items)) l.owner.0 l.slots
      l.wanted.place l.k l.wanted.levels l.wanted.left l.fn.walk.noting.tape l.walk.noting.tape l.fn.walk.noting.opened
      l.walk.noting.opened l.after;
  read : (j : ℕ) (e : JsonExcerpt) → j < l.k → slice_get l.texts.items j ≡ Some (Some e) → IsRead e.brackets e.text.now;
}
