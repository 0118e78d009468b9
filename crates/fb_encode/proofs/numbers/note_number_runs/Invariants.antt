use Rattle.std.proofs.Common.{◌≡◌, ◌+◌, Ok, take}
use Rattle.fb_layout.specs.Laid.{stored_kind}
use Rattle.fb_tape.specs.Tapes.{Taped}
use Rattle.fb_json.specs.Outcome.{spent}
use Rattle.fb_encode.proofs.elements.InlineVectorIsNoted.{Begins}
use Rattle.fb_encode.proofs.vectors.RunsAreNoted.{AreRunsNoted}
use Rattle.fb_encode.specs.TreesNoted.{AddsInline}
use Rattle.fb_encode.proofs.numbers.note_number_runs.Given as goal

abbrev pub invariant-loop-i : goal.invariant-loop-i
invariant-loop-i l = record {
  begun : Taped;
  begins : Begins l.elements.kind l.count l.fn.walk.noting.tape begun l.source.layout.now;
  runs : AreRunsNoted l.source.layout.now
      (AddsInline l.source.layout.now (stored_kind l.source.layout.now.schema l.elements.kind)) l.source.unknown
      l.elements.kind l.elements.place l.elements.levels (spent (1 + l.count) l.elements.place l.left)
      l.excerpt.brackets l.excerpt.text.now (take l.i l.runs) begun l.walk.noting.tape (Ok l.after.left);
  opened : l.walk.noting.opened ≡ l.fn.walk.noting.opened;
}
