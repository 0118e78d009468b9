use Rattle.std.proofs.Common.{◌≡◌, ◌≤◌, ◌*◌, take}
use Rattle.fb_build.specs.NotesLaid.{notes_references}
use Rattle.fb_build.specs.TapeLaid.{notes_bytes}
use Rattle.fb_build.proofs.taped_fields.count_notes.Given as goal

abbrev pub invariant-loop-i : goal.invariant-loop-i
invariant-loop-i l = record {
  bytes : l.bytes ≡ notes_bytes (take l.i l.notes);
  references : l.references ≡ notes_references (take l.i l.notes);
  few_bytes : l.bytes ≤ l.i * 65535;
  few : l.references ≤ l.i;
}
