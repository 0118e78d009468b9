use Rattle.std.proofs.Common.{◌≡◌, ◌+◌, ℕ, List, Option, length, drop}
use Rattle.fb_layout.specs.Laid.{LaidSchema, Slot}
use Rattle.fb_value.specs.Datum.{Datum}
use Rattle.fb_build.specs.NotesLaid.{AreToBeLaid, notes_size}
use Rattle.fb_build.specs.Tails.{Grows}
use Rattle.fb_build.proofs.taped.NotedFieldsAreLaidInTurn.{AreLaidSoFar}
use Rattle.fb_build.proofs.taped_fields.lay_fields.Given as goal

abbrev pub invariant-loop-i : goal.invariant-loop-i
invariant-loop-i l = record {
  laid : (L : LaidSchema) (fs : List Slot) (xs : List (Option Datum)) (targets : List ℕ)
      → AreToBeLaid L fs xs targets l.align l.notes l.bytes l.ends l.fn.out
      → AreLaidSoFar L fs xs targets l.start (drop l.i l.notes) l.bytes_left l.ends_left l.out;
  long : length l.out.bytes + notes_size (drop l.i l.notes) ≡ l.start + notes_size l.notes;
  most : l.out.most ≡ l.initial.out.most;
  grows : Grows l.initial.out l.out;
}
