-- What stands at the start and at the end of a text.
use Rattle.std.proofs.Common.{◌≡◌, ℕ, ◌<◌, [], List, length, Option, Bool, true, false, Result, Ok, Err}
use Rattle.std.proofs.Common.{refl, sym, arith}
use Rattle.std.proofs.KnownBytes.{Appends-nil}
use Rattle.fb_layout.specs.Laid.{LaidSchema}
use Rattle.fb_value.specs.Datum.{Datum, a_number, a_text, a_vector, a_struct, a_table, a_member, an_unknown}
use Rattle.fb_value.specs.Num.{Bytes}
use Rattle.fb_value.specs.Places.{table_part, part_place}
use Rattle.fb_value.specs.Lies.{Lies}
use Rattle.fb_value.specs.Counts.{is_whole}
use Rattle.fb_json.specs.declared.faults.Place.{Place}
use Rattle.fb_text.specs.Texts.{spaced_text}
use Rattle.fb_text.specs.declared.indents.Spacing.{Spacing}
use Rattle.fb_text.specs.declared.faults.WriteFault.{WriteFault}
use Rattle.fb_text.specs.declared.faults.WriteFault.TheVariants.{NoMemberName, WriteFailed}
use Rattle.fb_text.specs.Printed.{IsPrinted}
use Rattle.fb_text.specs.Writes.{State, Stands, IsWritten}

-- before the first byte
pub nothing_stands : (s : State) → s.failed ≡ false → s.waits ≡ [] → s.written ≡ 0 → Stands s.known s []
nothing_stands s fine empty none = record {
  sent = record { bytes = []; gone = Appends-nil s.known; count = none };
  left = [];
  whole = refl;
  rest = rw fine (sym empty);
}

-- a table's text has its brackets
pub some_text : (spacing : Spacing) (L : LaidSchema) (defaults : Bool) (b : Bytes) (t p : ℕ) (d : Datum)
    → Lies L b (part_place (table_part t)) p d → 0 < length (spaced_text spacing L defaults d)
some_text spacing L defaults b t p (a_table type es) lies = omega arith
some_text spacing L defaults b t p (a_number n) lies = absurd lies
some_text spacing L defaults b t p (a_text bytes) lies = absurd lies
some_text spacing L defaults b t p (a_vector ds) lies = absurd lies
some_text spacing L defaults b t p (a_struct ds) lies = absurd lies
some_text spacing L defaults b t p (a_member c x) lies = absurd lies
some_text spacing L defaults b t p (an_unknown c) lies = absurd lies

pub whole_printed : {A : Type 0} (root : Place) (d : Datum) (text : List ℕ) (start known : Option (List ℕ))
    (r : Result A WriteFault) → is_whole d ≡ true → IsWritten start known text r → IsPrinted root d text start known r
whole_printed root d text start known (Ok x) whole written = (whole, written)
whole_printed root d text start known (Err (WriteFailed n)) whole written =
    (whole, written.0, written.1, written.2, written.3)
whole_printed root d text start known (Err (NoMemberName at)) whole written = absurd written
