use Rattle.std.proofs.Common.{◌≡◌, ◌+◌, ◌-◌, ◌*◌, true, List, length, drop}
use Rattle.fb_layout.specs.Laid.{LaidSchema, StoredKind}
use Rattle.fb_value.specs.Datum.{Datum}
use Rattle.fb_value.specs.Num.{divides}
use Rattle.fb_value.specs.View.{parts_in}
use Rattle.fb_build.specs.Tails.{Grows}
use Rattle.fb_build.specs.Items.{ItemsEnd}
use Rattle.fb_build.specs.Referred.{AreReferred}
use Rattle.fb_build.proofs.vectors.ElementLeadsToItsTarget.{LeadFrom}
use Rattle.fb_build.proofs.taped_references.lay_elements.Given as goal

abbrev pub invariant-loop-k : goal.invariant-loop-k
invariant-loop-k l = record {
  items : (L : LaidSchema) (kind : StoredKind) (ds : List Datum) → AreReferred L kind ds l.fn.out l.ends
      → ItemsEnd L l.out.most l.out.bytes kind (parts_in (drop (length l.ends - l.k) ds));
  leads : (L : LaidSchema) (kind : StoredKind) (ds : List Datum) → AreReferred L kind ds l.fn.out l.ends
      → LeadFrom L l.out.bytes (length l.fn.out.bytes) (length l.ends - l.k) kind ds l.ends;
  free : l.out.free + l.k * 4 ≡ l.fn.out.free;
  whole : divides 4 (length l.out.bytes) ≡ true;
  most : l.out.most ≡ l.fn.out.most;
  grows : Grows l.fn.out l.out;
}
