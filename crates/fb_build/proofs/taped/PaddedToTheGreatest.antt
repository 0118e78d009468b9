-- The buffer of a tape is padded to no more than the greatest alignment.
use Rattle.std.proofs.Common.{ℕ, ◌≤◌, List, [], ◌∷◌, arith}
use Rattle.fb_layout.specs.Laid.{LaidSchema, slots_of}
use Rattle.fb_layout.specs.WellMade.{IsWellMade}
use Rattle.fb_layout.specs.Widths.{greatest}
use Rattle.fb_value.specs.Num.{Bytes}
use Rattle.fb_tape.specs.NamedParts.{NamedPart}
use Rattle.fb_tape.specs.Tapes.{Lays, Lay, known_after}
use Rattle.fb_tape.specs.declared.ops.NotedField.{NotedField}
use Rattle.fb_tape.specs.declared.ops.Op.{Op}
use Rattle.fb_tape.specs.Alignments.{aligned_to}
use Rattle.fb_tape.specs.declared.ops.Op.TheVariants.{Data, References, Table}
use Rattle.fb_build.specs.Fields.{stored_in}
use Rattle.fb_build.specs.OpLengths.{op_most, ops_most}
use Rattle.fb_build.proofs.fields.EntriesAreKnown.{known_in}
use Rattle.fb_build.proofs.fields.AlignmentDividesTheSize.{inline_low}
use Rattle.fb_build.proofs.tables.TableFitsItsRoom.{stored_low}
use Rattle.fb_build.proofs.taped.StepsOfALaying.{data_aligned}

op_low : (L : LaidSchema) (vtables : List Bytes) (op : Op) (room most : ℕ) (ps : List NamedPart)
    (notes : List NotedField) (bytes : Bytes) (qs : List NamedPart) → IsWellMade L
    → Lays L vtables op room ps notes bytes qs → most ≤ greatest L → op_most op most ≤ greatest L
op_low L vtables (Data align size) room most ps notes bytes qs made lays low =
    let d = lays.1 in
    let is = data_aligned L d.part (aligned_to align) bytes d.is (omega arith) in
    omega (arith, is.2, low)
op_low L vtables (References count) room most ps notes bytes qs made lays low = omega (arith, low)
op_low L vtables (Table align fields number) room most ps notes bytes qs made lays low =
    let fs = slots_of L lays.table in
    let table = known_in L lays.table lays.entries made lays.fits lays.whole in
    let own = stored_low L fs (stored_in fs lays.entries) (λ k f at. inline_low L f.shape (table.known.low k f at)) in
    omega (arith, lays.align_is, own, low)

pub ops_low : (L : LaidSchema) (vtables : List Bytes) (n room most : ℕ) (ps : List NamedPart) (ops : List Op)
    (notes : List NotedField) (bytes : Bytes) (qs : List NamedPart) → IsWellMade L
    → Lay L vtables n room ps ops notes bytes qs → most ≤ greatest L → ops_most ops most ≤ greatest L
ops_low L vtables n room most ps [] notes bytes qs made h low = low
ops_low L vtables n room most ps (op ∷ ops) notes bytes qs made h low =
    ops_low L vtables (known_after n op) h.room_behind (op_most op most) h.waiting ops h.notes_behind h.bytes_behind qs
    made h.rest (op_low L vtables op _ most _ _ _ _ made h.lays low)
