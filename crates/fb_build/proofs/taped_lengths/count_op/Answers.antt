use Rattle.std.proofs.Common.{arith}
use Rattle.std.proofs.lemmas.Option.{slice_get_within}
use Rattle.fb_layout.specs.Sizes.{IsAlignment}
use Rattle.fb_tape.specs.Alignments.{aligned_to}
use Rattle.fb_build.proofs.taped.StepsOfALaying.{data_aligned}
use Rattle.fb_build.proofs.taped.TapeIsCounted.{table_aligned, table_counted}
use Rattle.fb_build.proofs.taped_lengths.count_op.Goals as goal
use Rattle.fb_layout.proofs.sizes.AlignmentsArePowersOfTwo.{max_aligned, four_aligned}

pub data_end-requires-clause-power : goal.data_end-requires-clause-power
data_end-requires-clause-power c =
    let s = c.requires.some in
    let d = (rw c.in-Data.is at s.lays).1 in
    rw c.bytes.ensures (data_aligned _ d.part (aligned_to c.in-Data.align) s.bytes d.is (omega arith)).0

pub vtable-own-requires : goal.vtable-own-requires
vtable-own-requires c =
    let t = rw c.in-Table.is at c.requires.some.lays in
    record { within = slice_get_within c.args.tape.now.vtables c.in-Table.vtable _ t.vtable_is }

pub table_end-requires-clause-power : goal.table_end-requires-clause-power
table_end-requires-clause-power c =
    let s = c.requires.some in
    let t = rw c.in-Table.is at s.lays in
    rw c.bytes-in-Table.ensures (table_aligned c.in-Table.align s.made t)

pub returns-in-Data-clause-power : goal.returns-in-Data-clause-power
returns-in-Data-clause-power c =
    let s = c.requires.some in
    let d = (rw c.in-Data.is at s.lays).1 in
    let power : IsAlignment c.bytes-in-Data.result =
    rw c.bytes-in-Data.ensures (data_aligned _ d.part (aligned_to c.in-Data.align) s.bytes d.is (omega arith)).0 in
    rw c.max.ensures (max_aligned _ _ c.requires.power power)

pub returns-in-References-clause-power : goal.returns-in-References-clause-power
returns-in-References-clause-power c = rw c.max-in-References.ensures (max_aligned _ _ c.requires.power four_aligned)

pub returns-in-Table-clause-laid : goal.returns-in-Table-clause-laid
returns-in-Table-clause-laid c room ps qs notes bytes lays =
    let t = rw c.in-Table.is at lays in
    rw (c.in-Table.is, c.table_end.ensures.exact, c.bytes-in-Table.ensures)
    (table_counted c.in-Table.align c.requires.some.made t c.vtable-own.result.now
    c.vtable-own.ensures.is c.args.before.known c.args.before.laid)

pub returns-in-Table-clause-power : goal.returns-in-Table-clause-power
returns-in-Table-clause-power c =
    let s = c.requires.some in
    let t = rw c.in-Table.is at s.lays in
    let power : IsAlignment c.bytes-in-Table-2.result =
    rw c.bytes-in-Table-2.ensures (table_aligned c.in-Table.align s.made t) in
    rw c.max-in-Table.ensures (max_aligned _ _ c.requires.power power)
