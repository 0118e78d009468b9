use Rattle.std.proofs.Common.{◌≡◌, ◌-◌, length, slice_index, OnOk, arith, rules}
use Rattle.std.proofs.lemmas.Result.{on_ok_weaker}
use Rattle.fb_layout.specs.Laid.{stored_kind, parts_of, struct_at, scalar_kind}
use Rattle.fb_layout.specs.Seen.{kind_seen}
use Rattle.fb_value.specs.declared.values.Value.{the_lemmas}
use Rattle.fb_tape.specs.InlineBytes.{AddsInline}
use Rattle.fb_tape.proofs.inline_bytes.BytesAreOnlyAdded.{then_only, some_only, inline_only}
use Rattle.fb_tape.proofs.inline_bytes.InlineKindsAreNumbersOrStructs.{number_seen}
use Rattle.fb_tape.proofs.inline_bytes.StructFieldsAreAdded.{added_within, fields_only, offset_is}
use Rattle.fb_tape.proofs.inline_bytes.StructFieldsAreAdded.{one_added, all_added}
use Rattle.fb_tape.proofs.inline_bytes.StructsAreKnown.{struct_known, kind_found, part_fits_at, index_past}
use Rattle.fb_tape.proofs.inline_bytes.+inline.Goals as goal

pub push_inline-returns-in-Number-Some-default-clause-adds : goal.push_inline-returns-in-Number-Some-default-clause-adds
push_inline-returns-in-Number-Some-default-clause-adds t c =
    let arm = c.in-Number-Some-default in
    number_seen c.args.layout.now (kind_seen c.args.layout.now c.args.kind) arm.base c.args.value.now arm.number
    (λ kind d. OnOk c.push_number.result
    (AddsInline c.args.layout.now kind d c.args.bytes.now.items c.push_number.new.bytes.items))
    c.requires.inline arm.ensures arm.is-0 c.requires.fits (c.push_number.ensures.adds c.args.layout.now)

pub push_inline-returns-in-Number-Some-default-clause-kept : goal.push_inline-returns-in-Number-Some-default-clause-kept
push_inline-returns-in-Number-Some-default-clause-kept t c =
    inline_only c.push_number.result c.args.layout.now (scalar_kind c.in-Number-Some-default.base) _
    c.args.bytes.now.items c.push_number.new.bytes.items (c.push_number.ensures.adds c.args.layout.now)
    c.push_number.ensures.kept

pub push_struct-overflow_sub-offset : goal.push_struct-overflow_sub-offset
push_struct-overflow_sub-offset t c =
    let L = c.args.layout.now in
    let s = c.args.structure.0 in
    let fields = c.parts_of-fields.result.now in
    let items = c.args.parts.now in
    let known = struct_known L s fields items c.layout_is_well_made.ensures c.requires.there
    c.parts_of-fields.ensures.parts c.requires.fits in
    let k = c.loop-k.k in
    let kind = stored_kind L.schema c.kind_in-kind.result in
    let at = kind_found L s fields k c.index-fields-k.result kind c.parts_of-fields.ensures.parts c.loop-k-test.true
    c.index-fields-k.is (c.kind_in-kind.ensures L.schema) in
    let inv = c.loop-k.invariant in
    let within = added_within L s k items c.args.bytes.now.items c.loop-k.bytes.items inv.added in
    let begins = offset_is L s (length fields) k items known c.loop-k-test.true kind at in
    omega (arith, within, begins, inv.first, c.offset_of-offset.ensures, c.len.ensures)

pub push_struct-push_zeros-requires : goal.push_struct-push_zeros-requires
push_struct-push_zeros-requires t c =
    let L = c.args.layout.now in
    let s = c.args.structure.0 in
    let fields = c.parts_of-fields.result.now in
    let items = c.args.parts.now in
    let known = struct_known L s fields items c.layout_is_well_made.ensures c.requires.there
    c.parts_of-fields.ensures.parts c.requires.fits in
    let within = known.within c.loop-k.k c.loop-k-test.true in
    record { few = omega (arith, within, c.offset_of-offset.ensures) }

pub push_struct-bounds-parts-k : goal.push_struct-bounds-parts-k
push_struct-bounds-parts-k t c =
    let L = c.args.layout.now in
    let s = c.args.structure.0 in
    let fields = c.parts_of-fields.result.now in
    let items = c.args.parts.now in
    let known = struct_known L s fields items c.layout_is_well_made.ensures c.requires.there
    c.parts_of-fields.ensures.parts c.requires.fits in
    omega (arith, known.long, c.loop-k-test.true)

pub push_struct-push_inline-requires : goal.push_struct-push_inline-requires
push_struct-push_inline-requires t c =
    let L = c.args.layout.now in
    let s = c.args.structure.0 in
    let fields = c.parts_of-fields.result.now in
    let items = c.args.parts.now in
    let known = struct_known L s fields items c.layout_is_well_made.ensures c.requires.there
    c.parts_of-fields.ensures.parts c.requires.fits in
    let k = c.loop-k.k in
    let kind = stored_kind L.schema c.kind_in-kind.result in
    let at = kind_found L s fields k c.index-fields-k.result kind c.parts_of-fields.ensures.parts c.loop-k-test.true
    c.index-fields-k.is (c.kind_in-kind.ensures L.schema) in (
      search (rules, the_lemmas),
      (
        known.inline k kind at,
        part_fits_at L (parts_of L s) items k kind c.index-parts-k.result c.requires.fits at
            (omega (arith, known.long, c.loop-k-test.true)) c.index-parts-k.is,
      ),
    )

pub push_struct-loop-k-preserved : goal.push_struct-loop-k-preserved
push_struct-loop-k-preserved t c =
    let L = c.args.layout.now in
    let s = c.args.structure.0 in
    let fields = c.parts_of-fields.result.now in
    let items = c.args.parts.now in
    let known = struct_known L s fields items c.layout_is_well_made.ensures c.requires.there
    c.parts_of-fields.ensures.parts c.requires.fits in
    let k = c.loop-k.k in
    let kind = stored_kind L.schema c.kind_in-kind.result in
    let at = kind_found L s fields k c.index-fields-k.result kind c.parts_of-fields.ensures.parts c.loop-k-test.true
    c.index-fields-k.is (c.kind_in-kind.ensures L.schema) in
    let inv = c.loop-k.invariant in
    let now = c.loop-k.bytes.items in
    let gap : c.offset_of-offset.result - (c.len.result - c.len-first.result)
    ≡ slice_index (struct_at L s).offsets k - (length now - length c.args.bytes.now.items) =
    omega (arith, inv.first, c.offset_of-offset.ensures, c.len.ensures) in
    record {
      first = inv.first;
      added = one_added L s (length fields) k items known c.loop-k-test.true kind at c.index-parts-k.result _
          c.args.bytes.now.items now c.push_zeros.new.bytes.items c.push_inline.new.bytes.items c.index-parts-k.is
          inv.added c.in_ok-push_zeros.ensures.adds gap c.in_ok-push_inline.ensures.adds;
    }

pub push_struct-overflow_sub-size : goal.push_struct-overflow_sub-size
push_struct-overflow_sub-size t c =
    let L = c.args.layout.now in
    let s = c.args.structure.0 in
    let fields = c.parts_of-fields.result.now in
    let items = c.args.parts.now in
    let known = struct_known L s fields items c.layout_is_well_made.ensures c.requires.there
    c.parts_of-fields.ensures.parts c.requires.fits in
    let within = added_within L s c.loop-k.k items c.args.bytes.now.items c.loop-k.bytes.items
    c.loop-k.invariant.added in
    let past = index_past (struct_at L s).offsets c.loop-k.k (struct_at L s).size
    (omega (arith, known.offsets, c.loop-k-test.false)) in
    omega (arith, within, past, c.loop-k.invariant.first, c.size_of-size.ensures, c.len-2.ensures)

pub push_struct-returns-clause-adds : goal.push_struct-returns-clause-adds
push_struct-returns-clause-adds t c =
    let L = c.args.layout.now in
    let s = c.args.structure.0 in
    let fields = c.parts_of-fields.result.now in
    let items = c.args.parts.now in
    let known = struct_known L s fields items c.layout_is_well_made.ensures c.requires.there
    c.parts_of-fields.ensures.parts c.requires.fits in
    let now = c.loop-k.bytes.items in
    let all : c.loop-k.k ≡ length fields = omega (arith, c.loop-k-test.false, c.loop-k.auto.k-end) in
    let gap : c.size_of-size.result - (c.len-2.result - c.len-first.result)
    ≡ (struct_at L s).size - (length now - length c.args.bytes.now.items) =
    omega (arith, c.loop-k.invariant.first, c.size_of-size.ensures, c.len-2.ensures) in
    on_ok_weaker c.push_zeros-2.result (λ added.
    all_added L s (length fields) items known _ c.args.bytes.now.items now c.push_zeros-2.new.bytes.items
    (rw all at c.loop-k.invariant.added) added gap) c.push_zeros-2.ensures.adds

pub push_struct-returns-clause-kept : goal.push_struct-returns-clause-kept
push_struct-returns-clause-kept t c =
    then_only c.args.bytes.now.items c.loop-k.bytes.items c.push_zeros-2.new.bytes.items
    (fields_only c.args.layout.now c.args.structure.0 c.loop-k.k c.args.parts.now c.args.bytes.now.items
    c.loop-k.bytes.items c.loop-k.invariant.added)
    (some_only c.push_zeros-2.result c.loop-k.bytes.items _ c.push_zeros-2.new.bytes.items c.push_zeros-2.ensures.adds
    c.push_zeros-2.ensures.kept)
