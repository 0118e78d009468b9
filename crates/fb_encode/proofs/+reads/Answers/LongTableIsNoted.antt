-- A long table is noted slot by slot.
use Rattle.std.proofs.Common.{◌∙◌, ◌+◌, ◌-◌, ◌<◌, Ok, Err, arith, map, length, refl}
use Rattle.std.proofs.lemmas.Result.{err_from_is_err_and}
use Rattle.std.proofs.lemmas.List.{length-map, take_rest}
use Rattle.serde_json.specs.Data.{object}
use Rattle.fb_schema.specs.Seen.{field_seen}
use Rattle.fb_json.specs.Meant.{look}
use Rattle.fb_json.proofs.slots.OneSlotOrFieldMore.{fails_by, slot_at}
use Rattle.fb_pieces.specs.CutTexts.{member_texts}
use Rattle.fb_build.proofs.fields.CodeIsBeforeItsUnion.{slots_paired}
use Rattle.fb_build.proofs.fields.NumbersHaveDefaults.{marks_at}
use Rattle.fb_encode.specs.MembersRead.{object_read}
use Rattle.fb_encode.proofs.excerpts.NotedOrRefused.{fault_then, found_holds, found_is_ok, if_found_both}
use Rattle.fb_encode.proofs.objects.SlotsAreFound.{all_noted as slots_noted, first_found, next_found}
use Rattle.fb_encode.proofs.objects.SlotsAreFound.{open_fields}
use Rattle.fb_encode.proofs.objects.TextIsOfItsSlot.{all_read, own_text, read_more}
use Rattle.fb_encode.proofs.objects.CutObjectIsRead.{members_are_read}
use Rattle.fb_encode.proofs.parts.TreesByTheirKind.{table_by}
use Rattle.fb_encode.proofs.tables.SlotsAreNoted.{slot_there}
use Rattle.fb_encode.proofs.+reads.Goals as goal
use Rattle.fb_tape.proofs.stored.OpenFieldsAreAdded.{opened_again, opened_within}

pub no_slot_yet : goal.objects::note_members-loop-k-init
no_slot_yet t c =
    let L = c.args.source.layout.now in
    let unknown = c.args.source.unknown in
    let wanted = c.args.wanted in
    let ms = map (member_texts c.args.excerpt.text.now) c.in-Some.members.items in
    let object = object_read (c.args.excerpt.brackets - 1) ms in
    let known = rw c.as_slice.ensures.value at c.in_ok-texts.ensures.known in
    let before = c.before_slots-first.ensures in
    record {
      found = found_holds c.before_slots-first.result _ _ c.in_ok-after.ensures.same (first_found L unknown object
          c.args.owner.0 c.slots_of-slots.result.now wanted.place c.in_ok-texts.field-0.known known wanted.levels
          wanted.left c.args.walk.now.noting.tape c.args.walk.now.noting.opened c.requires.whole
          c.before_slots-first.result before.levels before.cells before.known before.rest before.code
          (before.refused L unknown object (look L unknown object) c.args.owner.0 known));
      read = λ j e low at. absurd (omega (arith, low));
    }

pub no_slot_refused : goal.objects::note_members-returns-in_err-after-clause-noted
no_slot_refused t c =
    let L = c.args.source.layout.now in
    let unknown = c.args.source.unknown in
    let wanted = c.args.wanted in
    let excerpt = c.args.excerpt in
    let members = c.in-Some.members.items in
    let ms = map (member_texts excerpt.text.now) members in
    let read = object_read (excerpt.brackets - 1) ms in
    let known = rw c.as_slice.ensures.value at c.in_ok-texts.ensures.known in
    let texts = rw c.as_slice.ensures.value at c.in_ok-texts.ensures in
    let of = rw c.in-Some.is at c.in_ok-members.ensures in
    let before = c.before_slots-first.ensures in
    let first = first_found L unknown read c.args.owner.0 c.slots_of-slots.result.now wanted.place
    c.in_ok-texts.field-0.known known wanted.levels wanted.left c.args.walk.now.noting.tape
    c.args.walk.now.noting.opened c.requires.whole c.before_slots-first.result before.levels before.cells before.known
    before.rest before.code (before.refused L unknown read (look L unknown read) c.args.owner.0 known) in
    let e = c.in_err-after in
    let residual = c.from_residual-in_err-after in
    let p = err_from_is_err_and residual.result residual.ensures.1 in
    rw (p.1, p.2) (fault_then e.field-0.0 _ _ (λ f h.
    let fails = found_holds c.before_slots-first.result _ (Err f) h.0 first in
    let all = rw c.as_slice-2.ensures.value at h.1 in (
      object read,
      members_are_read c.cut_object_is_read.ensures c.cut_object_is_utf8.ensures excerpt.brackets excerpt.text.now
          members of.cut of.some c.requires.some c.in_ok-texts.field-0.texts.items c.slots_of-slots.result.now
          texts.texts texts.names texts.values (length c.slots_of-slots.result.now) (omega arith)
          (λ j e low at. all j e at),
      fails_by f _ _ (λ h. table_by L unknown wanted.place wanted.levels wanted.left c.args.owner (object read) read
          refl ∙ h) fails,
    )) (if_found_both (Err e.field-0.0) _ _ e.ensures.same e.ensures.read))

pub next_slot_fits : goal.objects::note_members-note_next-noted-requires
next_slot_fits t c =
    let L = c.args.source.layout.now in
    let unknown = c.args.source.unknown in
    let inner = c.args.excerpt.brackets - 1 in
    let ms = map (member_texts c.args.excerpt.text.now) c.in-Some.members.items in
    let owner = c.args.owner in
    let slots = c.slots_of-slots.result.now in
    let k = c.loop-k.k in
    let f = c.index-slots-k.result in
    let at = slot_at slots k f c.loop-k-test.true c.index-slots-k.is in
    let texts = rw c.as_slice.ensures.value at c.in_ok-texts.ensures.texts in
    let within : k < length c.in_ok-texts.field-0.texts.items =
    omega (arith, texts.all, length-map slots field_seen, c.loop-k-test.true) in
    let own = own_text c.in_ok-texts.field-0.texts.items k c.index.result.now within c.index.ensures inner
    (map field_seen slots) ms texts L unknown (field_seen f) at in
    let found = c.loop-k.invariant.found in
    let marks = marks_at L.schema c.layout_is_well_made.ensures.declared owner.0 k (field_seen f)
    (rw c.slots_of-slots.ensures.slots at at) in
    let there = slot_there L owner.0 slots k f c.slots_of-slots.ensures.slots at in (
      omega (arith, c.decreases, own.low, c.requires.some),
      (
        found.noted.adds.layout ∙ c.requires.layout,
        (
          found.noted.adds.whole,
          (there, (marks, (own.few (omega (arith, c.requires.brackets)), own.old))),
        ),
      ),
    )

pub next_slot_noted : goal.objects::note_members-loop-k-preserved
next_slot_noted t c =
    let L = c.args.source.layout.now in
    let unknown = c.args.source.unknown in
    let wanted = c.args.wanted in
    let inner = c.args.excerpt.brackets - 1 in
    let ms = map (member_texts c.args.excerpt.text.now) c.in-Some.members.items in
    let owner = c.args.owner in
    let slots = c.slots_of-slots.result.now in
    let k = c.loop-k.k in
    let f = c.index-slots-k.result in
    let inv = c.loop-k.invariant in
    let at = slot_at slots k f c.loop-k-test.true c.index-slots-k.is in
    let texts = rw c.as_slice.ensures.value at c.in_ok-texts.ensures.texts in
    let within : k < length c.in_ok-texts.field-0.texts.items =
    omega (arith, texts.all, length-map slots field_seen, c.loop-k-test.true) in
    let own = own_text c.in_ok-texts.field-0.texts.items k c.index.result.now within c.index.ensures inner
    (map field_seen slots) ms texts L unknown (field_seen f) at in
    let after = c.in_ok-after-2 in
    let is_ok = found_is_ok c.note_next-noted.result after.after after.ensures.same in
    record {
      found = next_found L unknown (object_read inner ms) owner slots wanted.place k wanted.levels wanted.left
          (record { ref_ptr = c.slots_of-slots.result.ref_ptr; now = f }) c.loop-k-test.true c.index-slots-k.is
          c.slots_of-slots.ensures.slots (slot_there L owner.0 slots k f c.slots_of-slots.ensures.slots at)
          (slots_paired L c.layout_is_well_made.ensures.declared owner.0) _ _ c.loop-k.walk.noting
          c.note_next-noted.new.walk.noting c.loop-k.after (Ok after.after) inv.found
          (rw is_ok at (c.note_next-noted.ensures.noted (look L unknown (object_read inner ms)) own.found));
      read = read_more c.in_ok-texts.field-0.texts.items k c.index.result.now within c.index.ensures
          (rw is_ok at c.note_next-noted.ensures.read) inv.read;
    }

pub slot_fault_refused : goal.objects::note_members-returns-in_err-after-2-clause-noted
slot_fault_refused t c =
    let L = c.args.source.layout.now in
    let unknown = c.args.source.unknown in
    let wanted = c.args.wanted in
    let excerpt = c.args.excerpt in
    let inner = excerpt.brackets - 1 in
    let members = c.in-Some.members.items in
    let ms = map (member_texts excerpt.text.now) members in
    let read = object_read inner ms in
    let owner = c.args.owner in
    let slots = c.slots_of-slots.result.now in
    let k = c.loop-k.k in
    let f = c.index-slots-k.result in
    let inv = c.loop-k.invariant in
    let at = slot_at slots k f c.loop-k-test.true c.index-slots-k.is in
    let texts = rw c.as_slice.ensures.value at c.in_ok-texts.ensures in
    let items = c.in_ok-texts.field-0.texts.items in
    let within : k < length items =
    omega (arith, texts.texts.all, length-map slots field_seen, c.loop-k-test.true) in
    let own = own_text items k c.index.result.now within c.index.ensures inner
    (map field_seen slots) ms texts.texts L unknown (field_seen f) at in
    let of = rw c.in-Some.is at c.in_ok-members.ensures in
    let e = c.in_err-after-2 in
    let residual = c.from_residual-in_err-after-2 in
    let p = err_from_is_err_and residual.result residual.ensures.1 in
    rw (p.1, p.2) (fault_then e.field-0.0 _ _ (λ g h.
    let noted = found_holds c.note_next-noted.result _ (Err g) h.0
    (c.note_next-noted.ensures.noted (look L unknown read) own.found) in
    let here = found_holds c.note_next-noted.result _ (Err g) h.0 c.note_next-noted.ensures.read in
    let before = read_more items k c.index.result.now within c.index.ensures here inv.read in
    let rest = rw (c.deref.ensures.value, take_rest items (k + 1)) at h.1 in
    let all = all_read items (k + 1) before rest in
    let fails = next_found L unknown read owner slots wanted.place k wanted.levels wanted.left
    (record { ref_ptr = c.slots_of-slots.result.ref_ptr; now = f }) c.loop-k-test.true c.index-slots-k.is
    c.slots_of-slots.ensures.slots (slot_there L owner.0 slots k f c.slots_of-slots.ensures.slots at)
    (slots_paired L c.layout_is_well_made.ensures.declared owner.0) c.args.walk.now.noting.tape
    c.args.walk.now.noting.opened c.loop-k.walk.noting c.note_next-noted.new.walk.noting c.loop-k.after (Err g) inv.found
    noted in (
      object read,
      members_are_read c.cut_object_is_read.ensures c.cut_object_is_utf8.ensures excerpt.brackets excerpt.text.now
          members of.cut of.some c.requires.some items slots texts.texts texts.names texts.values (length slots)
          (omega arith) (λ j e low at. all j e at),
      fails_by g _ _ (λ h. table_by L unknown wanted.place wanted.levels wanted.left owner (object read) read refl ∙ h)
          fails,
    )) (if_found_both (Err e.field-0.0) _ _ e.ensures.same e.ensures.read))

pub table_is_whole : goal.objects::note_members-close_table-requires-clause-whole
table_is_whole t c = c.loop-k.invariant.found.noted.adds.whole

pub fields_are_stored : goal.objects::note_members-close_table-requires-clause-stored
fields_are_stored t c =
    let excerpt = c.args.excerpt in
    let ms = map (member_texts excerpt.text.now) c.in-Some.members.items in
    let found = c.loop-k.invariant.found in
    let same = found.noted.adds.layout ∙ c.requires.layout in (
      found.noted.entries,
      rw (same, c.len-opened.ensures.exact) (open_fields c.args.source.layout.now c.args.source.unknown (object_read
          (excerpt.brackets - 1) ms) c.args.owner c.slots_of-slots.result.now c.args.wanted.place c.loop-k.k c.args.wanted.levels
          c.args.wanted.left _ _ _ _ c.loop-k.after c.loop-k-test.false found c.layout_is_well_made.ensures
          c.slots_of-slots.ensures.slots c.loop-k.auto.k-end),
    )

pub table_adds_itself : goal.objects::note_members-returns-clause-noted
table_adds_itself t c =
    let excerpt = c.args.excerpt in
    let members = c.in-Some.members.items in
    let slots = c.slots_of-slots.result.now in
    let read = object_read (excerpt.brackets - 1) (map (member_texts excerpt.text.now) members) in
    let texts = rw c.as_slice.ensures.value at c.in_ok-texts.ensures in
    let of = rw c.in-Some.is at c.in_ok-members.ensures in
    let found = c.loop-k.invariant.found in
    let same = found.noted.adds.layout ∙ c.requires.layout in
    let closed = c.in_ok-close_table.ensures in (
      object read,
      members_are_read c.cut_object_is_read.ensures c.cut_object_is_utf8.ensures excerpt.brackets excerpt.text.now
          members of.cut of.some c.requires.some c.in_ok-texts.field-0.texts.items slots texts.texts texts.names
          texts.values c.loop-k.k c.loop-k-test.false c.loop-k.invariant.read,
      slots_noted c.args.source.layout.now c.args.source.unknown read c.args.owner slots c.args.wanted.place c.loop-k.k
          c.args.wanted.levels c.args.wanted.left _ _ _ _ c.loop-k.after c.loop-k-test.false found c.layout_is_well_made.ensures
          c.slots_of-slots.ensures.slots c.loop-k.auto.k-end c.close_table.new.self c.loop-k.walk.noting.tape.layout
          same (rw c.len-opened.ensures.exact at closed.waits) (rw same at closed.room) closed.whole closed.layout,
    )

pub slot_has_a_text : goal.objects::note_members-index-requires
slot_has_a_text t c =
    let texts = rw c.as_slice.ensures.value at c.in_ok-texts.ensures.texts in
    omega (
      arith,
      texts.all,
      length-map c.slots_of-slots.result.now field_seen,
      c.loop-k-test.true,
      c.in_ok-texts.field-0.texts.ok.0,
    )

pub first_within : goal.objects::note_members-close_table-requires-clause-within
first_within t c =
    let found = c.loop-k.invariant.found in
    let opens = found.noted.opens in
    rw c.len-opened.ensures.exact (opened_within _ _ opens.0 opens.1)

pub first_kept : goal.objects::note_members-truncate-requires
first_kept t c =
    let found = c.loop-k.invariant.found in
    let opens = found.noted.opens in
    record { within = rw c.len-opened.ensures.exact (opened_within _ _ opens.0 opens.1) }

pub fields_are_closed : goal.objects::note_members-returns-clause-opened
fields_are_closed t c =
    let found = c.loop-k.invariant.found in
    let opens = found.noted.opens in
    c.truncate.ensures.first ∙ rw c.len-opened.ensures.exact (opened_again _ _ opens.0 opens.1)
