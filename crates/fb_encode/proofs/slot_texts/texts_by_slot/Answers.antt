use Rattle.std.proofs.Common.{◌+◌, ◌-◌, sym, arith, length, map, false}
use Rattle.std.proofs.Common.{option_copied, option_map}
use Rattle.std.proofs.lemmas.List.{length-map, take_all}
use Rattle.fb_schema.specs.Seen.{field_seen}
use Rattle.fb_pieces.specs.declared.cut.Member.{Member}
use Rattle.fb_encode.proofs.slot_texts.TextsAreAtTheirSlots.{none_put}
use Rattle.fb_encode.proofs.slot_texts.MembersAreInTheText.{member_within}
use Rattle.fb_encode.proofs.slot_texts.NextMemberIsPut.{next_put}
use Rattle.fb_encode.proofs.slot_texts.texts_by_slot.Goals as goal

abbrev none : Member
none = record { name = record { start = 0; end = 0 }; value = record { start = 0; end = 0 }; is_last = false }

pub loop-member-init : goal.loop-member-init
loop-member-init c =
    rw c.in_ok-texts.ensures (none_put c.args.source.layout.now.schema c.args.owner.0 (map field_seen c.args.slots.now)
    c.args.source.unknown _ (length c.args.slots.now) (sym (length-map c.args.slots.now field_seen)))

pub piece_of-name-requires-clause-within : goal.piece_of-name-requires-clause-within
piece_of-name-requires-clause-within c =
    (member_within c.args.excerpt.text.now (c.requires.cut.at + 1) c.requires.cut.end c.args.members.now
    c.requires.cut.cut c.loop-member.member-index none c.loop-member-test.true).0

pub piece_of-value-requires-clause-within : goal.piece_of-value-requires-clause-within
piece_of-value-requires-clause-within c =
    (member_within c.args.excerpt.text.now (c.requires.cut.at + 1) c.requires.cut.end c.args.members.now
    c.requires.cut.cut c.loop-member.member-index none c.loop-member-test.true).1

pub loop-member-preserved : goal.loop-member-preserved
loop-member-preserved c =
    let S = c.args.source.layout.now.schema in
    let t = c.args.owner.0 in
    let over = rw c.put_text-over.ensures.over at c.in_ok-pass_by_text.ensures in
    rw (c.put_text-over.ensures.texts, c.known_with-known.ensures)
    (next_put S t c.layout_is_well_made.ensures.declared (map field_seen c.args.slots.now) c.requires.slots
    c.args.source.unknown (c.args.excerpt.brackets - 1) c.loop-member.texts.items c.loop-member.known
    c.args.excerpt.text.now c.args.members.now c.loop-member.member-index none c.loop-member-test.true c.loop-member.invariant
    c.piece_of-name.result c.piece_of-value.result c.piece_of-name.ensures.text c.piece_of-name.ensures.brackets
    c.piece_of-value.ensures.text c.piece_of-value.ensures.brackets c.in_ok-field.ensures.name
    (option_map field_seen (option_copied c.in_ok-field.field)) c.in_ok-field.ensures.field over)

pub returns-clause-names : goal.returns-clause-names
returns-clause-names c =
    let all = take_all c.loop-member.member-index c.args.members.now (omega (arith, c.loop-member-test.false)) in
    rw (← all) c.loop-member.invariant.names

pub returns-clause-values : goal.returns-clause-values
returns-clause-values c read =
    let all = take_all c.loop-member.member-index c.args.members.now (omega (arith, c.loop-member-test.false)) in
    rw (← all) (c.loop-member.invariant.values read)

pub returns-clause-texts : goal.returns-clause-texts
returns-clause-texts c =
    let all = take_all c.loop-member.member-index c.args.members.now (omega (arith, c.loop-member-test.false)) in
    rw (← all) c.loop-member.invariant.texts_are

pub returns-clause-known : goal.returns-clause-known
returns-clause-known c =
    let all = take_all c.loop-member.member-index c.args.members.now (omega (arith, c.loop-member-test.false)) in
    rw (← all) c.loop-member.invariant.known_is
