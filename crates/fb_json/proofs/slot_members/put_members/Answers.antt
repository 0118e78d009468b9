use Rattle.std.proofs.Common.{string_bytes, ◌≡◌, ◌∙◌, ◌||◌, true, false, Some, None, map, set, replicate, length}
use Rattle.std.proofs.Common.{ap, sym, refl}
use Rattle.std.proofs.lemmas.List.{map-set, length-map}
use Rattle.serde_json.specs.View.{members_view, view as tree_view}
use Rattle.serde_json.proofs.Views.{Entry}
use Rattle.fb_schema.specs.Schema.{body_at}
use Rattle.fb_schema.specs.Seen.{field_seen}
use Rattle.fb_json.specs.Meant.{names_known}
use Rattle.fb_json.specs.SlotMembers.{tree_seen}
use Rattle.fb_json.proofs.slot_members.MemberIsAllowed.{allowed_next, none_left, not_allowed}
use Rattle.fb_json.proofs.slot_members.MemberIsPutAtItsSlot.{all_put, found_next, next_put}
use Rattle.fb_json.proofs.slot_members.MemberIsPutAtItsSlot.{none_put, none_seen}
use Rattle.fb_json.proofs.slot_members.put_members.Goals as goal

pub loop-name-init : goal.loop-name-init
loop-name-init c =
    let S = c.args.source.layout.now.schema in
    let t = c.args.owner.0 in
    let gives = c.into_iter-name-iterator.ensures.into_iter_gives in
    let ms = members_view c.args.members.now.entries in
    let n = length c.args.slots.now in
    let start : map tree_seen c.args.found.now ≡ replicate n None =
    ap (map tree_seen) c.requires.empty ∙ none_seen (length c.args.slots.now) in
    let fs = map field_seen c.args.slots.now in
    let long : length c.args.slots.now ≡ length fs = sym (length-map c.args.slots.now field_seen) in
    record {
      put = rw (start, gives.0) (none_put fs ms (length c.args.slots.now) long);
      there = rw gives.0 gives.6;
      known = ap (λ es. c.args.source.unknown || names_known (body_at S t) (members_view es)) (sym gives.0);
    }

pub loop-name-preserved : goal.loop-name-preserved
loop-name-preserved c =
    let S = c.args.source.layout.now.schema in
    let t = c.args.owner.0 in
    let m = c.args.members.now in
    let e : Entry = (c.in-Some.name.now, c.in-Some.tree.now) in
    let g = field_seen c.in-Some-field.field.now in
    let before = c.loop-name.found in
    let put : map tree_seen c.put.new.self
    ≡ set (map tree_seen before) g.slot (Some (tree_view c.in-Some.tree.now)) =
    ap (map tree_seen) c.in_ok-put.ensures ∙ map-set tree_seen before g.slot (Some c.in-Some.tree) in
    record {
      put = rw put (next_put S c.schema-schema.result.now t c.schema-schema.ensures.made.declared
          (map field_seen c.args.slots.now) c.requires.slots m
          c.loop-name.name-iterator e c.next.new.self c.as_str.result.now (Some g)
          (map tree_seen before) c.schema-schema.ensures.schema c.as_str.ensures.value
          c.in-Some-field.ensures c.in-Some.ensures.steps c.loop-name.invariant.there c.loop-name.invariant.put);
      there = found_next m c.loop-name.name-iterator e c.next.new.self c.in-Some.ensures.steps
          c.loop-name.invariant.there;
      known = c.loop-name.invariant.known
          ∙ (ap (λ es. c.args.source.unknown || names_known (body_at S t) (members_view es)) c.in-Some.ensures.steps
          ∙ allowed_next S c.schema-schema.result.now t (string_bytes c.in-Some.name.now) c.as_str.result.now
          (tree_view c.in-Some.tree.now) (members_view c.next.new.self) c.args.source.unknown _
          c.schema-schema.ensures.schema c.as_str.ensures.value c.field_of-field.ensures
          (sym c.is_allowed.ensures ∙ c.if-not-is_allowed.false));
    }

pub loop-name-preserved-in_default : goal.loop-name-preserved-in_default
loop-name-preserved-in_default c =
    let S = c.args.source.layout.now.schema in
    let t = c.args.owner.0 in
    let m = c.args.members.now in
    let e : Entry = (c.in-Some.name.now, c.in-Some.tree.now) in
    let before = c.loop-name.found in
    record {
      put = next_put S c.schema-schema.result.now t c.schema-schema.ensures.made.declared
          (map field_seen c.args.slots.now) c.requires.slots m
          c.loop-name.name-iterator e c.next.new.self c.as_str.result.now None
          (map tree_seen before) c.schema-schema.ensures.schema c.as_str.ensures.value
          c.in_default.ensures c.in-Some.ensures.steps c.loop-name.invariant.there c.loop-name.invariant.put;
      there = found_next m c.loop-name.name-iterator e c.next.new.self c.in-Some.ensures.steps
          c.loop-name.invariant.there;
      known = c.loop-name.invariant.known
          ∙ (ap (λ es. c.args.source.unknown || names_known (body_at S t) (members_view es)) c.in-Some.ensures.steps
          ∙ allowed_next S c.schema-schema.result.now t (string_bytes c.in-Some.name.now) c.as_str.result.now
          (tree_view c.in-Some.tree.now) (members_view c.next.new.self) c.args.source.unknown _
          c.schema-schema.ensures.schema c.as_str.ensures.value c.field_of-field.ensures
          (sym c.is_allowed.ensures ∙ c.if-not-is_allowed.false));
    }

pub returns-then-not-is_allowed-clause-known : goal.returns-then-not-is_allowed-clause-known
returns-then-not-is_allowed-clause-known c =
    let S = c.args.source.layout.now.schema in
    let t = c.args.owner.0 in
    let none : (c.args.source.unknown || names_known (body_at S t) (members_view c.args.members.now.entries)) ≡ false =
    c.loop-name.invariant.known
    ∙ (ap (λ es. c.args.source.unknown || names_known (body_at S t) (members_view es)) c.in-Some.ensures.steps
    ∙ not_allowed S c.schema-schema.result.now t (string_bytes c.in-Some.name.now) c.as_str.result.now
    (tree_view c.in-Some.tree.now) (members_view c.next.new.self) c.args.source.unknown _
    c.schema-schema.ensures.schema c.as_str.ensures.value c.field_of-field.ensures
    (sym c.is_allowed.ensures ∙ c.if-not-is_allowed.true)) in
    rw none refl

pub returns-clause-members : goal.returns-clause-members
returns-clause-members c =
    let S = c.args.source.layout.now.schema in
    let t = c.args.owner.0 in
    let ms = members_view c.args.members.now.entries in
    let trees = c.loop-name.found in
    let fs = map field_seen c.args.slots.now in
    all_put trees fs ms (rw c.in-None.ensures.steps.0 at c.loop-name.invariant.put)

pub returns-clause-known : goal.returns-clause-known
returns-clause-known c =
    let S = c.args.source.layout.now.schema in
    let t = c.args.owner.0 in
    let all : (c.args.source.unknown || names_known (body_at S t) (members_view c.args.members.now.entries)) ≡ true =
    c.loop-name.invariant.known
    ∙ (ap (λ es. c.args.source.unknown || names_known (body_at S t) (members_view es)) c.in-None.ensures.steps.0
    ∙ none_left S t c.args.source.unknown) in
    rw all refl
