use Rattle.std.proofs.Common.{◌≡◌, ℕ, suc, true, false, min, ◌+◌, ◌-◌, ◌^◌, ◌<◌, ◌≤◌, ◌++◌, []}
use Rattle.std.proofs.Common.{slice_index, slice_index_or, append-nil, Some, length, map, sym, ap}
use Rattle.std.proofs.Common.{◌∙◌, add-one, arith}
use Rattle.fb_schema.specs.Schema.{body_at, slots_in}
use Rattle.fb_schema.specs.Seen.{field_seen}
use Rattle.fb_value.specs.Datum.{a_table, a_member, a_struct, a_vector, count}
use Rattle.fb_value.specs.Nth.{nth_entry, nth_part}
use Rattle.fb_text.specs.Indents.{blanks}
use Rattle.fb_layout.specs.Laid.{struct_at}
use Rattle.fb_text.specs.Nested.{HasStruct, fields_text}
use Rattle.fb_text.specs.declared.nested.StructCursor.{StructCursor}
use Rattle.fb_text.proofs.noted.PiecesAddUp.{then, added_as, added_failed}
use Rattle.fb_text.proofs.nested.StructStandsInItsParent.{outermost_stands, stands_deeper, few_bytes}
use Rattle.fb_text.proofs.values.NestedStructIsAField.{fields_next}
use Rattle.fb_text.proofs.values.NestedStructIsAField.{struct_first}
use Rattle.fb_text.proofs.values.OneMemberMore.{members_skip, members_step, members_behind, items_step, items_end}
use Rattle.fb_text.proofs.values.OneMemberMore.{table_text}
use Rattle.fb_text.proofs.values.MemberIsItsCodeAndValue.{seen_there, seen_long, entry_added}
use Rattle.fb_text.proofs.values.MemberIsItsCodeAndValue.{found_there, is_some_now}
use Rattle.fb_value.proofs.types.PartsByTheirIndex.{part_there}
use Rattle.fb_text.proofs.values.+print.Goals as goal

-- ---- orders

le_itself : (n : ℕ) → n ≤ n
le_itself n = omega arith

le_through : (a b c : ℕ) → a ≤ b → b ≤ c → a ≤ c
le_through a b c low high = omega arith

lt_through : (a b c : ℕ) → a < b → b ≤ c → a < c
lt_through a b c low high = omega arith

le_long : (k end n m : ℕ) → k ≤ end → end ≤ n → m ≡ n → k ≤ m
le_long k end n m low few long = omega arith

one_more : (n : ℕ) → n + 1 ≡ suc n
one_more n = omega arith

from_none : (n : ℕ) → 0 + n ≡ n
from_none n = omega arith

from_next : (k next : ℕ) → k + 1 ≤ next → suc k + (next - suc k) ≡ next
from_next k next from = omega arith

behind_one : (k i : ℕ) → suc k ≤ i → k + 1 ≤ i
behind_one k i past = omega arith

is_small : (n : ℕ) → n ≤ 65535 → min n (2 ^ 32 - 1) ≡ n
is_small n few = omega arith

few_levels : 0 + (2 ^ 64 - 2) < 2 ^ 64 - 1
few_levels = omega arith

at_end : (i n m : ℕ) → i ≤ n → n ≤ i → n ≡ m → i ≡ m
at_end i n m low high same = omega arith

pub put_member-returns-clause-text : goal.put_member-returns-clause-text
put_member-returns-clause-text g t c o shows =
    let L = c.args.style.layout.now in
    let top = c.head-found.ensures.top L o shows in
    entry_added L c.args.style.defaults (blanks c.args.inner.now) c.args.some (field_seen c.args.slot.now) o
    c.put_code-some.result _ _ _ (sym c.if-not-is_printed.false ∙ c.is_printed.ensures o top)
    (λ d e. rw c.schema.ensures.schema
    at (c.put_code-some.ensures.text d (rw (← e) top)))
    (λ d e. c.put_code-some.ensures.some d (rw (← e) top))
    (λ d e. then (rw c.as_str.ensures.value at c.put_member_line.ensures)
    (c.put_found.ensures d (rw (← e) shows)
    (rw (← e) top)))

pub put_struct-loop-structure-init : goal.put_struct-loop-structure-init
put_struct-loop-structure-init g t c =
    let L = c.args.style.layout.now in
    rw c.outermost-here.ensures (record {
      bounded = record { heavy = c.requires; light = le_itself _; few = few_levels };
      goes = λ ds shows. (
        ds,
        [],
        (shows, outermost_stands L c.args.style.defaults (blanks c.args.indent.now) c.args.structure ds),
        λ end rest. added_as (append-nil _) rest,
      );
    })

pub put_struct-loop-structure-preserved-then-put_fields : goal.put_struct-loop-structure-preserved-then-put_fields
put_struct-loop-structure-preserved-then-put_fields g t c = record {
  bounded = record {
    heavy = c.put_fields.ensures.bounded.heavy;
    light = le_through _ _ _ c.put_fields.ensures.bounded.light c.loop-structure.invariant.bounded.light;
    few = c.put_fields.ensures.bounded.few;
  };
  goes = λ ds shows.
      let (es, behind, at, more) = c.loop-structure.invariant.goes ds shows in
      let (fs, rest, on, next) = c.put_fields.ensures.text c.args.structure ds es behind at in
      (fs, rest, on, λ end adds. more end (next end adds));
}

pub put_struct-loop-structure-preserved : goal.put_struct-loop-structure-preserved
put_struct-loop-structure-preserved g t c = record {
  bounded = c.in-Some.ensures.bounded;
  goes = λ ds shows.
      let (es, behind, at, more) = c.loop-structure.invariant.goes ds shows in
      let (fs, rest, on, next) = c.put_fields.ensures.text c.args.structure ds es behind at in
      let (gs, last, around, ended) = c.in-Some.ensures.text c.args.style.defaults ds fs rest shows on in
      (gs, last, around, λ end adds. more end (next end (ended end adds)));
}

-- where a write failed, whatever is left may be left out
pub put_struct-returns-then-failed : goal.put_struct-returns-then-failed
put_struct-returns-then-failed g t c ds shows =
    let (es, behind, at, more) = c.loop-structure.invariant.goes ds shows in
    then c.put_str.ensures (more _ (added_failed _ _ (sym c.failed.ensures ∙ c.if-failed.true)))

pub put_struct-returns-in-None : goal.put_struct-returns-in-None
put_struct-returns-in-None g t c ds shows =
    let (es, behind, at, more) = c.loop-structure.invariant.goes ds shows in
    let (fs, rest, on, next) = c.put_fields.ensures.text c.args.structure ds es behind at in
    let ended = c.in-None.ensures.text c.args.style.defaults ds fs rest shows on in
    then c.put_str.ensures (more _ (next _ ended))

pub put_fields-loop-fields-preserved : goal.put_fields-loop-fields-preserved
put_fields-loop-fields-preserved g t c =
    let L = c.args.style.layout.now in
    let first = c.args.here.now in
    let here = c.loop-fields.here in
    let k = here.next in
    let x = c.index-fields-k.result in
    let fields = c.parts_of-fields.result.now in
    let less : k < length fields = rw c.from.ensures at c.loop-fields-test.true in
    let own : x ≡ slice_index_or fields k x = rw c.from-k.ensures at c.index-fields-k.is in
    let there = rw c.parts_of-fields.ensures.parts at (seen_there fields k x less own) in
    let one = one_more first.depth in
    let next = one_more k in
    let shown = ap (λ (h : StructCursor g.row.S.Denot). h.shown) c.loop-fields.invariant.same in
    record {
      same = ap (λ (h : StructCursor g.row.S.Denot). record h { next = k + 1; some = c.put_field-here.result })
          c.loop-fields.invariant.same;
      on = omega (arith, c.loop-fields.invariant.on);
      text = λ es behind end shows adds.
          let part = rw c.from-k.ensures at (c.child-part.ensures.shows L (Some (a_struct es)) (rw shown shows)) in
          let top = c.head-found.ensures.top L (nth_part es k) part in
          let text = rw (c.deeper-inner.ensures, one) at (c.put_field-here.ensures.text (nth_part es k) part top) in
          c.loop-fields.invariant.text es behind end shows
          (added_as (fields_next L c.args.style.defaults (blanks c.args.indent.now) first.structure es first.depth k
          here.some behind (field_seen x) there)
          (then text (rw (next, c.put_field-here.ensures.some (nth_part es k) top) at adds)));
    }

pub put_fields-returns-clause-text : goal.put_fields-returns-clause-text
put_fields-returns-clause-text g t c u ds es behind at =
    rw c.loop-fields.invariant.same
    (es, behind, at, λ end adds. c.loop-fields.invariant.text es behind end at.0 adds)

pub put_fields-returns-in-loop-fields-clause-text : goal.put_fields-returns-in-loop-fields-clause-text
put_fields-returns-in-loop-fields-clause-text g t c root ds es behind at =
    let L = c.args.style.layout.now in
    let defaults = c.args.style.defaults in
    let indent = blanks c.args.indent.now in
    let first = c.args.here.now in
    let here = c.loop-fields.here in
    let u = first.structure in
    let k = here.next in
    let s = c.in-Some.structure in
    let x = c.index-fields-k.result in
    let fields = c.parts_of-fields.result.now in
    let shown = ap (λ (h : StructCursor g.row.S.Denot). h.shown) c.loop-fields.invariant.same in
    let part = rw c.from-k.ensures at (c.child-part.ensures.shows L (Some (a_struct es)) (rw shown at.0)) in
    let (inner, is) = c.in-Some.ensures.part (nth_part es k) (c.head-found.ensures.top L _ part) in
    let less : k < length fields = rw c.from.ensures at c.loop-fields-test.true in
    let own : x ≡ slice_index_or fields k x = rw c.from-k.ensures at c.index-fields-k.is in
    let there = rw c.parts_of-fields.ensures.parts at (seen_there fields k x less own) in
    let has : HasStruct L u es k s inner =
    record { field = field_seen x; there = there; shape = c.in-Some.ensures.shape; part = is } in
    let deeper = stands_deeper L defaults indent root ds first.depth first.at u es behind k s inner at.1 has in
    let few = few_bytes L defaults c.layout_is_well_made.ensures indent root ds first.depth _ s inner _ deeper in
    let place : min (first.at + slice_index (struct_at L u.0).offsets k) (2 ^ 32 - 1)
    ≡ first.at + slice_index (struct_at L u.0).offsets k = is_small _ few in
    let one = one_more first.depth in
    let line = rw (c.deeper-inner.ensures, one, c.as_str.ensures.value) at c.put_member_line.ensures in
    rw (c.enter.ensures, c.loop-fields.invariant.same, place, one) (
      inner,
      fields_text L defaults indent u es first.depth (suc k) true ++ behind,
      (rw (← is) part, deeper),
      λ end adds. c.loop-fields.invariant.text es behind end at.0
          (added_as (struct_first L defaults indent u es first.depth k here.some behind s inner has)
          (then line (then c.put_str.ensures adds))),
    )

pub put_found-returns-in-Table : goal.put_found-returns-in-Table
put_found-returns-in-Table g t c d shows found =
    let top = rw c.in-Table.is at found in
    let same : d ≡ a_table c.in-Table.owner.0 top.0 = cc in
    rw same (c.put_table.ensures c.args.shape top.0 (rw same at shows))

pub put_found-returns-in-Member : goal.put_found-returns-in-Member
put_found-returns-in-Member g t c d shows found =
    let L = c.args.style.layout.now in
    let top = rw c.in-Member.is at found in
    let same : d ≡ a_member c.in-Member.field-0 top.0 = cc in
    rw same (c.put_value.ensures top.0
    (c.child.ensures.shows L (Some (a_member c.in-Member.field-0 top.0)) (rw same at shows)))

pub put_vector-returns-in-Some : goal.put_vector-returns-in-Some
put_vector-returns-in-Some g t c ds lies =
    let are = c.in-Some.ensures c.args.style.layout.now ds lies in
    then c.put_str.ensures (c.put_numbers.ensures c.args.style.defaults ds are)

pub put_vector-returns-then-failed : goal.put_vector-returns-then-failed
put_vector-returns-then-failed g t c ds lies =
    let left = added_failed _ _ (sym c.failed.ensures ∙ c.if-failed.true) in
    then c.put_str.ensures (rw c.inside-inner.ensures at (c.loop-i.invariant ds lies _ left))

pub put_table-loop-k-init : goal.put_table-loop-k-init
put_table-loop-k-init g t c = record {
  within = c.next_printed-k.ensures.within;
  text = λ es lies end rest.
      let L = c.args.style.layout.now in
      let slots = c.slots_of-slots.result.now in
      let fs = map field_seen slots in
      let seen : fs ≡ slots_in (body_at L.schema c.args.owner.0) = c.slots_of-slots.ensures.slots in
      let k = c.next_printed-k.result in
      let within : k ≤ length fs =
      le_long _ _ _ _ c.next_printed-k.ensures.within c.printed_slots-end.ensures.few (seen_long slots) in
      added_as (members_skip L c.args.style.defaults (blanks c.inside-inner.result) (blanks c.args.indent.now) false fs
      es k 0 k (from_none k) within
      (λ i f low past there. c.next_printed-k.ensures.unprinted L c.args.owner.0 es i f lies low past
      (rw seen at there))) rest;
}

pub put_table-loop-k-preserved : goal.put_table-loop-k-preserved
put_table-loop-k-preserved g t c = record {
  within = c.next_printed-k-in-loop-k.ensures.within;
  text = λ es lies end rest.
      let L = c.args.style.layout.now in
      let slots = c.slots_of-slots.result.now in
      let fs = map field_seen slots in
      let seen : fs ≡ slots_in (body_at L.schema c.args.owner.0) = c.slots_of-slots.ensures.slots in
      let k = c.loop-k.k in
      let next = c.next_printed-k-in-loop-k.result in
      let inner = blanks c.inside-inner.result in
      let there = nth_entry es k in
      let f = field_seen c.index-slots-k.result in
      let shows = c.child.ensures.shows L (Some (a_table c.args.owner.0 es)) lies in
      let less : k < length slots = lt_through _ _ _ c.loop-k-test.true c.printed_slots-end.ensures.few in
      let far = from_next k next c.next_printed-k-in-loop-k.ensures.from in
      let within : next ≤ length fs =
      le_long _ _ _ _ c.next_printed-k-in-loop-k.ensures.within c.printed_slots-end.ensures.few (seen_long slots) in
      let skip = members_skip L c.args.style.defaults inner (blanks c.args.indent.now) c.put_member-some.result fs es
      (next - suc k) (suc k) next far within
      (λ i g low past found. c.next_printed-k-in-loop-k.ensures.unprinted L c.args.owner.0 es i g lies
      (behind_one k i low) past (rw seen at found)) in
      let step = members_step L c.args.style.defaults inner (blanks c.args.indent.now) c.loop-k.some fs es k f
      (seen_there slots k c.index-slots-k.result less c.index-slots-k.is) in
      c.loop-k.invariant.text es lies end
      (added_as step (then (c.put_member-some.ensures.text there shows)
      (rw (c.put_member-some.ensures.some there shows) at (added_as skip rest))));
}

pub put_table-returns : goal.put_table-returns
put_table-returns g t c shape es lies =
    let L = c.args.style.layout.now in
    let fs = map field_seen c.slots_of-slots.result.now in
    let seen : fs ≡ slots_in (body_at L.schema c.args.owner.0) = c.slots_of-slots.ensures.slots in
    let long : length c.slots_of-slots.result.now ≡ length (slots_in (body_at L.schema c.args.owner.0)) =
    sym (seen_long c.slots_of-slots.result.now) ∙ ap length seen in
    let end = members_behind L c.args.style.defaults (blanks c.inside-inner.result) (blanks c.args.indent.now)
    c.loop-k.some fs es c.loop-k.k
    (λ j f past there. c.printed_slots-end.ensures.behind L c.args.owner.0 es j f lies long
    (le_through _ _ _ c.loop-k-test.false past) (rw seen at there)) in
    let all = c.loop-k.invariant.text es lies _ (added_as end (then c.put_closing.ensures c.put_str-2.ensures)) in
    added_as (table_text L c.args.style.defaults (blanks c.inside-inner.result) (blanks c.args.indent.now) shape
    c.args.owner.0 es) (then c.put_str.ensures (rw (c.inside-inner.ensures, seen) at all))

pub put_table-returns-then-failed : goal.put_table-returns-then-failed
put_table-returns-then-failed g t c shape es lies =
    let L = c.args.style.layout.now in
    let left = added_failed _ _ (sym c.failed.ensures ∙ c.if-failed.true) in
    added_as (table_text L c.args.style.defaults (blanks c.inside-inner.result) (blanks c.args.indent.now) shape
    c.args.owner.0 es) (then c.put_str.ensures
    (rw (c.inside-inner.ensures, c.slots_of-slots.ensures.slots) at (c.loop-k.invariant.text es lies _ left)))

pub put_vector-loop-i-preserved : goal.put_vector-loop-i-preserved
put_vector-loop-i-preserved g t c ds lies end rest =
    let L = c.args.style.layout.now in
    let i = c.loop-i.i in
    let less : i < count ds = rw (c.count-i-end.ensures.all L ds lies) at c.loop-i-test.true in
    let there = part_there ds i less in
    let shows = rw there.1 at (c.child.ensures.shows L (Some (a_vector ds)) lies) in
    let step = items_step L c.args.style.defaults (blanks c.inside-inner.result) (blanks c.args.indent.now) c.args.kind
    c.loop-i.some ds i there.0 there.1 in
    c.loop-i.invariant ds lies end
    (added_as step (then c.put_line.ensures (then (c.put_item.ensures there.0 shows) (rw add-one at rest))))

pub put_vector-returns : goal.put_vector-returns
put_vector-returns g t c ds lies =
    let L = c.args.style.layout.now in
    let over : c.loop-i.i ≡ count ds =
    at_end _ _ _ c.loop-i.auto.i-end c.loop-i-test.false (c.count-i-end.ensures.all L ds lies) in
    let end = items_end L c.args.style.defaults (blanks c.inside-inner.result) (blanks c.args.indent.now) c.args.kind
    c.loop-i.some ds c.loop-i.i over in
    let all = c.loop-i.invariant ds lies _ (added_as end (then c.put_closing.ensures c.put_str-2.ensures)) in
    then c.put_str.ensures (rw c.inside-inner.ensures at all)

pub put_field-returns : goal.put_field-returns
put_field-returns g t c = record {
  text = λ o shows top.
      let (d, is) = found_there c.args.value.found o c.in_default.not-Absent top in
      rw is (then (rw c.as_str.ensures.value at c.put_member_line.ensures)
      (c.put_found.ensures d (rw is at shows) (rw is at top)));
  some = λ o top.
      let (d, is) = found_there c.args.value.found o c.in_default.not-Absent top in rw is (is_some_now c.args.some);
}
