use Rattle.std.proofs.Common.{◌≡◌, ◌+◌, ◌-◌, ◌*◌, ◌≤◌, ◌++◌, List, ℕ, Some, false, drop, map}
use Rattle.fb_schema.specs.Seen.{field_seen}
use Rattle.fb_value.specs.Datum.{Parts, SlotEntries, a_table, a_struct, a_vector}
use Rattle.fb_read.specs.Tails.{entries_from, parts_from}
use Rattle.fb_text.specs.Indents.{blanks}
use Rattle.fb_text.specs.Nested.{GoesOn, IsBounded, fields_text, left_text, steps_left}
use Rattle.fb_text.specs.Texts.{items_text, members_text}
use Rattle.fb_text.specs.Writes.{State, state_of, Adds}
use Rattle.fb_text.proofs.values.+print.Given as goal

-- A child is lighter than what it is in.
abbrev pub decreases-put_value : goal.decreases-put_value
decreases-put_value g l = 8 * g.S.Shown.weight l.shown + 3

abbrev pub decreases-put_item : goal.decreases-put_item
decreases-put_item g l = 8 * g.S.Shown.weight l.shown + 3

abbrev pub decreases-put_found : goal.decreases-put_found
decreases-put_found g l = 8 * g.S.Shown.weight l.value.shown + 2

abbrev pub decreases-put_field : goal.decreases-put_field
decreases-put_field g l = 8 * g.S.Shown.weight l.value.shown + 4

abbrev pub decreases-put_fields : goal.decreases-put_fields
decreases-put_fields g l = 8 * g.S.Shown.weight l.here.now.shown

abbrev pub decreases-put_member : goal.decreases-put_member
decreases-put_member g l = 8 * g.S.Shown.weight l.shown + 4

abbrev pub decreases-put_table : goal.decreases-put_table
decreases-put_table g l = 8 * g.S.Shown.weight l.shown

abbrev pub decreases-put_struct : goal.decreases-put_struct
decreases-put_struct g l = 8 * g.S.Shown.weight l.shown + 1

abbrev pub decreases-put_vector : goal.decreases-put_vector
decreases-put_vector g l = 8 * g.S.Shown.weight l.shown

-- What adds the rest adds, with what was added, all of it.
abbrev pub invariant-put_table-loop-k : goal.invariant-put_table-loop-k
invariant-put_table-loop-k g l = record {
  within : l.k ≤ l.end;
  text : (es : SlotEntries) → g.S.Shown.shows l.shown l.style.layout.now (Some (a_table l.fn.owner.0 es))
      → (end : State) → Adds (state_of g.W.Write.contents l.out) end
      (members_text l.style.layout.now l.style.defaults (blanks l.inner) (blanks l.indent) l.some
      (drop l.k (map field_seen l.slots)) (entries_from l.k es))
      → Adds (state_of g.W.Write.contents l.initial.out) end
      (members_text l.style.layout.now l.style.defaults (blanks l.inner) (blanks l.indent) false
      (map field_seen l.slots) es);
}

abbrev pub decreases-put_table-loop-k : goal.decreases-put_table-loop-k
decreases-put_table-loop-k g l = l.end - l.k

abbrev pub invariant-put_struct-loop-structure : goal.invariant-put_struct-loop-structure
invariant-put_struct-loop-structure g l = record {
  bounded : IsBounded g.S.Shown.weight l.shown l.here;
  goes : (ds : Parts) → g.S.Shown.shows l.shown l.style.layout.now (Some (a_struct ds))
      → GoesOn g.S.Shown.shows l.style.layout.now l.style.defaults (blanks l.indent) l.structure ds l.here
      (state_of g.W.Write.contents l.initial.out) (state_of g.W.Write.contents l.out)
      (fields_text l.style.layout.now l.style.defaults (blanks l.indent) l.structure ds 0 0 false);
}

abbrev pub decreases-put_struct-loop-structure : goal.decreases-put_struct-loop-structure
decreases-put_struct-loop-structure g l = steps_left l.here

abbrev pub invariant-put_fields-loop-fields : goal.invariant-put_fields-loop-fields
invariant-put_fields-loop-fields g l = record {
  same : l.here ≡ record l.initial.here { next = l.here.next; some = l.here.some };
  on : l.initial.here.next ≤ l.here.next;
  text : (es : Parts) (behind : List ℕ) (end : State)
      → g.S.Shown.shows l.initial.here.shown l.style.layout.now (Some (a_struct es))
      → Adds (state_of g.W.Write.contents l.out) end
      (fields_text l.style.layout.now l.style.defaults (blanks l.indent) l.initial.here.structure es
      l.initial.here.depth l.here.next l.here.some ++ behind)
      → Adds (state_of g.W.Write.contents l.initial.out) end
      (left_text l.style.layout.now l.style.defaults (blanks l.indent) l.initial.here es ++ behind);
}

abbrev pub decreases-put_fields-loop-fields : goal.decreases-put_fields-loop-fields
decreases-put_fields-loop-fields g l = 65536 - l.here.next

abbrev pub invariant-put_vector-loop-i : goal.invariant-put_vector-loop-i
invariant-put_vector-loop-i g l =
    (ds : Parts) → g.S.Shown.shows l.shown l.style.layout.now (Some (a_vector ds)) → (end : State)
    → Adds (state_of g.W.Write.contents l.out) end
    (items_text l.style.layout.now l.style.defaults (blanks l.inner) (blanks l.indent) l.kind l.some
    (parts_from l.i ds))
    → Adds (state_of g.W.Write.contents l.initial.out) end
    (items_text l.style.layout.now l.style.defaults (blanks l.inner) (blanks l.indent) l.kind false ds)
