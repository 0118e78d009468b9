-- A call within the walk is nearer to its end, and keeps to its limits.
use Rattle.std.proofs.Common.{◌≡◌, ℕ, ◌+◌, ◌-◌, ◌*◌, ◌^◌, ◌<◌, ◌≤◌, arith, rules}
use Rattle.fb_read.proofs.visit_tables.+visit.Goals as goal

-- ---- positions and counts

field_low : (at offset : ℕ) → at < 2 ^ 32 → offset < 2 ^ 16 → at + offset < 2 ^ 33
field_low at offset low small = omega arith

target_low : (at long : ℕ) → at < long + 2 ^ 32 → long < 2 ^ 31 → at < 2 ^ 33
target_low at long near short = omega arith

element_low : (at i n long : ℕ) → i < n → at + n * 4 ≤ long → long < 2 ^ 31 → at + 4 * i < 2 ^ 33
element_low at i n long less within short = omega arith

slot_below : (i n : ℕ) → i < n → n < 2 ^ 15 → i < 2 ^ 15
slot_below i n less few = omega arith

-- ---- ranks, the number of tables left before them

lower : (n next gap t : ℕ) → n + (next + gap + 1) ≡ t → n + next < t
lower n next gap t is = omega arith

lowest : (n t : ℕ) → n + 1 ≡ t → n < t
lowest n t is = omega arith

deeper : (most tables t : ℕ) → tables < most → 16 * (most - tables) ≡ t → 16 * (most - (tables + 1)) + 8 < t
deeper most tables t less is = omega arith

one_deeper : (tables most : ℕ) → tables < most → tables + 1 ≤ most
one_deeper tables most less = omega arith

-- ---- the calls

pub table_behind_element : goal.visit_behind-visit_table_behind-requires
table_behind_element g t c κs lives = (
  lower _ 1 0 t c.decreases,
  (lives, (c.requires.low, c.requires.limits)),
)

pub element_behind : goal.visit_elements-visit_behind-visited-requires
element_behind g t c κs lives = (
  lower _ 2 0 t c.decreases,
  (
    lives,
    (
      element_low _ _ _ _ c.loop-i-test.true c.requires.within c.args.buffer.now.short,
      record {
        flat = c.requires.limits.flat;
        few = c.loop-i.invariant.few;
        known = rw c.loop-i.invariant.silent c.requires.limits.known;
      },
    ),
  ),
)

pub vector_behind : goal.visit_slot-visit_vector_behind-requires
vector_behind g t c κs lives = (
  lower _ 5 1 t c.decreases,
  (
    lives,
    (
      field_low _ _ c.requires.vtable.low c.held_slot-offset.ensures.small,
      c.requires.limits,
    ),
  ),
)

pub table_behind : goal.visit_slot-visit_table_behind-requires
table_behind g t c κs lives = (
  lower _ 1 5 t c.decreases,
  (
    lives,
    (
      field_low _ _ c.requires.vtable.low c.held_slot-offset.ensures.small,
      c.requires.limits,
    ),
  ),
)

pub union_behind : goal.visit_slot-visit_union-requires
union_behind g t c κs lives = (
  lower _ 6 0 t c.decreases,
  (
    lives,
    (
      field_low _ _ c.requires.vtable.low c.held_slot-offset.ensures.small,
      c.requires.limits,
    ),
  ),
)

pub member_behind : goal.visit_union-visit_table_behind-requires
member_behind g t c κs lives = (
  lower _ 1 4 t c.decreases,
  (lives, (c.requires.low, c.requires.limits)),
)

pub slot_in_turn : goal.visit_slots-visit_slot-visited-requires
slot_in_turn g t c κs lives = (
  lower _ 7 0 t c.decreases,
  (
    lives,
    (
      c.requires.vtable,
      (
        c.stored_slots-present.ensures.held c.loop-slot.slot c.loop-slot-test.true,
        (
          slot_below _ _ c.loop-slot-test.true c.stored_slots-present.ensures.small,
          record {
            flat = c.requires.limits.flat;
            few = c.loop-slot.invariant.few;
            known = rw c.loop-slot.invariant.silent c.requires.limits.known;
          },
        ),
      ),
    ),
  ),
)

pub slots_entered : goal.visit_table-visit_slots-requires
slots_entered g t c κs lives =
    let small : c.args.walk.now.spent < c.args.buffer.now.most_cells = rw (← c.from.ensures) c.if-walk-from.false in (
      deeper _ _ t c.if-tables-buffer.false c.decreases,
      (
        lives,
        (
          search rules,
          (
            omega (arith, c.slots_of-slots.ensures),
            record {
              flat = one_deeper _ _ c.if-tables-buffer.false;
              few = one_deeper _ _ small;
              known = c.requires.limits.known;
            },
          ),
        ),
      ),
    )

pub table_entered : goal.visit_table_behind-visit_table-visited-requires
table_entered g t c κs lives = (
  lowest _ t c.decreases,
  (
    lives,
    (
      target_low _ _ c.in_ok-target.ensures.near c.args.buffer.now.short,
      rw (c.pass_over.ensures.before c.if-pass_over.false) c.requires.limits,
    ),
  ),
)

pub elements_entered : goal.visit_vector-visit_elements-requires
elements_entered g t c κs lives = (
  lower _ 3 0 t c.decreases,
  (
    lives,
    (
      search rules,
      record { flat = c.requires.limits.flat; few = omega arith; known = c.requires.limits.known },
    ),
  ),
)

pub vector_entered : goal.visit_vector_behind-visit_vector-visited-requires
vector_entered g t c κs lives = (
  lower _ 4 0 t c.decreases,
  (
    lives,
    (
      target_low _ _ c.in_ok-target.ensures.near c.args.buffer.now.short,
      rw (c.pass_over.ensures.before c.if-pass_over.false) c.requires.limits,
    ),
  ),
)
