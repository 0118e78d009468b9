-- What is moved has no more depth and no more cells.
use Rattle.std.proofs.Common.{◌≡◌, ℕ, suc, ◌≤◌, Bool, true, false, List, [], ◌∷◌, Option, None, Some, ℤ, refl, ap}
use Rattle.std.proofs.Common.{arith}
use Rattle.fb_value.specs.Datum.{Datum, a_number, a_vector, a_table, a_member, an_unknown, Parts}
use Rattle.fb_value.specs.Datum.{no_parts, more_parts, SlotEntries, no_entries, absent_entry, present_entry, count}
use Rattle.fb_value.specs.Counts.{depth, parts_depth, entries_depth, cells, parts_cells, entries_cells}
use Rattle.fb_layout.specs.Laid.{LaidSchema, Slot, union_kind, StoredShape, one_of, member_by_code}
use Rattle.fb_value.specs.Reads.{default_entry}
use Rattle.fb_conform.specs.Movement.{Movement, move, move_items, move_slots, unless_gone}
use Rattle.fb_conform.specs.Carry.{carrying, new_slots}
use Rattle.fb_conform.specs.Back.{taking_back, if_known, known_code}

pub count_moved : (m : Movement) (ds : Parts) → count (move_items m ds) ≡ count ds
count_moved m no_parts = refl
count_moved m (more_parts d ds) = ap suc (count_moved m ds)

-- What is added is no larger than nothing, and what is known no larger than what is moved.
pub record AddsNothing (m : Movement) (size : Datum → ℕ) (entries_size : SlotEntries → ℕ) : Type 0 where
  pub added : (gs : List Slot) → entries_size (m.added gs) ≡ 0
  pub absent : (g : Slot) (ss : SlotEntries) → entries_size (m.absent g ss) ≤ entries_size ss
  pub known : (s : StoredShape) (d e : Datum) → size (m.known s d e) ≤ size e

gone_depth : (gone : Bool) (d e : Datum) (ss rs : SlotEntries) → depth d ≤ depth e
    → entries_depth ss ≤ entries_depth rs → entries_depth (unless_gone gone d ss) ≤ entries_depth (present_entry e rs)
gone_depth true d e ss rs h i = omega arith
gone_depth false d e ss rs h i = omega arith

gone_cells : (gone : Bool) (d e : Datum) (ss rs : SlotEntries) → cells d ≤ cells e
    → entries_cells ss ≤ entries_cells rs → entries_cells (unless_gone gone d ss) ≤ entries_cells (present_entry e rs)
gone_cells true d e ss rs h i = omega arith
gone_cells false d e ss rs h i = omega arith

module _ (m : Movement) (nothing : AddsNothing m depth entries_depth) where
  mutual
    depth_moved : (d : Datum) → depth (move m d) ≤ depth d
    depth_moved (a_vector ds) = items_depth_moved ds
    depth_moved (a_table type ss) = omega (arith, slots_depth_moved (m.slots (m.type type)) ss)
    depth_moved (a_member c d) = depth_moved d
    depth_moved _ = omega arith

    items_depth_moved : (ds : Parts) → parts_depth (move_items m ds) ≤ parts_depth ds
    items_depth_moved no_parts = omega arith
    items_depth_moved (more_parts d ds) = omega (arith, depth_moved d, items_depth_moved ds)

    slots_depth_moved : (gs : List Slot) (ss : SlotEntries) → entries_depth (move_slots m gs ss) ≤ entries_depth ss
    slots_depth_moved gs no_entries = omega (arith, nothing.added gs)
    slots_depth_moved [] _ = omega arith
    slots_depth_moved (g ∷ gs) (absent_entry ss) =
        omega (arith, nothing.absent g (move_slots m gs ss), slots_depth_moved gs ss)
    slots_depth_moved (g ∷ gs) (present_entry d ss) =
        gone_depth g.deprecated (m.known g.shape d (move m d)) d (move_slots m gs ss) ss
        (omega (arith, nothing.known g.shape d (move m d), depth_moved d)) (slots_depth_moved gs ss)

module _ (m : Movement) (nothing : AddsNothing m cells entries_cells) where
  mutual
    cells_moved : (d : Datum) → cells (move m d) ≤ cells d
    cells_moved (a_vector ds) = omega (arith, items_cells_moved ds, count_moved m ds)
    cells_moved (a_table type ss) = omega (arith, slots_cells_moved (m.slots (m.type type)) ss)
    cells_moved (a_member c d) = cells_moved d
    cells_moved _ = omega arith

    items_cells_moved : (ds : Parts) → parts_cells (move_items m ds) ≤ parts_cells ds
    items_cells_moved no_parts = omega arith
    items_cells_moved (more_parts d ds) = omega (arith, cells_moved d, items_cells_moved ds)

    slots_cells_moved : (gs : List Slot) (ss : SlotEntries) → entries_cells (move_slots m gs ss) ≤ entries_cells ss
    slots_cells_moved gs no_entries = omega (arith, nothing.added gs)
    slots_cells_moved [] _ = omega arith
    slots_cells_moved (g ∷ gs) (absent_entry ss) =
        omega (arith, nothing.absent g (move_slots m gs ss), slots_cells_moved gs ss)
    slots_cells_moved (g ∷ gs) (present_entry d ss) =
        gone_cells g.deprecated (m.known g.shape d (move m d)) d (move_slots m gs ss) ss
        (omega (arith, nothing.known g.shape d (move m d), cells_moved d)) (slots_cells_moved gs ss)

-- Numbers and codes have no depth and no cells of their own.
pub record Measures (size : Datum → ℕ) (entries_size : SlotEntries → ℕ) : Type 0 where
  pub none : entries_size no_entries ≡ 0
  pub absent : (ss : SlotEntries) → entries_size (absent_entry ss) ≡ entries_size ss
  pub number : (n : ℤ) (ss : SlotEntries) → entries_size (present_entry (a_number n) ss) ≡ entries_size ss
  pub code : (c : ℕ) → size (an_unknown c) ≡ 0

module _ (size : Datum → ℕ) (entries_size : SlotEntries → ℕ) (measures : Measures size entries_size) where
  default_adds : (o : Option ℤ) (ss : SlotEntries) → entries_size (default_entry o ss) ≡ entries_size ss
  default_adds None ss = measures.absent ss
  default_adds (Some n) ss = measures.number n ss

  new_slots_add : (gs : List Slot) → entries_size (new_slots gs) ≡ 0
  new_slots_add [] = measures.none
  new_slots_add (g ∷ gs) = omega (arith, default_adds g.if_absent (new_slots gs), new_slots_add gs)

  code_known : (o : Option ℕ) (c : ℕ) (e : Datum) → size (known_code o c e) ≤ size e
  code_known None c e = omega (arith, measures.code c)
  code_known (Some t) c e = omega arith

  known_adds : (A : LaidSchema) (s : StoredShape) (d e : Datum) → size (if_known A s d e) ≤ size e
  known_adds A (one_of (union_kind u)) (a_member c d) e = code_known (member_by_code A u c) c e
  known_adds A _ d e = omega arith

  carrying_adds : (A B : LaidSchema) → AddsNothing (carrying A B) size entries_size
  carrying_adds A B = record {
    added = new_slots_add;
    absent = λ g ss. omega (arith, measures.absent ss);
    known = λ s d e. omega arith;
  }

  taking_back_adds : (A B : LaidSchema) → AddsNothing (taking_back A B) size entries_size
  taking_back_adds A B = record {
    added = λ fs. measures.none;
    absent = λ f ss. omega (arith, default_adds f.if_absent ss);
    known = known_adds A;
  }

depths : Measures depth entries_depth
depths = record { none = refl; absent = λ ss. refl; number = λ n ss. omega arith; code = λ c. refl }

all_cells : Measures cells entries_cells
all_cells = record { none = refl; absent = λ ss. refl; number = λ n ss. omega arith; code = λ c. refl }

pub depth_carried : (A B : LaidSchema) (d : Datum) → depth (move (carrying A B) d) ≤ depth d
depth_carried A B = depth_moved (carrying A B) (carrying_adds depth entries_depth depths A B)

pub cells_carried : (A B : LaidSchema) (d : Datum) → cells (move (carrying A B) d) ≤ cells d
cells_carried A B = cells_moved (carrying A B) (carrying_adds cells entries_cells all_cells A B)

pub depth_back : (A B : LaidSchema) (d : Datum) → depth (move (taking_back A B) d) ≤ depth d
depth_back A B = depth_moved (taking_back A B) (taking_back_adds depth entries_depth depths A B)

pub cells_back : (A B : LaidSchema) (d : Datum) → cells (move (taking_back A B) d) ≤ cells d
cells_back A B = cells_moved (taking_back A B) (taking_back_adds cells entries_cells all_cells A B)
