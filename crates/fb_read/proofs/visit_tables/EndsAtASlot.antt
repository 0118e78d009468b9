-- How a walk ends at a slot, by how it ends at what the slot names.
use Rattle.std.proofs.Common.{◌≡◌, ℕ, ◌≤◌, List, [], false, Option, None, Some, Result, Ok, Err, refl, ◌∙◌, arith}
use Rattle.std.proofs.lemmas.Bool.Decides.{nat_tests}
use Rattle.fb_value.specs.declared.faults.ReadFault.{ReadFault}
use Rattle.fb_value.specs.Places.{table_part, ref_place, unknown_place, Place, named}
use Rattle.fb_schema.specs.declared.types.FieldInfo.{FieldInfo}
use Rattle.fb_read.specs.declared.buffer.Buffer.{Buffer}
use Rattle.fb_read.specs.declared.step.Step.{Step}
use Rattle.fb_read.specs.declared.walk.Walk.{Walk}
use Rattle.fb_read.specs.Ends.{parts_in_entry, ComesFrom, Passes, IsRefused, EndsAt, EndsAtEntry, slot_at}
use Rattle.fb_read.specs.Entered.{own_parts}
use Rattle.fb_read.specs.Visits.{Visits, union_place}
use Rattle.fb_read.specs.Whole.{WholeAt, WholeEntry}
use Rattle.fb_read.specs.Walks.{place, limits_of, visit_in, visit_entry_in}
use Rattle.fb_read.proofs.visit_tables.VisitsOnePlaceAfterAnother.{visit_member, visit_no_member}
use Rattle.fb_read.proofs.visit_tables.HearsTheWayBack.{leaf_heard, member_heard}
use Rattle.fb_read.proofs.visit_tables.PartsAddUp.{parts_none, parts_member}
use Rattle.fb_read.proofs.visit_tables.StaysWhole.{member_at}

-- what a code without a member has
no_parts_in : (buffer : Buffer) (c q : ℕ) (o : Option Place) → o ≡ union_place c q None → parts_in_entry buffer o ≡ 0
no_parts_in buffer c q None is = refl
no_parts_in buffer c q (Some x) is =
    let at : x ≡ place (unknown_place c) q = grind (arith, nat_tests) in
    rw at (parts_none buffer.layout.now buffer.bytes.now (place (unknown_place c) q) refl refl)

-- a walk that has met a code that no member has
abbrev pub not_whole : {H : Type 0} → Walk H → Walk H
not_whole walk = record { spent = walk.spent; ticks = walk.ticks; whole = false; hearer = walk.hearer }

module _ {H : Type 0} (buffer : Buffer) where
  -- past a slot that names no place
  pub no_place_passes : (x : Option Place) (tables : ℕ) (walk : Walk H) → x ≡ None → walk.spent ≤ buffer.most_cells
      → Passes buffer walk walk (visit_entry_in buffer x tables walk.spent) (parts_in_entry buffer x)
      (WholeEntry buffer x)
  no_place_passes x tables walk is few = rw is (record {
    visit = refl;
    few = few;
    ticks = omega arith;
    exact = omega arith;
    silent = refl;
    whole = λ still. (still, tt);
  })

  -- past a union of a code that no member has, or without a value
  pub no_member_passes : (m : Option ℕ) (c q tables : ℕ) (walk : Walk H) → m ≡ None → walk.spent ≤ buffer.most_cells
      → Passes buffer walk (not_whole walk) (visit_entry_in buffer (union_place c q m) tables walk.spent)
      (parts_in_entry buffer (union_place c q m)) (WholeEntry buffer (union_place c q m))
  no_member_passes m c q tables walk is few = rw is (record {
    visit = visit_no_member buffer.layout.now buffer.bytes.now (limits_of buffer) c q tables walk.spent;
    few = few;
    ticks = omega arith;
    exact = rw (no_parts_in buffer c q (union_place c q None) refl) (omega arith);
    silent = refl;
    whole = λ still. absurd cc;
  })

module _ {H T : Type 0} (told : H → List Step → H → Type 0) (buffer : Buffer) where
  -- at a slot that names a place
  pub slot_ends : (x : Option Place) (y : Place) (tables : ℕ) (old new : Walk H) (r : Result T ReadFault)
      → x ≡ Some y → EndsAt told buffer y tables old new r → EndsAtEntry told buffer x tables old new r
  slot_ends x y tables old new r is ends = rw is ends

  -- at a slot that names what names nothing: a number, a struct or a union's code
  pub leaf_ends : (silent : (h : H) → told h [] h) (x : Option Place) (y : Place) (tables : ℕ) (walk : Walk H)
      (r : Result T ReadFault) → x ≡ Some y → named buffer.layout.now buffer.bytes.now y.sort y.at ≡ []
      → own_parts y.sort ≡ 0 → WholeAt buffer y → walk.spent ≤ buffer.most_cells
      → Visits r walk.spent (visit_in buffer y tables walk.spent) → EndsAtEntry told buffer x tables walk walk r
  leaf_ends silent x y tables walk (Ok v) is none own whole few visits = rw is (record {
    visit = visits;
    few = few;
    ticks = omega arith;
    exact = rw (parts_none buffer.layout.now buffer.bytes.now y own none) (omega arith);
    silent = refl;
    whole = λ still. (still, whole);
  })
  leaf_ends silent x y tables walk (Err f) is none own whole few visits = rw is (record {
    visit = visits;
    ticks = omega arith;
    comes = leaf_heard told silent buffer y tables walk.spent f walk.hearer walk.ticks walk.ticks none visits
        (omega (arith, own));
  })

  -- at a union's value of a known member
  pub member_ends : (silent : (h : H) → told h [] h) (m : Option ℕ) (c t q tables : ℕ) (old new : Walk H)
      (r : Result T ReadFault) → m ≡ Some t
      → EndsAt told buffer (place (ref_place (table_part t)) q) tables old new r
      → EndsAtEntry told buffer (union_place c q m) tables old new r
  member_ends silent m c t q tables old new (Ok y) is passes =
      let L = buffer.layout.now in
      let b = buffer.bytes.now in
      rw is (record {
        visit = visit_member L b (limits_of buffer) c t q tables old.spent ∙ passes.visit;
        few = passes.few;
        ticks = passes.ticks;
        exact = rw (parts_member L b c t q) passes.exact;
        silent = passes.silent;
        whole = λ still. (let passed = passes.whole still in (passed.0, member_at buffer c t q passed.1));
      })
  member_ends silent m c t q tables old new (Err f) is ends = rw is (record {
    visit = visit_member buffer.layout.now buffer.bytes.now (limits_of buffer) c t q tables old.spent ∙ ends.visit;
    ticks = ends.ticks;
    comes = member_heard told silent buffer c t q tables old.spent old.hearer new.hearer old.ticks new.ticks ends.comes;
  })

-- where the result is known, and the slots behind it by another name
module _ {H T : Type 0} (told : H → List Step → H → Type 0) (buffer : Buffer) (p k : ℕ) (later rest : List FieldInfo)
    (field : FieldInfo) (tables : ℕ) (old new : Walk H) where
  pub slot_passed : (r : Result T ReadFault) (y : T) → later ≡ rest → r ≡ Ok y
      → EndsAtEntry told buffer (slot_at buffer p k later field) tables old new r
      → Passes buffer old new (visit_entry_in buffer (slot_at buffer p k rest field) tables old.spent)
      (parts_in_entry buffer (slot_at buffer p k rest field)) (WholeEntry buffer (slot_at buffer p k rest field))
  slot_passed r y is was ends = rw (is, was) at ends

  pub slot_was_refused : (r : Result T ReadFault) (e : ReadFault) → later ≡ rest → r ≡ Err e
      → EndsAtEntry told buffer (slot_at buffer p k later field) tables old new r
      → IsRefused buffer old new (visit_entry_in buffer (slot_at buffer p k rest field) tables old.spent)
      (ComesFrom told buffer (slot_at buffer p k rest field) tables old.spent old.hearer new.hearer old.ticks
      new.ticks) e
  slot_was_refused r e is was ends = rw (is, was) at ends
