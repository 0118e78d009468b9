-- A table whose number and vtable stand where they were laid.
use Rattle.std.proofs.Common.{◌≡◌, ℕ, ◌+◌, ◌-◌, ◌*◌, ◌^◌, ◌<◌, ◌≤◌, Bool, true, false, cond, not, ◌&&◌, nat_lt, nat_le}
use Rattle.std.proofs.Common.{length, None, refl, arith}
use Rattle.std.proofs.lemmas.Bool.{ltb-true, ltb-false, le-leb, lt-leb, lt-ltb, le-ltb, eq-eqb, not_from_false}
use Rattle.fb_value.specs.Datum.{a_table, SlotEntries}
use Rattle.fb_value.specs.Num.{Bytes, num, divides}
use Rattle.fb_layout.specs.Laid.{LaidSchema, slots_of}
use Rattle.fb_value.specs.Places.{part_place, table_part, vtable, slot_number, named_slots}
use Rattle.fb_value.specs.Rules.{Aligned, fault_by, KeepsBy, has_vtable_by, first_missing}
use Rattle.fb_value.specs.Lies.{LiesBy, LiesSlotsBy}
use Rattle.fb_build.specs.TableBytes.{way_to}
use Rattle.fb_value.proofs.rules.RulesHoldOneByOne.{hold, no_rules}
use Rattle.fb_value.proofs.tails.SameBytesHoldTheSameFurtherOn.{six_from}

way_back : (t : Bool) (p q : ℕ) → nat_lt p q ≡ t → p < 2 ^ 31 → q < 2 ^ 31
    → (nat_lt (cond t (2 ^ 32 - (q - p)) (p - q)) (2 ^ 31) ≡ not t)
    × (cond (not t) (p - cond t (2 ^ 32 - (q - p)) (p - q)) (p + (2 ^ 32 - cond t (2 ^ 32 - (q - p)) (p - q))) ≡ q)
    × ((not t && nat_lt p (cond t (2 ^ 32 - (q - p)) (p - q))) ≡ false)
way_back true p q e low high =
    (le-ltb _ _ (omega (arith, low, high, ltb-true _ _ e)), omega (arith, low, high, ltb-true _ _ e), refl)
way_back false p q e low high =
    (lt-ltb _ _ (omega (arith, low)), omega (arith, ltb-false _ _ e), le-ltb _ _ (omega arith))

module _ (al : Aligned) (b : Bytes) (p q n : ℕ) (low : p < 2 ^ 31) (high : q < 2 ^ 31) (way : num b p 4 ≡ way_to p q)
    (size : num b q 2 ≡ 4 + 2 * n) where
  facts : (nat_lt (num b p 4) (2 ^ 31) ≡ not (nat_lt p q))
      × (cond (not (nat_lt p q)) (p - num b p 4) (p + (2 ^ 32 - num b p 4)) ≡ q)
      × ((not (nat_lt p q) && nat_lt p (num b p 4)) ≡ false)
  facts = rw way (way_back (nat_lt p q) p q refl low high)

  pub vtable_is : vtable b p ≡ q
  vtable_is = rw facts.0 facts.1

  -- the vtable isn't before the bytes
  pub vtable_inside : (nat_lt (num b p 4) (2 ^ 31) && nat_lt p (num b p 4)) ≡ false
  vtable_inside = rw facts.0 facts.2

  pub vtable_good : al 2 q ≡ true → q + (4 + 2 * n) ≤ length b → has_vtable_by al b p ≡ true
  vtable_good even room =
      let first : not (nat_lt (num b p 4) (2 ^ 31) && nat_lt p (num b p 4)) ≡ true =
      not_from_false _ (rw facts.0 facts.2) in
      let size2 : num b (vtable b p) 2 ≡ 4 + 2 * n = rw vtable_is size in
      let even1 : al 2 (vtable b p) ≡ true = rw vtable_is even in
      let start : nat_le (vtable b p + 2) (length b) ≡ true = le-leb _ _ (omega (arith, vtable_is, room)) in
      let even2 : divides 2 (num b (vtable b p) 2) ≡ true = eq-eqb _ _ (omega (arith, size2)) in
      let four : nat_le 4 (num b (vtable b p) 2) ≡ true = le-leb _ _ (omega (arith, size2)) in
      let end : nat_le (vtable b p + num b (vtable b p) 2) (length b) ≡ true =
      le-leb _ _ (omega (arith, vtable_is, size2, room)) in
      six_from _ _ _ _ _ _ first even1 start even2 four end

  -- a slot's number where the vtable has it, and none past its end
  pub slot_there : (k : ℕ) → k < n → slot_number b p k ≡ num b (q + (4 + 2 * k)) 2
  unfolding slot_number
  slot_there k under =
      let within : nat_le (6 + 2 * k) (num b (vtable b p) 2) ≡ true =
      rw (vtable_is, size) (le-leb _ _ (omega (arith, under))) in
      rw (within, vtable_is) refl

  pub slot_past : (k : ℕ) → n ≤ k → slot_number b p k ≡ 0
  unfolding slot_number
  slot_past k over =
      let past : nat_le (6 + 2 * k) (num b (vtable b p) 2) ≡ false =
      rw (vtable_is, size) (lt-leb _ _ (omega (arith, over))) in
      rw past refl

-- a table lies where its entries do
pub table_lies : (L : LaidSchema) (al : Aligned) (b : Bytes) (t p : ℕ) (ss : SlotEntries) → al 4 p ≡ true
    → p + 4 ≤ length b → has_vtable_by al b p ≡ true → first_missing b p 0 (slots_of L t) ≡ None
    → LiesSlotsBy al L b (slots_of L t) (named_slots L b p 0 (slots_of L t)) ss
    → LiesBy al L b (part_place (table_part t)) p (a_table t ss)
unfolding fault_by
table_lies L al b t p ss four within good none entries =
    let keeps : KeepsBy al L b (part_place (table_part t)) p =
    hold _ _ _ four (hold _ _ _ (le-leb _ _ within) (hold _ _ _ good (hold _ _ _ (rw none refl) no_rules))) in
    (keeps, refl, entries)
