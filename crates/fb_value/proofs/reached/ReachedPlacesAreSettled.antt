-- From a place where a value lies, each place that is reached has a value or a code.
use Rattle.std.proofs.Common.{◌≡◌, ℕ, zero, suc, ◌+◌, ◌⊎◌, inl, inr, List, [], ◌∷◌, Option, None, Some, slice_get}
use Rattle.std.proofs.Common.{refl}
use Rattle.fb_layout.specs.Laid.{LaidSchema, Slot, StoredKind, table_kind, text_kind, slots_of, size_of}
use Rattle.fb_value.specs.Datum.{Datum, a_text, a_vector, a_table, a_member, Parts, no_parts, more_parts, SlotEntries}
use Rattle.fb_value.specs.Datum.{no_entries, absent_entry, present_entry, count}
use Rattle.fb_value.specs.Num.{Bytes, num}
use Rattle.fb_value.specs.Places.{Target, table_part, member_part, text_part, vector_part, Sort, ref_place, part_place}
use Rattle.fb_value.specs.Places.{inline_place, code_place, unknown_place, Place, named, named_slots, named_elements}
use Rattle.fb_value.specs.Places.{target_of}
use Rattle.fb_value.specs.Lies.{IsCode, EntryAt, Lies, LiesItems, LiesSlots, LiesAt}
use Rattle.fb_value.specs.Reached.{Path, Names, Leads}
use Rattle.fb_value.specs.EachTable.{EachTable, EachItem, EachEntry, EachTableAt}
use Rattle.fb_value.proofs.reached.StepsLeadForward.{same_place}

-- a place without a value of its own: a code that keeps its rules, or the value of one that no member has
unfoldable pub IsBare : LaidSchema → Bytes → Sort → ℕ → Type 0
IsBare L b (unknown_place c) p = Unit {0}
IsBare L b (code_place u k required here) p = IsCode L b (code_place u k required here) p
IsBare L b _ p = ⊥

bare_code : (L : LaidSchema) (b : Bytes) (s : Sort) (p : ℕ) → IsCode L b s p → IsBare L b s p
unfolding IsBare
bare_code L b (code_place u k required here) p is = is
bare_code L b _ p is = absurd is

module _ (L : LaidSchema) (b : Bytes) (P : ℕ → ℕ → Type 0) where
  -- a value lies there of whose tables P holds, or nothing is named there
  unfoldable pub Settled : Place → Type 0
  Settled x = ((d : Datum) × LiesAt L b x.sort x.at d × EachTableAt L b P x.sort x.at d) ⊎ IsBare L b x.sort x.at

  entry_settled : (s : Sort) (p : ℕ) (d : Datum) → EntryAt L b s p d (λ s q. Lies L b s q d) → EachTableAt L b P s p d
      → Settled (record { sort = s; at = p })
  unfolding Settled IsBare
  entry_settled (code_place u k required here) p d lies each = absurd lies
  entry_settled (unknown_place c) p d lies each = inr tt
  entry_settled _ p d lies each = inl (d, lies, each)

  slots_child : (fs : List Slot) (xs : List (Option Place)) (es : SlotEntries) → LiesSlots L b fs xs es
      → EachEntry L b P xs es → (k : ℕ) (y : Place) → slice_get xs k ≡ Some (Some y) → Settled y
  unfolding Settled
  slots_child [] [] no_entries lies each k y e = cc
  slots_child (f ∷ fs) (None ∷ xs) (absent_entry es) lies each zero y e = cc
  slots_child (f ∷ fs) (Some x ∷ xs) (absent_entry es) lies each zero y e =
      rw (← (same_place x y e)) (inr (bare_code L b x.sort x.at lies.0))
  slots_child (f ∷ fs) (x ∷ xs) (absent_entry es) lies each (suc k) y e = slots_child fs xs es lies.1 each k y e
  slots_child (f ∷ fs) (None ∷ xs) (present_entry d es) lies each zero y e = cc
  slots_child (f ∷ fs) (Some x ∷ xs) (present_entry d es) lies each zero y e =
      rw (← (same_place x y e)) (entry_settled x.sort x.at d lies.0 each.0)
  slots_child (f ∷ fs) (x ∷ xs) (present_entry d es) lies each (suc k) y e = slots_child fs xs es lies.1 each.1 k y e
  slots_child _ _ _ lies each k y e = absurd lies

  items_child : (kind : StoredKind) (X : Target) (p : ℕ) (ds : Parts) → target_of kind ≡ Some X → size_of L kind ≡ 4
      → LiesItems L b kind p ds → EachItem L b P kind p ds → (k : ℕ) (y : Place)
      → slice_get (named_elements X p (count ds)) k ≡ Some (Some y) → Settled y
  unfolding Settled named_elements
  items_child kind X p no_parts is four lies each k y e = cc
  items_child kind X p (more_parts d ds) is four lies each zero y e =
      rw (← (same_place (record { sort = ref_place X; at = p }) y e)) (inl (
        d,
        rw is at lies.0,
        rw is at each.0,
      ))
  items_child kind X p (more_parts d ds) is four lies each (suc k) y e =
      items_child kind X (p + 4) ds is four (rw (← four) lies.1)
      (rw (← four) each.1) k y e

  vector_child : (kind : StoredKind) (p : ℕ) (ds : Parts) → count ds ≡ num b p 4 → LiesItems L b kind (p + 4) ds
      → EachItem L b P kind (p + 4) ds → (k : ℕ) (y : Place)
      → slice_get (named L b (part_place (vector_part kind)) p) k ≡ Some (Some y) → Settled y
  vector_child text_kind p ds n lies each k y e = items_child text_kind text_part (p + 4) ds refl refl lies each k y
      (rw n e)
  vector_child (table_kind t) p ds n lies each k y e = items_child (table_kind t) (table_part t) (p + 4) ds refl refl
      lies each k y (rw n e)
  vector_child _ p ds n lies each k y e = cc

  part_child : (s : Sort) (p : ℕ) (d : Datum) → Lies L b s p d → EachTable L b P s p d → (k : ℕ) (y : Place)
      → slice_get (named L b s p) k ≡ Some (Some y) → Settled y
  part_child (inline_place kind) p d lies each k y e = cc
  part_child (part_place text_part) p (a_text bytes) lies each k y e = cc
  part_child (part_place (vector_part kind)) p (a_vector ds) lies each k y e =
      vector_child kind p ds lies.1 lies.2 each k y e
  part_child (part_place (table_part t)) p (a_table type es) lies each k y e =
      slots_child (slots_of L t) (named_slots L b p 0 (slots_of L t)) es lies.2 each.1 k y e
  part_child (part_place (member_part c t)) p (a_member c2 d) lies each k y e =
      part_child (part_place (table_part t)) p d lies.1 each k y e
  part_child _ p _ lies each k y e = absurd lies

  ref_child : (X : Target) (p : ℕ) (d : Datum) → Lies L b (part_place X) (p + num b p 4) d
      → EachTable L b P (part_place X) (p + num b p 4) d → (k : ℕ) (y : Place)
      → slice_get (named L b (ref_place X) p) k ≡ Some (Some y) → Settled y
  unfolding Settled
  ref_child X p d lies each zero y e =
      rw (← (same_place (record { sort = part_place X; at = p + num b p 4 }) y e)) (inl (d, lies, each))
  ref_child X p d lies each (suc k) y e = cc

  at_child : (s : Sort) (p : ℕ) (d : Datum) → LiesAt L b s p d → EachTableAt L b P s p d → (k : ℕ) (y : Place)
      → slice_get (named L b s p) k ≡ Some (Some y) → Settled y
  at_child (ref_place X) p d lies each k y e = ref_child X p d lies.1 each k y e
  at_child (part_place X) p d lies each k y e = part_child (part_place X) p d lies each k y e
  at_child (inline_place kind) p d lies each k y e = cc
  at_child _ p d lies each k y e = absurd lies

  bare_child : (s : Sort) (p : ℕ) → IsBare L b s p → (k : ℕ) (y : Place)
      → slice_get (named L b s p) k ≡ Some (Some y) → Settled y
  unfolding IsBare
  bare_child (code_place u n required here) p is k y e = cc
  bare_child (unknown_place c) p is k y e = cc
  bare_child _ p is k y e = absurd is

  child : (x : Place) → Settled x → (k : ℕ) (y : Place) → Names L b x k y → Settled y
  unfolding Settled
  child x (inl lies) k y e = at_child x.sort x.at lies.0 lies.1 lies.2 k y e
  child x (inr is) k y e = bare_child x.sort x.at is k y e

  pub reach : (path : Path) (x y : Place) → Settled x → Leads L b x path y → Settled y
  reach [] x y settled e = rw (← e) settled
  reach (k ∷ path) x y settled leads = reach path leads.1 y (child x settled k leads.1 leads.2) leads.3
