-- Where a value lies, each reached place keeps its rules.
use Rattle.std.proofs.Common.{ℕ, ◌+◌, inl, inr, List, ◌∷◌, Option, None, Some, refl}
use Rattle.fb_layout.specs.Laid.{LaidSchema, StoredKind, slots_of, size_of}
use Rattle.fb_value.specs.Datum.{Datum, a_text, a_vector, a_table, a_member, Parts, no_parts, more_parts, SlotEntries}
use Rattle.fb_value.specs.Datum.{absent_entry, present_entry}
use Rattle.fb_value.specs.Num.{Bytes, num}
use Rattle.fb_value.specs.Places.{Target, table_part, member_part, text_part, vector_part, Sort, ref_place, part_place}
use Rattle.fb_value.specs.Places.{inline_place, code_place, unknown_place, Place, named_slots, target_of}
use Rattle.fb_value.specs.Rules.{Keeps, first_failing, fault_by}
use Rattle.fb_value.specs.Lies.{Lies, LiesAt}
use Rattle.fb_value.specs.Reached.{AllKeep}
use Rattle.fb_value.specs.EachTable.{EachBehind, EachNamed, EachElement, EachTable, EachItem, EachEntry}
use Rattle.fb_value.proofs.reached.ReachedPlacesAreSettled.{IsBare, Settled, reach}

-- Where a value lies, the place keeps its rules.
pub lies_keeps : (L : LaidSchema) (b : Bytes) (s : Sort) (p : ℕ) (d : Datum) → Lies L b s p d → Keeps L b s p
unfolding fault_by
lies_keeps L b (inline_place kind) p d lies = lies.0
lies_keeps L b (part_place text_part) p (a_text bytes) lies = lies.0
lies_keeps L b (part_place (vector_part kind)) p (a_vector ds) lies = lies.0
lies_keeps L b (part_place (table_part t)) p (a_table type ss) lies = lies.0
lies_keeps L b (part_place (member_part c t)) p (a_member c2 d) lies =
    lies_keeps L b (part_place (table_part t)) p d lies.1
lies_keeps L b _ p _ lies = absurd lies

-- The same at a reference.
pub at_keeps : (L : LaidSchema) (b : Bytes) (s : Sort) (p : ℕ) (d : Datum) → LiesAt L b s p d → Keeps L b s p
at_keeps L b (ref_place X) p d lies = lies.0
at_keeps L b (part_place X) p d lies = lies_keeps L b (part_place X) p d lies
at_keeps L b (inline_place kind) p d lies = lies_keeps L b (inline_place kind) p d lies
at_keeps L b _ p d lies = absurd lies

-- A place without a value keeps its rules.
bare_keeps : (L : LaidSchema) (b : Bytes) (s : Sort) (p : ℕ) → IsBare L b s p → Keeps L b s p
unfolding fault_by first_failing IsBare
bare_keeps L b (unknown_place c) p is = refl
bare_keeps L b (code_place u k required here) p is = is
bare_keeps L b _ p is = absurd is

-- what holds of each table, whatever the value
Any : ℕ → ℕ → Type 0
Any t p = Unit {0}

module _ (L : LaidSchema) (b : Bytes) where
  any_behind : (s : Sort) (p : ℕ) (each : Sort → ℕ → Type 0) → ((r : Sort) (q : ℕ) → each r q) → EachBehind b s p each
  any_behind (ref_place X) p each holds = holds (part_place X) (p + num b p 4)
  any_behind (part_place X) p each holds = holds (part_place X) p
  any_behind _ p each holds = tt

  any_named : (x : Option Place) (each : Sort → ℕ → Type 0) → ((r : Sort) (q : ℕ) → each r q) → EachNamed b x each
  any_named None each holds = tt
  any_named (Some x) each holds = any_behind x.sort x.at each holds

  any_element : (o : Option Target) (p : ℕ) (each : Sort → ℕ → Type 0) → ((r : Sort) (q : ℕ) → each r q)
      → EachElement b o p each
  any_element None p each holds = tt
  any_element (Some X) p each holds = any_behind (ref_place X) p each holds

  mutual
    unfolding Any

    any_table : (s : Sort) (p : ℕ) (d : Datum) → EachTable L b Any s p d
    any_table (part_place (vector_part kind)) p (a_vector ds) = any_item kind (p + 4) ds
    any_table (part_place (table_part t)) p (a_table type es) =
        (tt, any_entry (named_slots L b p 0 (slots_of L t)) es)
    any_table (part_place (member_part c t)) p (a_member c2 d) = any_table (part_place (table_part t)) p d
    any_table _ p _ = tt

    any_item : (kind : StoredKind) (p : ℕ) (ds : Parts) → EachItem L b Any kind p ds
    any_item kind p no_parts = tt
    any_item kind p (more_parts d ds) = (
      any_element (target_of kind) p (λ s q. EachTable L b Any s q d) (λ s q. any_table s q d),
      any_item kind (p + size_of L kind) ds,
    )

    any_entry : (xs : List (Option Place)) (es : SlotEntries) → EachEntry L b Any xs es
    any_entry (x ∷ xs) (absent_entry es) = any_entry xs es
    any_entry (x ∷ xs) (present_entry d es) =
        (any_named x (λ s q. EachTable L b Any s q d) (λ s q. any_table s q d), any_entry xs es)
    any_entry _ _ = tt

  -- A place with a value or a code keeps its rules.
  settled_keeps : (x : Place) → Settled L b Any x → Keeps L b x.sort x.at
  unfolding Settled
  settled_keeps x (inl lies) = at_keeps L b x.sort x.at lies.0 lies.1
  settled_keeps x (inr is) = bare_keeps L b x.sort x.at is

  -- Where a value lies, no rule fails at a place that is reached.
  pub lies_all_keep : (x : Place) (d : Datum) → LiesAt L b x.sort x.at d → AllKeep L b x
  unfolding Settled
  lies_all_keep x d lies path y leads =
      settled_keeps y (reach L b Any path x y
      (inl (d, lies, any_behind x.sort x.at (λ s q. EachTable L b Any s q d) (λ s q. any_table s q d))) leads)
