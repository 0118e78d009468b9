-- No rule's fault is that memory ran out.
use Rattle.std.proofs.Common.{◌≡◌, ◌≢◌, ◌&&◌, ℕ, List, [], ◌∷◌, Bool, true, false, Option, None, Some}
use Rattle.std.proofs.Common.{refl, inl, inr}
use Rattle.fb_layout.specs.Laid.{LaidSchema}
use Rattle.fb_value.specs.declared.faults.ReadFault.{ReadFault}
use Rattle.fb_value.specs.declared.faults.ReadFault.TheVariants.{Memory}
use Rattle.fb_value.specs.Bounds.{Bounds}
use Rattle.fb_value.specs.Num.{Bytes}
use Rattle.fb_value.specs.Places.{table_part, member_part, text_part, vector_part, Sort, ref_place, part_place}
use Rattle.fb_value.specs.Places.{inline_place, code_place, unknown_place, Place}
use Rattle.fb_value.specs.Rules.{Rule, first_failing, rules_by, fault_by, fault_at, from_start}
use Rattle.fb_value.specs.Reached.{Path}
use Rattle.fb_value.specs.Faults.{limit_rules, limited_fault, or_else, FaultFrom}
use Rattle.fb_value.specs.Holds.{header_fault, prefixed_fault, front_fault, RefusesBehind}

abbrev is_of_a_rule : ReadFault → Bool
is_of_a_rule Memory = false
is_of_a_rule _ = true

abbrev are_of_rules : List Rule → Bool
are_of_rules [] = true
are_of_rules (r ∷ rs) = is_of_a_rule r.0 && are_of_rules rs

first_no_memory : (rs : List Rule) → are_of_rules rs ≡ true → first_failing rs ≡ Some Memory → ⊥
unfolding first_failing
first_no_memory [] named fails = cc
first_no_memory ((Memory, holds) ∷ rs) named fails = cc
first_no_memory ((f, true) ∷ rs) named fails = first_no_memory rs named fails
first_no_memory ((f, false) ∷ rs) named fails = cc

or_no_memory : (o r : Option ReadFault) → (o ≡ Some Memory → ⊥) → (r ≡ Some Memory → ⊥) → or_else o r ≡ Some Memory → ⊥
or_no_memory None r first later fails = later fails
or_no_memory (Some f) r first later fails = first fails

module _ (L : LaidSchema) (b : Bytes) where
  place_no_memory : (s : Sort) (p : ℕ) → fault_at L b s p ≡ Some Memory → ⊥
  unfolding fault_by
  place_no_memory (ref_place X) p fails = first_no_memory (rules_by from_start L b (ref_place X) p) refl fails
  place_no_memory (part_place (table_part t)) p fails =
      first_no_memory (rules_by from_start L b (part_place (table_part t)) p) refl fails
  place_no_memory (part_place (member_part c t)) p fails =
      first_no_memory (rules_by from_start L b (part_place (member_part c t)) p) refl fails
  place_no_memory (part_place text_part) p fails =
      first_no_memory (rules_by from_start L b (part_place text_part) p) refl fails
  place_no_memory (part_place (vector_part kind)) p fails =
      first_no_memory (rules_by from_start L b (part_place (vector_part kind)) p) refl fails
  place_no_memory (inline_place kind) p fails =
      first_no_memory (rules_by from_start L b (inline_place kind) p) refl fails
  place_no_memory (code_place u k required here) p fails =
      first_no_memory (rules_by from_start L b (code_place u k required here) p) refl fails
  place_no_memory (unknown_place c) p fails = first_no_memory [] refl fails

  limits_no_memory : (most : Bounds) (s : Sort) (p tables cells : ℕ)
      → first_failing (limit_rules most s p tables cells) ≡ Some Memory → ⊥
  limits_no_memory most (part_place (table_part t)) p tables cells fails =
      first_no_memory (limit_rules most (part_place (table_part t)) p tables cells) refl fails
  limits_no_memory most (part_place (member_part c t)) p tables cells fails =
      first_no_memory (limit_rules most (part_place (member_part c t)) p tables cells) refl fails
  limits_no_memory most (part_place text_part) p tables cells fails =
      first_no_memory (limit_rules most (part_place text_part) p tables cells) refl fails
  limits_no_memory most (part_place (vector_part kind)) p tables cells fails =
      first_no_memory (limit_rules most (part_place (vector_part kind)) p tables cells) refl fails
  limits_no_memory most _ p tables cells fails = first_no_memory [] refl fails

  path_no_memory : (most : Bounds) (x : Place) (tables spent : ℕ) (path : Path)
      → FaultFrom L b most x tables spent path Memory → ⊥
  unfolding limited_fault
  path_no_memory most x tables spent [] fails =
      or_no_memory _ _ (place_no_memory x.sort x.at) (limits_no_memory most x.sort x.at _ _) fails
  path_no_memory most x tables spent (k ∷ path) fails = path_no_memory most fails.1 _ _ path fails.3

front_no_memory : (prefixed : Bool) (b : Bytes) (id : Option (List ℕ)) → front_fault prefixed b id ≡ Some Memory → ⊥
unfolding header_fault prefixed_fault
front_no_memory false b None fails = first_no_memory _ refl fails
front_no_memory false b (Some id) fails = first_no_memory _ refl fails
front_no_memory true b None fails = first_no_memory _ refl fails
front_no_memory true b (Some id) fails = first_no_memory _ refl fails

-- What is refused is refused by a rule.
pub refusal_no_memory : (p : ℕ) (prefixed : Bool) (id : Option (List ℕ)) (L : LaidSchema) (most : Bounds) (b : Bytes)
    (f : ReadFault) → RefusesBehind p (front_fault prefixed b id) L most b f → f ≢ Memory
refusal_no_memory p prefixed id L most b f (inl fails, none) memory =
    front_no_memory prefixed b id (rw memory at fails)
refusal_no_memory p prefixed id L most b f (inr least, none) memory =
    path_no_memory L b most _ 0 0 least.1.0 (rw memory at least.1.1)
