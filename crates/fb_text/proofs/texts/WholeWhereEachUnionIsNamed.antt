-- A value is whole exactly where each of its unions has a name.
use Rattle.std.proofs.Common.{◌≡◌, ℕ, ◌+◌, ◌&&◌, Bool, true, false, not, Option, None, Some, is_some, refl, ap, ◌∙◌}
use Rattle.std.specs.Option.{option_or}
use Rattle.fb_value.specs.Datum.{Datum, a_vector, a_struct, a_table, a_member, Parts}
use Rattle.fb_value.specs.Datum.{no_parts, more_parts, SlotEntries, no_entries, absent_entry, present_entry}
use Rattle.fb_value.specs.Counts.{is_whole, parts_whole, entries_whole}
use Rattle.fb_json.specs.declared.faults.Place.{Place}
use Rattle.fb_text.specs.Unnamed.{entry_place, first_unnamed, first_in_parts, first_in_entries}

neither : (a b : Option Place) → not (is_some (option_or a b)) ≡ (not (is_some a) && not (is_some b))
neither None b = refl
neither (Some p) b = refl

mutual
  pub unnamed_whole : (at : Place) (d : Datum) → not (is_some (first_unnamed at d)) ≡ is_whole d
  unnamed_whole at (a_vector ds) = parts_named at ds
  unnamed_whole at (a_struct ds) = parts_named at ds
  unnamed_whole at (a_table type es) = entries_named type 0 es
  unnamed_whole at (a_member c d) = unnamed_whole at d
  unnamed_whole at _ = refl

  parts_named : (at : Place) (ds : Parts) → not (is_some (first_in_parts at ds)) ≡ parts_whole ds
  parts_named at no_parts = refl
  parts_named at (more_parts d ds) =
      neither (first_unnamed at d) (first_in_parts at ds)
      ∙ (ap (λ (b : Bool). b && not (is_some (first_in_parts at ds))) (unnamed_whole at d)
      ∙ ap (λ (b : Bool). is_whole d && b) (parts_named at ds))

  entries_named : (type k : ℕ) (es : SlotEntries) → not (is_some (first_in_entries type k es)) ≡ entries_whole es
  entries_named type k no_entries = refl
  entries_named type k (absent_entry es) = entries_named type (k + 1) es
  entries_named type k (present_entry d es) =
      neither (first_unnamed (entry_place type k) d) (first_in_entries type (k + 1) es)
      ∙ (ap (λ (b : Bool). b && not (is_some (first_in_entries type (k + 1) es))) (unnamed_whole (entry_place type k) d)
      ∙ ap (λ (b : Bool). is_whole d && b) (entries_named type (k + 1) es))

-- where no place is found, the value is whole, and where one is, it isn't
pub named_whole : (at : Place) (d : Datum) → None ≡ first_unnamed at d → is_whole d ≡ true
named_whole at d e = let same : not (is_some (first_unnamed at d)) ≡ true = rw (← e) refl in
    rw (← unnamed_whole at d) same

pub whole_named : (at : Place) (d : Datum) → is_whole d ≡ true → None ≡ first_unnamed at d
whole_named at d whole = none (first_unnamed at d) (unnamed_whole at d ∙ whole)
  where
    none : (o : Option Place) → not (is_some o) ≡ true → None ≡ o
    none None e = refl
    none (Some p) e = cc

pub unnamed_part : (at p : Place) (d : Datum) → Some p ≡ first_unnamed at d → is_whole d ≡ false
unnamed_part at p d e = let same : not (is_some (first_unnamed at d)) ≡ false = rw (← e) refl in
    rw (← unnamed_whole at d) same
