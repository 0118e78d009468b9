-- The texts of a `Value` are UTF-8, since each is a `String`.
use Rattle.std.proofs.Common.{◌≡◌, List, [], ◌∷◌, Option, None, Some, map, IsUtf8, refl}
use Rattle.std.proofs.lemmas.Str.{IsUtf8-string_bytes}
use Rattle.fb_value.specs.Datum.{Datum, a_text, a_vector, a_struct, a_table, a_member, Parts}
use Rattle.fb_value.specs.Datum.{no_parts, more_parts, SlotEntries, no_entries, absent_entry, present_entry}
use Rattle.fb_value.specs.View.{view, view_step, parts_in, entries_in}
use Rattle.fb_value.specs.declared.values.Value.{Value, ind-Value, fold-roll-Value, map-Value}
use Rattle.fb_value.specs.declared.values.Value.TheOpen.{Value-F}

abbrev mutual
  pub HasUtf8 : Datum → Type 0
  HasUtf8 (a_text bytes) = IsUtf8 bytes
  HasUtf8 (a_vector ds) = HaveUtf8 ds
  HasUtf8 (a_struct ds) = HaveUtf8 ds
  HasUtf8 (a_table type es) = EntriesHaveUtf8 es
  HasUtf8 (a_member code d) = HasUtf8 d
  HasUtf8 _ = Unit {0}

  pub HaveUtf8 : Parts → Type 0
  HaveUtf8 no_parts = Unit {0}
  HaveUtf8 (more_parts d ds) = HasUtf8 d × HaveUtf8 ds

  pub EntriesHaveUtf8 : SlotEntries → Type 0
  EntriesHaveUtf8 no_entries = Unit {0}
  EntriesHaveUtf8 (absent_entry es) = EntriesHaveUtf8 es
  EntriesHaveUtf8 (present_entry d es) = HasUtf8 d × EntriesHaveUtf8 es

module _ {X : Type 0} (get : X → Value) (has : (x : X) → HasUtf8 (view (get x))) where
  parts : (xs : List X) → HaveUtf8 (parts_in (map view (map get xs)))
  parts [] = tt
  parts (x ∷ xs) = (has x, parts xs)

  -- however an `Option` is mapped
  entries : (outer : Option Value → Option Datum) (inner : Option X → Option Value) → outer None ≡ None
      → ((v : Value) → outer (Some v) ≡ Some (view v)) → inner None ≡ None → ((x : X) → inner (Some x) ≡ Some (get x))
      → (xs : List (Option X)) → EntriesHaveUtf8 (entries_in (map outer (map inner xs)))
  entries outer inner o p i j [] = tt
  entries outer inner o p i j (None ∷ xs) = rw (i, o) (entries outer inner o p i j xs)
  entries outer inner o p i j (Some x ∷ xs) = rw (j x, p (get x)) (has x, entries outer inner o p i j xs)

  -- one level, where what is inside has
  level : (y : Value-F X) → HasUtf8 (view_step (map-Value Value Datum view (map-Value X Value get y)))
  level (Value-F.Text s) = IsUtf8-string_bytes s
  level (Value-F.Items items) = parts items.items
  level (Value-F.Fixed items) = parts items.items
  level (Value-F.Fields type slots) = entries _ _ refl (λ v. refl) refl (λ x. refl) slots.items
  level (Value-F.Member code member) = has member.value
  level _ = tt

pub value_utf8 : (v : Value) → HasUtf8 (view v)
value_utf8 v =
    ind-Value (λ (w : Value). HasUtf8 (view w))
    (λ x y e. rw (← e) (rw fold-roll-Value (level (λ c. c.0) (λ c. c.1) y))) v
