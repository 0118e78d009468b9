-- What holds of each table in which a value lies.
-- From the FlatBuffers documentation, "FlatBuffer Internals": Tables, Unions, Strings and vectors.
use Rattle.std.specs.Prelude.{ℕ, ◌+◌, ◌≡◌, List, ◌∷◌, Option, None, Some, Bool, false, IsTrue, slice_get}
use Rattle.fb_layout.specs.Laid.{LaidSchema, StoredKind, slots_of, size_of}
use Rattle.fb_value.specs.Datum.{Datum, a_vector, a_table, a_member, Parts, no_parts, more_parts, SlotEntries}
use Rattle.fb_value.specs.Datum.{absent_entry, present_entry}
use Rattle.fb_value.specs.Num.{Bytes, num}
use Rattle.fb_value.specs.Places.{Target, table_part, member_part, vector_part, Sort, ref_place, part_place, Place}
use Rattle.fb_value.specs.Places.{named_slots, slot_number, target_of}
use Rattle.fb_value.specs.Lies.{LiesAt}
use Rattle.fb_value.specs.Reached.{Path, Leads}
use Rattle.fb_value.specs.Holds.{root_at}
use Rattle.fb_value.specs.OldSlots.{table_of, is_in_use, OnlyOldBehind}

-- behind a reference; what stands in its place has no tables
abbrev pub EachBehind : Bytes → Sort → ℕ → (Sort → ℕ → Type 0) → Type 0
EachBehind b (ref_place X) p each = each (part_place X) (p + num b p 4)
EachBehind b (part_place X) p each = each (part_place X) p
EachBehind b _ p each = Unit {0}

abbrev pub EachNamed : Bytes → Option Place → (Sort → ℕ → Type 0) → Type 0
EachNamed b None each = Unit {0}
EachNamed b (Some x) each = EachBehind b x.sort x.at each

abbrev pub EachElement : Bytes → Option Target → ℕ → (Sort → ℕ → Type 0) → Type 0
EachElement b None p each = Unit {0}
EachElement b (Some X) p each = EachBehind b (ref_place X) p each

-- P holds of the type and the position of each table of the value
abbrev mutual
  pub EachTable : LaidSchema → Bytes → (ℕ → ℕ → Type 0) → Sort → ℕ → Datum → Type 0
  EachTable L b P (part_place (vector_part kind)) p (a_vector ds) = EachItem L b P kind (p + 4) ds
  EachTable L b P (part_place (table_part t)) p (a_table type es) =
      P t p × EachEntry L b P (named_slots L b p 0 (slots_of L t)) es
  EachTable L b P (part_place (member_part c t)) p (a_member c2 d) = EachTable L b P (part_place (table_part t)) p d
  EachTable L b P _ p _ = Unit {0}

  pub EachItem : LaidSchema → Bytes → (ℕ → ℕ → Type 0) → StoredKind → ℕ → Parts → Type 0
  EachItem L b P kind p no_parts = Unit {0}
  EachItem L b P kind p (more_parts d ds) = EachElement b (target_of kind) p (λ sort q. EachTable L b P sort q d)
      × EachItem L b P kind (p + size_of L kind) ds

  pub EachEntry : LaidSchema → Bytes → (ℕ → ℕ → Type 0) → List (Option Place) → SlotEntries → Type 0
  EachEntry L b P (x ∷ xs) (absent_entry es) = EachEntry L b P xs es
  EachEntry L b P (x ∷ xs) (present_entry d es) = EachNamed b x (λ sort q. EachTable L b P sort q d)
      × EachEntry L b P xs es
  EachEntry L b P _ _ = Unit {0}

-- the same of what lies at a place, also behind a reference
abbrev pub EachTableAt : LaidSchema → Bytes → (ℕ → ℕ → Type 0) → Sort → ℕ → Datum → Type 0
EachTableAt L b P sort p d = EachBehind b sort p (λ s q. EachTable L b P s q d)

-- A table has no number for a slot that isn't in use.
abbrev pub IsOldTable : LaidSchema → Bytes → ℕ → ℕ → Type 0
IsOldTable L b t p = (k : ℕ) → is_in_use (slice_get (slots_of L t) k) ≡ false → slot_number b p k ≡ 0

-- What passes a test in each table of a value passes it in each table that is reached.
abbrev pub EachTableReached : Type 0
EachTableReached = (L : LaidSchema) (b : Bytes) (test : ℕ → ℕ → Bool) (d : Datum) (x : Place)
    → LiesAt L b x.sort x.at d → EachTableAt L b (λ t p. IsTrue (test t p)) x.sort x.at d
    → (path : Path) (X : Target) (p t : ℕ) → Leads L b x path (record { sort = part_place X; at = p })
    → table_of X ≡ Some t → IsTrue (test t p)

-- Where each table of the root's value has only slots in use, so has each that is reached.
abbrev pub OnlyOldByTables : Type 0
OnlyOldByTables = (L : LaidSchema) (b : Bytes) (start : ℕ) (d : Datum)
    → LiesAt L b (root_at L start).sort start d
    → EachTableAt L b (λ t p. IsOldTable L b t p) (root_at L start).sort start d
    → OnlyOldBehind start L b
