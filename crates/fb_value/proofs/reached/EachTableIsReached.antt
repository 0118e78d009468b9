-- What holds of each table of a value holds of each table that is reached.
use Rattle.std.proofs.Common.{◌≡◌, ℕ, inl, inr, Some, IsTrue}
use Rattle.fb_layout.specs.Laid.{LaidSchema}
use Rattle.fb_value.specs.Datum.{Datum, a_table, a_member}
use Rattle.fb_value.specs.Num.{Bytes}
use Rattle.fb_value.specs.Places.{Target, table_part, member_part, text_part, vector_part, part_place, Place}
use Rattle.fb_value.specs.Lies.{Lies, LiesAt}
use Rattle.fb_value.specs.Reached.{Path, Leads}
use Rattle.fb_value.specs.Holds.{root_at}
use Rattle.fb_value.specs.OldSlots.{table_of}
use Rattle.fb_value.specs.EachTable.{EachTable, EachTableAt, IsOldTable, EachTableReached, OnlyOldByTables}
use Rattle.fb_value.proofs.reached.ReachedPlacesAreSettled.{IsBare, Settled, reach}

module _ (L : LaidSchema) (b : Bytes) (P : ℕ → ℕ → Type 0) where
  same_type : (t u : ℕ) → Some t ≡ Some u → t ≡ u
  same_type t u e = cc

  table_holds : (X : Target) (p t : ℕ) (d : Datum) → Lies L b (part_place X) p d → EachTable L b P (part_place X) p d
      → table_of X ≡ Some t → P t p
  table_holds (table_part u) p t (a_table type es) lies each e = rw (← (same_type u t e)) each.0
  table_holds (member_part c u) p t (a_member c2 (a_table type es)) lies each e =
      rw (← (same_type u t e)) each.0
  table_holds text_part p t d lies each e = cc
  table_holds (vector_part kind) p t d lies each e = cc
  table_holds (member_part c u) p t (a_member c2 _) lies each e = absurd lies.1
  table_holds _ p t _ lies each e = absurd lies

  reached_holds : (X : Target) (p t : ℕ) → Settled L b P (record { sort = part_place X; at = p }) → table_of X ≡ Some t
      → P t p
  unfolding Settled IsBare
  reached_holds X p t (inl lies) e = table_holds X p t lies.0 lies.1 lies.2 e
  reached_holds X p t (inr is) e = absurd is

  pub every_table : (d : Datum) (x : Place) → LiesAt L b x.sort x.at d → EachTableAt L b P x.sort x.at d
      → (path : Path) (X : Target) (p t : ℕ) → Leads L b x path (record { sort = part_place X; at = p })
      → table_of X ≡ Some t → P t p
  unfolding Settled
  every_table d x lies each path X p t leads e =
      reached_holds X p t (reach L b P path x (record { sort = part_place X; at = p }) (inl (d, lies, each)) leads) e

pub reached_shown : EachTableReached
reached_shown L b test d x lies each path X p t leads e = every_table L b (λ t p. IsTrue (test t p)) d x lies each path
    X p t leads e

pub only_old_shown : OnlyOldByTables
only_old_shown L b start d lies each path X p t k leads e = every_table L b (λ t p. IsOldTable L b t p) d
    (root_at L start) lies each path X p t leads e k
