-- The elements of a vector while it is laid.
use Rattle.std.specs.Prelude.{ℕ, ◌≡◌, List, Some, slice_get, slice_index}
use Rattle.fb_layout.specs.Laid.{LaidSchema, StoredKind, one_of}
use Rattle.fb_value.specs.Datum.{Datum, Parts}
use Rattle.fb_value.specs.Num.{Bytes}
use Rattle.fb_value.specs.EachTable.{EachItem, IsOldTable}
use Rattle.fb_value.specs.Lies.{LiesItemsBy}
use Rattle.fb_value.specs.Tails.{from_end}
pub use Rattle.fb_tape.specs.StoredFields.{ItemsKnown}
use Rattle.fb_build.specs.Fields.{TargetEnd, target_for}
use Rattle.fb_build.specs.CoveredTails.{IsTightInTail}
use Rattle.fb_tape.specs.InlineBytes.{IsTightInline, EachInlineItem}

-- Elements lie one after the other, from the first byte of a tail on, their tables have nothing in slots that aren't
-- in use, and they, their structs and their numbers have no slack.
pub record ItemsEnd (L : LaidSchema) (m : ℕ) (s : Bytes) (kind : StoredKind) (ds : Parts) : Type 0 where
  pub lie : LiesItemsBy (from_end s m) L s kind 0 ds
  pub old : EachItem L s (λ t p. IsOldTable L s t p) kind 0 ds
  pub tight : EachItem L s (λ t p. IsTightInTail L s t p) kind 0 ds
  pub inline : EachInlineItem L s (IsTightInline L s) kind 0 ds

-- what each element's reference names lies at its end-count
abbrev pub TargetsEnd : LaidSchema → ℕ → Bytes → StoredKind → List Datum → List ℕ → Type 0
TargetsEnd L m s kind ds ends = (k : ℕ) (d : Datum) → slice_get ds k ≡ Some d
    → TargetEnd L m s (target_for (one_of kind) d) (slice_index ends k) d
