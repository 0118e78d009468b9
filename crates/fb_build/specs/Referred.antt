-- A vector of references, before these are laid.
use Rattle.std.specs.Prelude.{ℕ, ◌≡◌, true, List, length}
use Rattle.fb_layout.specs.Laid.{LaidSchema, StoredKind, one_of}
use Rattle.fb_value.specs.Datum.{Datum}
use Rattle.fb_build.specs.Fields.{is_reference}
use Rattle.fb_build.specs.Items.{ItemsKnown, TargetsEnd}
use Rattle.fb_build.specs.Tails.{TailSeen}

-- What each element's reference is to lead to was laid at an end-count.
pub record AreReferred (L : LaidSchema) (kind : StoredKind) (ds : List Datum) (o : TailSeen) (ends : List ℕ)
    : Type 0 where
  pub references : is_reference (one_of kind) ≡ true
  pub each : length ends ≡ length ds
  pub known : ItemsKnown L kind ds
  pub targets : TargetsEnd L o.most o.bytes kind ds ends
