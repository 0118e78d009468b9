-- A number or struct that keeps its rules ends within the bytes.
use Rattle.std.proofs.Common.{length, ℕ, ◌+◌, ◌≤◌}
use Rattle.std.proofs.lemmas.Bool.{leb-true}
use Rattle.fb_layout.specs.Laid.{LaidSchema, StoredKind, size_of}
use Rattle.fb_value.specs.Num.{Bytes}
use Rattle.fb_value.specs.Places.{inline_place}
use Rattle.fb_value.specs.Rules.{Keeps, fault_by}
use Rattle.fb_value.proofs.rules.RulesHoldOneByOne.{rule_held}

pub inline_within : (L : LaidSchema) (b : Bytes) (kind : StoredKind) (p : ℕ) → Keeps L b (inline_place kind) p
    → p + size_of L kind ≤ length b
unfolding fault_by
inline_within L b kind p keeps = leb-true _ _ (rule_held _ _ _ (rule_held _ _ _ keeps).1).0
