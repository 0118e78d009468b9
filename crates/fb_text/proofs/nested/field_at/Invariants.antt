use Rattle.std.proofs.Common.{◌≡◌, ℕ, ◌-◌, ◌<◌, ◌≤◌, length, Some, slice_get}
use Rattle.fb_schema.specs.Schema.{DeclaredField, body_at, parts_in}
use Rattle.fb_text.specs.Nested.{HasByte}
use Rattle.fb_text.proofs.nested.field_at.Given as goal

-- The field that has the byte is one of those between.
abbrev pub invariant-loop-low : goal.invariant-loop-low
invariant-loop-low l = record {
  few : l.high ≤ length (parts_in (body_at l.layout.schema l.structure.0));
  small : l.high ≤ 65535;
  start : l.low < 65535;
  found : (k : ℕ) (f : DeclaredField) → slice_get (parts_in (body_at l.layout.schema l.structure.0)) k ≡ Some f
      → HasByte l.layout l.structure k f l.byte → (l.low ≤ k) × (k < l.high);
}

abbrev pub decreases-loop-low : goal.decreases-loop-low
decreases-loop-low l = l.high - l.low
