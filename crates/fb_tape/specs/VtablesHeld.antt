-- Vtables as they are held: one after another, each found by its digest.
use Rattle.std.specs.Prelude.{ℕ, ◌≡◌, ◌+◌, ◌≤◌, List, Some, length, map, slice_get}
use Rattle.fb_index.specs.declared.hash_key.HashKey.{HashKey}
use Rattle.fb_index.specs.HashKeys.{digest_by}
use Rattle.fb_index.specs.DigestIndexes.{IsAt}
use Rattle.fb_value.specs.Num.{Bytes, part_of}
use Rattle.fb_tape.specs.KnownVtables.{EachHasOneNumber}
use Rattle.fb_tape.specs.declared.known_vtables.KnownVtables.TheInside.{Inside}
use Rattle.fb_tape.specs.declared.known_vtables.VtableRange.{VtableRange}

-- the vtables at some ranges of bytes
abbrev pub vtables_in : Bytes → List VtableRange → List Bytes
vtables_in bytes ranges = map (λ r. part_of bytes r.first r.size) ranges

abbrev pub vtables_seen : Inside → List Bytes
vtables_seen v = vtables_in v.bytes.items v.ranges.items

-- the vtables at some ranges, by the keys of an index
pub record AreIndexed (hash : HashKey) (keys : List ℕ) (bytes : Bytes) (ranges : List VtableRange) : Type 0 where
  pub each : length keys ≡ length ranges
  pub within : (i : ℕ) (range : VtableRange) → slice_get ranges i ≡ Some range
      → range.first + range.size ≤ length bytes
  pub at : (i : ℕ) (vtable : Bytes) → slice_get (vtables_in bytes ranges) i ≡ Some vtable
      → IsAt keys (digest_by hash vtable) i
  pub one : EachHasOneNumber (vtables_in bytes ranges)

abbrev pub AreHeld : Inside → Type 0
AreHeld v = AreIndexed v.key v.digests.keys v.bytes.items v.ranges.items
