-- Structs rank above those that stand in them.
use Rattle.std.proofs.Common.{◌≡◌, ℕ, zero, suc, ◌<◌, ◌≤◌, List, [], ◌∷◌, length, map, Some, slice_get}
use Rattle.std.proofs.Common.{slice_index_or, arith}
use Rattle.fb_schema.specs.declared.types.FieldInfo.{FieldInfo}
use Rattle.fb_schema.specs.Seen.{field_seen}
use Rattle.fb_schema.specs.Schema.{body_at, parts_in}
use Rattle.fb_layout.specs.Laid.{LaidSchema, StoredKind, scalar_kind, struct_kind, parts_of, struct_at}
use Rattle.fb_layout.specs.WellMade.{IsWellMade}
use Rattle.fb_value.proofs.types.StoredKindsAreResolved.{LowerParts, resolved}
use Rattle.fb_read.proofs.placed.PartsLieInTheirPlaces.{field_kind, kind_there}

abbrev pub rank : StoredKind → ℕ
rank (struct_kind s) = suc s
rank _ = 0

-- a part of a struct ranks below it
rank_lower : (s : ℕ) (ks : List StoredKind) (os : List ℕ) (k : ℕ) (kind : StoredKind) → LowerParts s ks os
    → slice_get ks k ≡ Some kind → rank kind ≤ s
rank_lower s [] os k kind lower e = cc
rank_lower s (scalar_kind base ∷ ks) (o ∷ os) zero kind lower e = let is : scalar_kind base ≡ kind = cc in
    rw (← is) (omega arith)
rank_lower s (struct_kind t ∷ ks) (o ∷ os) zero kind lower e = let is : struct_kind t ≡ kind = cc in
    rw (← is) (omega (arith, lower.0))
rank_lower s (scalar_kind base ∷ ks) (o ∷ os) (suc k) kind lower e = rank_lower s ks os k kind lower e
rank_lower s (struct_kind t ∷ ks) (o ∷ os) (suc k) kind lower e = rank_lower s ks os k kind lower.1 e
rank_lower s _ _ k kind lower e = absurd lower

module _ (L : LaidSchema) (made : IsWellMade L) (s : ℕ) (xs : List FieldInfo) (seen : map field_seen xs
    ≡ parts_in (body_at L.schema s)) where
  pub field_rank : (k : ℕ) (x : FieldInfo) → k < length xs → x ≡ slice_index_or xs k x → rank (field_kind L x) ≤ s
  field_rank k x less is = rank_lower s (parts_of L s) (struct_at L s).offsets k (field_kind L x)
      ((resolved L made).lower s) (kind_there L s xs seen k x less is)
