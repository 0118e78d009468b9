-- What holds of bytes that hold a value: the root table is reached, and the value is no deeper than the limits allow.
use Rattle.std.proofs.Common.{◌≡◌, ℕ, ◌+◌, ◌≤◌, [], ◌∷◌, true, nat_le, Option, None}
use Rattle.std.proofs.Common.{Some, refl, arith, inl, inr}
use Rattle.std.proofs.lemmas.Bool.{le-leb}
use Rattle.fb_layout.specs.Laid.{LaidSchema}
use Rattle.fb_value.specs.declared.faults.ReadFault.{ReadFault}
use Rattle.fb_value.specs.Bounds.{Bounds}
use Rattle.fb_value.specs.Datum.{Datum, a_table}
use Rattle.fb_value.specs.Num.{Bytes, num}
use Rattle.fb_value.specs.Places.{table_part, part_place}
use Rattle.fb_value.specs.Rules.{Keeps, first_failing}
use Rattle.fb_value.specs.Reached.{Path, ComesBefore}
use Rattle.fb_value.specs.Faults.{limited_fault, FaultFrom}
use Rattle.fb_value.specs.Holds.{HoldsBehind, RootKeepsBehind, root_at}
use Rattle.fb_owned.specs.Memory.{PartIsReachedBehind}

module _ (p : ℕ) (front : Option ReadFault) (L : LaidSchema) (most : Bounds) (b : Bytes) where
  -- The root table keeps its rules and the limits.
  pub root_kept : (v : Datum) → HoldsBehind p front L most b v → RootKeepsBehind p front L most b
  root_kept (a_table t es) held = record {
    header = held.header;
    reference = held.lies.0;
    table = held.lies.1.0;
    deep = let deep = held.deep in omega arith;
    small = let small = held.small in omega arith;
  }
  root_kept _ held = absurd held.lies.1

  ref_passes : Keeps L b (root_at L p).sort p → (tables cells : ℕ)
      → limited_fault L b most (root_at L p) tables cells ≡ None
  unfolding limited_fault first_failing
  ref_passes keeps tables cells = rw keeps refl

  table_passes : (t q tables cells : ℕ) → Keeps L b (part_place (table_part t)) q → tables ≤ most.depth
      → cells ≤ most.cells → limited_fault L b most (record { sort = part_place (table_part t); at = q }) tables cells
      ≡ None
  unfolding limited_fault first_failing
  table_passes t q tables cells keeps deep small =
      let yes : nat_le tables most.depth ≡ true = le-leb _ _ deep in
      let also : nat_le cells most.cells ≡ true = le-leb _ _ small in
      rw (keeps, yes, also) refl

  -- The root table is the first that is reached.
  pub root_reached : RootKeepsBehind p front L most b → PartIsReachedBehind p front L most b
  root_reached root = record {
    header = root.header;
    path = 0 ∷ [];
    part = table_part L.schema.root;
    at = p + num b p 4;
    leads = (root.reference, record { sort = part_place (table_part L.schema.root); at = p + num b p 4 }, refl, refl);
    keeps = root.table;
    here = here;
    before = before;
  }
    where
      at_root : (f : ReadFault) → limited_fault L b most (record {
        sort = part_place (table_part L.schema.root);
        at =
            p + num b p 4;
      }) 1 1 ≡ Some f → ⊥
      at_root f fails = let passes = table_passes L.schema.root (p + num b p 4) 1 1 root.table root.deep root.small in
          cc

      here : (f : ReadFault) → FaultFrom L b most (root_at L p) 0 0 (0 ∷ []) f → ⊥
      here f (keeps, next, names, fails) =
          let is : record { sort = part_place (table_part L.schema.root); at = p + num b p 4 } ≡ next = cc in
          at_root f (rw (← is) at fails)

      before : (other : Path) (f : ReadFault) → ComesBefore other (0 ∷ [])
          → FaultFrom L b most (root_at L p) 0 0 other f → ⊥
      before [] f first fails = let passes = ref_passes root.reference (0 + 0) (0 + 0) in cc
      before (j ∷ js) f (inl less) fails = absurd (omega arith)
      before (j ∷ []) f (inr both) fails = absurd both.1
      before (j ∷ k ∷ js) f (inr both) fails = absurd both.1
