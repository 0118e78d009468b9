-- A slot names the place that its kind and its offset say.
use Rattle.std.proofs.Common.{◌≡◌, ◌≢◌, ℕ, suc, ◌+◌, ◌-◌, ◌==◌, ◌&&◌, ◌||◌, not, cond, ℤ, List, Bool, true, false}
use Rattle.std.proofs.Common.{Option, None, Some, refl, arith}
use Rattle.std.proofs.lemmas.Bool.Decides.{nat_tests}
use Rattle.fb_schema.specs.declared.kinds.Shape.{Shape}
use Rattle.fb_schema.specs.declared.kinds.Shape.TheVariants.{One}
use Rattle.fb_schema.specs.declared.kinds.Kind.{Kind}
use Rattle.fb_schema.specs.declared.kinds.Kind.TheVariants.{Union, Code}
use Rattle.fb_schema.specs.declared.kinds.TypeId.{TypeId}
use Rattle.fb_schema.specs.declared.types.FieldInfo.{FieldInfo}
use Rattle.fb_layout.specs.Laid.{LaidSchema, Slot, scalar_kind, struct_kind, table_kind, union_kind, code_kind}
use Rattle.fb_layout.specs.Laid.{text_kind, StoredShape, one_of, vector_of, stored_shape, member_by_code, default_of}
use Rattle.fb_value.specs.Num.{Bytes}
use Rattle.fb_value.specs.Nth.{slot_place}
use Rattle.fb_value.specs.Places.{Place, unknown_place, code_place, slot_number, is_present, code_at, named_union}
use Rattle.fb_value.specs.Places.{named_slot, sort_of, next_required}
use Rattle.fb_value.specs.Rules.{is_union}
use Rattle.fb_read.specs.Visits.{slot_seen, slots_seen, union_place}
use Rattle.fb_read.specs.Walks.{place}
use Rattle.fb_read.proofs.places.AbsentSlotNamesNoPlace.{unset_place}

module _ (L : LaidSchema) (b : Bytes) (p k : ℕ) (fs : List Slot) where
  place_named : (shape : StoredShape) → is_present b p k ≡ true → is_union shape ≡ false
      → named_slot L b p k fs shape ≡ Some (place (sort_of b p k fs shape) (p + slot_number b p k))
  place_named (vector_of kind) here other = rw here refl
  place_named (one_of (union_kind u)) here other = cc
  place_named (one_of (scalar_kind base)) here other = rw here refl
  place_named (one_of (struct_kind s)) here other = rw here refl
  place_named (one_of (table_kind t)) here other = rw here refl
  place_named (one_of (code_kind u)) here other = rw here refl
  place_named (one_of text_kind) here other = rw here refl

  union_named : (c : ℕ) (o : Option ℕ) → is_present b p k ≡ true
      → named_union b p k c o ≡ union_place c (p + slot_number b p k) o
  union_named c None here = rw here (by_code (c == 0))
    where
      by_code : (t : Bool) → cond {A = Option Place} (not t && true) (Some (place (unknown_place c) (p
          + slot_number b p k))) None ≡ cond {A = Option Place} t None (Some (place (unknown_place c) (p
          + slot_number b p k)))
      by_code true = refl
      by_code false = refl
  union_named c (Some t) here = rw here refl

module _ (L : LaidSchema) (b : Bytes) (p k offset : ℕ) (later : List FieldInfo) (field : FieldInfo) where
  pub slot_names : (shape : Shape) → field.deprecated ≡ false → field.shape ≡ shape → offset ≡ slot_number b p k
      → offset ≢ 0 → is_union (stored_shape L.schema shape) ≡ false
      → slot_place L b p k (slots_seen L later) (slot_seen L field)
      ≡ Some (place (sort_of b p k (slots_seen L later) (stored_shape L.schema shape)) (p + offset))
  slot_names shape used is at some other =
      let here : is_present b p k ≡ true = rw (← at) (grind (arith, nat_tests)) in
      rw (used, is, at) (place_named L b p k (slots_seen L later) (stored_shape L.schema shape) here other)

  -- of one value
  pub slot_names_one : (found kind : Kind) → field.deprecated ≡ false → field.shape ≡ One found → found ≡ kind
      → offset ≡ slot_number b p k → offset ≢ 0 → is_union (stored_shape L.schema (One kind)) ≡ false
      → slot_place L b p k (slots_seen L later) (slot_seen L field)
      ≡ Some (place (sort_of b p k (slots_seen L later) (stored_shape L.schema (One kind))) (p + offset))
  slot_names_one found kind used shape is at some other =
      slot_names (One kind) used (rw is at shape) at some other

  -- of a union's code, which has the slot before its value
  pub slot_names_code : (found : Kind) (u : TypeId) → field.deprecated ≡ false → field.shape ≡ One found
      → found ≡ Code u → offset ≡ slot_number b p k → offset ≢ 0
      → slot_place L b p k (slots_seen L later) (slot_seen L field)
      ≡ Some (place (code_place u.0 (k + 1) (next_required (slots_seen L later)) (is_present b p (k + 1))) (p + offset))
  slot_names_code found u used shape is at some =
      let one : suc k ≡ k + 1 = omega arith in
      rw one at (slot_names_one found (Code u) used shape is at some refl)

  pub slot_names_none : offset ≡ slot_number b p k → offset ≡ 0
      → slot_place L b p k (slots_seen L later) (slot_seen L field) ≡ None
  slot_names_none at none = unset_place L b p k (slots_seen L later) (slot_seen L field) (rw at at none)

  pub slot_names_union : (found : Kind) (u : TypeId) (c : ℕ) → field.deprecated ≡ false → field.shape ≡ One found
      → found ≡ Union u → offset ≡ slot_number b p k → offset ≢ 0 → c ≡ code_at b p (k - 1)
      → slot_place L b p k (slots_seen L later) (slot_seen L field)
      ≡ union_place c (p + offset) (member_by_code L u.0 c)
  slot_names_union found u c used shape is at some coded =
      let here : is_present b p k ≡ true = rw (← at) (grind (arith, nat_tests)) in
      rw (used, shape, is, at, coded) (union_named L b p k (slots_seen L later) (code_at b p (k - 1))
      (member_by_code L u.0 (code_at b p (k - 1))) here)

-- a union has no default
pub union_has_no_default : (deprecated optional : Bool) (default : ℤ) (u : ℕ)
    → default_of (deprecated || optional) default (one_of (union_kind u)) ≡ None
union_has_no_default deprecated optional default u = by_case (deprecated || optional)
  where
    by_case : (t : Bool) → default_of t default (one_of (union_kind u)) ≡ None
    by_case true = refl
    by_case false = refl
