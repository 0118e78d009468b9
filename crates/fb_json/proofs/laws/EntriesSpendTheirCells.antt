-- What an entry spends, and a fault of the limits in it.
use Rattle.std.proofs.Common.{◌≡◌, ◌∙◌, inl, inr, ℕ, zero, suc, ◌+◌, ℤ, Bool, true, false, Option, Some, None}
use Rattle.std.proofs.Common.{option_map, Ok, Err, refl, sym, ap, subst, arith}
use Rattle.serde_json.specs.Data.{Data, Members}
use Rattle.serde_json.specs.Find.{get_member}
use Rattle.fb_schema.specs.declared.kinds.Kind.TheVariants.{Scalar, Enum, Struct, Table, Union, Code, Text}
use Rattle.fb_schema.specs.declared.kinds.Shape.{Shape}
use Rattle.fb_schema.specs.declared.kinds.Shape.TheVariants.{One, Many}
use Rattle.fb_schema.specs.Schema.{Name, DeclaredField}
use Rattle.fb_layout.specs.Laid.{LaidSchema, Slot, slot_of, member_by_code}
use Rattle.fb_value.specs.Datum.{Datum}
use Rattle.fb_json.specs.declared.faults.Place.{Place}
use Rattle.fb_json.specs.declared.faults.JsonFault.{JsonFault}
use Rattle.fb_json.specs.declared.faults.JsonFault.TheVariants.{MissingRequired, UnionMismatch}
use Rattle.fb_json.specs.Meant.{as_absent, as_member, union_meant, plain_meant, used_meant, meant}
use Rattle.fb_json.specs.Laws.{Over}
use Rattle.fb_json.specs.TreeCounts.{cells_measure, depth_measure, Counter, member_count, slot_count, tree_cells}
use Rattle.fb_json.specs.TreeCounts.{tree_depth}
use Rattle.fb_json.proofs.laws.EachStepOfABindSucceeds.{rest_ok, bind_err, bind_ok}
use Rattle.fb_json.proofs.laws.FaultOfALeafIsABrokenRule.{err_inj, no_err}
use Rattle.fb_json.proofs.laws.LeavesSpendTheirCells.{over_map, count_of, SpentAt, LimitAt}

-- ---- slots

module _ (L : LaidSchema) (unknown : Bool) where
  pub absent_left : (a : Option ℤ) (required : Bool) (at : Place) (left : ℕ) (e : Option Datum × ℕ)
      → as_absent a required at left ≡ Ok e → e.1 ≡ left
  absent_left (Some n) required at left e h = let same = rest_ok _ e h in sym same
  absent_left None true at left e h = cc
  absent_left None false at left e h = let same = rest_ok _ e h in sym same

  pub absent_over : (a : Option ℤ) (required : Bool) (at : Place) (d c levels left : ℕ) (f : JsonFault)
      → as_absent a required at left ≡ Err f → Over d c levels left f
  absent_over (Some n) required at d c levels left f h = absurd (no_err _ f h)
  absent_over None false at d c levels left f h = absurd (no_err _ f h)
  absent_over None true at d c levels left f h =
      subst (Over d c levels left) (err_inj {A = Option Datum × ℕ} (MissingRequired at) f h) tt

  pub plain_spent : (s : Slot) (shape : Shape) (o : Option Data) (at : Place) (levels left : ℕ) (e : Option Datum × ℕ)
      → ((t : Data) → o ≡ Some t → SpentAt L unknown t)
      → plain_meant s shape (option_map (meant L unknown) o) at levels left ≡ Ok e
      → e.1 + count_of L cells_measure o shape ≡ left
  unfolding plain_meant
  plain_spent s shape None at levels left e spends h = let same = absent_left s.if_absent s.required at left e h in
      omega arith
  plain_spent s shape (Some t) at levels left e spends h =
      let got = bind_ok (meant L unknown t shape at levels left) _ e h in
      let same = rest_ok _ e got.2 in
      let sum = spends t refl shape at levels left got.0 got.1 in
      omega arith

  pub plain_limit : (s : Slot) (shape : Shape) (o : Option Data) (at : Place) (levels left : ℕ) (f : JsonFault)
      → ((t : Data) → o ≡ Some t → LimitAt L unknown t)
      → plain_meant s shape (option_map (meant L unknown) o) at levels left ≡ Err f
      → Over (count_of L depth_measure o shape) (count_of L cells_measure o shape) levels left f
  unfolding plain_meant
  plain_limit s shape None at levels left f limits h = absent_over s.if_absent s.required at 0 0 levels left f h
  plain_limit s shape (Some t) at levels left f limits h =
      elim (bind_err (meant L unknown t shape at levels left) _ f h) as
      (λ _. Over (tree_depth L t shape) (tree_cells L t shape) levels left f)
      [ inl e ↦ limits t refl shape at levels left f e | inr x ↦ absurd (no_err _ f x.2) ]

  module _ (o : Option Data) (name : Name) (deep many : Counter) (is_deep : (shape : Shape) → deep name shape
      ≡ count_of L depth_measure o shape) (is_many : (shape : Shape)
      → many name shape ≡ count_of L cells_measure o shape) where
    pub member_spent : (c : ℕ) (t : Data) (table : Option ℕ) (at : Place) (levels left : ℕ) (e : Option Datum × ℕ)
        → o ≡ Some t → SpentAt L unknown t → as_member c table (meant L unknown t) at levels left ≡ Ok e
        → e.1 + member_count many name table ≡ left
    member_spent c t None at levels left e is spends h = cc
    member_spent c t (Some table) at levels left e is spends h =
        let got = bind_ok (meant L unknown t (One (Table (record { 0 = table }))) at levels left) _ e h in
        let same = rest_ok _ e got.2 in
        let sum = spends (One (Table (record { 0 = table }))) at levels left got.0 got.1 in
        let counts : many name (One (Table (record { 0 = table })))
        ≡ tree_cells L t (One (Table (record { 0 = table }))) = is_many (One (Table (record { 0 = table })))
        ∙ ap (λ (x : Option Data). count_of L cells_measure x (One (Table (record { 0 = table })))) is in
        omega arith

    pub member_limit : (c : ℕ) (t : Data) (table : Option ℕ) (at : Place) (levels left : ℕ) (f : JsonFault) → o ≡ Some t
        → LimitAt L unknown t → as_member c table (meant L unknown t) at levels left ≡ Err f
        → Over (member_count deep name table) (member_count many name table) levels left f
    member_limit c t None at levels left f is limits h =
        subst (Over 0 0 levels left) (err_inj {A = Option Datum × ℕ} (UnionMismatch at) f h) tt
    member_limit c t (Some table) at levels left f is limits h =
        let shape = One (Table (record { 0 = table })) in
        let counts : many name (One (Table (record { 0 = table })))
        ≡ tree_cells L t (One (Table (record { 0 = table }))) = is_many (One (Table (record { 0 = table })))
        ∙ ap (λ (x : Option Data). count_of L cells_measure x (One (Table (record { 0 = table })))) is in
        let levels_of : deep name (One (Table (record { 0 = table })))
        ≡ tree_depth L t (One (Table (record { 0 = table }))) = is_deep (One (Table (record { 0 = table })))
        ∙ ap (λ (x : Option Data). count_of L depth_measure x (One (Table (record { 0 = table })))) is in
        elim (bind_err (meant L unknown t (One (Table (record { 0 = table }))) at levels left) _ f h) as
        (λ _. Over (deep name (One (Table (record { 0 = table })))) (many name (One (Table (record { 0 = table }))))
        levels left f) [
          | inl e ↦ over_map _ _ _ _ levels levels left left f (λ l. omega arith) (λ l. omega arith)
              (limits (One (Table (record { 0 = table }))) at levels left f e)
          | inr x ↦ absurd (no_err _ f x.2)
        ]

    pub union_spent : (s : Slot) (u c : ℕ) (o2 : Option Data) (at : Place) (levels left : ℕ) (e : Option Datum × ℕ)
        → o ≡ o2 → ((t : Data) → o2 ≡ Some t → SpentAt L unknown t)
        → union_meant L u s c (option_map (meant L unknown) o2) at levels left ≡ Ok e
        → e.1 + member_count many name (member_by_code L u c) ≡ left
    unfolding union_meant
    union_spent s u zero None at levels left e is spends h = let same =
        absent_left s.if_absent s.required at left e h in omega arith
    union_spent s u (suc c) None at levels left e is spends h = cc
    union_spent s u zero (Some t) at levels left e is spends h =
        member_spent 0 t (member_by_code L u 0) at levels left e is (spends t refl) h
    union_spent s u (suc c) (Some t) at levels left e is spends h =
        member_spent (suc c) t (member_by_code L u (suc c)) at levels left e is (spends t refl) h

    pub union_limit : (s : Slot) (u c : ℕ) (o2 : Option Data) (at : Place) (levels left : ℕ) (f : JsonFault) → o ≡ o2
        → ((t : Data) → o2 ≡ Some t → LimitAt L unknown t)
        → union_meant L u s c (option_map (meant L unknown) o2) at levels left ≡ Err f
        → Over (member_count deep name (member_by_code L u c)) (member_count many name (member_by_code L u c)) levels
        left f
    unfolding union_meant
    union_limit s u zero None at levels left f is limits h = absent_over s.if_absent s.required at _ _ levels left f h
    union_limit s u (suc c) None at levels left f is limits h =
        subst (Over _ _ levels left) (err_inj {A = Option Datum × ℕ} (UnionMismatch at) f h) tt
    union_limit s u zero (Some t) at levels left f is limits h =
        member_limit 0 t (member_by_code L u 0) at levels left f is (limits t refl) h
    union_limit s u (suc c) (Some t) at levels left f is limits h =
        member_limit (suc c) t (member_by_code L u (suc c)) at levels left f is (limits t refl) h

    pub used_spent : (s : DeclaredField) (c : ℕ) (at : Place) (levels left : ℕ) (shape : Shape) (e : Option Datum × ℕ)
        → ((t : Data) → o ≡ Some t → SpentAt L unknown t)
        → used_meant L s c (option_map (meant L unknown) o) at levels left shape ≡ Ok e
        → e.1 + slot_count L many c name false shape ≡ left
    used_spent s c at levels left (One (Code u)) e spends h = let same = rest_ok _ e h in omega arith
    used_spent s c at levels left (One (Union u)) e spends h =
        union_spent (slot_of L.schema s) u.0 c o at levels left e refl spends h
    used_spent s c at levels left (One (Scalar b)) e spends h =
        rw (is_many (One (Scalar b))) (plain_spent (slot_of L.schema s) (One (Scalar b)) o at levels left e spends h)
    used_spent s c at levels left (One (Enum b)) e spends h =
        rw (is_many (One (Enum b))) (plain_spent (slot_of L.schema s) (One (Enum b)) o at levels left e spends h)
    used_spent s c at levels left (One (Struct b)) e spends h =
        rw (is_many (One (Struct b))) (plain_spent (slot_of L.schema s) (One (Struct b)) o at levels left e spends h)
    used_spent s c at levels left (One (Table b)) e spends h =
        rw (is_many (One (Table b))) (plain_spent (slot_of L.schema s) (One (Table b)) o at levels left e spends h)
    used_spent s c at levels left (One Text) e spends h =
        rw (is_many (One Text)) (plain_spent (slot_of L.schema s) (One Text) o at levels left e spends h)
    used_spent s c at levels left (Many b) e spends h =
        rw (is_many (Many b)) (plain_spent (slot_of L.schema s) (Many b) o at levels left e spends h)

    pub used_limit : (s : DeclaredField) (c : ℕ) (at : Place) (levels left : ℕ) (shape : Shape) (f : JsonFault)
        → ((t : Data) → o ≡ Some t → LimitAt L unknown t)
        → used_meant L s c (option_map (meant L unknown) o) at levels left shape ≡ Err f
        → Over (slot_count L deep c name false shape) (slot_count L many c name false shape) levels left f
    used_limit s c at levels left (One (Code u)) f limits h = absurd (no_err _ f h)
    used_limit s c at levels left (One (Union u)) f limits h =
        union_limit (slot_of L.schema s) u.0 c o at levels left f refl limits h
    used_limit s c at levels left (One (Scalar b)) f limits h =
        rw (is_deep (One (Scalar b)), is_many (One (Scalar b)))
        (plain_limit (slot_of L.schema s) (One (Scalar b)) o at levels left f limits h)
    used_limit s c at levels left (One (Enum b)) f limits h =
        rw (is_deep (One (Enum b)), is_many (One (Enum b)))
        (plain_limit (slot_of L.schema s) (One (Enum b)) o at levels left f limits h)
    used_limit s c at levels left (One (Struct b)) f limits h =
        rw (is_deep (One (Struct b)), is_many (One (Struct b)))
        (plain_limit (slot_of L.schema s) (One (Struct b)) o at levels left f limits h)
    used_limit s c at levels left (One (Table b)) f limits h =
        rw (is_deep (One (Table b)), is_many (One (Table b)))
        (plain_limit (slot_of L.schema s) (One (Table b)) o at levels left f limits h)
    used_limit s c at levels left (One Text) f limits h =
        rw (is_deep (One Text), is_many (One Text))
        (plain_limit (slot_of L.schema s) (One Text) o at levels left f limits h)
    used_limit s c at levels left (Many b) f limits h =
        rw (is_deep (Many b), is_many (Many b)) (plain_limit (slot_of L.schema s) (Many b) o at levels left f limits h)

abbrev pub Spends : LaidSchema → Bool → Members → Type 0
Spends L unknown ms = (k : Name) (t : Data) → get_member k ms ≡ Some t → SpentAt L unknown t

abbrev pub Limits : LaidSchema → Bool → Members → Type 0
Limits L unknown ms = (k : Name) (t : Data) → get_member k ms ≡ Some t → LimitAt L unknown t
