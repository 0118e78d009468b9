-- A fault of an entry is a rule that it breaks.
use Rattle.std.proofs.Common.{◌≡◌, ◌⊎◌, inl, inr, ℕ, zero, suc, ℤ, Bool, true, false, Option, Some, None}
use Rattle.std.proofs.Common.{option_map, Err, refl, subst, arith}
use Rattle.serde_json.specs.Data.{Data}
use Rattle.fb_schema.specs.declared.kinds.TypeId.{TypeId}
use Rattle.fb_schema.specs.declared.kinds.Kind.TheVariants.{Scalar, Enum, Struct, Table, Union, Code, Text}
use Rattle.fb_schema.specs.declared.kinds.Shape.{Shape}
use Rattle.fb_schema.specs.declared.kinds.Shape.TheVariants.{One, Many}
use Rattle.fb_schema.specs.Schema.{DeclaredField}
use Rattle.fb_layout.specs.Laid.{LaidSchema, slot_of, member_by_code}
use Rattle.fb_value.specs.Datum.{Datum}
use Rattle.fb_json.specs.declared.faults.Place.{Place}
use Rattle.fb_json.specs.declared.faults.JsonFault.{JsonFault}
use Rattle.fb_json.specs.declared.faults.JsonFault.TheVariants.{MissingRequired, UnionMismatch}
use Rattle.fb_json.specs.Meant.{code_in, as_absent, as_member, union_meant, plain_meant, used_meant, meant}
use Rattle.fb_json.specs.Breaks.{ToldBreaks, HasNoCode, EntryBreaks, is_own, Breaks}
use Rattle.fb_json.specs.Laws.{IsLimit}
use Rattle.fb_json.proofs.laws.EachStepOfABindSucceeds.{bind_err}
use Rattle.fb_json.proofs.laws.FaultOfALeafIsABrokenRule.{err_inj, no_err, Refused, BrokenAt, told_broken}
use Rattle.fb_json.proofs.slots.MembersWithTheirMeaning.{with_meaning}

-- ---- slots

module _ (L : LaidSchema) (unknown : Bool) where
  -- what a member's own tree breaks, at a slot
  abbrev pub Inner : Shape → ℕ → Option Data → Place → JsonFault → Type 0
  Inner shape c o at f = ((t : Data) × (o ≡ Some t) × (is_own shape ≡ true) × Breaks L unknown t shape at f)
      ⊎ ((u : TypeId) × (table : ℕ) × (t : Data) × (shape ≡ One (Union u)) × (member_by_code L u.0 c ≡ Some table)
      × (o ≡ Some t) × Breaks L unknown t (One (Table (record { 0 = table }))) at f)

  abbrev pub Entry : DeclaredField → ℕ → Option Data → Shape → Place → JsonFault → Type 0
  Entry s c o shape at f = IsLimit f ⊎ (EntryBreaks L s c o at f ⊎ Inner shape c o at f)

  absent_broken : (s : DeclaredField) (c : ℕ) (a : Option ℤ) (required : Bool) (shape : Shape) (at : Place) (left : ℕ)
      (f : JsonFault) → HasNoCode s.shape c → (slot_of L.schema s).required ≡ required
      → as_absent a required at left ≡ Err f → Entry s c None shape at f
  absent_broken s c (Some n) required shape at left f uncoded is h = absurd (no_err _ f h)
  absent_broken s c None false shape at left f uncoded is h = absurd (no_err _ f h)
  absent_broken s c None true shape at left f uncoded is h =
      subst (Entry s c None shape at) (err_inj {A = Option Datum × ℕ} (MissingRequired at) f h)
      (inr (inl (refl, refl, is, uncoded)))

  as_own : (s : DeclaredField) (c : ℕ) (t : Data) (shape : Shape) (at : Place) (f : JsonFault) → is_own shape ≡ true
      → Refused L unknown t shape at f → Entry s c (Some t) shape at f
  as_own s c t shape at f is (inl limit) = inl limit
  as_own s c t shape at f is (inr h) = inr (inr (inl (t, refl, is, h)))

  plain_broken : (s : DeclaredField) (c : ℕ) (shape : Shape) (o : Option Data) (at : Place) (levels left : ℕ)
      (f : JsonFault) → HasNoCode s.shape c → is_own shape ≡ true → ((t : Data) → o ≡ Some t → BrokenAt L unknown t)
      → plain_meant (slot_of L.schema s) shape (option_map (meant L unknown) o) at levels left ≡ Err f
      → Entry s c o shape at f
  unfolding plain_meant
  plain_broken s c shape None at levels left f uncoded is broken h =
      absent_broken s c (slot_of L.schema s).if_absent (slot_of L.schema s).required shape at left f uncoded refl h
  plain_broken s c shape (Some t) at levels left f uncoded is broken h =
      elim (bind_err (meant L unknown t shape at levels left) _ f h) as (λ _. Entry s c (Some t) shape at f) [
        | inl e ↦ as_own s c t shape at f is (broken t refl shape at levels left f e)
        | inr x ↦
            absurd (no_err _ f x.2)
      ]

  under_code : (s : DeclaredField) (u : TypeId) (c table : ℕ) (t : Data) (at : Place) (f : JsonFault)
      → member_by_code L u.0 c ≡ Some table → Refused L unknown t (One (Table (record { 0 = table }))) at f
      → Entry s c (Some t) (One (Union u)) at f
  under_code s u c table t at f is (inl limit) = inl limit
  under_code s u c table t at f is (inr h) = inr (inr (inr (u, table, t, refl, is, refl, h)))

  member_broken : (s : DeclaredField) (u : TypeId) (c : ℕ) (t : Data) (at : Place) (levels left : ℕ) (f : JsonFault)
      (table : Option ℕ) → s.shape ≡ One (Union u) → member_by_code L u.0 c ≡ table → BrokenAt L unknown t
      → as_member c table (meant L unknown t) at levels left ≡ Err f → Entry s c (Some t) (One (Union u)) at f
  member_broken s u c t at levels left f None one is broken h =
      subst (Entry s c (Some t) (One (Union u)) at) (err_inj {A = Option Datum × ℕ} (UnionMismatch at) f h)
      (inr (inl (refl, (u, one, is))))
  member_broken s u c t at levels left f (Some table) one is broken h =
      elim (bind_err (meant L unknown t (One (Table (record { 0 = table }))) at levels left) _ f h) as
      (λ _. Entry s c (Some t) (One (Union u)) at f) [
        | inl e ↦ under_code s u c table t at f is (broken (One (Table (record { 0 = table }))) at levels left f e)
        | inr x ↦ absurd (no_err _ f x.2)
      ]

  union_broken : (s : DeclaredField) (u : TypeId) (c : ℕ) (o : Option Data) (at : Place) (levels left : ℕ)
      (f : JsonFault) → s.shape ≡ One (Union u) → ((t : Data) → o ≡ Some t → BrokenAt L unknown t)
      → union_meant L u.0 (slot_of L.schema s) c (option_map (meant L unknown) o) at levels left ≡ Err f
      → Entry s c o (One (Union u)) at f
  unfolding union_meant
  union_broken s u zero None at levels left f one broken h =
      absent_broken s 0 (slot_of L.schema s).if_absent (slot_of L.schema s).required (One (Union u)) at left f
      (rw one refl) refl h
  union_broken s u (suc c) None at levels left f one broken h =
      subst (Entry s (suc c) None (One (Union u)) at) (err_inj {A = Option Datum × ℕ} (UnionMismatch at) f h)
      (inr (inl (refl, (u, one, (λ e. omega arith)))))
  union_broken s u zero (Some t) at levels left f one broken h =
      member_broken s u 0 t at levels left f (member_by_code L u.0 0) one refl (broken t refl) h
  union_broken s u (suc c) (Some t) at levels left f one broken h =
      member_broken s u (suc c) t at levels left f (member_by_code L u.0 (suc c)) one refl (broken t refl) h

  pub used_broken : (s : DeclaredField) (c : ℕ) (o : Option Data) (at : Place) (levels left : ℕ) (shape : Shape)
      (f : JsonFault) → s.shape ≡ shape → ((t : Data) → o ≡ Some t → BrokenAt L unknown t)
      → used_meant L s c (option_map (meant L unknown) o) at levels left shape ≡ Err f → Entry s c o shape at f
  used_broken s c o at levels left (One (Code u)) f is broken h = absurd (no_err _ f h)
  used_broken s c o at levels left (One (Union u)) f is broken h = union_broken s u c o at levels left f is broken h
  used_broken s c o at levels left (One (Scalar b)) f is broken h =
      plain_broken s c (One (Scalar b)) o at levels left f (rw is tt) refl
      broken h
  used_broken s c o at levels left (One (Enum b)) f is broken h =
      plain_broken s c (One (Enum b)) o at levels left f (rw is tt) refl broken
      h
  used_broken s c o at levels left (One (Struct b)) f is broken h =
      plain_broken s c (One (Struct b)) o at levels left f (rw is tt) refl
      broken h
  used_broken s c o at levels left (One (Table b)) f is broken h =
      plain_broken s c (One (Table b)) o at levels left f (rw is tt) refl broken
      h
  used_broken s c o at levels left (One Text) f is broken h =
      plain_broken s c (One Text) o at levels left f (rw is tt) refl broken h
  used_broken s c o at levels left (Many b) f is broken h =
      plain_broken s c (Many b) o at levels left f (rw is tt) refl broken h

  pub told_at : (o : Option Data) (u : ℕ) (at : Place) (f : JsonFault)
      → code_in L.schema u at (option_map (with_meaning L unknown) o) ≡ Err f
      → (t : Data) × (o ≡ Some t) × ToldBreaks L.schema u t at f
  told_at None u at f h = absurd (no_err 0 f h)
  told_at (Some t) u at f h = (t, refl, told_broken L.schema u at t f h)
