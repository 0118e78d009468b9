-- Breaches by their places: no two have one.
use Rattle.std.proofs.Common.{◌≡◌, ℕ, ◌+◌, ◌≤◌, if◌then◌else◌, ◌==◌, Option, None, Some, refl, sym, ap, ◌∙◌}
use Rattle.std.proofs.Common.{arith}
use Rattle.std.specs.Option.{option_map_or, unwrap_or}
use Rattle.fb_schema.specs.declared.kinds.TypeId.{TypeId}
use Rattle.fb_conform.specs.declared.breaches.Breach.{Breach}
use Rattle.fb_conform.specs.declared.breaches.Breach.TheVariants.{RootChanged, IdentifierChanged, TypeGone, KindChanged}
use Rattle.fb_conform.specs.declared.breaches.Breach.TheVariants.{StructChanged, SlotGone, FieldTypeChanged}
use Rattle.fb_conform.specs.declared.breaches.Breach.TheVariants.{DefaultChanged, RequiredChanged, DeprecatedTakenBack}
use Rattle.fb_conform.specs.declared.breaches.Breach.TheVariants.{NewRequired, EnumChanged, UnionChanged}
use Rattle.fb_conform.specs.BreachTable.{number_of, type_of, slot_of}
use Rattle.fb_conform.specs.Order.{type_place, slot_place}

abbrev pub id : ℕ → TypeId
id t = record { 0 = t }

-- the breach of a number, in a type and a slot
abbrev breach_at : ℕ → TypeId → ℕ → Breach
breach_at n t k =
    if n == 90 then RootChanged else if n == 91 then IdentifierChanged else if n == 92 then TypeGone t
    else if n == 93 then KindChanged t else if n == 94 then StructChanged t else if n == 95 then SlotGone t k
    else if n == 96 then FieldTypeChanged t k else if n == 97 then DefaultChanged t k
    else if n == 98 then RequiredChanged t k else if n == 99 then DeprecatedTakenBack t k
    else if n == 100 then NewRequired t k else if n == 101 then EnumChanged t else UnionChanged t

abbrev breach_again : Breach → Breach
breach_again b = breach_at (number_of b) (unwrap_or (type_of b) (id 0)) (unwrap_or (slot_of b) 0)

again : (b : Breach) → breach_again b ≡ b
again RootChanged = refl
again _ = refl

type_same : (o p : Option TypeId) → option_map_or (λ t. t.0 + 1) o 0 ≡ option_map_or (λ t. t.0 + 1) p 0 → o ≡ p
type_same None None e = refl
type_same None (Some u) e = absurd (omega arith)
type_same (Some t) None e = absurd (omega arith)
type_same (Some t) (Some u) e = let same : t.0 ≡ u.0 = omega arith in ap (λ n. Some (id n)) same

abbrev pub place : Option ℕ → ℕ
place o = option_map_or (λ k. k + 1) o 0

pub place_same : (o p : Option ℕ) → place o ≡ place p → o ≡ p
place_same None None e = refl
place_same None (Some k) e = absurd (omega arith)
place_same (Some j) None e = absurd (omega arith)
place_same (Some j) (Some k) e = let same : j ≡ k = omega arith in ap Some same

pub same_breach : (r b : Breach) → type_place r ≡ type_place b → slot_place r ≡ slot_place b
    → number_of r ≡ number_of b → r ≡ b
same_breach r b type slot number =
    sym (again r)
    ∙ ap (λ n. breach_at n (unwrap_or (type_of r) (id 0)) (unwrap_or (slot_of r) 0)) number
    ∙ ap (λ o. breach_at (number_of b) (unwrap_or o (id 0)) (unwrap_or (slot_of r) 0))
    (type_same (type_of r) (type_of b) type)
    ∙ ap (λ o. breach_at (number_of b) (unwrap_or (type_of b) (id 0)) (unwrap_or o 0))
    (place_same (slot_of r) (slot_of b) slot)
    ∙ again b

-- ---- all that has a place

pub numbered : (r : Breach) → 90 ≤ number_of r
numbered RootChanged = omega arith
numbered _ = omega arith

-- what is in no type
pub header : (r : Breach) → type_place r ≡ 0 → (slot_place r ≡ 0) × (number_of r ≤ 91)
header RootChanged e = (refl, omega arith)
header IdentifierChanged e = (refl, omega arith)
header _ e = absurd (omega arith)

-- what holds of each breach of a type itself
pub record OfType (P : Breach → Type 0) (t : ℕ) : Type 0 where
  pub gone : P (TypeGone (id t))
  pub kind : P (KindChanged (id t))
  pub struct : P (StructChanged (id t))
  pub values : P (EnumChanged (id t))
  pub members : P (UnionChanged (id t))

-- what holds of each breach of a type's slot
pub record OfSlot (P : Breach → Type 0) (t k : ℕ) : Type 0 where
  pub gone : P (SlotGone (id t) k)
  pub shape : P (FieldTypeChanged (id t) k)
  pub default : P (DefaultChanged (id t) k)
  pub required : P (RequiredChanged (id t) k)
  pub deprecated : P (DeprecatedTakenBack (id t) k)
  pub new : P (NewRequired (id t) k)

same_id : (v : TypeId) (t : ℕ) → v.0 + 1 ≡ t + 1 → v ≡ id t
same_id v t e = ap id (omega (arith, e))

pub of_type : (P : Breach → Type 0) (t : ℕ) → OfType P t → (r : Breach) → type_place r ≡ t + 1 → slot_place r ≡ 0 → P r
of_type P t all (TypeGone v) e i = rw (same_id v t e) all.gone
of_type P t all (KindChanged v) e i = rw (same_id v t e) all.kind
of_type P t all (StructChanged v) e i = rw (same_id v t e) all.struct
of_type P t all (EnumChanged v) e i = rw (same_id v t e) all.values
of_type P t all (UnionChanged v) e i = rw (same_id v t e) all.members
of_type P t all _ e i = absurd (omega arith)

pub of_slot : (P : Breach → Type 0) (t k : ℕ) → OfSlot P t k → (r : Breach) → type_place r ≡ t + 1
    → slot_place r ≡ k + 1 → P r
of_slot P t k all (SlotGone v j) e i = let same : j ≡ k = omega (arith, i) in rw (same_id v t e, same) all.gone
of_slot P t k all (FieldTypeChanged v j) e i = let same : j ≡ k = omega (arith, i) in rw (same_id v t e, same) all.shape
of_slot P t k all (DefaultChanged v j) e i = let same : j ≡ k = omega (arith, i) in rw (same_id v t e, same) all.default
of_slot P t k all (RequiredChanged v j) e i = let same : j ≡ k = omega (arith, i) in rw (same_id v t e, same)
    all.required
of_slot P t k all (DeprecatedTakenBack v j) e i =
    let same : j ≡ k = omega (arith, i) in rw (same_id v t e, same) all.deprecated
of_slot P t k all (NewRequired v j) e i = let same : j ≡ k = omega (arith, i) in rw (same_id v t e, same) all.new
of_slot P t k all _ e i = absurd (omega arith)

-- each breach of a type is one of these
pub in_type : (P : Breach → Type 0) (t : ℕ) → OfType P t → ((k : ℕ) → OfSlot P t k) → (r : Breach)
    → type_place r ≡ t + 1 → P r
in_type P t types slots r e = by (slot_of r) refl
  where
    by : (o : Option ℕ) → slot_of r ≡ o → P r
    by None at = of_type P t types r e (ap place at)
    by (Some k) at = of_slot P t k (slots k) r e (ap place at)
