-- Breaches: number, name, and the type and the slot that they name.
use Rattle.std.specs.Prelude.{ℕ, List, Option, None, Some, codes}
use Rattle.fb_schema.specs.declared.kinds.TypeId.{TypeId}
use Rattle.fb_conform.specs.declared.breaches.Breach.{Breach}
use Rattle.fb_conform.specs.declared.breaches.Breach.TheVariants.{RootChanged, IdentifierChanged, TypeGone, KindChanged}
use Rattle.fb_conform.specs.declared.breaches.Breach.TheVariants.{StructChanged, SlotGone, FieldTypeChanged}
use Rattle.fb_conform.specs.declared.breaches.Breach.TheVariants.{DefaultChanged, RequiredChanged, DeprecatedTakenBack}
use Rattle.fb_conform.specs.declared.breaches.Breach.TheVariants.{NewRequired, EnumChanged, UnionChanged}

-- the number of the rule, which no other breach has, and the name of the variant
abbrev pub row_of : Breach → ℕ × List ℕ
row_of RootChanged = (90, codes "RootChanged")
row_of IdentifierChanged = (91, codes "IdentifierChanged")
row_of (TypeGone t) = (92, codes "TypeGone")
row_of (KindChanged t) = (93, codes "KindChanged")
row_of (StructChanged t) = (94, codes "StructChanged")
row_of (SlotGone t k) = (95, codes "SlotGone")
row_of (FieldTypeChanged t k) = (96, codes "FieldTypeChanged")
row_of (DefaultChanged t k) = (97, codes "DefaultChanged")
row_of (RequiredChanged t k) = (98, codes "RequiredChanged")
row_of (DeprecatedTakenBack t k) = (99, codes "DeprecatedTakenBack")
row_of (NewRequired t k) = (100, codes "NewRequired")
row_of (EnumChanged t) = (101, codes "EnumChanged")
row_of (UnionChanged t) = (102, codes "UnionChanged")

abbrev pub number_of : Breach → ℕ
number_of b = (row_of b).0

abbrev pub name_of : Breach → List ℕ
name_of b = (row_of b).1

-- the old type, if the breach is one type's
abbrev pub type_of : Breach → Option TypeId
type_of RootChanged = None
type_of IdentifierChanged = None
type_of (TypeGone t) = Some t
type_of (KindChanged t) = Some t
type_of (StructChanged t) = Some t
type_of (SlotGone t k) = Some t
type_of (FieldTypeChanged t k) = Some t
type_of (DefaultChanged t k) = Some t
type_of (RequiredChanged t k) = Some t
type_of (DeprecatedTakenBack t k) = Some t
type_of (NewRequired t k) = Some t
type_of (EnumChanged t) = Some t
type_of (UnionChanged t) = Some t

-- the slot, if the breach is one slot's
abbrev pub slot_of : Breach → Option ℕ
slot_of (SlotGone t k) = Some k
slot_of (FieldTypeChanged t k) = Some k
slot_of (DefaultChanged t k) = Some k
slot_of (RequiredChanged t k) = Some k
slot_of (DeprecatedTakenBack t k) = Some k
slot_of (NewRequired t k) = Some k
slot_of _ = None
