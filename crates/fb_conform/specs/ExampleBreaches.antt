-- Breaches that stand: rows worked by hand.
use Rattle.std.proofs.Common.{◌≡◌, ℕ, zero, suc, ◌<◌, ℤ, pos, List, [], ◌∷◌, get_or, Some, refl, sym, ap, arith}
use Rattle.std.proofs.Common.{lit≤, lit<}
use Rattle.fb_conform.specs.declared.breaches.Breach.TheVariants.{RootChanged, IdentifierChanged, TypeGone}
use Rattle.fb_conform.specs.declared.breaches.Breach.TheVariants.{StructChanged, SlotGone, FieldTypeChanged}
use Rattle.fb_conform.specs.declared.breaches.Breach.TheVariants.{DefaultChanged, RequiredChanged, DeprecatedTakenBack}
use Rattle.fb_conform.specs.declared.breaches.Breach.TheVariants.{NewRequired, EnumChanged, UnionChanged}
use Rattle.fb_conform.specs.Conforms.{Stands}
use Rattle.fb_schema.specs.Schema.{Name}
use Rattle.fb_conform.specs.ExampleSchemas.{id, int_field, text_field, byte_field, with_default, optional_one}
use Rattle.fb_conform.specs.ExampleSchemas.{required_one, deprecated_one, of_types, one_table, s1, s2, s2_later, u_ab}
use Rattle.fb_conform.specs.ExampleSchemas.{u_ba, with_enum, with_struct}

same_letter : (m n : ℕ) → Some (m ∷ []) ≡ Some (n ∷ []) → m ≡ n
same_letter m n e = cc

-- the root is another table
pub root_row : Stands s2_later (of_types 0 s2_later.schema.types) RootChanged
root_row kept = let letter = same_letter 0x54 0x41 kept in omega (arith, letter)

-- an identifier that is new
pub identifier_row : Stands s1
    (record { schema = record { types = s1.schema.types; root = 0; identifier = Some (0x54 ∷ []) }; structs = [] })
    IdentifierChanged
identifier_row kept = cc

-- A is gone from s2_later to s1
pub type_gone_row : Stands s2_later s1 (TypeGone (id 0))
type_gone_row kept = let h = (kept (lit≤ tt)).1 in cc

-- struct S { x:ubyte; } grows by y:ubyte
pub struct_row : Stands (with_struct (byte_field 0 ∷ []) (record { size = 1; align = 1; offsets = 0 ∷ [] }))
    (with_struct (byte_field 0 ∷ byte_field 1 ∷ []) (record { size = 2; align = 1; offsets = 0 ∷ 1 ∷ [] }))
    (StructChanged (id 0))
struct_row kept = let h = (kept 0 refl).0 in cc

-- slot b is gone from s2 to s1
pub slot_gone_row : Stands s2 s1 (SlotGone (id 0) 1)
slot_gone_row kept = let h = (kept 0 (int_field 1) refl refl refl).1 in cc

-- a:int becomes a:string
pub type_row : Stands s1 (one_table (text_field 0 ∷ [])) (FieldTypeChanged (id 0) 0)
type_row kept = let h = kept (int_field 0) (text_field 0) (record { type = 0; twins = refl; old = refl; new = refl }) in
    cc

-- a:int becomes a:int = 1
pub default_row : Stands s1 (one_table (with_default (pos 1) (int_field 0) ∷ [])) (DefaultChanged (id 0) 0)
default_row kept = let h =
    (kept (int_field 0) (with_default (pos 1) (int_field 0)) (record { type = 0; twins = refl; old = refl; new = refl })
    refl refl).0 in cc

-- a:int becomes a:int = null, and back
pub optional_row : Stands s1 (one_table (optional_one (int_field 0) ∷ [])) (DefaultChanged (id 0) 0)
optional_row kept = let h =
    (kept (int_field 0) (optional_one (int_field 0)) (record { type = 0; twins = refl; old = refl; new = refl }) refl
    refl).1 in cc

pub plain_row : Stands (one_table (optional_one (int_field 0) ∷ [])) s1 (DefaultChanged (id 0) 0)
plain_row kept = let h =
    (kept (optional_one (int_field 0)) (int_field 0) (record { type = 0; twins = refl; old = refl; new = refl }) refl
    refl).1 in cc

-- s:string (required) becomes s:string (required, deprecated)
pub required_row : Stands (one_table (required_one (text_field 0) ∷ []))
    (one_table (deprecated_one (required_one (text_field 0)) ∷ [])) (RequiredChanged (id 0) 0)
required_row kept = let h = kept (required_one (text_field 0)) (deprecated_one (required_one (text_field 0)))
    (record { type = 0; twins = refl; old = refl; new = refl }) in cc

-- a:int (deprecated) becomes a:int
pub taken_back_row : Stands (one_table (deprecated_one (int_field 0) ∷ [])) s1 (DeprecatedTakenBack (id 0) 0)
taken_back_row kept = let h =
    kept (deprecated_one (int_field 0)) (int_field 0) (record { type = 0; twins = refl; old = refl; new = refl })
    refl in cc

-- b:string (required) is new
pub new_required_row : Stands s1 (one_table (int_field 0 ∷ required_one (text_field 1) ∷ [])) (NewRequired (id 0) 1)
new_required_row kept = let h = kept 0 (required_one (text_field 1)) refl refl refl refl in cc

-- no value Y is 1 in X = 0, Z = 1, Y = 2
abbrev xzy : List (Name × ℤ)
xzy = (0x58 ∷ [], pos 0) ∷ (0x5a ∷ [], pos 1) ∷ (0x59 ∷ [], pos 2) ∷ []

abbrev one_y : Name × ℤ
one_y = (0x59 ∷ [], pos 1)

nowhere : (k : ℕ) → k < 3 → get_or xzy k one_y ≡ one_y → ⊥
nowhere zero less e = let number : pos 0 ≡ pos 1 = ap (λ (v : Name × ℤ). v.1) e in cc
nowhere (suc zero) less e = let letter = same_letter 0x5a 0x59 (ap (λ (v : Name × ℤ). Some v.0) e) in
    omega (arith, letter)
nowhere (suc (suc zero)) less e = let number : pos 2 ≡ pos 1 = ap (λ (v : Name × ℤ). v.1) e in cc
nowhere (suc (suc (suc k))) less e = omega (arith, less)

-- X, Y becomes X, Z, Y
pub enum_row : Stands (with_enum ((0x58 ∷ [], pos 0) ∷ (0x59 ∷ [], pos 1) ∷ [])) (with_enum xzy) (EnumChanged (id 0))
enum_row kept = let there = (kept 0 refl).2 1 one_y (lit< tt) in nowhere there.0 there.1 there.2

same_number : (m n : ℕ) → Some m ≡ Some n → m ≡ n
same_number m n e = cc

-- A, B becomes B, A
pub union_row : Stands u_ab u_ba (UnionChanged (id 2))
union_row kept =
    let there = kept 2 refl 1 0 refl in
    let second : there.0 ≡ 1 = same_number _ _ (sym there.1) in
    let letter = same_letter 0x41 0x42 (rw second at there.2)
    in omega (arith, letter)
