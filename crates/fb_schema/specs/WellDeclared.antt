-- What each declared schema keeps, so that the crates above may rely on it.
-- From the FlatBuffers documentation, "Writing a schema": Structs, Unions, Attributes, Root type, File identification.
use Rattle.std.specs.Prelude.{ℕ, suc, ◌≡◌, ◌≢◌, ◌<◌, ◌≤◌, ◌^◌, ◌*◌, ◌++◌, codes, List, length, Bool, true, false}
use Rattle.std.specs.Prelude.{IsTrue, ℤ, pos, negsuc, ◌≤ℤ◌, Option, Some, All, AllPairs, map, slice_get}
use Rattle.std.specs.Option.{ForSome}
use Rattle.fb_schema.specs.declared.kinds.Base.{Base}
use Rattle.fb_schema.specs.declared.kinds.Base.TheVariants.{Bool as Boolean, I8, U8, I16, U16, I32, U32, I64, U64}
use Rattle.fb_schema.specs.declared.kinds.TypeId.{TypeId}
use Rattle.fb_schema.specs.declared.kinds.Kind.{Kind}
use Rattle.fb_schema.specs.declared.kinds.Kind.TheVariants.{Scalar, Enum, Struct, Table, Union, Code, Text}
use Rattle.fb_schema.specs.declared.kinds.Shape.{Shape}
use Rattle.fb_schema.specs.declared.kinds.Shape.TheVariants.{One, Many}
use Rattle.fb_schema.specs.Schema.{Name, DeclaredField, DeclaredBody, table_body, struct_body, enum_body, union_body}
use Rattle.fb_schema.specs.Schema.{DeclaredType, DeclaredSchema, body_at, base_in, is_table, is_struct, is_enum}
use Rattle.fb_schema.specs.Schema.{is_union}
use Rattle.fb_schema.specs.Alignments.{base_size, AreAligned}

abbrev pub IsBetween : ℤ → ℤ → ℤ → Type 0
IsBetween low high n = (low ≤ℤ n) × (n ≤ℤ high)

-- the numbers of a basic type; a `bool` is 0 or 1
abbrev pub InRange : Base → ℤ → Type 0
InRange Boolean n = IsBetween (pos 0) (pos 1) n
InRange I8 n = IsBetween (negsuc 127) (pos 127) n
InRange U8 n = IsBetween (pos 0) (pos 255) n
InRange I16 n = IsBetween (negsuc 32767) (pos 32767) n
InRange U16 n = IsBetween (pos 0) (pos 65535) n
InRange I32 n = IsBetween (negsuc 2147483647) (pos 2147483647) n
InRange U32 n = IsBetween (pos 0) (pos 4294967295) n
InRange I64 n = IsBetween (negsuc 9223372036854775807) (pos 9223372036854775807) n
InRange U64 n = IsBetween (pos 0) (pos 18446744073709551615) n

-- the number is that of a declared type that passes a test
abbrev pub Names : (DeclaredBody → Bool) → DeclaredSchema → ℕ → Type 0
Names test S t = (t < length S.types) × IsTrue (test (body_at S t))

-- a kind names a type of that kind
abbrev pub KindNames : DeclaredSchema → Kind → Type 0
KindNames S (Scalar base) = Unit {0}
KindNames S (Enum e) = Names is_enum S e.0
KindNames S (Struct s) = Names is_struct S s.0
KindNames S (Table t) = Names is_table S t.0
KindNames S (Union u) = Names is_union S u.0
KindNames S (Code u) = Names is_union S u.0
KindNames S Text = Unit {0}

-- a vector holds no unions
abbrev pub MayBeElement : Kind → Type 0
MayBeElement (Union u) = ⊥
MayBeElement (Code u) = ⊥
MayBeElement _ = Unit {0}

abbrev pub IsShape : DeclaredSchema → Shape → Type 0
IsShape S (One kind) = KindNames S kind
IsShape S (Many kind) = KindNames S kind × MayBeElement kind

-- A scalar or enum has a default in its type's range and is never required.
abbrev pub IsScalarField : Base → DeclaredField → Type 0
IsScalarField base f = InRange base f.default × (IsTrue f.optional → f.default ≡ pos 0) × (f.required ≡ false)

-- All else has no default and isn't optional.
abbrev pub IsOtherField : DeclaredField → Type 0
IsOtherField f = (f.default ≡ pos 0) × (f.optional ≡ false)

abbrev pub MarksFit : DeclaredSchema → DeclaredField → Shape → Type 0
MarksFit S f (One (Scalar base)) = IsScalarField base f
MarksFit S f (One (Enum e)) = IsScalarField (base_in (body_at S e.0)) f
MarksFit S f (One (Code u)) = IsOtherField f × (f.required ≡ false)
MarksFit S f _ = IsOtherField f

-- a union's code slot, and the value slot right after it: of a union field `x` they are called `x_type` and `x`
pub record IsUnionPair (f g : DeclaredField) (u : TypeId) : Type 0 where
  pub named : f.name ≡ g.name ++ codes "_type"
  pub code : f.shape ≡ One (Code u)
  pub value : g.shape ≡ One (Union u)
  pub marks : f.deprecated ≡ g.deprecated

-- each code slot is followed by its union's value, and each union's value is led by its code
pub record UnionsPaired (fs : List DeclaredField) : Type 0 where
  pub followed : (k : ℕ) (f : DeclaredField) (u : TypeId) → slice_get fs k ≡ Some f → f.shape ≡ One (Code u)
      → (g : DeclaredField) × (slice_get fs (suc k) ≡ Some g) × IsUnionPair f g u
  pub led : (k : ℕ) (g : DeclaredField) (u : TypeId) → slice_get fs k ≡ Some g → g.shape ≡ One (Union u)
      → (j : ℕ) × (f : DeclaredField) × (k ≡ suc j) × (slice_get fs j ≡ Some f) × IsUnionPair f g u

abbrev pub names_of : List DeclaredField → List Name
names_of fs = map (λ f. f.name) fs

pub record IsTableBody (S : DeclaredSchema) (fs : List DeclaredField) : Type 0 where
  pub slots : (k : ℕ) (f : DeclaredField) → slice_get fs k ≡ Some f → f.slot ≡ k
  pub names : AllPairs (λ a b. a ≢ b) (names_of fs)
  pub shapes : (k : ℕ) (f : DeclaredField) → slice_get fs k ≡ Some f → IsShape S f.shape × MarksFit S f f.shape
  pub unions : UnionsPaired fs

-- a struct has scalars, enums and structs that are declared before it
abbrev pub IsPart : DeclaredSchema → ℕ → Shape → Type 0
IsPart S s (One (Scalar base)) = Unit {0}
IsPart S s (One (Enum e)) = Names is_enum S e.0
IsPart S s (One (Struct t)) = (t.0 < s) × Names is_struct S t.0
IsPart S s _ = ⊥

-- no marks and no default stand in a struct
abbrev pub IsPlain : DeclaredField → Type 0
IsPlain f = (f.default ≡ pos 0) × (f.optional ≡ false) × (f.required ≡ false) × (f.deprecated ≡ false)

-- a `force_align` is a power of two, 256 at most
abbrev pub IsForceAlign : ℕ → Type 0
IsForceAlign a = (k : ℕ) × (k ≤ 8) × (a ≡ 2 ^ k)

pub record IsStructBody (S : DeclaredSchema) (s : ℕ) (fs : List DeclaredField) (force : Option ℕ) : Type 0 where
  pub some : 0 < length fs
  pub aligned : ForSome force IsForceAlign
  pub slots : (k : ℕ) (f : DeclaredField) → slice_get fs k ≡ Some f → f.slot ≡ k
  pub names : AllPairs (λ a b. a ≢ b) (names_of fs)
  pub parts : (k : ℕ) (f : DeclaredField) → slice_get fs k ≡ Some f → IsPart S s f.shape × IsPlain f

abbrev pub is_unsigned : Base → Bool
is_unsigned U8 = true
is_unsigned U16 = true
is_unsigned U32 = true
is_unsigned U64 = true
is_unsigned _ = false

-- with `bit_flags` each value is one bit of an unsigned type
abbrev pub IsFlag : Base → ℤ → Type 0
IsFlag base n = (k : ℕ) × (k < 8 * base_size base) × (n ≡ pos (2 ^ k))

pub record IsEnumBody (base : Base) (flags : Bool) (values : List (Name × ℤ)) : Type 0 where
  pub integers : base ≢ Boolean
  pub names : AllPairs (λ a b. a.0 ≢ b.0) values
  pub numbers : AllPairs (λ a b. a.1 ≢ b.1) values
  pub ranges : All (λ v. InRange base v.1) values
  pub bits : IsTrue flags → IsTrue (is_unsigned base) × All (λ v. IsFlag base v.1) values

pub record IsUnionBody (S : DeclaredSchema) (members : List (Name × ℕ)) : Type 0 where
  pub few : length members ≤ 255
  pub no_none : All (λ m. m.0 ≢ codes "NONE") members
  pub names : AllPairs (λ a b. a.0 ≢ b.0) members
  pub tables : All (λ m. Names is_table S m.1) members

abbrev pub IsBody : DeclaredSchema → ℕ → DeclaredBody → Type 0
IsBody S t (table_body fs) = IsTableBody S fs
IsBody S t (struct_body fs align) = IsStructBody S t fs align
IsBody S t (enum_body base flags values) = IsEnumBody base flags values
IsBody S t (union_body members) = IsUnionBody S members

pub record IsDeclared (S : DeclaredSchema) : Type 0 where
  pub bodies : (t : ℕ) (type : DeclaredType) → slice_get S.types t ≡ Some type → IsBody S t type.body
  pub names : AllPairs (λ a b. a.name ≢ b.name) S.types
  pub aligned : (aligns : List ℕ) × AreAligned S aligns
  pub root : Names is_table S S.root
  pub identifier : ForSome S.identifier (λ id. length id ≡ 4)
