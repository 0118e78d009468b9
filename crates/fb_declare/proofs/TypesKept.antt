-- What the uses of names mean in the schema that an outline with no fault gives, each type of it by what declares it,
-- and the enums that fields name.
use Rattle.std.proofs.Common.{◌≡◌, ℕ, zero, suc, Bool, List, ◌∷◌, map, get_or, false, true≢false, refl, sym, subst}
use Rattle.std.proofs.Common.{arith, Option, None, Some, IsTrue, [], ℤ, IfSome, ◌∙◌, take, ap, slice_get, append_assoc}
use Rattle.std.proofs.Common.{◌++◌, ◌<◌, length}
use Rattle.std.specs.List.{slice_get, All, AllZip, find, list_any}
use Rattle.std.specs.Option.{is_none, unwrap_or, option_map, option_or, option_and_then}
use Rattle.std.proofs.lemmas.List.Elements.{All-map, All-head, All-tail}
use Rattle.std.proofs.lemmas.Option.{none-some, slice_get_within, same_Some, slice_get-map, slice_get_read}
use Rattle.std.proofs.lemmas.Option.{get_or_from_slice_get}
use Rattle.fb_syntax.specs.FieldRead.{FieldRead}
use Rattle.fb_syntax.specs.declared.declarations.TypeDecl.{TypeDecl}
use Rattle.fb_syntax.specs.declared.declarations.TypeDecl.TheVariants as decls
use Rattle.fb_schema.specs.Schema.{Name, DeclaredBody, table_body, struct_body, enum_body, union_body, DeclaredSchema}
use Rattle.fb_schema.specs.Schema.{body_in, is_table, is_struct, is_enum, is_union, DeclaredType, body_at, base_in}
use Rattle.fb_schema.specs.WellDeclared.{Names, KindNames, InRange}
use Rattle.fb_schema.specs.declared.kinds.Base.{Base}
use Rattle.fb_schema.specs.declared.kinds.Kind.{Kind}
use Rattle.fb_schema.specs.declared.kinds.Kind.TheVariants.{Table, Code}
use Rattle.fb_resolve.specs.Outline.{TypeRead, Outline, full_name, name_of_type}
use Rattle.fb_resolve.specs.Attributes.{has_attribute, number_called}
use Rattle.fb_resolve.specs.BasicTypes.{basic_type}
use Rattle.fb_resolve.specs.Defaults.{given_by}
use Rattle.fb_resolve.specs.EnumValues.{has_flags, underlying_at, value_at, number_named, value_named, behind}
use Rattle.fb_resolve.specs.EnumValues.{enum_values, value_in, values_read}
use Rattle.fb_resolve.specs.Meaning.{use_of, use_of_read, use_of_type, basic_or, meaning_of, type_name, type_of_name}
use Rattle.fb_resolve.specs.MembersRead.{table_of}
use Rattle.fb_resolve.specs.ResolvedFields.{ResolvedField}
use Rattle.fb_resolve.specs.ResolvedType.{ResolvedType}
use Rattle.fb_resolve.specs.Resolved.{resolved_field, resolved_fields, resolved_member, resolved_declaration}
use Rattle.fb_resolve.specs.Resolved.{resolved_type, resolved_enum, resolved_types}
use Rattle.fb_syntax.specs.declared.attributes.BuiltInAttribute.TheVariants.{Required, ForceAlign}
use Rattle.fb_resolve.specs.declared.meanings.Meaning.{Meaning}
use Rattle.fb_resolve.specs.declared.meanings.Meaning.TheVariants.{Known}
use Rattle.fb_resolve.specs.declared.basic_types.BasicType.{BasicType}
use Rattle.fb_resolve.specs.declared.basic_types.BasicType.TheVariants.{Scalar, Text, Float}
use Rattle.fb_resolve.specs.declared.resolved.ResolvedDecl.{ResolvedDecl}
use Rattle.fb_resolve.specs.declared.resolved.ResolvedDecl.TheVariants as resolved
use Rattle.fb_declare.specs.Declares.{HasBody, IsType, Gives}
use Rattle.fb_declare.proofs.FaultFree.{either, none_behind, type_right}
use Rattle.std.specs.Str.{bytes_eq}
use Rattle.fb_syntax.specs.TypesRead.{EnumRead}
use Rattle.fb_declare.proofs.EnumsKept.{enum_kept}
use Rattle.fb_declare.specs.FaultRows.{faults_in_turn}
use Rattle.fb_resolve.specs.RepeatedNames.{is_again, again_behind, repeated_names}
use Rattle.fb_declare.specs.TypeFaults.{declaration_faults, aligns_from, type_behind, declared_in}
use Rattle.std.proofs.lemmas.List.{append-nil, take-map, map-id, get_or-map, length-map}
use Rattle.std.proofs.lemmas.Simd.{map-map}

-- ---- what is known of a declaration that is resolved

-- no use of a name is that of a union's code
abbrev pub IsNoCode : Kind → Type 0
IsNoCode (Code u) = ⊥
IsNoCode _ = Unit {0}

-- what a meaning says of the schema
abbrev pub MeansIn : DeclaredSchema → Meaning → Type 0
MeansIn S (Known kind) = KindNames S kind × IsNoCode kind
MeansIn S _ = Unit {0}

-- a field's type is in the schema, and its marks are those that are written
pub record IsRead (types : List TypeRead) (S : DeclaredSchema) (f : ResolvedField) : Type 0 where
  pub means : MeansIn S f.meaning
  pub required : f.attributes.required ≡ has_attribute Required f.field.attributes
  pub given : f.given ≡ given_by types f.field.kind f.meaning f.field.default

abbrev pub IsReadIn : List TypeRead → DeclaredSchema → ResolvedDecl → Type 0
IsReadIn types S (resolved.Table t) = All (IsRead types S) t.fields
IsReadIn types S (resolved.Struct s) = All (IsRead types S) s.fields
    × (s.force_align ≡ number_called ForceAlign s.declared.attributes)
IsReadIn types S (resolved.Enum e) = e.bit_flags ≡ has_flags e.declared
IsReadIn types S (resolved.Union u) = All (λ m. MeansIn S m.meaning) u.members

-- ---- a type and what is read of it

module _ {A B C : Type 0} (R : B → C → Type 0) (f : A → B) where
  at_left : (xs : List A) (ys : List C) → AllZip R (map f xs) ys → (t : ℕ) (x : A) → slice_get xs t ≡ Some x
      → (y : C) × (slice_get ys t ≡ Some y) × R (f x) y
  at_left (a ∷ xs) (y ∷ ys) z zero x e = (y, refl, rw (← (same_Some a x e)) z.0)
  at_left (a ∷ xs) (y ∷ ys) z (suc t) x e = at_left xs ys z.1 t x e
  at_left _ _ z t x e = absurd (grind arith)

  pub at_right : (xs : List A) (ys : List C) → AllZip R (map f xs) ys → (t : ℕ) (y : C) → slice_get ys t ≡ Some y
      → (x : A) × (slice_get xs t ≡ Some x) × R (f x) y
  at_right (x ∷ xs) (b ∷ ys) z zero y e = (x, refl, subst (R (f x)) (same_Some b y e) z.0)
  at_right (x ∷ xs) (b ∷ ys) z (suc t) y e = at_right xs ys z.1 t y e
  at_right _ _ z t y e = absurd (grind arith)

-- a use of a type that has the body of its declaration
means_use : (S : DeclaredSchema) (types : List TypeRead) (scope : Option Name) (t : ℕ) (d : TypeDecl) (b : DeclaredBody)
    → ((test : DeclaredBody → Bool) → IsTrue (test b) → Names test S t)
    → HasBody (resolved_declaration types scope d) b → MeansIn S (use_of t d)
means_use S types scope t (decls.Table d) (table_body slots) names h = (names is_table refl, tt)
means_use S types scope t (decls.Struct d) (struct_body parts force) names h = (names is_struct refl, tt)
means_use S types scope t (decls.Enum d) (enum_body base flags values) names h = (names is_enum refl, tt)
means_use S types scope t (decls.Union d) (union_body members) names h = (names is_union refl, tt)
means_use S types scope t d b names h = absurd h

means_name : (S : DeclaredSchema) (basic : Option BasicType) (m : Meaning) → MeansIn S m → MeansIn S (basic_or basic m)
means_name S None m h = h
means_name S (Some (Scalar base)) m h = (tt, tt)
means_name S (Some Text) m h = (tt, tt)
means_name S (Some Float) m h = tt

-- the number of the table that a use names
pub table_named : (S : DeclaredSchema) (m : Meaning) → MeansIn S m → is_none (table_of m) ≡ false
    → Names is_table S (unwrap_or (table_of m) 0)
table_named S (Known (Table t)) means h = means.0
table_named S m means h = absurd (true≢false h)

module _ (o : Outline) (S : DeclaredSchema) (g : Gives o S) where
  means_read : (t : ℕ) (r : Option TypeRead) → slice_get o.types t ≡ r → MeansIn S (use_of_read t r)
  means_read t None e = tt
  means_read t (Some r) e =
      let x = at_left IsType (resolved_type o.types) o.types S.types g.types t r e in
      means_use S o.types r.scope t r.declaration x.0.body
      (λ test is. (slice_get_within S.types t x.0 x.1, rw x.1 is))
      x.2.body

  means_type : (t : Option ℕ) → MeansIn S (use_of_type o.types t)
  means_type None = tt
  means_type (Some t) = means_read t (slice_get o.types t) refl

  -- what a name means is there in the schema
  pub means_in : (scope : Option Name) (name : Name) → MeansIn S (meaning_of o.types scope name)
  unfolding meaning_of
  means_in scope name = means_name S (basic_type name) _ (means_type (type_of_name o.types scope name))

  fields_read : (scope : Option Name) (fs : List FieldRead) → All (IsRead o.types S) (resolved_fields o.types scope fs)
  fields_read scope fs = All-map (IsRead o.types S) (resolved_field o.types scope) fs
      (λ k d within. record {
        means = means_in scope (type_name (get_or fs k d).kind).bytes;
        required = refl;
        given =
            refl;
      })

  -- and so is all that a declaration names
  pub read_in : (scope : Option Name) (d : TypeDecl) → IsReadIn o.types S (resolved_declaration o.types scope d)
  read_in scope (decls.Table d) = fields_read scope d.fields
  read_in scope (decls.Struct d) = (fields_read scope d.fields, refl)
  read_in scope (decls.Enum d) = refl
  read_in scope (decls.Union d) = All-map (λ m. MeansIn S m.meaning) (resolved_member o.types scope) d.members
      (λ k m within. means_in scope (get_or d.members k m).table.bytes)

-- what a name finds among values of which something holds
number_found : (P : ℤ → Type 0) (values : List (Name × ℤ)) (name : Name) → All (λ v. P v.1) values
    → IfSome (number_named values name) P
unfolding number_named
number_found P [] name h = tt
number_found P (v ∷ vs) name h = either (λ o. IfSome (option_map (λ w. w.1) o) P) (bytes_eq name v.0) (Some v)
    (find (λ w. bytes_eq name w.0) vs)
    (λ is. All-head (λ w. P w.1) v vs h) (number_found P vs name (All-tail (λ w. P w.1) v vs h))

either_found : (P : ℤ → Type 0) (a b : Option ℤ) → IfSome a P → IfSome b P → IfSome (option_or a b) P
either_found P None b p q = q
either_found P (Some n) b p q = p

-- what holds of values holds of the number that a value's name means
module _ (P : ℤ → Type 0) (values : List (Name × ℤ)) (h : All (λ v. P v.1) values) where
  found_behind : (o : Option Name) → IfSome (option_and_then (number_named values) o) P
  found_behind None = tt
  found_behind (Some name) = number_found P values name h

  value_found : (scope : Option Name) (e : EnumRead) (name : Name) → IfSome (value_named scope e values name) P
  value_found scope e name = either_found P (number_named values name) _ (number_found P values name h)
      (either_found P (option_and_then (number_named values) (behind e.name.bytes name)) _
      (found_behind (behind e.name.bytes name)) (found_behind (behind (full_name scope e.name.bytes) name)))

-- the alignments of the types before one
abbrev pub aligns_before : List TypeRead → ℕ → List ℕ
aligns_before types t = aligns_from types [] (take t (resolved_types types))

-- the type of a number, resolved
pub resolved_at : (types : List TypeRead) (t : ℕ) (r : TypeRead) → slice_get types t ≡ Some r
    → slice_get (resolved_types types) t ≡ Some (resolved_type types r)
resolved_at types t r e = slice_get-map (resolved_type types) types t ∙ ap (option_map (resolved_type types)) e

-- what declares a body: the type of its number, with no fault
pub record IsDeclaredBy (o : Outline) (t : ℕ) (body : DeclaredBody) : Type 0 where
  pub read : TypeRead
  pub at : slice_get o.types t ≡ Some read
  pub has : HasBody (resolved_declaration o.types read.scope read.declaration) body
  pub right : declaration_faults o.types (declared_in o) (aligns_before o.types t)
      (resolved_declaration o.types read.scope read.declaration) ≡ []

-- what an enum's declaration says of its body: its underlying type, and that its values are in range
abbrev IsEnumKept : Option Base → (Name → Option ℤ) → DeclaredBody → Type 0
IsEnumKept under value body = (under ≡ Some (base_in body))
    × ((name : Name) → IfSome (value name) (InRange (base_in body)))

enum_facts : (types : List TypeRead) (declared : Name → Bool) (lower : List ℕ) (scope : Option Name) (d : TypeDecl)
    (b : DeclaredBody) → declaration_faults types declared lower (resolved_declaration types scope d) ≡ []
    → HasBody (resolved_declaration types scope d) b → IsTrue (is_enum b)
    → IsEnumKept (enum_values types scope d).base (value_in types scope d) b
enum_facts types declared lower scope (decls.Enum e) (enum_body base flags values) h has is =
    let kept = enum_kept declared (resolved_enum types scope e) refl h in (
      kept.0 ∙ ap Some (sym has.0),
      value_found (InRange base) (values_read types scope e)
          (rw has.0 kept.1.ranges) scope e,
    )
enum_facts types declared lower scope d (enum_body base flags values) h has is = absurd has
enum_facts types declared lower scope d b h has is = absurd (true≢false (sym is))

-- an enum that is named is kept
abbrev pub AreEnumsKept : List TypeRead → DeclaredSchema → Type 0
AreEnumsKept types S = (e : ℕ) → Names is_enum S e → IsEnumKept (underlying_at types e) (value_at types e) (body_at S e)

module _ (o : Outline) (S : DeclaredSchema) (g : Gives o S)
    (none : faults_in_turn (type_behind o.types (declared_in o)) (resolved_types o.types) ≡ []) where
  pub type_at : (t : ℕ) (type : DeclaredType) → slice_get S.types t ≡ Some type → IsDeclaredBy o t type.body
  type_at t type e = let x = at_right IsType (resolved_type o.types) o.types S.types g.types t type e in record {
    read = x.0;
    at = x.1;
    has = x.2.body;
    right = (type_right o.types (declared_in o) (take t (resolved_types o.types)) (resolved_type o.types x.0)
        (none_behind (type_behind o.types (declared_in o)) [] (resolved_types o.types) none t
        (resolved_type o.types x.0) (resolved_at o.types t x.0 x.1))).1;
  }

  -- a body that passes a test which an absent one fails
  pub body_at_by : (test : DeclaredBody → Bool) (t : ℕ) → test (table_body []) ≡ false → IsTrue (test (body_at S t))
      → IsDeclaredBy o t (body_at S t)
  body_at_by test t fails passes = by (slice_get S.types t) refl passes
    where
      by : (type : Option DeclaredType) → slice_get S.types t ≡ type → IsTrue (test (body_in type))
          → IsDeclaredBy o t (body_in type)
      by None e passes = absurd (true≢false (sym passes ∙ fails))
      by (Some type) e passes = type_at t type e

  pub enums_kept : AreEnumsKept o.types S
  unfolding value_at
  enums_kept e named =
      let x = body_at_by is_enum e refl named.1 in
      rw x.at (enum_facts o.types (declared_in o) (aligns_before o.types e) x.read.scope x.read.declaration
      (body_at S e) x.right x.has named.1)

-- whether an element has the key of one before it
told_again : {X K : Type 0} (eq : K → K → Bool) (key : X → K) (before xs : List X) (i : ℕ) (x : X)
    → slice_get xs i ≡ Some x
    → slice_get (again_behind eq key before xs) i ≡ Some (is_again eq key (before ++ take i xs) x)
told_again eq key before [] i x e = absurd (none-some x e)
told_again eq key before (y ∷ xs) zero x e = ap Some
    (ap (is_again eq key before) (same_Some y x e) ∙ ap (λ b. is_again eq key b x) (sym (append-nil before)))
told_again eq key before (y ∷ xs) (suc i) x e = told_again eq key (before ++ y ∷ []) xs i x e
    ∙ ap (λ b. Some (is_again eq key b x)) (append_assoc before (y ∷ []) (take i xs))

-- the flag at an index says whether an earlier element has the same name
pub told_among : {X : Type 0} (name : X → Name) (repeats : List Bool) (xs : List X) (i : ℕ) (x : X)
    → repeats ≡ repeated_names name xs → i < length xs → x ≡ get_or xs i x
    → (i < length repeats) × (get_or repeats i false ≡ is_again bytes_eq name (take i xs) x)
told_among name repeats xs i x told h e =
    let again = ap (λ bs. slice_get bs i) told ∙ told_again bytes_eq name [] xs i x
    (slice_get_read xs (length xs) i x refl h e) in
    (slice_get_within repeats i _ again, get_or_from_slice_get repeats i _ false again)

-- whether a type has the full name of one before it
pub told_type : (types : List TypeRead) (repeats : List Bool) (rs : List ResolvedType) (i : ℕ) (r : ResolvedType)
    → repeats ≡ repeated_names name_of_type types → rs ≡ resolved_types types → i < length rs → r ≡ get_or rs i r
    → (i < length repeats) × (get_or repeats i false ≡ is_again bytes_eq (λ q. name_of_type q.read) (take i rs) r)
told_type types repeats rs i r told same h e =
    let reads : map (λ q. q.read) rs ≡ types = ap (map (λ q. q.read)) same
    ∙ map-map (λ q. q.read) (resolved_type types) types ∙ map-id types in
    let among = told_among name_of_type repeats (map (λ q. q.read) rs) i r.read
    (told ∙ ap (repeated_names name_of_type) (sym reads)) (omega (arith, length-map rs (λ q. q.read)))
    (ap (λ q. q.read) e ∙ sym (get_or-map (λ q. q.read) rs i r r.read h)) in (
      among.0,
      among.1 ∙ ap (list_any (bytes_eq (name_of_type r.read)))
          (ap (map name_of_type) (take-map (λ q. q.read) i rs) ∙ map-map name_of_type (λ q. q.read) (take i rs)),
    )
