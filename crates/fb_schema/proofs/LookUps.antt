-- What a look-up through an index finds is what is there.
use Rattle.std.proofs.Common.{◌≡◌, ◌≢◌, ◌≤◌, ℕ, suc, lit≤, length, Bool, false, List, [], map, AllPairs}
use Rattle.std.proofs.Common.{find, position, slice_get, Option, None, Some, bytes_eq, codes, if◌then◌else◌, ap, sym}
use Rattle.std.proofs.Common.{◌∙◌}
use Rattle.std.specs.Option.{option_map, option_and_then}
use Rattle.std.proofs.lemmas.Option.{slice_get-map}
use Rattle.std.proofs.lemmas.Simd.{map-map}
use Rattle.fb_schema.specs.declared.types.TypeInfo.{TypeInfo}
use Rattle.fb_schema.specs.Schema.{Name, DeclaredBody, table_body, struct_body, enum_body, union_body}
use Rattle.fb_schema.specs.Schema.{DeclaredSchema, body_in, values_in, members_in}
use Rattle.fb_schema.specs.Seen.{body_seen, type_seen, schema_of}
use Rattle.fb_schema.specs.WellDeclared.{IsBody, IsDeclared}
use Rattle.fb_schema.specs.declared.kinds.TypeId.{TypeId}
use Rattle.fb_schema.specs.declared.name_index.ScopeNames.{ScopeNames}
use Rattle.fb_schema.specs.Indexed.{inner_names, HasNoRepeats, IndexesNames}
use Rattle.fb_schema.specs.Bodies.{as_union}
use Rattle.fb_schema.specs.Found.{fields_in, code_named}
use Rattle.fb_schema.proofs.DeclaredNames.{no_repeats, none_twice}
use Rattle.fb_schema.proofs.NamesIndexed.{none_at}
use Rattle.fb_schema.proofs.Positions.{position-map, find-position}

-- the place of a key is that of the first item with the key
find-keys : {X K : Type 0} (key : X → K) (p : K → Bool) (xs : List X)
    → option_and_then (slice_get xs) (position p (map key xs)) ≡ find (λ x. p (key x)) xs
find-keys key p xs = ap (option_and_then (slice_get xs)) (position-map key p xs) ∙ find-position (λ x. p (key x)) xs

-- what is at the place of a key among items is the first item with that key, as items are seen
module _ {X Y K : Type 0} (seen : X → Y) (key : Y → K) (p : K → Bool) (items : List X) (declared : List Y)
    (same : map seen items ≡ declared) where
  pub keys_seen : map (λ x. key (seen x)) items ≡ map key declared
  keys_seen = sym (map-map key seen items) ∙ ap (map key) same

  pub found_through : (at : Option ℕ) → at ≡ position p (map (λ x. key (seen x)) items)
      → option_and_then (slice_get declared) at ≡ find (λ y. p (key y)) declared
  found_through at place = ap (option_and_then (slice_get declared)) (place ∙ ap (position p) keys_seen)
      ∙ find-keys key p declared

-- the index of a type's names is that of its fields' names, where it has fields
pub fields_indexed : (body : DeclaredBody) (names : ScopeNames) → IndexesNames names (inner_names body)
    → IndexesNames names (map (λ f. f.name) (fields_in body))
fields_indexed (table_body fs) names h = h
fields_indexed (struct_body fs align) names h = h
fields_indexed (enum_body base flags values) names h = none_at _ _ _
fields_indexed (union_body members) names h = none_at _ _ _

pub fields_differ : (body : DeclaredBody) → HasNoRepeats body
    → AllPairs (λ a b. a ≢ b) (map (λ f. f.name) (fields_in body))
fields_differ (table_body fs) h = h.names
fields_differ (struct_body fs align) h = h.names
fields_differ (enum_body base flags values) h = none_twice
fields_differ (union_body members) h = none_twice

-- and that of its values' names, where it has values
pub values_indexed : (body : DeclaredBody) (names : ScopeNames) → IndexesNames names (inner_names body)
    → IndexesNames names (map (λ v. v.0) (values_in body))
values_indexed (table_body fs) names h = none_at _ _ _
values_indexed (struct_body fs align) names h = none_at _ _ _
values_indexed (enum_body base flags values) names h = h
values_indexed (union_body members) names h = none_at _ _ _

pub values_differ : (body : DeclaredBody) → HasNoRepeats body
    → AllPairs (λ a b. a ≢ b) (map (λ v. v.0) (values_in body))
values_differ (table_body fs) h = none_twice
values_differ (struct_body fs align) h = none_twice
values_differ (enum_body base flags values) h = h.names
values_differ (union_body members) h = none_twice

-- a body with members is that of a union
pub union_of : (body : DeclaredBody) (members : List (Name × ℕ)) → Some members ≡ as_union body
    → body ≡ union_body members
union_of (table_body fs) members e = absurd cc
union_of (struct_body fs align) members e = absurd cc
union_of (enum_body base flags values) members e = absurd cc
union_of (union_body ms) members e = cc

-- a member's code by the place of its name in its union
pub code_through : (body : DeclaredBody) (members : List (Name × ℕ)) (name : Name) (at : Option ℕ)
    → body ≡ union_body members
    → at ≡ position (bytes_eq name) (map (λ m. m.0) members) → bytes_eq name (codes "NONE") ≡ false
    → option_map (λ k. suc k) at ≡ code_named body name
code_through body members name at is place other =
    let placed : at ≡ position (λ m. bytes_eq name m.0) members = place
    ∙ position-map (λ m. m.0) (bytes_eq name) members in
    ap (option_map (λ k. suc k)) placed
    ∙ (ap (λ (b : Bool). if b then Some 0 else option_map (λ k. suc k) (position (λ m. bytes_eq name m.0) members))
    (sym other) ∙ ap (λ (b : DeclaredBody). code_named b name) (sym is))

-- where there is no type, there is what stands for none
module _ (types : List TypeInfo) (at : ℕ) (none : None ≡ slice_get types at) where
  pub none_seen : slice_get (map type_seen types) at ≡ None
  none_seen = slice_get-map type_seen types at ∙ ap (option_map type_seen) (sym none)

  pub no_body : body_in (slice_get (map type_seen types) at) ≡ table_body []
  no_body = ap body_in none_seen

module _ (types : List TypeInfo) (at : ℕ) (info : TypeInfo) (there : Some info ≡ slice_get types at) where
  pub seen_there : slice_get (map type_seen types) at ≡ Some (type_seen info)
  seen_there = slice_get-map type_seen types at ∙ ap (option_map type_seen) (sym there)

  -- the body of the type there
  pub body_there : body_in (slice_get (map type_seen types) at) ≡ body_seen info.body
  body_there = ap body_in seen_there

  members_few : (S : DeclaredSchema) (t : ℕ) (body : DeclaredBody) → IsBody S t body → length (members_in body) ≤ 255
  members_few S t (table_body fs) is = lit≤ tt
  members_few S t (struct_body fs align) is = lit≤ tt
  members_few S t (enum_body base flags values) is = lit≤ tt
  members_few S t (union_body members) is = is.few

  -- a declared union has few members
  pub few_members : (root : TypeId) (identifier : Option (List ℕ)) → IsDeclared (schema_of types root identifier)
      → length (members_in (body_seen info.body)) ≤ 255
  few_members root identifier declared =
      members_few (schema_of types root identifier) at (body_seen info.body)
      (declared.bodies at (type_seen info) seen_there)

  -- no name and no number is there twice
  pub no_repeats_there : (root : TypeId) (identifier : Option (List ℕ)) → IsDeclared (schema_of types root identifier)
      → HasNoRepeats (body_seen info.body)
  no_repeats_there root identifier declared = no_repeats (schema_of types root identifier) at (body_seen info.body)
      (declared.bodies at (type_seen info) seen_there)
