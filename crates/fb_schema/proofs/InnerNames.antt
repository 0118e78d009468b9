-- The names in a type, by the vector that its body has.
use Rattle.std.proofs.Common.{◌≡◌, ℕ, Bool, Option, List, Vec, String, Global, ℤ, map, string_bytes, ap, sym, ◌∙◌}
use Rattle.std.proofs.lemmas.Simd.{map-map}
use Rattle.fb_schema.specs.declared.kinds.Base.{Base}
use Rattle.fb_schema.specs.declared.kinds.TypeId.{TypeId}
use Rattle.fb_schema.specs.declared.types.Body.{Body}
use Rattle.fb_schema.specs.declared.types.Body.TheVariants.{Table, Struct, Enum, Union}
use Rattle.fb_schema.specs.declared.types.FieldInfo.{FieldInfo}
use Rattle.fb_schema.specs.Seen.{field_seen, body_seen}
use Rattle.fb_schema.specs.Indexed.{inner_names}

-- the names are those of the items of a slice over the variant's vector
module _ (body : Body) where
  module _ (fields : Vec FieldInfo Global) (xs : List FieldInfo) (lent : xs ≡ fields.items) where
    field_names : map (λ f. f.name) (map field_seen fields.items) ≡ map (λ f. string_bytes f.name) xs
    field_names = map-map (λ f. f.name) field_seen fields.items ∙ ap (map (λ f. string_bytes f.name)) (sym lent)

    pub table_names : body ≡ Table fields → inner_names (body_seen body) ≡ map (λ f. string_bytes f.name) xs
    table_names is = ap (λ (b : Body). inner_names (body_seen b)) is ∙ field_names

    pub struct_names : {align : Option ℕ} → body ≡ Struct fields align
        → inner_names (body_seen body) ≡ map (λ f. string_bytes f.name) xs
    struct_names is = ap (λ (b : Body). inner_names (body_seen b)) is ∙ field_names

  pub enum_names : {base : Base} {flags : Bool} (values : Vec (String Global × ℤ) Global)
      (xs : List (String Global × ℤ)) → xs ≡ values.items → body ≡ Enum base flags values
      → inner_names (body_seen body) ≡ map (λ v. string_bytes v.0) xs
  enum_names values xs lent is = ap (λ (b : Body). inner_names (body_seen b)) is
      ∙ (map-map (λ v. v.0) (λ (x : String Global × ℤ). (string_bytes x.0, x.1)) values.items
      ∙ ap (map (λ v. string_bytes v.0)) (sym lent))

  pub union_names : (members : Vec (String Global × TypeId) Global) (xs : List (String Global × TypeId))
      → xs ≡ members.items → body ≡ Union members
      → inner_names (body_seen body) ≡ map (λ v. string_bytes v.0) xs
  union_names members xs lent is = ap (λ (b : Body). inner_names (body_seen b)) is
      ∙ (map-map (λ v. v.0) (λ (x : String Global × TypeId). (string_bytes x.0, x.1.0)) members.items
      ∙ ap (map (λ v. string_bytes v.0)) (sym lent))
