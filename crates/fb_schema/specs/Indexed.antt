-- What a schema's indexes find.
use Rattle.std.specs.Prelude.{ℕ, ◌≡◌, ◌+◌, ◌≤◌, ◌≢◌, List, length, take, drop, get_or, slice_get, Some, AllPairs, map}
use Rattle.std.specs.Prelude.{ℤ, pos}
use Rattle.std.specs.Ordering.{int_cmp}
use Rattle.std.specs.declared.cmp.Ordering.{Ordering}
use Rattle.std.specs.List.{range_with_len}
use Rattle.std.specs.List.Sorted.{IsPermutation, IsSortedByKey}
use Rattle.fb_index.specs.declared.hash_key.HashKey.{HashKey}
use Rattle.fb_index.specs.HashKeys.{digest_by, key_inside}
use Rattle.fb_index.specs.DigestIndexes.{IsAt}
use Rattle.fb_schema.specs.declared.name_index.ScopeNames.{ScopeNames}
use Rattle.fb_schema.specs.declared.name_index.NameIndex.{NameIndex}
use Rattle.fb_schema.specs.declared.number_index.NumberIndex.{NumberIndex}
use Rattle.fb_schema.specs.Schema.{Name, DeclaredBody, DeclaredType, table_body, struct_body, enum_body, union_body}
use Rattle.fb_schema.specs.Schema.{values_in}

-- the names that stand in a type: of its fields, values or members
abbrev pub inner_names : DeclaredBody → List Name
inner_names (table_body fs) = map (λ f. f.name) fs
inner_names (struct_body fs align) = map (λ f. f.name) fs
inner_names (enum_body base flags values) = map (λ v. v.0) values
inner_names (union_body members) = map (λ m. m.0) members

-- the numbers of an enum's values
abbrev pub inner_numbers : DeclaredBody → List ℤ
inner_numbers body = map (λ v. v.1) (values_in body)

-- No two names in a type are the same, and no two numbers.
pub record HasNoRepeats (body : DeclaredBody) : Type 0 where
  pub names : AllPairs (λ a b. a ≢ b) (inner_names body)
  pub numbers : AllPairs (λ a b. a ≢ b) (inner_numbers body)

-- The places of all keys, in ascending order of the keys; where there is no key, this one counts.
pub record IsInOrder {K : Type 0} (cmp : K → K → Ordering) (none : K) (keys : List K) (places : List ℕ) : Type 0 where
  pub all : IsPermutation (range_with_len 0 (length keys)) places
  pub ascending : IsSortedByKey (λ p. get_or keys p none) cmp places

-- Names are in an index, one after another from a place on.
abbrev pub AreAt : List ℕ → HashKey → ℕ → List Name → Type 0
AreAt keys key first names = (i : ℕ) (name : Name) → slice_get names i ≡ Some name
    → IsAt keys (digest_by key name) (first + i)

-- the names of one scope
abbrev pub IndexesNames : ScopeNames → List Name → Type 0
IndexesNames names listed = AreAt names.digests.now.keys names.key names.first listed

-- Of each type the names inside it are in an index, from a place on that is noted for it.
pub record IndexesInner (keys : List ℕ) (key : HashKey) (firsts : List ℕ) (types : List DeclaredType) : Type 0 where
  pub each : length firsts ≡ length types
  pub inner : (t first : ℕ) (type : DeclaredType) → slice_get firsts t ≡ Some first → slice_get types t ≡ Some type
      → AreAt keys (key_inside key t) first (inner_names type.body)

-- An index has all names of some types.
pub record IndexesTypes (index : NameIndex) (types : List DeclaredType) : Type 0 where
  pub full : AreAt index.digests.keys index.key 0 (map (λ t. t.name) types)
  pub inner : IndexesInner index.digests.keys index.key index.firsts.items types

-- The places of an enum's values are in an index, in ascending order of their numbers.
pub record AreOrdered (places firsts : List ℕ) (t : ℕ) (numbers : List ℤ) : Type 0 where
  pub first : ℕ
  pub at : slice_get firsts t ≡ Some first
  pub within : first + length numbers ≤ length places
  pub ordered : IsInOrder int_cmp (pos 0) numbers (take (length numbers) (drop first places))

abbrev pub HasNumbers : NumberIndex → ℕ → List ℤ → Type 0
HasNumbers index t numbers = AreOrdered index.places.items index.firsts.items t numbers

-- an index of the numbers of all enums
abbrev pub IndexesNumbers : NumberIndex → List DeclaredType → Type 0
IndexesNumbers index types = (t : ℕ) (type : DeclaredType) → slice_get types t ≡ Some type
    → HasNumbers index t (inner_numbers type.body)
