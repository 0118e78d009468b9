-- Names in an index, one more after another.
use Rattle.std.proofs.Common.{◌≡◌, ◌⊎◌, inl, inr, ℕ, ◌+◌, ◌<◌, List, [], ◌∷◌, ◌++◌, length, map, take, get_or}
use Rattle.std.proofs.Common.{slice_get, Some, ap, sym, ◌∙◌, arith, length-append}
use Rattle.std.proofs.lemmas.List.{length-map, length-take-le}
use Rattle.std.proofs.lemmas.Option.{slice_get_within}
use Rattle.fb_index.specs.declared.hash_key.HashKey.{HashKey}
use Rattle.fb_index.specs.HashKeys.{digest_by, key_inside}
use Rattle.fb_index.specs.DigestIndexes.{IsAt, KeepsPlaces}
use Rattle.fb_index.proofs.LastEntry.{entry_of}
use Rattle.fb_schema.specs.declared.types.TypeInfo.{TypeInfo}
use Rattle.fb_schema.specs.Schema.{Name, DeclaredType}
use Rattle.fb_schema.specs.Seen.{type_seen}
use Rattle.fb_schema.specs.Indexed.{inner_names, AreAt, IndexesInner}
use Rattle.fb_schema.proofs.Distinct.{keys_more}

pub none_at : (keys : List ℕ) (key : HashKey) (first : ℕ) → AreAt keys key first []
none_at keys key first i name at = cc

pub still_at : (old new : List ℕ) (key : HashKey) (first : ℕ) (names : List Name) → KeepsPlaces old new
    → AreAt old key first names → AreAt new key first names
still_at old new key first names kept at i name there = kept (digest_by key name) (first + i) (at i name there)

-- one name more, at the next place
name_more : (old new : List ℕ) (key : HashKey) (first : ℕ) (names : List Name) (name : Name) → KeepsPlaces old new
    → AreAt old key first names → IsAt new (digest_by key name) (first + length names)
    → AreAt new key first (names ++ name ∷ [])
name_more old new key first names name kept at last i other there = by (entry_of names name other i there)
  where
    by : (slice_get names i ≡ Some other) ⊎ ((i ≡ length names) × (name ≡ other))
        → IsAt new (digest_by key other) (first + i)
    by (inl before) = kept (digest_by key other) (first + i) (at i other before)
    by (inr is) = rw (is.0, ← is.1) last

-- the names of one item more
pub item_more : {T : Type 0} (name_of : T → Name) (items : List T) (i : ℕ) (item : T) (old new : List ℕ) (key : HashKey)
    (first place : ℕ) (name : Name) → i < length items → item ≡ get_or items i item → name ≡ name_of item
    → place ≡ first + i → KeepsPlaces old new → AreAt old key first (map name_of (take i items))
    → IsAt new (digest_by key name) place → AreAt new key first (map name_of (take (i + 1) items))
item_more name_of items i item old new key first place name within there is next kept at last =
    let count : length (map name_of (take i items)) ≡ i =
    length-map (take i items) name_of ∙ length-take-le i items (omega (arith, within)) in
    let more : map name_of (take (i + 1) items) ≡ map name_of (take i items) ++ name ∷ [] =
    keys_more name_of items i item within
    ∙ ap (λ (n : Name). map name_of (take i items) ++ n ∷ []) (ap name_of (sym there) ∙ sym is) in
    rw more (name_more old new key first (map name_of (take i items)) name kept at (rw (count, ← next) last))

-- the names inside one type more
pub type_more : (types : List TypeInfo) (i : ℕ) (info : TypeInfo) (old new : List ℕ) (key : HashKey)
    (before firsts : List ℕ) (first : ℕ) → i < length types → info ≡ get_or types i info
    → firsts ≡ before ++ first ∷ [] → KeepsPlaces old new
    → IndexesInner old key before (map type_seen (take i types))
    → AreAt new (key_inside key i) first (inner_names (type_seen info).body)
    → IndexesInner new key firsts (map type_seen (take (i + 1) types))
type_more types i info old new key before firsts first within there pushed kept so_far at = rw (more, pushed) (record {
  each = omega (arith, so_far.each, length-append before (first ∷ []), length-append seen (type_seen info ∷ []));
  inner = λ t f type first_at type_at. by t f type (entry_of before first f t first_at)
      (entry_of seen (type_seen info) type t type_at);
})
  where
    seen : List DeclaredType
    seen = map type_seen (take i types)

    count : length seen ≡ i
    count = length-map (take i types) type_seen ∙ length-take-le i types (omega (arith, within))

    more : map type_seen (take (i + 1) types) ≡ seen ++ type_seen info ∷ []
    more = keys_more type_seen types i info within
        ∙ ap (λ (t : TypeInfo). seen ++ type_seen t ∷ []) (sym there)

    by : (t f : ℕ) (type : DeclaredType) → (slice_get before t ≡ Some f) ⊎ ((t ≡ length before) × (first ≡ f))
        → (slice_get seen t ≡ Some type) ⊎ ((t ≡ length seen) × (type_seen info ≡ type))
        → AreAt new (key_inside key t) f (inner_names type.body)
    by t f type (inl a) (inl b) =
        still_at old new (key_inside key t) f (inner_names type.body) kept (so_far.inner t f type a b)
    by t f type (inl a) (inr b) = absurd (omega (arith, slice_get_within before t f a, b.0, so_far.each))
    by t f type (inr a) (inl b) = absurd (omega (arith, slice_get_within seen t type b, a.0, so_far.each))
    by t f type (inr a) (inr b) = rw (b.0 ∙ count, ← a.1, ← b.1) at
