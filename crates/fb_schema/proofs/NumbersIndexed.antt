-- The places of one enum's values more.
use Rattle.std.proofs.Common.{◌≡◌, ◌⊎◌, inl, inr, ℕ, ◌+◌, ◌<◌, ℤ, List, [], ◌∷◌, ◌++◌, length, map, take, drop, get_or}
use Rattle.std.proofs.Common.{slice_get, Some, pos, int_cmp, ap, sym, ◌∙◌, arith, length-append, length-drop}
use Rattle.std.proofs.lemmas.List.{length-map, length-take-le, take-append-le, drop-append-le, take_all}
use Rattle.std.proofs.lemmas.List.FromFn.{length-range_with_len}
use Rattle.std.proofs.lemmas.List.Sorted.{length_permutation}
use Rattle.std.proofs.Math.Seq.{drop-append_seam}
use Rattle.std.specs.List.{range_with_len}
use Rattle.fb_index.proofs.LastEntry.{entry_of, entry_kept, entry_last}
use Rattle.fb_schema.specs.declared.types.TypeInfo.{TypeInfo}
use Rattle.fb_schema.specs.Schema.{DeclaredType}
use Rattle.fb_schema.specs.Seen.{type_seen}
use Rattle.fb_schema.specs.Indexed.{inner_numbers, AreOrdered, IsInOrder}
use Rattle.fb_schema.proofs.Distinct.{keys_more}

-- there are as many places as numbers
pub places_count : (numbers : List ℤ) (places : List ℕ) → IsInOrder int_cmp (pos 0) numbers places
    → length places ≡ length numbers
places_count numbers places ordered =
    length_permutation (range_with_len 0 (length numbers)) places ordered.all
    ∙ length-range_with_len 0 (length numbers)

still_ordered : (places more firsts : List ℕ) (first t : ℕ) (numbers : List ℤ) → AreOrdered places firsts t numbers
    → AreOrdered (places ++ more) (firsts ++ first ∷ []) t numbers
still_ordered places more firsts first t numbers was =
    let n = length numbers in
    let same : take n (drop was.first (places ++ more)) ≡ take n (drop was.first places) =
    ap (take n) (drop-append-le was.first places more (omega (arith, was.within)))
    ∙ take-append-le n (drop was.first places) more
    (omega (arith, was.within, length-drop was.first places)) in
    record {
      first = was.first;
      at = entry_kept firsts first was.first t was.at;
      within = omega (arith, was.within, length-append places more);
      ordered = rw same was.ordered;
    }

now_ordered : (places more firsts : List ℕ) (numbers : List ℤ) → IsInOrder int_cmp (pos 0) numbers more
    → AreOrdered (places ++ more) (firsts ++ length places ∷ []) (length firsts) numbers
now_ordered places more firsts numbers ordered =
    let count = places_count numbers more ordered in
    let same : take (length numbers) (drop (length places) (places ++ more)) ≡ more =
    ap (take (length numbers)) (drop-append_seam places more)
    ∙ take_all (length numbers) more (omega (arith, count)) in
    record {
      first = length places;
      at = entry_last firsts (length places);
      within = omega (arith, count, length-append places more);
      ordered = rw same ordered;
    }

-- the numbers of each type so far
abbrev pub EachOrdered : List ℕ → List ℕ → List DeclaredType → Type 0
EachOrdered places firsts types = (t : ℕ) (type : DeclaredType) → slice_get types t ≡ Some type
    → AreOrdered places firsts t (inner_numbers type.body)

pub type_more : (types : List TypeInfo) (i : ℕ) (info : TypeInfo) (places more firsts : List ℕ) → i < length types
    → info ≡ get_or types i info → length firsts ≡ i → EachOrdered places firsts (map type_seen (take i types))
    → IsInOrder int_cmp (pos 0) (inner_numbers (type_seen info).body) more
    → EachOrdered (places ++ more) (firsts ++ length places ∷ []) (map type_seen (take (i + 1) types))
type_more types i info places more firsts within there count so_far ordered t type at =
    by (entry_of seen (type_seen info) type t (rw types_more at at))
  where
    seen : List DeclaredType
    seen = map type_seen (take i types)

    types_more : map type_seen (take (i + 1) types) ≡ seen ++ type_seen info ∷ []
    types_more = keys_more type_seen types i info within
        ∙ ap (λ (t : TypeInfo). seen ++ type_seen t ∷ []) (sym there)

    number : length seen ≡ length firsts
    number = length-map (take i types) type_seen ∙ (length-take-le i types (omega (arith, within)) ∙ sym count)

    by : (slice_get seen t ≡ Some type) ⊎ ((t ≡ length seen) × (type_seen info ≡ type))
        → AreOrdered (places ++ more) (firsts ++ length places ∷ []) t (inner_numbers type.body)
    by (inl before) = still_ordered places more firsts (length places) t (inner_numbers type.body)
        (so_far t type before)
    by (inr is) = rw (is.0 ∙ number, ← is.1) (now_ordered places more firsts (inner_numbers (type_seen info).body)
        ordered)
