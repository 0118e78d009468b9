-- Vtables once one more is noted behind them.
use Rattle.std.proofs.Common.{◌≡◌, ◌≤◌, ◌+◌, ◌++◌, ◌∙◌, ◌⊎◌, inl, inr, ℕ, suc, List, [], ◌∷◌, Some}
use Rattle.std.proofs.Common.{slice_get, length, take, drop, refl, sym, ap, arith, length-append}
use Rattle.std.proofs.lemmas.List.{take-append-le, drop-append-le, length-drop, length-map, map-append}
use Rattle.std.proofs.Math.Seq.{drop-append_seam}
use Rattle.fb_value.specs.Num.{Bytes, part_of}
use Rattle.fb_tape.specs.KnownVtables.{EachHasOneNumber}
use Rattle.fb_index.specs.declared.hash_key.HashKey.{HashKey}
use Rattle.fb_index.specs.HashKeys.{digest_by}
use Rattle.fb_index.specs.DigestIndexes.{IsAt, KeepsPlaces}
use Rattle.fb_index.proofs.LastEntry.{entry_of}
use Rattle.fb_tape.specs.VtablesHeld.{vtables_in, AreIndexed}
use Rattle.fb_tape.specs.declared.known_vtables.VtableRange.{VtableRange}

-- what is at a range stays there
pub part_kept : (bytes more : Bytes) (first size : ℕ) → first + size ≤ length bytes
    → part_of (bytes ++ more) first size ≡ part_of bytes first size
part_kept bytes more first size within =
    ap (take size) (drop-append-le first bytes more (omega (arith, within)))
    ∙ take-append-le size (drop first bytes) more (omega (arith, within, length-drop first bytes))

all_taken : (xs : Bytes) → take (length xs) xs ≡ xs
all_taken [] = refl
all_taken (x ∷ xs) = ap (λ ys. x ∷ ys) (all_taken xs)

pub part_last : (bytes more : Bytes) → part_of (bytes ++ more) (length bytes) (length more) ≡ more
part_last bytes more = ap (take (length more)) (drop-append_seam bytes more) ∙ all_taken more

pub one_more : (known : List Bytes) (vtable : Bytes) → EachHasOneNumber known
    → ((i : ℕ) → slice_get known i ≡ Some vtable → ⊥) → EachHasOneNumber (known ++ (vtable ∷ []))
one_more known vtable one absent i j v is js = both (entry_of known vtable v i is) (entry_of known vtable v j js)
  where
    no : (k : ℕ) → slice_get known k ≡ Some v → vtable ≡ v → ⊥
    no k there same = absent k (there ∙ ap (λ z. Some z) (sym same))

    both : (slice_get known i ≡ Some v) ⊎ ((i ≡ length known) × (vtable ≡ v))
        → (slice_get known j ≡ Some v) ⊎ ((j ≡ length known) × (vtable ≡ v)) → i ≡ j
    both (inl a) (inl b) = one i j v a b
    both (inl a) (inr b) = absurd (no i a b.1)
    both (inr a) (inl b) = absurd (no j b a.1)
    both (inr a) (inr b) = a.0 ∙ sym b.0

abbrev pub range_after : Bytes → Bytes → VtableRange
range_after bytes vtable = record { first = length bytes; size = length vtable }

vtables_kept : (ranges : List VtableRange) (bytes more : Bytes)
    → ((i : ℕ) (range : VtableRange) → slice_get ranges i ≡ Some range → range.first + range.size ≤ length bytes)
    → vtables_in (bytes ++ more) ranges ≡ vtables_in bytes ranges
vtables_kept [] bytes more within = refl
vtables_kept (r ∷ ranges) bytes more within =
    ap (λ (v : Bytes). v ∷ vtables_in (bytes ++ more) ranges) (part_kept bytes more r.first r.size (within 0 r refl))
    ∙ ap (λ (vs : List Bytes). part_of bytes r.first r.size ∷ vs)
    (vtables_kept ranges bytes more (λ i range is. within (suc i) range is))

-- one vtable more
pub vtables_more : (ranges : List VtableRange) (bytes vtable : Bytes)
    → ((i : ℕ) (range : VtableRange) → slice_get ranges i ≡ Some range → range.first + range.size ≤ length bytes)
    → vtables_in (bytes ++ vtable) (ranges ++ (range_after bytes vtable ∷ [])) ≡ vtables_in bytes ranges ++ (vtable ∷ [])
vtables_more ranges bytes vtable within =
    map-append (λ (r : VtableRange). part_of (bytes ++ vtable) r.first r.size) ranges (range_after bytes vtable ∷ [])
    ∙ (ap (λ (vs : List Bytes). vs ++ (part_of (bytes ++ vtable) (length bytes) (length vtable) ∷ []))
    (vtables_kept ranges bytes vtable within)
    ∙ ap (λ (v : Bytes). vtables_in bytes ranges ++ (v ∷ [])) (part_last bytes vtable))

pub indexed_more : (hash : HashKey) (keys new : List ℕ) (bytes vtable : Bytes) (ranges : List VtableRange)
    → AreIndexed hash keys bytes ranges → ((i : ℕ) → slice_get (vtables_in bytes ranges) i ≡ Some vtable → ⊥)
    → length new ≡ length keys + 1 → KeepsPlaces keys new → IsAt new (digest_by hash vtable) (length keys)
    → AreIndexed hash new (bytes ++ vtable) (ranges ++ (range_after bytes vtable ∷ []))
indexed_more hash keys new bytes vtable ranges held absent count kept last = record {
  each = omega (arith, count, held.each, length-append ranges (range_after bytes vtable ∷ []));
  within = λ i range is. within i range (entry_of ranges (range_after bytes vtable) range i is);
  at = λ i v is. at i v (entry_of known vtable v i (rw known_more at is));
  one = rw known_more (one_more known vtable held.one absent);
}
  where
    known : List Bytes
    known = vtables_in bytes ranges

    known_more : vtables_in (bytes ++ vtable) (ranges ++ (range_after bytes vtable ∷ [])) ≡ known ++ (vtable ∷ [])
    known_more = vtables_more ranges bytes vtable held.within

    longer : length (bytes ++ vtable) ≡ length bytes + length vtable
    longer = length-append bytes vtable

    within : (i : ℕ) (range : VtableRange)
        → (slice_get ranges i ≡ Some range) ⊎ ((i ≡ length ranges) × (range_after bytes vtable ≡ range))
        → range.first + range.size ≤ length (bytes ++ vtable)
    within i range (inl is) = omega (arith, longer, held.within i range is)
    within i range (inr is) = rw (← is.1) (omega (arith, longer))

    at : (i : ℕ) (v : Bytes) → (slice_get known i ≡ Some v) ⊎ ((i ≡ length known) × (vtable ≡ v))
        → IsAt new (digest_by hash v) i
    at i v (inl is) = kept (digest_by hash v) i (held.at i v is)
    at i v (inr is) =
        let place : i ≡ length keys = omega (
          arith,
          is.0,
          held.each,
          length-map ranges (λ (r : VtableRange). part_of bytes r.first r.size),
        ) in
        rw (place, ← is.1) last
