-- Slots that stand at the places of their numbers.
use Rattle.std.proofs.Common.{◌≡◌, ℕ, zero, suc, ◌<◌, ◌+◌, true, false, List, [], ◌∷◌, ◌++◌, length, ap, arith, map}
use Rattle.std.proofs.Common.{Option, None, Some, slice_get}
use Rattle.std.proofs.lemmas.List.{length-map, get_or-map}
use Rattle.std.proofs.lemmas.List.Sorted.{IsPermutation-refl, IsPermutation-map}
use Rattle.std.proofs.lemmas.Option.{none-some, slice_get_within, get_or_from_slice_get}
use Rattle.std.specs.List.Sorted.{IsPermutation, IsNonDecreasingBy}
use Rattle.fb_schema.specs.Schema.{DeclaredField}
use Rattle.fb_schema.specs.Seen.{field_seen}
use Rattle.fb_schema.specs.declared.types.FieldInfo.{FieldInfo}
use Rattle.fb_schema.specs.declared.kinds.TypeId.{TypeId}
use Rattle.fb_resolve.specs.ResolvedFields.{ResolvedField}
use Rattle.fb_resolve.specs.SlotsRead.{union_in, value_slot, code_slot, slots_by_union, slots_of_field, slots_in_order}
use Rattle.fb_resolve.specs.Ids.{slots_by_id, numbers_by_id, have_ids, slots_read, AreInPlace, are_places}
use Rattle.fb_resolve.specs.Ids.{are_ids_wrong}
use Rattle.fb_resolve.proofs.PlacesTaken.{places_at}

rises-map : {X Y : Type 0} (number : Y → ℕ) (g : X → Y) (xs : List X) → IsNonDecreasingBy (λ x. number (g x)) xs
    → IsNonDecreasingBy number (map g xs)
rises-map number g [] up i j d h l = absurd (omega arith)
rises-map number g (x ∷ xs) up i j d h l =
    grind (arith, get_or-map g (x ∷ xs) i x d, get_or-map g (x ∷ xs) j x d, length-map (x ∷ xs) g, up i j x h)

-- slots in the order of their numbers, which are places
in_place : (read placed : List DeclaredField) → are_places (map (λ s. s.slot) read) ≡ true → IsPermutation read placed
    → IsNonDecreasingBy (λ s. s.slot) placed
    → AreInPlace read placed
in_place read placed right same up = record {
  same = same;
  slots = λ k s e.
      let h : k < length placed = slice_get_within placed k s e in
      let at = places_at (map (λ x. x.slot) read) (map (λ x. x.slot) placed) right
      (IsPermutation-map (λ x. x.slot) read placed same)
      (rises-map (λ n. n) (λ x. x.slot) placed up) k (rw (length-map placed (λ x. x.slot)) h) in
      grind (arith, get_or_from_slice_get placed k s s e, get_or-map (λ x. x.slot) placed k s 0 h, at);
}

-- slots by their ids, sorted by their numbers
pub placed_by_id : (fs : List ResolvedField) (before slots : List FieldInfo)
    → have_ids fs ≡ true → are_ids_wrong fs ≡ false → map field_seen before ≡ slots_by_id fs
    → IsPermutation before slots → IsNonDecreasingBy (λ f. f.slot) slots
    → AreInPlace (slots_read fs) (map field_seen slots)
unfolding are_ids_wrong
placed_by_id fs before slots ids right read same up =
    let places : are_places (numbers_by_id fs) ≡ true = grind (arith, ids, right) in
    let moved : IsPermutation (slots_by_id fs) (map field_seen slots) =
    rw (← read) (IsPermutation-map field_seen before slots same) in
    rw ids (in_place (slots_by_id fs) (map field_seen slots) places moved (rises-map (λ s. s.slot) field_seen slots up))

-- each slot without ids has the number behind that of the one before
numbered_in_order : (fs : List ResolvedField) (slot k : ℕ) (s : DeclaredField)
    → slice_get (slots_in_order slot fs) k ≡ Some s → s.slot ≡ slot + k
unfolding slots_in_order slots_of_field
numbered_in_order [] slot k s e = absurd (none-some s e)
numbered_in_order (f ∷ fs) slot k s e = by (λ next k e. numbered_in_order fs next k s e) (union_in f) k e
  where
    by : ((next k : ℕ) → slice_get (slots_in_order next fs) k ≡ Some s → s.slot ≡ next + k)
        → (u : Option TypeId) (k : ℕ)
        → slice_get (slots_by_union f u slot ++ slots_in_order (slot + length (slots_by_union f u slot)) fs) k ≡ Some s
        → s.slot ≡ slot + k
    by later None zero e = let same : value_slot f slot ≡ s = cc in omega (arith, ap (λ x. x.slot) same)
    by later None (suc k) e = omega (arith, later (slot + 1) k e)
    by later (Some u) zero e = let same : code_slot f u slot ≡ s = cc in omega (arith, ap (λ x. x.slot) same)
    by later (Some u) (suc zero) e = let same : value_slot f (slot + 1) ≡ s = cc in omega (arith, ap (λ x. x.slot) same)
    by later (Some u) (suc (suc k)) e = omega (arith, later (slot + 2) k e)

-- slots without ids
pub placed_in_order : (fs : List ResolvedField) (slots : List FieldInfo)
    → have_ids fs ≡ false → map field_seen slots ≡ slots_in_order 0 fs
    → AreInPlace (slots_read fs) (map field_seen slots)
placed_in_order fs slots ids read = rw (ids, read) (record {
  same = IsPermutation-refl (slots_in_order 0 fs);
  slots = λ k s e. omega (arith, numbered_in_order fs 0 k s e);
})
