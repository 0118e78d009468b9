-- Keys of items, all different: of those before an item none is equal to its own.
use Rattle.std.proofs.Common.{◌≡◌, ◌≢◌, ℕ, ◌+◌, ◌<◌, Bool, true, false, List, [], ◌∷◌, ◌++◌, length, map, take, get_or}
use Rattle.std.proofs.Common.{AllPairs, Some, None, cond, position, slice_get, nat_lt, refl, ap, sym, ◌∙◌, arith}
use Rattle.std.specs.Bool.{Decides}
use Rattle.std.specs.List.{list_any, position_or_len}
use Rattle.std.proofs.lemmas.List.{take-map, take_more, map-append, get_or-take, get_or-map, length-take-le, length-map}
use Rattle.std.proofs.lemmas.List.Folds.{list_any_none}
use Rattle.std.proofs.lemmas.List.Elements.{All-from_get_or}
use Rattle.std.proofs.lemmas.List.Sums.{position_or_len_is}
use Rattle.std.proofs.lemmas.Option.{slice_get_within, get_or_from_slice_get}
use Rattle.std.proofs.lemmas.Bool.Decides.{nat_tests}

module _ {K : Type 0} (eq : K → K → Bool) (same : (a b : K) → Decides (eq a b) (a ≡ b)) where
  differ : (a b : K) → b ≢ a → eq a b ≡ false
  differ a b ne = by (eq a b) refl
    where
      by : (t : Bool) → eq a b ≡ t → t ≡ false
      by true e = absurd (ne (sym ((same a b).0 e)))
      by false e = refl

  none_before : (keys : List K) (i : ℕ) (d : K) → AllPairs (λ a b. a ≢ b) keys → i < length keys
      → list_any (eq (get_or keys i d)) (take i keys) ≡ false
  none_before keys i d pairs within =
      list_any_none (eq (get_or keys i d)) (take i keys)
      (All-from_get_or (λ k. eq (get_or keys i d) k ≡ false) (take i keys) d
      (λ j before.
      let below : j < i = omega (arith, length-take-le i keys (omega arith)) in
      differ (get_or keys i d) (get_or (take i keys) j d)
      (rw (get_or-take i keys j d below) (pairs j i d below within))))

  module _ {X : Type 0} (key : X → K) where
    pub fresh : (items : List X) (i : ℕ) (d : X) → AllPairs (λ a b. a ≢ b) (map key items) → i < length items
        → list_any (eq (key (get_or items i d))) (map key (take i items)) ≡ false
    fresh items i d pairs within =
        let inside : i < length (map key items) = omega (arith, length-map items key) in
        let at : get_or (map key items) i (key d) ≡ key (get_or items i d) = get_or-map key items i d (key d) within in
        rw (← at) (rw (← (take-map key i items)) (none_before (map key items) i (key d) pairs inside))

-- the keys of one item more
pub keys_more : {X K : Type 0} (key : X → K) (items : List X) (i : ℕ) (d : X) → i < length items
    → map key (take (i + 1) items) ≡ map key (take i items) ++ key (get_or items i d) ∷ []
keys_more key items i d within = ap (map key) (take_more items i d within)
    ∙ map-append key (take i items) (get_or items i d ∷ [])

module _ {K : Type 0} (eq : K → K → Bool) (same : (a b : K) → Decides (eq a b) (a ≡ b)) where
  -- a key is found where it stands
  pub found_at : (keys : List K) (i : ℕ) (k : K) → AllPairs (λ a b. a ≢ b) keys → slice_get keys i ≡ Some k
      → position (eq k) keys ≡ Some i
  found_at keys i k pairs there =
      let within : i < length keys = slice_get_within keys i k there in
      let at : get_or keys i k ≡ k = get_or_from_slice_get keys i k k there in
      let before : (j : ℕ) → j < i → eq k (get_or keys j k) ≡ false =
      λ j less. differ eq same k (get_or keys j k) (rw at at (pairs j i k less within))
      in
      let first : position_or_len (eq k) keys ≡ i =
      position_or_len_is (eq k) keys i k (omega (arith, within)) before (λ _. rw at ((same k k).1 refl)) in
      let inside : nat_lt (position_or_len (eq k) keys) (length keys) ≡ true = grind (arith, nat_tests) in
      ap (λ (b : Bool). cond b (Some (position_or_len (eq k) keys)) None) inside ∙ ap Some first
