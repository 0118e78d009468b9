-- Keys are found by halves among their places in ascending order.
use Rattle.std.proofs.Common.{◌≡◌, ◌≢◌, ℕ, ◌+◌, ◌<◌, Bool, true, false, List, length, get_or, position, Option, None}
use Rattle.std.proofs.Common.{Some, is_some, AllPairs, Contains, refl, ap, sym, ◌∙◌, ◌⊎◌, inl, inr, arith, Ok}
use Rattle.std.proofs.Common.{Err, nat_lt}
use Rattle.std.specs.declared.cmp.Ordering.{Ordering}
use Rattle.std.specs.declared.cmp.Ordering.TheVariants.{Less, Equal, Greater}
use Rattle.std.specs.Bool.{Decides}
use Rattle.std.specs.Cmp.{IsTotalOrder}
use Rattle.std.specs.Ordering.{ordering_reverse}
use Rattle.std.specs.List.{range_with_len}
use Rattle.std.specs.List.Sorted.{IsPartitionPoint, IsBinarySearchResult}
use Rattle.std.proofs.lemmas.Bool.Decides.{nat_tests}
use Rattle.std.proofs.lemmas.List.Elements.{Contains-get_or, All-from_get_or}
use Rattle.std.proofs.lemmas.List.Folds.{list_any_none}
use Rattle.std.proofs.lemmas.List.FromFn.{length-range_with_len, get_or-range_with_len}
use Rattle.std.proofs.lemmas.List.Sorted.{Contains-permutation, IsPermutation-sym, searchable_from_sorted}
use Rattle.std.proofs.lemmas.Option.{slice_get-get_or}
use Rattle.fb_schema.specs.Indexed.{IsInOrder}
use Rattle.fb_schema.proofs.Distinct.{found_at}
use Rattle.fb_schema.proofs.Positions.{is_some-position}

from_zero : (n : ℕ) → 0 + n ≡ n
from_zero n = omega arith

none_of : {X : Type 0} (o : Option X) → is_some o ≡ false → o ≡ None
none_of None e = refl
none_of (Some x) e = absurd cc

module _ {K : Type 0} {cmp : K → K → Ordering} (order : IsTotalOrder cmp) (exact : (a b : K) → cmp a b ≡ Equal → a ≡ b)
    (eq : K → K → Bool) (same : (a b : K) → Decides (eq a b) (a ≡ b)) (none : K) (keys : List K) (places : List ℕ)
    (ordered : IsInOrder cmp none keys places) (key : K) where
  equal : (a : K) → cmp a a ≡ Equal
  equal a = by (cmp a a) (order.antisymm a a)
    where
      by : (o : Ordering) → o ≡ ordering_reverse o → o ≡ Equal
      by Less e = absurd cc
      by Equal e = refl
      by Greater e = absurd cc

  abbrev all_places : List ℕ
  all_places = range_with_len 0 (length keys)

  place_of : (p : ℕ) → p < length keys → Contains all_places p
  place_of p inside = (
    p,
    rw (length-range_with_len 0 (length keys)) inside,
    get_or-range_with_len 0 (length keys) p p inside ∙ from_zero p,
  )

  -- a place is that of a key
  within : (p : ℕ) → Contains places p → p < length keys
  within p there =
      let k = Contains-permutation places all_places p (IsPermutation-sym all_places places ordered.all) there in
      let inside : k.0 < length keys = rw (length-range_with_len 0 (length keys)) at k.1 in
      let is : k.0 ≡ p = sym (from_zero k.0) ∙ (sym (get_or-range_with_len 0 (length keys) k.0 p inside) ∙ k.2) in
      rw (← is) inside

  -- the key at a place that compares as equal is the one that is looked for
  pub found : AllPairs (λ a b. a ≢ b) keys → (i d : ℕ) → i < length places
      → cmp (get_or keys (get_or places i d) none) key ≡ Equal → position (eq key) keys ≡ Some (get_or places i d)
  found differ i d inside e =
      let p = get_or places i d in
      let there = within p (Contains-get_or places i d inside) in
      found_at eq same keys p key differ (slice_get-get_or keys p none there
      ∙ ap Some (exact (get_or keys p none) key e))

  other : (o : Ordering) → (o ≡ Less) ⊎ (o ≡ Greater) → o ≢ Equal
  other o (inl e) f = absurd cc
  other o (inr e) f = absurd cc

  differs : (a : K) → (cmp a key ≡ Less) ⊎ (cmp a key ≡ Greater) → eq key a ≡ false
  differs a apart = by (eq key a) refl
    where
      by : (b : Bool) → eq key a ≡ b → eq key a ≡ false
      by false e = e
      by true e = absurd (other (cmp a key) apart (rw (← ((same key a).0 e)) (equal key)))

  -- no key is between those that are less and those that are greater
  pub nowhere : (i : ℕ) → IsPartitionPoint (λ p. cmp (get_or keys p none) key ≡ Less)
      (λ p. cmp (get_or keys p none) key ≡ Greater) places i → position (eq key) keys ≡ None
  nowhere i split = none_of (position (eq key) keys)
      (is_some-position (eq key) keys ∙ list_any_none (eq key) keys
      (All-from_get_or (λ a. eq key a ≡ false) keys none each))
    where
      each : (k : ℕ) → k < length keys → eq key (get_or keys k none) ≡ false
      each k inside =
          let there = Contains-permutation all_places places k ordered.all (place_of k inside) in
          rw (← there.2) (differs (get_or keys (get_or places there.0 k) none)
          (by (nat_lt there.0 i) there.0 k refl there.1))
        where
          by : (b : Bool) → (j d : ℕ) → nat_lt j i ≡ b → j < length places
              → (cmp (get_or keys (get_or places j d) none) key ≡ Less) ⊎
              (cmp (get_or keys (get_or places j d) none) key ≡ Greater)
          by true j d e h = inl (split.0 j d (omega arith) (grind (arith, nat_tests)))
          by false j d e h = inr (split.1 j d (grind (arith, nat_tests)) h)

  -- what a search by halves gave, at what there is and at what there isn't
  pub searched_ok : (i : ℕ) → IsBinarySearchResult (λ p. cmp (get_or keys p none) key) places (Ok i)
      → AllPairs (λ a b. a ≢ b) keys → (d : ℕ) → i < length places → position (eq key) keys ≡ Some (get_or places i d)
  searched_ok i result differ d inside = found differ i d inside (result d)

  pub searched_err : (i : ℕ) → IsBinarySearchResult (λ p. cmp (get_or keys p none) key) places (Err i)
      → position (eq key) keys ≡ None
  searched_err i result = nowhere i (result (searchable_from_sorted order
      (λ p. get_or keys p none) places key ordered.ascending))
