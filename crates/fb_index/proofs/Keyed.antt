-- A digest is found at its place, also after others were inserted.
use Rattle.std.proofs.Common.{◌≡◌, ℕ, ◌≤◌, ◌<◌, inl, inr, true, false, List, [], ◌∷◌, ◌++◌, length}
use Rattle.std.proofs.Common.{nat_eq, Some, None, position, refl, sym, ◌∙◌, eq-eqb}
use Rattle.std.specs.List.{list_any}
use Rattle.std.proofs.lemmas.Bool.{cases_lt}
use Rattle.std.proofs.Math.Nat.{eq-or-lt_of_le}
use Rattle.fb_index.specs.DigestIndexes.{key_after, IsAt, KeepsPlaces}
use Rattle.fb_index.proofs.Positions.{position_stays, position_of_last, any_stays}

-- what holds of each place that was tested before a number that is no key holds of this place
pub tested : (keys : List ℕ) (digest place : ℕ) → IsAt keys digest place → (P : ℕ → Type 0) (steps : ℕ)
    → ((n p : ℕ) → n < steps → position (nat_eq (key_after digest n)) keys ≡ Some p → P p)
    → position (nat_eq (key_after digest steps)) keys ≡ None
    → list_any (nat_eq (key_after digest steps)) keys ≡ false → P place
tested keys digest place k P steps each none free =
    elim (cases_lt k.steps steps) [
      | inl below ↦ each k.steps place below k.is
      | inr past ↦ elim (eq-or-lt_of_le past) [
        | inl same ↦ (let at = rw (← same) at k.is in absurd (let no : None ≡ Some place = sym none ∙ at in cc))
        | inr before ↦ absurd (let no : true ≡ false = sym (k.taken steps before) ∙ free in cc)
      ]
    ]

-- each digest stays at its place where one more key comes
pub places_kept : (keys : List ℕ) (key : ℕ) → KeepsPlaces keys (keys ++ key ∷ [])
places_kept keys key digest place k = record {
  steps = k.steps;
  within = k.within;
  is = position_stays (nat_eq (key_after digest k.steps)) key keys place k.is;
  taken = λ n low. any_stays (nat_eq (key_after digest n)) key keys (k.taken n low);
}

-- the digest whose key comes now is at the next place
pub last_is_at : (keys : List ℕ) (digest key : ℕ) → list_any (nat_eq key) keys ≡ false
    → (steps : ℕ) × (steps ≤ length keys) × (key ≡ key_after digest steps)
    × ((n : ℕ) → n < steps → list_any (nat_eq (key_after digest n)) keys ≡ true)
    → IsAt (keys ++ key ∷ []) digest (length keys)
last_is_at keys digest key free first = record {
  steps = first.0;
  within = first.1;
  is = rw (← first.2) (position_of_last (nat_eq key) key keys free (eq-eqb key key refl));
  taken = λ n low. any_stays (nat_eq (key_after digest n)) key keys (first.3 n low);
}
