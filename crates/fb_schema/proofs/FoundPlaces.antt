-- The number of a name in its scope, where no two names are the same, is that of the place at which it is found.
use Rattle.std.proofs.Common.{◌≡◌, ◌≢◌, ℕ, ◌+◌, ◌-◌, ◌≤◌, List, AllPairs, Option, Some, None, bytes_eq}
use Rattle.std.proofs.Common.{slice_get, get_or, refl, sym, ap, ◌∙◌, arith}
use Rattle.std.proofs.lemmas.List.Quantifiers.{position-Some}
use Rattle.std.proofs.lemmas.Option.{slice_get-get_or}
use Rattle.std.proofs.lemmas.Slice.Eq.{bytes_eq-Decides}
use Rattle.fb_index.specs.declared.hash_key.HashKey.{HashKey}
use Rattle.fb_index.specs.HashKeys.{digest_by}
use Rattle.fb_index.specs.DigestIndexes.{IsAt}
use Rattle.fb_schema.specs.Schema.{Name}
use Rattle.fb_schema.specs.Found.{index_of}
use Rattle.fb_schema.specs.Indexed.{AreAt}
use Rattle.fb_schema.proofs.Distinct.{found_at}

-- the name of this number is at a place
abbrev IsNamedAt : List Name → Name → ℕ → ℕ → Type 0
IsNamedAt names name first place = (first ≤ place) × (slice_get names (place - first) ≡ Some name)

module _ (names : List Name) (name : Name) (first : ℕ) where
  pub found_place : AllPairs (λ a b. a ≢ b) names → (place : ℕ) → IsNamedAt names name first place
      → Some (place - first) ≡ index_of names name
  found_place distinct place at =
      sym (found_at bytes_eq bytes_eq-Decides names (place - first) name distinct at.1)

  pub found_nowhere : (keys : List ℕ) (key : HashKey) → AreAt keys key first names → (No : ℕ → Type 0)
      → ((place : ℕ) → No place → IsNamedAt names name first place → ⊥)
      → ((place : ℕ) → IsAt keys (digest_by key name) place → No place) → None ≡ index_of names name
  found_nowhere keys key listed No differs absent = by (index_of names name) refl
    where
      by : (o : Option ℕ) → index_of names name ≡ o → None ≡ o
      by None is = refl
      by (Some i) is =
          let at = position-Some (bytes_eq name) names i name is in
          let there : slice_get names i ≡ Some name =
          slice_get-get_or names i name at.0
          ∙ ap (λ (n : Name). Some n) (sym ((bytes_eq-Decides name (get_or names i name)).0 at.1)) in
          let number : first + i - first ≡ i = omega arith in
          absurd (differs (first + i) (absent (first + i) (listed i name there)) (omega arith, rw number there))
