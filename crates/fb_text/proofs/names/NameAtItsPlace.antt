-- The value at a place has the name of its number, since no other value has that number.
use Rattle.std.proofs.Common.{◌≡◌, ◌≢◌, ℕ, List, String, Global, ℤ, map, AllPairs, slice_get, Option, None, Some}
use Rattle.std.proofs.Common.{string_bytes, refl, ap, sym, ◌∙◌, arith}
use Rattle.std.specs.Option.{option_map}
use Rattle.std.specs.Ordering.{int_eq}
use Rattle.std.proofs.lemmas.Bool.Decides.{Decides-int_eq}
use Rattle.std.proofs.lemmas.Option.{slice_get-map}
use Rattle.fb_schema.specs.Schema.{Name, DeclaredBody, DeclaredType, DeclaredSchema, body_at, body_in, values_in}
use Rattle.fb_schema.specs.Found.{name_numbered}
use Rattle.fb_schema.specs.Indexed.{inner_numbers}
use Rattle.fb_schema.specs.WellDeclared.{IsDeclared}
use Rattle.fb_schema.proofs.DeclaredNames.{no_repeats}
use Rattle.fb_schema.proofs.Distinct.{found_at}
use Rattle.fb_schema.proofs.LookUps.{keys_seen, found_through}

-- no number is there twice
pub numbers_differ : (S : DeclaredSchema) (t : ℕ) → IsDeclared S → AllPairs (λ a b. a ≢ b) (inner_numbers (body_at S t))
numbers_differ S t declared = by (slice_get S.types t) refl
  where
    by : (o : Option DeclaredType) → slice_get S.types t ≡ o → AllPairs (λ a b. a ≢ b) (inner_numbers (body_in o))
    by None none = λ i j d before within. absurd (omega arith)
    by (Some type) there = (no_repeats S t type.body (declared.bodies t type there)).numbers

abbrev seen : String Global × ℤ → Name × ℤ
seen v = (string_bytes v.0, v.1)

module _ (values : List (String Global × ℤ)) (at : ℕ) (value : String Global × ℤ) (body : DeclaredBody) where
  pub named_there : Some value ≡ slice_get values at → map seen values ≡ values_in body
      → AllPairs (λ a b. a ≢ b) (inner_numbers body) → Some (string_bytes value.0) ≡ name_numbered body value.1
  named_there there same differ =
      let numbers : List ℤ = map (λ (v : String Global × ℤ). v.1) values in
      let keys = keys_seen seen (λ v. v.1) (int_eq value.1) values (values_in body) same in
      let here : slice_get numbers at ≡ Some value.1 =
      slice_get-map (λ (v : String Global × ℤ). v.1) values at
      ∙ ap (option_map (λ (v : String Global × ℤ). v.1)) (sym there) in
      let apart = rw (← keys) at differ in
      let place = sym (found_at int_eq Decides-int_eq numbers at value.1 apart here) in
      let declared : Some (seen value) ≡ slice_get (values_in body) at =
      ap (option_map seen) there ∙ (sym (slice_get-map seen values at)
      ∙ ap (λ (l : List (Name × ℤ)). slice_get l at) same) in
      ap (option_map (λ v. v.0)) (declared
      ∙ found_through seen (λ v. v.1) (int_eq value.1) values (values_in body) same (Some at) place)
