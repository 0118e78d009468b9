-- The new numbers of old types, listed one after another.
use Rattle.std.proofs.Common.{◌≡◌, ℕ, zero, suc, ◌<◌, ◌≤◌, Bool, true, false, nat_lt, List, [], ◌∷◌, ◌++◌, length, Some}
use Rattle.std.proofs.Common.{slice_get, option_map, option_and_then, refl, sym, ap, ◌∙◌, arith}
use Rattle.std.specs.Option.{unwrap_or}
use Rattle.std.proofs.lemmas.Bool.{ltb-true}
use Rattle.std.proofs.lemmas.Bool.Decides.{nat_tests}
use Rattle.std.proofs.lemmas.Option.{slice_get_past}
use Rattle.std.proofs.lemmas.List.{length-append}
use Rattle.fb_schema.specs.declared.kinds.TypeId.{TypeId}
use Rattle.fb_schema.specs.Found.{type_named}
use Rattle.fb_layout.specs.Laid.{LaidSchema}
use Rattle.fb_conform.specs.Twins.{to_new}
use Rattle.fb_owned.specs.NewNumbers.{ListsNewNumbers}

got_before : {X : Type 0} (xs ys : List X) (k : ℕ) → k < length xs → slice_get (xs ++ ys) k ≡ slice_get xs k
got_before [] ys k less = absurd (omega arith)
got_before (x ∷ xs) ys zero less = refl
got_before (x ∷ xs) ys (suc k) less = got_before xs ys k (omega arith)

got_last : {X : Type 0} (xs : List X) (x : X) → slice_get (xs ++ x ∷ []) (length xs) ≡ Some x
got_last [] x = refl
got_last (y ∷ xs) x = got_last xs x

-- the new number of each type that is listed so far
abbrev pub Numbered : LaidSchema → LaidSchema → List TypeId → Type 0
Numbered A B xs = (t : ℕ) → t < length xs → unwrap_or (option_map (λ u. u.0) (slice_get xs t)) 0 ≡ to_new A B t

pub numbered_more : (A B : LaidSchema) (xs : List TypeId) (x : TypeId) → x.0 ≡ to_new A B (length xs) → Numbered A B xs
    → Numbered A B (xs ++ x ∷ [])
numbered_more A B xs x is before t less = by (nat_lt t (length xs)) refl
  where
    by : (c : Bool) → nat_lt t (length xs) ≡ c
        → unwrap_or (option_map (λ u. u.0) (slice_get (xs ++ x ∷ []) t)) 0 ≡ to_new A B t
    by true test = let inside = ltb-true t (length xs) test in
        ap (λ o. unwrap_or (option_map (λ u. u.0) o) 0) (got_before xs (x ∷ []) t inside) ∙ before t inside
    by false test =
        let long = length-append xs (x ∷ []) in
        let last : length xs ≡ t = grind (arith, nat_tests, test, less, long) in
        rw (← last) (ap (λ o. unwrap_or (option_map (λ u. u.0) o) 0) (got_last xs x) ∙ is)

pub numbered_all : (A B : LaidSchema) (xs : List TypeId) → length xs ≡ length A.schema.types → Numbered A B xs
    → ListsNewNumbers A B xs
numbered_all A B xs long before t = by (nat_lt t (length xs)) refl
  where
    by : (c : Bool) → nat_lt t (length xs) ≡ c → unwrap_or (option_map (λ u. u.0) (slice_get xs t)) 0 ≡ to_new A B t
    by true test = before t (ltb-true t (length xs) test)
    by false test =
        let past : length xs ≤ t = grind (arith, nat_tests, test) in
        ap (λ o. unwrap_or (option_map (λ u. u.0) o) 0) (slice_get_past xs t past)
        ∙ ap (λ o. unwrap_or (option_and_then (λ name. type_named B.schema name) (option_map (λ x. x.name) o)) 0)
        (sym (slice_get_past A.schema.types t (omega arith)))
