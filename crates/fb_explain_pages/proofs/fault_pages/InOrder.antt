-- Of pages in order, each is printed, and begins with the number of its place.
use Rattle.std.proofs.Common.{ℕ, zero, suc, ◌≡◌, ◌+◌, ◌<◌, true, List, [], ◌∷◌, Bor, length, slice_index_or, arith}
use Rattle.std.proofs.lemmas.Bool.Decides.{nat_tests}
use Rattle.fb_explain_pages.specs.Printed.{is_printed}
use Rattle.fb_explain_pages.specs.Titles.{are_pages, first_number}

pub record IsPageOf (number : ℕ) (text : List ℕ) : Type 0 where
  pub printed : is_printed 120 text ≡ true
  pub titled : first_number text ≡ number

first_page : (first : ℕ) (p : Bor (List ℕ)) (ps : List (Bor (List ℕ))) → are_pages first (p ∷ ps) ≡ true
    → IsPageOf first p.now
first_page first p ps h = record { printed = grind (arith, nat_tests); titled = grind (arith, nat_tests) }

later_pages : (first : ℕ) (p : Bor (List ℕ)) (ps : List (Bor (List ℕ))) → are_pages first (p ∷ ps) ≡ true
    → are_pages (first + 1) ps ≡ true
later_pages first p ps h = grind (arith, nat_tests)

pub page_at : (first : ℕ) (pages : List (Bor (List ℕ))) (i number : ℕ) (d : Bor (List ℕ))
    → are_pages first pages ≡ true → i < length pages → number ≡ first + i
    → IsPageOf number (slice_index_or pages i d).now
page_at first [] i number d h within is = grind (arith, within)
page_at first (p ∷ ps) zero number d h within is =
    let here : number ≡ first = omega (arith, is) in rw here (first_page first p ps h)
page_at first (p ∷ ps) (suc i) number d h within is =
    page_at (first + 1) ps i number d (later_pages first p ps h) (omega (arith, within)) (omega (arith, is))
