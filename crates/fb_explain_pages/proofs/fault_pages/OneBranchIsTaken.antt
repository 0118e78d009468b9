-- The tests of pages with the branch that is taken computed alone. As they are written, both are computed at each byte.
use Rattle.std.proofs.Common.{ℕ, ◌≡◌, ◌+◌, ◌-◌, ◌*◌, ◌==◌, ◌&&◌, Bool, true, false, cond, nat_lt, List, [], ◌∷◌, Bor}
use Rattle.std.proofs.Common.{refl, ap}
use Rattle.fb_explain_pages.specs.Printed.{is_printable, is_printed}
use Rattle.fb_explain_pages.specs.Titles.{is_digit, with_digits, are_pages}

abbrev printed_by_branch : ℕ → List ℕ → Bool
printed_by_branch left [] = true
printed_by_branch left (byte ∷ bytes) = elim (byte == 10) [
  | true ↦ printed_by_branch 120 bytes
  | false ↦ (is_printable byte && nat_lt 0 left) && printed_by_branch (left - 1) bytes
]

same_printed : (left : ℕ) (bytes : List ℕ) → is_printed left bytes ≡ printed_by_branch left bytes
same_printed left [] = refl
same_printed left (byte ∷ bytes) =
    elim (byte == 10) as (λ feed. cond feed (is_printed 120 bytes)
    ((is_printable byte && nat_lt 0 left) && is_printed (left - 1) bytes)
    ≡ elim feed [
      | true ↦ printed_by_branch 120 bytes
      | false ↦ (is_printable byte && nat_lt 0 left) && printed_by_branch (left - 1) bytes
    ]) [
      | true ↦ same_printed 120 bytes
      | false ↦ ap (λ rest. (is_printable byte && nat_lt 0 left) && rest) (same_printed (left - 1) bytes)
    ]

abbrev digits_by_branch : ℕ → List ℕ → ℕ
digits_by_branch read [] = read
digits_by_branch read (byte ∷ bytes) =
    elim (is_digit byte) [ true ↦ digits_by_branch (10 * read + (byte - 48)) bytes | false ↦ read ]

same_digits : (read : ℕ) (bytes : List ℕ) → with_digits read bytes ≡ digits_by_branch read bytes
same_digits read [] = refl
same_digits read (byte ∷ bytes) =
    elim (is_digit byte) as (λ digit. cond digit (with_digits (10 * read + (byte - 48)) bytes) read
    ≡ elim digit [ true ↦ digits_by_branch (10 * read + (byte - 48)) bytes | false ↦ read ])
    [ true ↦ same_digits (10 * read + (byte - 48)) bytes | false ↦ refl ]

abbrev pub pages_by_branch : ℕ → List (Bor (List ℕ)) → Bool
pages_by_branch first [] = true
pages_by_branch first (text ∷ texts) =
    (printed_by_branch 120 text.now && digits_by_branch 0 text.now == first) && pages_by_branch (first + 1) texts

pub same_pages : (first : ℕ) (texts : List (Bor (List ℕ))) → are_pages first texts ≡ pages_by_branch first texts
same_pages first [] = refl
same_pages first (text ∷ texts) =
    simp (same_printed 120 text.now, same_digits 0 text.now, same_pages (first + 1) texts)
