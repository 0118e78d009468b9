-- Which number's page a text is: each begins with its number.
use Rattle.std.specs.Prelude.{ℕ, ◌+◌, ◌*◌, ◌-◌, ◌==◌, ◌&&◌, ◌||◌, Bool, true, nat_le, if◌then◌else◌, List, [], ◌∷◌}
use Rattle.std.specs.Borrow.{Bor}
use Rattle.fb_explain_pages.specs.Printed.{is_printed}

abbrev pub is_digit : ℕ → Bool
is_digit byte = nat_le 48 byte && nat_le byte 57

-- a number with the decimal digits after it that a text begins with
abbrev pub with_digits : ℕ → List ℕ → ℕ
with_digits read [] = read
with_digits read (byte ∷ bytes) = if is_digit byte then with_digits (10 * read + (byte - 48)) bytes else read

-- the number that a text begins with
abbrev pub first_number : List ℕ → ℕ
first_number text = with_digits 0 text

-- the pages of the numbers from this one on, in their order
abbrev pub are_pages : ℕ → List (Bor (List ℕ)) → Bool
are_pages first [] = true
are_pages first (text ∷ texts) =
    (is_printed 120 text.now && first_number text.now == first) && are_pages (first + 1) texts

abbrev pub is_from : ℕ → ℕ → ℕ → Bool
is_from first last number = nat_le first number && nat_le number last

-- the numbers of refusals of schema texts
abbrev pub is_of_schemas : ℕ → Bool
is_of_schemas number = is_from 1 7 number || is_from 10 23 number || is_from 30 32 number

-- of building and reading buffers
abbrev pub is_of_buffers : ℕ → Bool
is_of_buffers number = is_from 40 41 number || is_from 50 60 number || is_from 62 64 number

-- of JSON texts, read and printed
abbrev pub is_of_json : ℕ → Bool
is_of_json number = is_from 70 82 number || is_from 84 84 number

-- of comparisons of schemas, and of files
abbrev pub is_of_command : ℕ → Bool
is_of_command number = is_from 90 103 number || is_from 110 114 number

-- the numbers of refusals
abbrev pub is_number_of_fault : ℕ → Bool
is_number_of_fault number =
    is_of_schemas number || is_of_buffers number || is_of_json number || is_of_command number
