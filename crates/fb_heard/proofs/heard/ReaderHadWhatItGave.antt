-- What a part of a reader's known bytes says of all of them.
use Rattle.std.proofs.Common.{◌≡◌, ℕ, ◌<◌, ◌≤◌, ◌+◌, List, [], ◌++◌, length, take, drop, IfSome, Option, None, Some}
use Rattle.std.proofs.Common.{Bool}
use Rattle.std.proofs.Common.{true, false, refl, sym, ap, ◌∙◌, length-append, arith}
use Rattle.std.specs.Prelude.{IsTrue}
use Rattle.std.specs.Io.KnownBytes.{Consumes, IsAtEnd}
use Rattle.std.proofs.KnownBytes.{Consumes-trans, Consumes-all}
use Rattle.std.proofs.lemmas.List.{take-append-drop, take-take, drop-take, length-take-le}

-- a reader that gave so many bytes had as many
had_all : (a b : Option (List ℕ)) (bs : List ℕ) (most : ℕ) → Consumes a b bs → most < length bs
    → IfSome a (λ xs. most < length xs)
had_all None b bs most h more = tt
had_all (Some xs) None bs most h more = absurd h
had_all (Some xs) (Some ys) bs most h more = let e : length xs ≡ length bs + length ys =
    ap length h ∙ length-append bs ys in omega arith

take_add : (xs : List ℕ) (a n : ℕ) → take (a + n) xs ≡ take a xs ++ take n (drop a xs)
take_add xs a n =
    let whole : take a (take (a + n) xs) ++ drop a (take (a + n) xs) ≡ take (a + n) xs =
    take-append-drop a (take (a + n) xs) in
    sym (rw (take-take a (a + n) xs (omega arith), drop-take a n xs) at whole)

-- what is filled once more is what was, and then what the read brought
pub taken_more : (a b c : Option (List ℕ)) (xs ys : List ℕ) (filled n : ℕ) → take filled ys ≡ take filled xs
    → Consumes a b (take filled xs) → Consumes b c (take n (drop filled ys)) → Consumes a c (take (filled + n) ys)
taken_more a b c xs ys filled n front before read =
    rw take_add (Consumes-trans a b c _ _ (rw (← front) at before) read)

-- a reader that brought nothing more has given all
pub all_taken : (a b c : Option (List ℕ)) (xs ys new : List ℕ) (filled n : ℕ) → take filled ys ≡ take filled xs
    → Consumes a b (take filled xs) → Consumes b c (take n (drop filled ys)) → IsAtEnd c → n ≡ 0
    → new ≡ take filled ys → IfSome a (λ known. new ≡ known)
all_taken a b c xs ys new filled n front before read end none same =
    let whole : take (filled + n) ys ≡ take filled ys = ap (λ (k : ℕ). take k ys) (omega arith) in
    Consumes-all a c _ [] new (taken_more a b c xs ys filled n front before read) end (same ∙ sym whole)

-- a reader that filled more than the most had more
pub had_more : (a c : Option (List ℕ)) (ys : List ℕ) (more most : ℕ) → Consumes a c (take more ys)
    → more ≤ length ys → most < more → IfSome a (λ xs. most < length xs)
had_more a c ys more most taken fits over = had_all a c (take more ys) most taken
    (rw (length-take-le more ys fits) over)

-- a read that returned bytes didn't fail
pub no_failure : (b : Bool) → (IsTrue b → false ≡ true) → b ≡ false
no_failure false h = refl
no_failure true h = let wrong = h refl in cc
