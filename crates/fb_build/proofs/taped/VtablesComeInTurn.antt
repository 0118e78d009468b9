-- The vtables of a tape, of which the first ones have come.
use Rattle.std.proofs.Common.{◌≡◌, ℕ, zero, suc, ◌<◌, ◌++◌, List, [], ◌∷◌, length, take, slice_get, Some, refl, ap}
use Rattle.std.proofs.Common.{◌∙◌, arith}
use Rattle.std.proofs.Common.{length-append}
use Rattle.fb_value.specs.Num.{Bytes}
use Rattle.fb_tape.specs.KnownVtables.{EachHasOneNumber}
use Rattle.fb_build.specs.NumberedVtables.{come}

-- one that has come is there
taken_key : (vtables : List Bytes) (n i : ℕ) (vt : Bytes) → slice_get vtables i ≡ Some vt → i < n
    → slice_get (take n vtables) i ≡ Some vt
taken_key [] n i vt is low = cc
taken_key (x ∷ vtables) zero i vt is low = absurd (omega (arith, low))
taken_key (x ∷ vtables) (suc n) zero vt is low = is
taken_key (x ∷ vtables) (suc n) (suc i) vt is low = taken_key vtables n i vt is (omega (arith, low))

pub key_come : (vtables : List Bytes) (places : List ℕ) (i : ℕ) (vt : Bytes) → slice_get vtables i ≡ Some vt
    → i < length places → slice_get (come vtables places) i ≡ Some vt
key_come vtables places i vt is low = taken_key vtables (length places) i vt is low

-- and is the same one
pub key_was : (vtables : List Bytes) (n i : ℕ) (vt : Bytes) → slice_get (take n vtables) i ≡ Some vt
    → slice_get vtables i ≡ Some vt
key_was [] zero i vt is = is
key_was [] (suc n) i vt is = is
key_was (x ∷ vtables) zero i vt is = cc
key_was (x ∷ vtables) (suc n) zero vt is = is
key_was (x ∷ vtables) (suc n) (suc i) vt is = key_was vtables n i vt is

pub come_different : (vtables : List Bytes) (n : ℕ) → EachHasOneNumber vtables → EachHasOneNumber (take n vtables)
come_different vtables n different i j vt at there = different i j vt (key_was vtables n i vt at)
    (key_was vtables n j vt there)

-- one more
taken_more : (vtables : List Bytes) (n : ℕ) (vt : Bytes) → slice_get vtables n ≡ Some vt
    → take (suc n) vtables ≡ take n vtables ++ (vt ∷ [])
taken_more [] n vt is = cc
taken_more (x ∷ vtables) zero vt is = let same : x ≡ vt = cc in rw same refl
taken_more (x ∷ vtables) (suc n) vt is = ap (λ xs. x ∷ xs) (taken_more vtables n vt is)

pub come_more : (vtables : List Bytes) (places : List ℕ) (e : ℕ) (vt : Bytes)
    → slice_get vtables (length places) ≡ Some vt
    → come vtables (places ++ (e ∷ [])) ≡ come vtables places ++ (vt ∷ [])
come_more vtables places e vt is =
    let long : length (places ++ (e ∷ [])) ≡ suc (length places) =
    (let parts = length-append places (e ∷ []) in omega (arith, parts)) in
    ap (λ n. take n vtables) long ∙ taken_more vtables (length places) vt is
