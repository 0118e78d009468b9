-- Why an integer is refused, and that the fault of refused bytes is one of a token.
use Rattle.std.proofs.Common.{◌≡◌, ℕ, zero, suc, ◌+◌, ◌<◌, ◌≤◌, ◌==◌, true, false, List, [], ◌∷◌, length, take, drop}
use Rattle.std.proofs.Common.{get_or, refl, arith, inl, inr, Bool, ◌&&◌, Some, Err, length-drop}
use Rattle.std.specs.Prelude.{if◌then◌else◌}
use Rattle.std.specs.List.{prefix_len}
use Rattle.std.proofs.lemmas.Bool.{cases_Bool}
use Rattle.std.proofs.lemmas.Bool.Decides.{nat_tests}
use Rattle.std.proofs.lemmas.List.Sums.{prefix_len-le-length}
use Rattle.fb_syntax.specs.Bytes.{is_digit, is_quotable}
use Rattle.fb_syntax.specs.Integers.{IsNumberLen, sign_len, without_sign}
use Rattle.fb_syntax.specs.BadTokens.{has_digit, is_star, fault_of}
use Rattle.fb_syntax.specs.NextToken.{ComesNext, after_gap, refused}
use Rattle.fb_syntax.specs.declared.tokens.BadToken.{BadToken}
use Rattle.fb_syntax.specs.declared.faults.SyntaxFault.{SyntaxFault}
use Rattle.fb_syntax.proofs.Gaps.{gap_within}
use Rattle.fb_syntax.specs.Refusals.{IsTokenFault, StandsWithin}
use Rattle.fb_syntax.specs.declared.faults.SyntaxFault.TheVariants.{BadByte, NumberTooBig}
use Rattle.fb_syntax.specs.declared.tokens.TokenKind.TheVariants.{Integer}
use Rattle.fb_syntax.specs.TokenBytes.{starts}
use Rattle.fb_syntax.proofs.FirstBytes.{unsigned_starts}

no_digit : (u : List ℕ) → IsNumberLen 0 u → has_digit u ≡ false
no_digit [] number = refl
no_digit (c ∷ cs) number = elim (cases_Bool (is_digit c)) [
  | inl b ↦ absurd (omega (arith, number.longest 1 (omega arith) (rw b refl)))
  | inr b ↦ b
]

some_digit : (n : ℕ) (u : List ℕ) → IsNumberLen n u → 0 < n → has_digit u ≡ true
some_digit (suc n) [] number some = absurd (omega (arith, number.within))
some_digit (suc n) (c ∷ cs) number some = unsigned_starts c (take n cs) (number.spelled some)
some_digit zero u number some = absurd (omega arith)

-- neither a quote nor a slash
plain : (c : ℕ) → starts Integer c ≡ true → ((c == 34) ≡ false) × ((c == 47) ≡ false)
plain c s = (grind (arith, nat_tests), grind (arith, nat_tests))

pub no_integer_fault : (at : ℕ) (text : List ℕ) (sign : ℕ) → starts Integer (get_or text 0 0) ≡ true
    → sign ≡ sign_len text → IsNumberLen 0 (drop sign text) → BadByte at ≡ fault_of at text
no_integer_fault at [] sign s signed number = absurd cc
no_integer_fault at (c ∷ cs) sign s signed number =
    let p = plain c s in rw (p.0, p.1, no_digit (without_sign (c ∷ cs)) (rw signed at number)) refl

pub great_integer_fault : (at : ℕ) (text : List ℕ) (sign n : ℕ) → starts Integer (get_or text 0 0) ≡ true
    → sign ≡ sign_len text → IsNumberLen n (drop sign text) → 0 < n → NumberTooBig at ≡ fault_of at text
great_integer_fault at [] sign n s signed number some = absurd cc
great_integer_fault at (c ∷ cs) sign n s signed number some =
    let p = plain c s in rw (p.0, p.1, some_digit n (without_sign (c ∷ cs)) (rw signed at number) some) refl

either : (P : SyntaxFault → Type 0) (b : Bool) (x y : SyntaxFault) → P x → P y → P (if b then x else y)
either P true x y first second = first
either P false x y first second = second

-- The fault is one of a token, and stands in the text.
pub token_fault : (at : ℕ) (text : List ℕ) → IsTokenFault (fault_of at text)
    × StandsWithin (at + length text) (fault_of at text)
token_fault at [] = (tt, omega arith)
token_fault at (c ∷ cs) =
    either Is (c == 34) _ _ (either Is (prefix_len is_quotable cs == length cs) _ _ here (tt, inside))
    (either Is (c == 47 && is_star cs) _ _ here (either Is (has_digit (without_sign (c ∷ cs))) _ _ here here)) where
      Is : SyntaxFault → Type 0
      Is fault = IsTokenFault fault × StandsWithin (at + length (c ∷ cs)) fault

      here : Unit {0} × (at ≤ at + length (c ∷ cs))
      here = (tt, omega arith)

      inside : at + prefix_len is_quotable cs + 1 ≤ at + length (c ∷ cs)
      inside = omega (arith, prefix_len-le-length is_quotable cs)

next_within : (at : ℕ) (rest : List ℕ) (bad : BadToken) → ComesNext at rest (Some (Err bad))
    → IsTokenFault bad.fault × StandsWithin (at + length rest) bad.fault
next_within at rest bad (after_gap n gap next) =
    let within = (gap_within gap).1 in
    let same : at + n + length (drop n rest) ≡ at + length rest = omega (arith, length-drop n rest) in
    rw same at (next_within (at + n) (drop n rest) bad next)
next_within at rest bad (refused some none) = token_fault at rest

pub next_fault : (at : ℕ) (text : List ℕ) (bad : BadToken) → at ≤ length text
    → ComesNext at (drop at text) (Some (Err bad)) → IsTokenFault bad.fault × StandsWithin (length text) bad.fault
next_fault at text bad within next =
    let all : at + length (drop at text) ≡ length text = omega (arith, length-drop at text) in
    rw all at (next_within at (drop at text) bad next)
