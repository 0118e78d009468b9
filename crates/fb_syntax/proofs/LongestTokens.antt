-- The longest token at the front, of each kind.
use Rattle.std.proofs.Common.{◌-◌, ◌≡◌, ℕ, zero, suc, ◌+◌, ◌<◌, ◌≤◌, Bool, true, ◌==◌, ◌&&◌, List, [], ◌∷◌, length}
use Rattle.std.proofs.Common.{take, drop, get_or, refl, ap, eq-eqb, arith, inl, inr, not, false, ◌||◌}
use Rattle.std.proofs.lemmas.Bool.{eqb-true, and_parts, and_from, cases_Bool, or_cases, or_left, or_right}
use Rattle.std.proofs.lemmas.List.Sums.{prefix_len-le-length, prefix_len_passes, list_all-from_AllPass}
use Rattle.std.proofs.lemmas.List.Folds.{length-prefix_len}
use Rattle.std.proofs.lemmas.List.{get_or-take}
use Rattle.std.proofs.Math.Numerals.{one-add}
use Rattle.std.specs.List.{prefix_len, list_all}
use Rattle.fb_syntax.specs.declared.tokens.TokenKind.TheVariants.{Word, Quoted, Punct, Integer}
use Rattle.fb_syntax.specs.declared.scan.GapOrToken.{GapOrToken}
use Rattle.fb_syntax.specs.Bytes.{is_letter, is_word_byte, is_quotable, is_punct, is_digit, is_hex, is_sign}
use Rattle.fb_syntax.specs.TokenBytes.{is_closed_by_quote, is_token, IsLongest, starts}
use Rattle.fb_syntax.specs.Spells.{IsAtFront}
use Rattle.fb_syntax.proofs.FirstBytes.{longest_of, only_kind}
use Rattle.fb_syntax.proofs.Gaps.{behind_first}
use Rattle.std.proofs.lemmas.Bool.Decides.{nat_tests}
use Rattle.fb_syntax.specs.Integers.{is_unsigned, is_decimal, is_hexadecimal, is_prefixed, is_integer, sign_len}
use Rattle.fb_syntax.specs.Integers.{without_sign, IsNumberLen, magnitude, greatest_magnitude}

-- bytes that pass are no more than those that pass from the front on
pub all-take : (p : ℕ → Bool) (cs : List ℕ) (n : ℕ) → n ≤ length cs → list_all p (take n cs) ≡ true
    → n ≤ prefix_len p cs
all-take p cs zero h e = omega arith
all-take p [] (suc n) h e = absurd (omega arith)
all-take p (c ∷ cs) (suc n) h e =
    let both = and_parts (p c) (list_all p (take n cs)) e in
    let next = all-take p cs n (omega arith) both.1 in
    rw both.0 (omega arith)

pub all-prefix : (p : ℕ → Bool) (cs : List ℕ) → list_all p (take (prefix_len p cs) cs) ≡ true
all-prefix p cs = list_all-from_AllPass p (take (prefix_len p cs) cs) (λ k d h.
    (let short : k < prefix_len p cs = omega (arith, h, length-prefix_len p cs) in
    rw get_or-take (prefix_len_passes p cs k d short)))

pub word_longest : (text : List ℕ) (n : ℕ) → is_letter (get_or text 0 0) ≡ true
    → n ≡ prefix_len is_word_byte (take (length text - 1) (drop 1 text)) → IsLongest Word (1 + n) text
unfolding is_token
word_longest [] n e run = absurd cc
word_longest (c ∷ cs) n e run =
    rw (rw (behind_first (c ∷ cs)) at run) (longest_of Word (1 + prefix_len is_word_byte cs) c cs e
    (omega (arith, prefix_len-le-length is_word_byte cs))
    (rw one-add (and_from (is_letter c) _ e (all-prefix is_word_byte cs)))
    (λ m w t. omega (arith, all-take is_word_byte cs m w (and_parts (is_letter c) _ t).1)))

pub punct_longest : (text : List ℕ) → is_punct (get_or text 0 0) ≡ true → IsLongest (Punct (get_or text 0 0)) 1 text
unfolding is_token
punct_longest [] e = absurd cc
punct_longest (c ∷ cs) e = longest_of (Punct c) 1 c cs alone (omega arith) alone (λ m w t. one_byte m cs w t) where
  alone : (c == c && is_punct c) ≡ true
  alone = and_from (c == c) (is_punct c) (eq-eqb c c refl) e

  one_byte : (m : ℕ) (cs : List ℕ) → m ≤ length cs → is_token (Punct c) (c ∷ take m cs) ≡ true → suc m ≤ 1
  one_byte zero cs w t = omega arith
  one_byte (suc m) [] w t = absurd (omega arith)
  one_byte (suc m) (d ∷ cs) w t = absurd cc

closed-sound : (cs : List ℕ) (n : ℕ) → list_all is_quotable (take n cs) ≡ true → get_or cs n 0 ≡ 34
    → (is_closed_by_quote (take (suc n) cs) ≡ true) × (suc n ≤ length cs)
closed-sound (c ∷ cs) zero all e = (eq-eqb c 34 e, omega arith)
closed-sound (c ∷ d ∷ cs) (suc n) all e =
    let both = and_parts (is_quotable c) _ all in
    let next = closed-sound (d ∷ cs) n both.1 e in
    (and_from (is_quotable c) _ both.0 next.0, omega (arith, next.1))
closed-sound _ _ all e = absurd cc

pub closed-complete : (cs : List ℕ) (m : ℕ) → m ≤ length cs → is_closed_by_quote (take m cs) ≡ true
    → (m ≡ suc (prefix_len is_quotable cs)) × (get_or cs (prefix_len is_quotable cs) 0 ≡ 34)
closed-complete cs zero w e = absurd cc
closed-complete (c ∷ cs) (suc zero) w e = rw (eqb-true c 34 e) (refl, refl)
closed-complete (c ∷ d ∷ cs) (suc (suc m)) w e =
    let both = and_parts (is_quotable c) _ e in
    let next = closed-complete (d ∷ cs) (suc m) (omega arith) both.1 in
    rw (both.0, one-add) (ap suc next.0, next.1)
closed-complete _ _ w e = absurd (omega arith)

pub quoted_longest : (cs : List ℕ) (p : ℕ) → p ≡ prefix_len is_quotable cs → get_or cs p 0 ≡ 34
    → IsLongest Quoted (p + 2) (34 ∷ cs)
unfolding is_token
quoted_longest cs p run q =
    let found = closed-sound cs (prefix_len is_quotable cs) (all-prefix is_quotable cs) (rw run at q) in
    let two : p + 2 ≡ suc (suc (prefix_len is_quotable cs)) = omega arith in
    longest_of Quoted (p + 2) 34 cs refl (omega (arith, found.1)) (rw two found.0)
    (λ m w t. omega (arith, (closed-complete cs m w t).0))

pub no_quoted : (cs : List ℕ) (p : ℕ) → p ≡ prefix_len is_quotable cs → (get_or cs p 0 ≡ 34 → ⊥) → (piece : GapOrToken)
    → IsAtFront (34 ∷ cs) piece → ⊥
unfolding is_token
no_quoted cs p run other = only_kind Quoted 34 cs refl (λ n h small. never n h) where
  never : (n : ℕ) → IsLongest Quoted n (34 ∷ cs) → ⊥
  never zero h = let e = h.spelled in cc
  never (suc n) h = let w = h.within in other (rw run (closed-complete cs n (omega arith) h.spelled).1)

prefix_kept : (u : List ℕ) (m : ℕ) → is_prefixed (take m u) ≡ true → is_prefixed u ≡ true
prefix_kept (a ∷ b ∷ c ∷ u) (suc (suc (suc m))) e = e
prefix_kept (a ∷ b ∷ []) (suc (suc (suc m))) e = absurd cc
prefix_kept (a ∷ []) (suc (suc m)) e = absurd cc
prefix_kept [] (suc m) e = absurd cc
prefix_kept _ _ e = absurd cc

pub decimal_len : (u : List ℕ) → is_prefixed u ≡ false → IsNumberLen (prefix_len is_digit u) u
decimal_len u plain = record {
  within = prefix_len-le-length is_digit u;
  spelled = λ some. or_left _ _ (and_from (not (length (take (prefix_len is_digit u) u) == 0)) _
      (grind (arith, nat_tests, length-prefix_len is_digit u)) (all-prefix is_digit u));
  longest = λ m w e. elim (or_cases (is_decimal (take m u)) (is_hexadecimal (take m u)) e) [
    | inl d ↦ all-take is_digit u m w (and_parts _ (list_all is_digit (take m u)) d).1
    | inr x ↦ (let there = prefix_kept u m (and_parts (is_prefixed (take m u)) _ x).0 in absurd cc)
  ];
}

pub hexadecimal_len : (u : List ℕ) → is_prefixed u ≡ true → IsNumberLen (2 + prefix_len is_hex (drop 2 u)) u
hexadecimal_len (z ∷ x ∷ h ∷ hs) p =
    record {
      within = omega (arith, prefix_len-le-length is_hex (h ∷ hs));
      spelled =
          λ some. or_right _ _ spelled;
      longest = longest;
    } where
      parts : ((z == 48 && (x == 120 || x == 88)) ≡ true) × (is_hex h ≡ true)
      parts = and_parts (z == 48 && (x == 120 || x == 88)) (is_hex h) p

      spelled : is_hexadecimal (take (2 + prefix_len is_hex (h ∷ hs)) (z ∷ x ∷ h ∷ hs)) ≡ true
      spelled =
          let count : prefix_len is_hex (h ∷ hs) ≡ suc (prefix_len is_hex hs) = rw (parts.1, one-add) refl in
          let three : 2 + prefix_len is_hex (h ∷ hs) ≡ suc (suc (suc (prefix_len is_hex hs))) = omega arith in
          rw three (and_from (is_prefixed (z ∷ x ∷ h ∷ take (prefix_len is_hex hs) hs)) _ p
          (and_from (is_hex h) _ parts.1 (all-prefix is_hex hs)))

      longest : (m : ℕ) → m ≤ length (z ∷ x ∷ h ∷ hs) → is_unsigned (take m (z ∷ x ∷ h ∷ hs)) ≡ true
          → m ≤ 2 + prefix_len is_hex (h ∷ hs)
      longest (suc (suc m)) w e = elim (or_cases (is_decimal (z ∷ x ∷ take m (h ∷ hs))) _ e) [
        | inl d ↦ absurd (grind (arith, nat_tests, parts.0, d))
        | inr i ↦ (let digits = all-take is_hex (h ∷ hs) m (omega arith)
            (and_parts (is_prefixed (z ∷ x ∷ take m (h ∷ hs))) _ i).1 in omega arith)
      ]
      longest _ w e = omega arith
hexadecimal_len _ p = absurd cc

-- the digits of an integer behind its sign, if it has one
signed_digits : (c n m : ℕ) (cs : List ℕ) → IsNumberLen n (without_sign (c ∷ cs)) → m ≤ length cs
    → is_integer (c ∷ take m cs) ≡ true → (0 < n) × (suc m ≤ sign_len (c ∷ cs) + n)
signed_digits c n m cs number w e =
    elim (cases_Bool (is_sign c)) [
      | inl b ↦ (let longest = (rw b at number).longest m w (rw b at e) in let some = none_empty m (rw b at e) in
          rw b (omega arith, omega arith))
      | inr b ↦ (let longest = (rw b at number).longest (suc m) (omega arith) (rw b at e) in
          rw b (omega arith, omega arith))
    ] where
      none_empty : (m : ℕ) → is_unsigned (take m cs) ≡ true → 0 < m
      none_empty zero e = absurd cc
      none_empty (suc m) e = omega arith

spelled_integer : (c n : ℕ) (cs : List ℕ) → IsNumberLen n (without_sign (c ∷ cs)) → 0 < n
    → (sign_len (c ∷ cs) + n ≤ length (c ∷ cs)) × (is_integer (take (sign_len (c ∷ cs) + n) (c ∷ cs)) ≡ true)
spelled_integer c zero cs number some = absurd (omega arith)
spelled_integer c (suc n) cs number some =
    elim (cases_Bool (is_sign c)) [
      | inl b ↦ (let digits = rw b at number in rw (b, one-add)
          (omega (arith, digits.within), rw b (digits.spelled some)))
      | inr b ↦ (let digits = rw b at number in let none : 0 + suc n ≡ suc n = omega arith in
          rw (b, none) (omega (arith, digits.within), rw b (digits.spelled some)))
    ]

pub integer_longest : (text : List ℕ) (sign n : ℕ) → starts Integer (get_or text 0 0) ≡ true → sign ≡ sign_len text
    → IsNumberLen n (drop sign text) → 0 < n → IsLongest Integer (sign + n) text
unfolding is_token
integer_longest [] sign n s signed number some = absurd cc
integer_longest (c ∷ cs) sign n s signed count some =
    let number : IsNumberLen n (without_sign (c ∷ cs)) = rw signed at count in
    let spelled = spelled_integer c n cs number some in
    rw signed (longest_of Integer (sign_len (c ∷ cs) + n) c cs s spelled.0 spelled.1
    (λ m w t. (signed_digits c n m cs number w t).1))

-- No integer stands there, or one that is too great.
pub no_integer : (text : List ℕ) (sign n : ℕ) → starts Integer (get_or text 0 0) ≡ true → sign ≡ sign_len text
    → IsNumberLen n (drop sign text) → (0 < n → greatest_magnitude < magnitude (take (sign + n) text))
    → (piece : GapOrToken) → IsAtFront text piece → ⊥
unfolding is_token
no_integer [] sign n s signed number great = absurd cc
no_integer (c ∷ cs) sign n s signed count great = only_kind Integer c cs s (λ m h small.
    (let some = some_digits m h.within h.spelled in
    let counted = integer_longest (c ∷ cs) sign n s signed count some in
    let up = counted.longest Integer m h.within h.spelled in
    let down = h.longest Integer (sign + n) counted.within counted.spelled in
    let all : m ≡ sign + n = omega arith in
    omega (arith, rw all at small, great some))) where
      some_digits : (m : ℕ) → m ≤ length (c ∷ cs) → is_integer (take m (c ∷ cs)) ≡ true → 0 < n
      some_digits zero w e = absurd cc
      some_digits (suc m) w e = (signed_digits c n m cs (rw signed at count) (omega arith) e).0
