-- A word is the same before any text that ends a word.
use Rattle.std.proofs.Common.{◌≡◌, ℕ, suc, ◌+◌, ◌-◌, Bool, true, false, cond, ◌&&◌, ◌||◌, ◌==◌, nat_eq, List, [], ◌∷◌}
use Rattle.std.proofs.Common.{◌++◌, length, take, drop, Option, Some, None, option_and_then, inl, inr, ◌⊎◌, refl, sym}
use Rattle.std.proofs.Common.{ap, ap₂, ◌∙◌, subst, arith, length-append}
use Rattle.std.specs.Prelude.{⊤}
use Rattle.std.proofs.lemmas.Bool.{true≢false, false≢true, eqb-true, ne_eqb, or_cases, cases_Bool}
use Rattle.std.proofs.lemmas.List.{take-append-le, append_assoc}
use Rattle.std.specs.List.{prefix_len, starts_with}
use Rattle.std.specs.Char.{is_ascii_digit}
use Rattle.json.specs.Token.{Token, number, boolean, null, bad}
use Rattle.json.specs.Word.{is_operator, is_space, head, ends_word, after_digits, after_minus, after_sign, after_whole}
use Rattle.json.specs.Word.{after_fraction, after_exponent, after_number, number_before, literal, word}
use Rattle.json.specs.Lex.{quote, backslash, operator, space, other, in_word}
use Rattle.fb_pieces.specs.Modes.{next_mode, mode_after}
use Rattle.fb_pieces.specs.LexemesSplit.{MayCut}

abbrev is_delimiter : ℕ → Bool
is_delimiter x = is_operator x || is_space x

or_last : (P : ℕ → Type 0) (x c : ℕ) (b : Bool) → P c → (b ≡ true → P x) → (b ≡ true) ⊎ ((x == c) ≡ true) → P x
or_last P x c b p f (inl e) = f e
or_last P x c b p f (inr e) = subst P (sym (eqb-true x c e)) p

abbrev NoDigit : ℕ → Type 0
NoDigit x = is_ascii_digit x ≡ false

operator_no_digit : (x : ℕ) → is_operator x ≡ true → NoDigit x
operator_no_digit x h =
    or_last NoDigit x 44 _ refl
    (λ h. or_last NoDigit x 58 _ refl
    (λ i. or_last NoDigit x 93 _ refl
    (λ j. or_last NoDigit x 91 _ refl
    (λ l. or_last NoDigit x 125 _ refl (λ m. subst NoDigit (sym (eqb-true x 123 m)) refl)
    (or_cases _ _ l)) (or_cases _ _ j)) (or_cases _ _ i)) (or_cases _ _ h)) (or_cases _ _ h)

-- what holds of each of the four blanks
pub of_space : (P : ℕ → Type 0) → P 32 → P 9 → P 10 → P 13 → (x : ℕ) → is_space x ≡ true → P x
of_space P a b c d x h =
    or_last P x 13 _ d
    (λ h. or_last P x 10 _ c (λ i. or_last P x 9 _ b (λ m. subst P (sym (eqb-true x 32 m)) a) (or_cases _ _ i))
    (or_cases _ _ h)) (or_cases _ _ h)

no_digit_by : (x : ℕ) → (is_operator x ≡ true) ⊎ (is_space x ≡ true) → NoDigit x
no_digit_by x (inl e) = operator_no_digit x e
no_digit_by x (inr e) = of_space NoDigit refl refl refl refl x e

not_this : (x c : ℕ) → is_delimiter x ≡ true → is_delimiter c ≡ false → (x ≡ c → ⊥)
not_this x c h k e = true≢false (sym h ∙ ap is_delimiter e ∙ k)

and_three : (b p e q f : Bool) → (p && e) ≡ (q && f) → ((b && p) && e) ≡ ((b && q) && f)
and_three true p e q f h = h
and_three false p e q f h = refl

-- no byte of a name ends a word
abbrev AreInner : List ℕ → Type 0
AreInner [] = ⊤
AreInner (n ∷ ns) = (is_delimiter n ≡ false) × AreInner ns

module _ (rest : List ℕ) (ended : ends_word rest ≡ true) where
  ends-more : (r : List ℕ) → ends_word (r ++ rest) ≡ ends_word r
  ends-more [] = ended
  ends-more (x ∷ r) = refl

  -- ---- a literal

  no_name : (n : ℕ) (ns r : List ℕ) → is_delimiter n ≡ false → ends_word r ≡ true
      → (starts_with nat_eq r (n ∷ ns) && ends_word (drop (length (n ∷ ns)) r)) ≡ false
  no_name n ns [] k h = refl
  no_name n ns (d ∷ r) k h =
      let e : nat_eq n d ≡ false = ne_eqb n d (λ same. not_this d n h k (sym same)) in
      rw e refl

  same_name : (name t : List ℕ) → AreInner name
      → (starts_with nat_eq (t ++ rest) name && ends_word (drop (length name) (t ++ rest))) ≡
      (starts_with nat_eq t name && ends_word (drop (length name) t))
  same_name [] [] h = ended
  same_name [] (x ∷ t) h = refl
  same_name (n ∷ ns) [] h = no_name n ns rest h.0 ended
  same_name (n ∷ ns) (x ∷ t) h = and_three (nat_eq n x) _ _ _ _ (same_name ns t h.1)

  same_literal : (name : List ℕ) (k : Token) (t : List ℕ) → AreInner name
      → literal name k (t ++ rest) ≡ literal name k t
  same_literal name k t h = ap (λ b. cond b k bad) (same_name name t h)

  -- ---- a number: o is what a part leaves of t, and p what it leaves of t with the rest

  abbrev Extends : Option (List ℕ) → Option (List ℕ) → Type 0
  Extends None p = p ≡ None
  Extends (Some r) p = p ≡ Some (r ++ rest)

  same_test : (c : ℕ) (t : List ℕ) → is_delimiter c ≡ false → (head (t ++ rest) == c) ≡ (head t == c)
  same_test c [] h = ne_eqb (head rest) c (not_this (head rest) c ended h) ∙ sym (ne_eqb 32 c (not_this 32 c refl h))
  same_test c (x ∷ xs) h = refl

  one : (c : ℕ) (t : List ℕ) → is_delimiter c ≡ false → (head t == c) ≡ true → drop 1 (t ++ rest) ≡ drop 1 t ++ rest
  one c [] k e = absurd (not_this 32 c refl k (eqb-true 32 c e))
  one c (x ∷ xs) k e = refl

  either : (a b : ℕ) (t : List ℕ) → is_delimiter a ≡ false → is_delimiter b ≡ false
      → ((head t == a) ≡ true) ⊎ ((head t == b) ≡ true) → drop 1 (t ++ rest) ≡ drop 1 t ++ rest
  either a b t p q (inl e) = one a t p e
  either a b t p q (inr e) = one b t q e

  no_digit : (r : List ℕ) → ends_word r ≡ true → prefix_len is_ascii_digit r ≡ 0
  no_digit [] h = refl
  no_digit (x ∷ xs) h = ap (λ b. cond b (1 + prefix_len is_ascii_digit xs) 0) (no_digit_by x (or_cases _ _ h))

  record Digits (t : List ℕ) (n m : ℕ) : Type 0 where
    count : m ≡ n
    after : drop n (t ++ rest) ≡ drop n t ++ rest

  digits_at : (d : Bool) (x : ℕ) (xs : List ℕ) (n m : ℕ) → Digits xs n m
      → Digits (x ∷ xs) (cond d (1 + n) 0) (cond d (1 + m) 0)
  digits_at false x xs n m ih = record { count = refl; after = refl }
  digits_at true x xs n m ih =
      let e : suc n ≡ 1 + n = omega arith in
      rw (← e) (record { count = omega (arith, ih.count); after = ih.after })

  digit_run : (t : List ℕ) → Digits t (prefix_len is_ascii_digit t) (prefix_len is_ascii_digit (t ++ rest))
  digit_run [] = record { count = no_digit rest ended; after = refl }
  digit_run (x ∷ xs) = digits_at (is_ascii_digit x) x xs _ _ (digit_run xs)

  by_test : (b c : Bool) (x y p q : Option (List ℕ)) → c ≡ b → (b ≡ true → Extends x p) → Extends y q
      → Extends (cond b x y) (cond c p q)
  by_test true true x y p q e f g = f refl
  by_test false false x y p q e f g = g
  by_test true false x y p q e f g = absurd (false≢true e)
  by_test false true x y p q e f g = absurd (true≢false e)

  after : (u v : List ℕ) (f : List ℕ → Option (List ℕ)) → v ≡ u ++ rest → Extends (f u) (f (u ++ rest))
      → Extends (f u) (f v)
  after u v f s h = rw s h

  optional : (t : List ℕ) (b c : Bool) → c ≡ b → (b ≡ true → drop 1 (t ++ rest) ≡ drop 1 t ++ rest)
      → cond c (drop 1 (t ++ rest)) (t ++ rest) ≡ cond b (drop 1 t) t ++ rest
  optional t true true e f = f refl
  optional t false false e f = refl
  optional t true false e f = absurd (false≢true e)
  optional t false true e f = absurd (true≢false e)

  digits : (t : List ℕ) → Extends (after_digits t) (after_digits (t ++ rest))
  digits t =
      let d = digit_run t in
      by_test (prefix_len is_ascii_digit t == 0) (prefix_len is_ascii_digit (t ++ rest) == 0) None _ None _
      (ap (λ n. n == 0) d.count) (λ e. refl)
      (ap Some (ap (λ n. drop n (t ++ rest)) d.count ∙ d.after))

  whole : (t : List ℕ) → Extends (after_whole t) (after_whole (t ++ rest))
  whole t =
      by_test (head t == 48) _ (Some (drop 1 t)) _ _ _ (same_test 48 t refl) (λ e. ap Some (one 48 t refl e)) (digits t)

  fraction : (t : List ℕ) → Extends (after_fraction t) (after_fraction (t ++ rest))
  fraction t =
      by_test (head t == 46) _ _ (Some t) _ _ (same_test 46 t refl)
      (λ e. after (drop 1 t) _ after_digits (one 46 t refl e) (digits (drop 1 t))) refl

  signed : (t : List ℕ) → Extends (after_digits (after_sign t)) (after_digits (after_sign (t ++ rest)))
  signed t =
      after (after_sign t) _ after_digits
      (optional t _ _ (ap₂ (λ a b. a || b) (same_test 45 t refl) (same_test 43 t refl))
      (λ e. either 45 43 t refl refl (or_cases _ _ e))) (digits (after_sign t))

  exponent : (t : List ℕ) → Extends (after_exponent t) (after_exponent (t ++ rest))
  exponent t =
      by_test ((head t == 101) || (head t == 69)) _ _ (Some t) _ _
      (ap₂ (λ a b. a || b) (same_test 101 t refl) (same_test 69 t refl))
      (λ e. after (drop 1 t) _ (λ u. after_digits (after_sign u)) (either 101 69 t refl refl (or_cases _ _ e))
      (signed (drop 1 t))) refl

  then : (f : List ℕ → Option (List ℕ)) → ((u : List ℕ) → Extends (f u) (f (u ++ rest))) → (o p : Option (List ℕ))
      → Extends o p → Extends (option_and_then f o) (option_and_then f p)
  then f g None p h = ap (option_and_then f) h
  then f g (Some r) p h = rw h (g r)

  whole_number : (t : List ℕ) → Extends (after_number t) (after_number (t ++ rest))
  unfolding after_number
  whole_number t =
      then after_exponent exponent _ _ (then after_fraction fraction _ _
      (after (after_minus t) _ after_whole (optional t _ _ (same_test 45 t refl) (one 45 t refl))
      (whole (after_minus t))))

  same_number : (t : List ℕ) (o p : Option (List ℕ)) → Extends o p → number_before (t ++ rest) p ≡ number_before t o
  same_number t None p h = ap (number_before (t ++ rest)) h
  same_number t (Some r) p h =
      let size : length (t ++ rest) - length (r ++ rest) ≡ length t - length r = omega
      (arith, length-append t rest, length-append r rest) in
      let front : take (length t - length r) (t ++ rest) ≡ take (length t - length r) t = take-append-le _ t rest
      (omega arith) in
      ap (number_before (t ++ rest)) h
      ∙ ap₂ (λ b l. cond b (number l) bad) (ends-more r) (ap (λ n. take n (t ++ rest)) size ∙ front)

  pub word-cut : (x : ℕ) (t : List ℕ) → word (x ∷ (t ++ rest)) ≡ word (x ∷ t)
  unfolding word
  word-cut x t =
      let s = x ∷ t in
      let h = same_literal (116 ∷ 114 ∷ 117 ∷ 101 ∷ []) (boolean true) s (refl, (refl, (refl, (refl, tt)))) in
      let k = same_literal (102 ∷ 97 ∷ 108 ∷ 115 ∷ 101 ∷ []) (boolean false) s
      (refl, (refl, (refl, (refl, (refl, tt))))) in
      let l = same_literal (110 ∷ 117 ∷ 108 ∷ 108 ∷ []) null s (refl, (refl, (refl, (refl, tt)))) in
      let n = same_number s (after_number s) (after_number (s ++ rest)) (whole_number s) in
      (λ i. cond (x == 116) (h i) (cond (x == 102) (k i) (cond (x == 110) (l i) (n i))))

-- ---- the word before the first byte that ends it

record Front (x y : List ℕ) : Type 0 where
  front : List ℕ
  back : List ℕ
  joined : x ≡ front ++ back
  ends : ends_word back ≡ true
  ends_more : ends_word (back ++ y) ≡ true

inner : (q b o s : Bool) → (o || s) ≡ false
    → next_mode in_word (cond q quote (cond b backslash (cond o operator (cond s space other)))) ≡ in_word
inner true b o s h = refl
inner false true o s h = refl
inner false false true s h = absurd (true≢false h)
inner false false false true h = absurd (true≢false h)
inner false false false false h = refl

front_of : (x y : List ℕ) → MayCut (mode_after in_word x) y → Front x y
unfolding mode_after
front_of [] y h = record { front = []; back = []; joined = refl; ends = refl; ends_more = h }
front_of (b ∷ x) y h = go (cases_Bool (is_delimiter b)) (front_of x y)
  where
    go : (is_delimiter b ≡ true) ⊎ (is_delimiter b ≡ false) → (MayCut (mode_after in_word x) y → Front x y)
        → Front (b ∷ x) y
    go (inl e) ih = record { front = []; back = b ∷ x; joined = refl; ends = e; ends_more = e }
    go (inr e) ih =
        let f = ih
        (rw (← (inner (b == 34) (b == 92) (is_operator b) (is_space b) e)) h) in
        record {
          front = b ∷ f.front;
          back = f.back;
          joined = ap
              (λ l. b ∷ l) f.joined;
          ends = f.ends;
          ends_more = f.ends_more;
        }

pub word-split : (b : ℕ) (x y : List ℕ) → MayCut (mode_after in_word x) y → word (b ∷ (x ++ y)) ≡ word (b ∷ x)
word-split b x y h =
    let f = front_of x y h in
    ap (λ l. word (b ∷ (l ++ y))) f.joined ∙ ap (λ l. word (b ∷ l)) (append_assoc f.front f.back y)
    ∙ word-cut (f.back ++ y) f.ends_more b f.front
    ∙ sym (word-cut f.back f.ends b f.front) ∙ ap (λ l. word (b ∷ l)) (sym f.joined)
