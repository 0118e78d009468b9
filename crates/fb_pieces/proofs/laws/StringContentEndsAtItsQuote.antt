-- A string that closes in xs has the same content whatever follows xs.
use Rattle.std.proofs.Common.{◌≡◌, ℕ, ◌<◌, Bool, true, false, cond, ◌&&◌, ◌==◌, nat_lt, List, [], ◌∷◌, ◌++◌, length}
use Rattle.std.proofs.Common.{Option, Some, None, option_and_then, refl, sym, ap, ◌∙◌, subst, arith}
use Rattle.std.proofs.lemmas.Bool.{false≢true, eqb-true, and_parts}
use Rattle.std.specs.Char.{is_digit, encode_utf8}
use Rattle.json.specs.Text.{code_unit, short_escape, is_high_surrogate, is_low_surrogate, surrogate_pair, Within, plain}
use Rattle.json.specs.Text.{after_backslash, after_u, after_high, prepend, content}
use Rattle.json.specs.Word.{is_operator, is_space}
use Rattle.json.specs.Lex.{quote, backslash, operator, space, other, Mode, in_string, in_escape}
use Rattle.fb_pieces.specs.Modes.{next_mode, mode_after, IsOutside}

abbrev pub mode : Within → Mode
mode plain = in_string
mode after_backslash = in_escape
mode after_u = in_string
mode (after_high h) = in_string

abbrev pub is_found : Option ℕ → Bool
is_found None = false
is_found (Some u) = true

all_hex : (b : Bool) (u : ℕ) → is_found (cond b (Some u) None) ≡ true → b ≡ true
all_hex true u h = refl
all_hex false u h = h

same_cond : {A : Type 0} (b : Bool) (x y p q : A) → (b ≡ true → x ≡ p) → (b ≡ false → y ≡ q) → cond b x y ≡ cond b p q
same_cond true x y p q f g = f refl
same_cond false x y p q f g = g refl

same_then : (o : Option ℕ) (f g : ℕ → Option (List ℕ)) → (is_found o ≡ true → (u : ℕ) → f u ≡ g u)
    → option_and_then f o ≡ option_and_then g o
same_then None f g h = refl
same_then (Some u) f g h = h refl u

none_then : (o : Option ℕ) (f : ℕ → Option (List ℕ)) → (is_found o ≡ true → ⊥) → option_and_then f o ≡ None
none_then None f h = refl
none_then (Some u) f h = absurd (h refl)

none_cond : (b : Bool) (x : Option (List ℕ)) → (b ≡ true → x ≡ None) → cond b x None ≡ None
none_cond true x h = h refl
none_cond false x h = refl

-- ---- the modes after the bytes of a string

pub passes : (o s : Bool) → next_mode in_string (cond o operator (cond s space other)) ≡ in_string
passes true s = refl
passes false true = refl
passes false false = refl

pub mode_plain : (x : ℕ) (xs : List ℕ) → (x == 34) ≡ false → (x == 92) ≡ false
    → mode_after in_string (x ∷ xs) ≡ mode_after in_string xs
unfolding mode_after
mode_plain x xs q b =
    (λ i. mode_after
    (next_mode in_string
    (cond (q i) quote (cond (b i) backslash (cond (is_operator x) operator (cond (is_space x) space other))))) xs)
    ∙ ap (λ m. mode_after m xs) (passes (is_operator x) (is_space x))

pub mode_backslash : (x : ℕ) (xs : List ℕ) → (x == 92) ≡ true → mode_after in_string (x ∷ xs) ≡ mode_after in_escape xs
unfolding mode_after
mode_backslash x xs b = ap (λ y. mode_after in_string (y ∷ xs)) (eqb-true x 92 b)

pub mode_escape : (x : ℕ) (xs : List ℕ) → mode_after in_escape (x ∷ xs) ≡ mode_after in_string xs
unfolding mode_after
mode_escape x xs = refl

pub not_this : (c x : ℕ) (t : Bool) → (t ≡ true → x ≡ c) → is_digit c 16 ≡ false → is_digit x 16 ≡ true → t ≡ false
not_this c x false e never h = refl
not_this c x true e never h = absurd (false≢true (sym never ∙ ap (λ y. is_digit y 16) (sym (e refl)) ∙ h))

mode_hex : (x : ℕ) (xs : List ℕ) → is_digit x 16 ≡ true → mode_after in_string (x ∷ xs) ≡ mode_after in_string xs
mode_hex x xs h =
    mode_plain x xs (not_this 34 x (x == 34) (eqb-true x 34) refl h) (not_this 92 x (x == 92) (eqb-true x 92) refl h)

pub record Hex (a b c d : ℕ) : Type 0 where
  pub first : is_digit a 16 ≡ true
  pub second : is_digit b 16 ≡ true
  pub third : is_digit c 16 ≡ true
  pub fourth : is_digit d 16 ≡ true

pub hex : (a b c d : ℕ) → is_found (code_unit a b c d) ≡ true → Hex a b c d
unfolding code_unit
hex a b c d h =
    let p = and_parts (is_digit a 16 && is_digit b 16 && is_digit c 16) (is_digit d 16) (all_hex _ _ h) in
    let q = and_parts (is_digit a 16 && is_digit b 16) (is_digit c 16) p.0 in
    let r = and_parts (is_digit a 16) (is_digit b 16) q.0 in
    record { first = r.0; second = r.1; third = q.1; fourth = p.1 }

mode_unit : (a b c d : ℕ) (xs : List ℕ) → is_found (code_unit a b c d) ≡ true
    → mode_after in_string (a ∷ b ∷ c ∷ d ∷ xs) ≡ mode_after in_string xs
mode_unit a b c d xs f =
    let h = hex a b c d f in
    mode_hex a (b ∷ c ∷ d ∷ xs) h.first ∙ mode_hex b (c ∷ d ∷ xs) h.second ∙ mode_hex c (d ∷ xs) h.third
    ∙ mode_hex d xs h.fourth

-- ---- fewer than four bytes, or six

inside : (m n : Mode) → m ≡ n → IsOutside m → IsOutside n
inside m n e h = subst IsOutside e h

open_still : (xs : List ℕ) → mode_after in_string xs ≡ in_string → IsOutside (mode_after in_string xs) → ⊥
open_still xs e h = inside (mode_after in_string xs) in_string e h

start : mode_after in_string [] ≡ in_string
unfolding mode_after
start = refl

-- the code unit at the front of xs, where the string closes within fewer than four bytes
short_unit : (xs y : List ℕ) → length xs < 4 → IsOutside (mode_after in_string xs) → (a b c d : ℕ) (r : List ℕ)
    → xs ++ y ≡ a ∷ b ∷ c ∷ d ∷ r → is_found (code_unit a b c d) ≡ true → ⊥
short_unit [] y l out a b c d r e f = open_still [] start out
short_unit (p ∷ []) y l out a b c d r e f =
    let h = hex a b c d f in
    let same : a ≡ p = cc in
    open_still (p ∷ []) (mode_hex p [] (ap (λ z. is_digit z 16) (sym same) ∙ h.first) ∙ start) out
short_unit (p ∷ q ∷ []) y l out a b c d r e f =
    let h = hex a b c d f in
    let same : a ≡ p = cc in
    let same2 : b ≡ q = cc in
    open_still (p ∷ q ∷ [])
    (mode_hex p (q ∷ []) (ap (λ z. is_digit z 16) (sym same) ∙ h.first)
    ∙ mode_hex q [] (ap (λ z. is_digit z 16) (sym same2) ∙ h.second) ∙ start) out
short_unit (p ∷ q ∷ s ∷ []) y l out a b c d r e f =
    let h = hex a b c d f in
    let same : a ≡ p = cc in
    let same2 : b ≡ q = cc in
    let same3 : c ≡ s = cc in
    open_still (p ∷ q ∷ s ∷ [])
    (mode_hex p (q ∷ s ∷ []) (ap (λ z. is_digit z 16) (sym same) ∙ h.first)
    ∙ mode_hex q (s ∷ []) (ap (λ z. is_digit z 16) (sym same2) ∙ h.second)
    ∙ mode_hex s [] (ap (λ z. is_digit z 16) (sym same3) ∙ h.third) ∙ start) out
short_unit (p ∷ q ∷ s ∷ t ∷ xs) y l out a b c d r e f = omega arith

-- four bytes at the front that are no code unit
no_unit : (ys : List ℕ)
    → ((a b c d : ℕ) (r : List ℕ) → ys ≡ a ∷ b ∷ c ∷ d ∷ r → is_found (code_unit a b c d) ≡ true → ⊥)
    → content after_u ys ≡ None
unfolding content
no_unit [] h = refl
no_unit (a ∷ []) h = refl
no_unit (a ∷ b ∷ []) h = refl
no_unit (a ∷ b ∷ c ∷ []) h = refl
no_unit (a ∷ b ∷ c ∷ d ∷ r) h = none_then (code_unit a b c d) _ (h a b c d r refl)

no_low : (high s u : ℕ) (ys : List ℕ)
    → ((s == 92) ≡ true → (a b c d : ℕ) (r : List ℕ) → ys ≡ a ∷ b ∷ c ∷ d ∷ r → is_found (code_unit a b c d) ≡ true → ⊥)
    → content (after_high high) (s ∷ u ∷ ys) ≡ None
unfolding content
no_low high s u [] h = refl
no_low high s u (a ∷ []) h = refl
no_low high s u (a ∷ b ∷ []) h = refl
no_low high s u (a ∷ b ∷ c ∷ []) h = refl
no_low high s u (a ∷ b ∷ c ∷ d ∷ r) h =
    none_cond ((s == 92) && (u == 117)) _
    (λ e. none_then (code_unit a b c d) _ (h (and_parts (s == 92) (u == 117) e).0 a b c d r refl))

short_u : (xs y : List ℕ) → length xs < 4 → IsOutside (mode_after in_string xs) → content after_u (xs ++ y) ≡ None
short_u xs y l out = no_unit (xs ++ y) (short_unit xs y l out)

-- a backslash leaves the string open
escape_open : (s : ℕ) → (s == 92) ≡ true → IsOutside (mode_after in_string (s ∷ [])) → ⊥
unfolding mode_after
escape_open s e out = inside (mode_after in_string (s ∷ [])) in_escape (mode_backslash s [] e) out

past_escape : (s u : ℕ) (xs : List ℕ) → (s == 92) ≡ true → mode_after in_string (s ∷ u ∷ xs) ≡ mode_after in_string xs
past_escape s u xs e = mode_backslash s (u ∷ xs) e ∙ mode_escape u xs

one_high : (high s : ℕ) (y : List ℕ) → IsOutside (mode_after in_string (s ∷ []))
    → content (after_high high) (s ∷ y) ≡ None
unfolding content
one_high high s [] out = refl
one_high high s (u ∷ y) out = no_low high s u y (λ e. absurd (escape_open s e out))

short_high : (high : ℕ) (xs y : List ℕ) → length xs < 6 → IsOutside (mode_after in_string xs)
    → content (after_high high) (xs ++ y) ≡ None
short_high high [] y l out = absurd (open_still [] start out)
short_high high (s ∷ []) y l out = one_high high s y out
short_high high (s ∷ u ∷ xs) y l out =
    no_low high s u (xs ++ y) (λ e. short_unit xs y (omega arith) (inside _ _ (past_escape s u xs e) out))

-- ---- the content

pub content-cut : (w : Within) (xs y : List ℕ) → IsOutside (mode_after (mode w) xs) → content w (xs ++ y) ≡ content w xs
unfolding content mode_after
content-cut plain [] y out = absurd out
content-cut plain (x ∷ xs) y out =
    same_cond (x == 34) _ _ _ _ (λ q. refl)
    (λ q. same_cond (x == 92) _ _ _ _
    (λ b. content-cut after_backslash xs y (inside _ _ (mode_backslash x xs b) out))
    (λ b. same_cond (nat_lt x 32) _ _ _ _ (λ l. refl)
    (λ l. ap (prepend (x ∷ [])) (content-cut plain xs y (inside _ _ (mode_plain x xs q b) out)))))
content-cut after_backslash [] y out = absurd out
content-cut after_backslash (x ∷ xs) y out =
    same_cond (x == 117) _ _ _ _ (λ u. content-cut after_u xs y out)
    (λ u. same_then (short_escape x) _ _ (λ f c. ap (prepend (c ∷ [])) (content-cut plain xs y out)))
content-cut after_u [] y out = absurd out
content-cut after_u (a ∷ []) y out = short_u (a ∷ []) y (omega arith) out
content-cut after_u (a ∷ b ∷ []) y out = short_u (a ∷ b ∷ []) y (omega arith) out
content-cut after_u (a ∷ b ∷ c ∷ []) y out = short_u (a ∷ b ∷ c ∷ []) y (omega arith) out
content-cut after_u (a ∷ b ∷ c ∷ d ∷ xs) y out =
    same_then (code_unit a b c d) _ _ (λ f u. let past = inside _ _ (mode_unit a b c d xs f) out in
    same_cond (is_high_surrogate u) _ _ _ _ (λ h. content-cut (after_high u) xs y past)
    (λ h. same_cond (is_low_surrogate u) _ _ _ _ (λ l. refl)
    (λ l. ap (prepend (encode_utf8 u)) (content-cut plain xs y past))))
content-cut (after_high h) [] y out = absurd out
content-cut (after_high h) (s ∷ []) y out = short_high h (s ∷ []) y (omega arith) out
content-cut (after_high h) (s ∷ u ∷ []) y out = short_high h (s ∷ u ∷ []) y (omega arith) out
content-cut (after_high h) (s ∷ u ∷ a ∷ []) y out = short_high h (s ∷ u ∷ a ∷ []) y (omega arith) out
content-cut (after_high h) (s ∷ u ∷ a ∷ b ∷ []) y out = short_high h (s ∷ u ∷ a ∷ b ∷ []) y (omega arith) out
content-cut (after_high h) (s ∷ u ∷ a ∷ b ∷ c ∷ []) y out = short_high h (s ∷ u ∷ a ∷ b ∷ c ∷ []) y (omega arith) out
content-cut (after_high h) (s ∷ u ∷ a ∷ b ∷ c ∷ d ∷ xs) y out =
    same_cond ((s == 92) && (u == 117)) _ _ _ _
    (λ e. same_then (code_unit a b c d) _ _
    (λ f l. let past = inside _ _
    (past_escape s u (a ∷ b ∷ c ∷ d ∷ xs) (and_parts (s == 92) (u == 117) e).0 ∙ mode_unit a b c d xs f) out in
    same_cond (is_low_surrogate l) _ _ _ _
    (λ g. ap (prepend (encode_utf8 (surrogate_pair h l))) (content-cut plain xs y past)) (λ g. refl)))
    (λ e. refl)
