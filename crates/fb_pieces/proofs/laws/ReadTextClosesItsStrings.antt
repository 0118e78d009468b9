-- A text that is read closes its strings.
use Rattle.std.proofs.Common.{◌≡◌, ℕ, Bool, true, false, cond, ◌&&◌, ◌==◌, nat_lt, List, [], ◌∷◌, ◌++◌, Option, Some}
use Rattle.std.proofs.Common.{None, is_some, option_and_then, refl, sym, subst}
use Rattle.std.specs.Prelude.{⊤}
use Rattle.std.specs.Char.{is_digit, encode_utf8}
use Rattle.std.proofs.lemmas.Bool.{true≢false, false≢true, eqb-true, and_parts}
use Rattle.json.specs.Token.{Token, begin_object, end_object, begin_array, end_array, key, string, number, boolean}
use Rattle.json.specs.Token.{null, bad}
use Rattle.json.specs.Text.{code_unit, short_escape, is_high_surrogate, is_low_surrogate, surrogate_pair, Within, plain}
use Rattle.json.specs.Text.{after_backslash, after_u, after_high, prepend, content}
use Rattle.json.specs.Word.{is_operator, is_space}
use Rattle.json.specs.Lex.{Lexeme, token, comma, colon, Class, quote, backslash, operator, space, other, class}
use Rattle.json.specs.Lex.{operator_lexeme, string_token, Mode, between, in_word, in_string, in_escape, lex_byte, lex}
use Rattle.json.specs.Lex.{tokens, Place, fresh, after_value, after_comma, after_key, begins_colon, may_begin}
use Rattle.json.specs.Lex.{may_close, if_allowed, place_token, punctuate}
use Rattle.json.specs.Align.{is_good}
use Rattle.serde_json.specs.Data.{Data}
use Rattle.fb_pieces.specs.Modes.{next_mode, mode_after, IsOutside, EndsOutside}
use Rattle.fb_pieces.specs.TokensSplit.{AreGood}
use Rattle.fb_pieces.specs.Reads.{read_at}
use Rattle.fb_pieces.specs.Texts.{array_text, object_text}
use Rattle.fb_pieces.proofs.laws.StringContentEndsAtItsQuote.{mode, is_found, not_this, hex}
use Rattle.fb_pieces.proofs.laws.TokensOfAValue.{value_good}
use Rattle.fb_pieces.proofs.laws.ReadTextHasTheTokensOfAValue.{value_of}

-- ---- lexemes whose tokens are good

abbrev AllGood : List Lexeme → Type 0
AllGood [] = ⊤
AllGood (token t ∷ ls) = (is_good t ≡ true) × AllGood ls
AllGood (comma ∷ ls) = AllGood ls
AllGood (colon ∷ ls) = AllGood ls

allowed_lexeme : (b : Bool) (t : Token) (k : Place → List Token) (n : Place) (P : Type 0) → AreGood (if_allowed b t k n)
    → (AreGood (k n) → P) → (is_good t ≡ true) × P
allowed_lexeme true t k n P good f = (good.0, f good.1)
allowed_lexeme false t k n P good f = absurd (false≢true good.0)

token_lexeme : (p : Place) (t : Token) (b : Bool) (k : Place → List Token) (P : Type 0) → AreGood (place_token p t b k)
    → ((n : Place) → AreGood (k n) → P) → (is_good t ≡ true) × P
token_lexeme p begin_object b k P good f = allowed_lexeme (may_begin p) begin_object k fresh P good (f fresh)
token_lexeme p end_object b k P good f = allowed_lexeme (may_close p) end_object k after_value P good (f after_value)
token_lexeme p begin_array b k P good f = allowed_lexeme (may_begin p) begin_array k fresh P good (f fresh)
token_lexeme p end_array b k P good f = allowed_lexeme (may_close p) end_array k after_value P good (f after_value)
token_lexeme p (key s) b k P good f = absurd (false≢true good.0)
token_lexeme p (string s) true k P good f = allowed_lexeme (may_begin p) (key s) k after_key P good (f after_key)
token_lexeme p (string s) false k P good f =
    allowed_lexeme (may_begin p) (string s) k after_value P good (f after_value)
token_lexeme p (number s) b k P good f = allowed_lexeme (may_begin p) (number s) k after_value P good (f after_value)
token_lexeme p (boolean v) b k P good f = allowed_lexeme (may_begin p) (boolean v) k after_value P good (f after_value)
token_lexeme p null b k P good f = allowed_lexeme (may_begin p) null k after_value P good (f after_value)
token_lexeme p bad b k P good f = absurd (false≢true good.0)

good_lexemes : (ls : List Lexeme) (p : Place) → AreGood (punctuate p ls) → AllGood ls
unfolding punctuate
good_lexemes [] p good = tt
good_lexemes (token t ∷ ls) p good =
    token_lexeme p t (begins_colon ls) (λ n. punctuate n ls) (AllGood ls) good (λ n g. good_lexemes ls n g)
good_lexemes (comma ∷ ls) fresh good = absurd (false≢true good.0)
good_lexemes (comma ∷ ls) after_value good = good_lexemes ls after_comma good
good_lexemes (comma ∷ ls) after_comma good = absurd (false≢true good.0)
good_lexemes (comma ∷ ls) after_key good = absurd (false≢true good.0)
good_lexemes (colon ∷ ls) fresh good = absurd (false≢true good.0)
good_lexemes (colon ∷ ls) after_value good = absurd (false≢true good.0)
good_lexemes (colon ∷ ls) after_comma good = absurd (false≢true good.0)
good_lexemes (colon ∷ ls) after_key good = good_lexemes ls fresh good

-- ---- a string with a content closes

-- where the lexemes are good, the text closes
abbrev Closes : Mode → List ℕ → Type 0
Closes m xs = AllGood (lex m xs) → IsOutside (mode_after m xs)

closes_plain : (x : ℕ) (xs : List ℕ) → (x == 34) ≡ false → (x == 92) ≡ false → Closes in_string xs
    → Closes in_string (x ∷ xs)
unfolding lex mode_after
closes_plain x xs q b h = go (is_operator x) (is_space x) (x == 34) (x == 92) q b
  where
    go : (o s p r : Bool) → p ≡ false → r ≡ false
        → AllGood
        (lex_byte in_string (cond p quote (cond r backslash (cond o operator (cond s space other)))) x xs
        (λ n. lex n xs))
        → IsOutside
        (mode_after (next_mode in_string (cond p quote (cond r backslash (cond o operator (cond s space other))))) xs)
    go o s true r e f = absurd (true≢false e)
    go o s false true e f = absurd (true≢false f)
    go true s false false e f = h
    go false true false false e f = h
    go false false false false e f = h

closes_quote : (x : ℕ) (xs : List ℕ) → (x == 34) ≡ true → Closes between xs → Closes in_string (x ∷ xs)
unfolding lex mode_after
closes_quote x xs q h = rw (eqb-true x 34 q) h

closes_backslash : (x : ℕ) (xs : List ℕ) → (x == 92) ≡ true → Closes in_escape xs → Closes in_string (x ∷ xs)
unfolding lex mode_after
closes_backslash x xs q h = rw (eqb-true x 92 q) h

closes_escape : (x : ℕ) (xs : List ℕ) → Closes in_string xs → Closes in_escape (x ∷ xs)
unfolding lex mode_after
closes_escape x xs h = h

closes_hex : (x : ℕ) (xs : List ℕ) → is_digit x 16 ≡ true → Closes in_string xs → Closes in_string (x ∷ xs)
closes_hex x xs d h =
    closes_plain x xs (not_this 34 x (x == 34) (eqb-true x 34) refl d)
    (not_this 92 x (x == 92) (eqb-true x 92) refl d) h

closes_unit : (a b c d : ℕ) (xs : List ℕ) → is_found (code_unit a b c d) ≡ true → Closes in_string xs
    → Closes in_string (a ∷ b ∷ c ∷ d ∷ xs)
closes_unit a b c d xs f h =
    let u = hex a b c d f in
    closes_hex a (b ∷ c ∷ d ∷ xs) u.first
    (closes_hex b (c ∷ d ∷ xs) u.second (closes_hex c (d ∷ xs) u.third (closes_hex d xs u.fourth h)))

by_some : (b : Bool) (x y : Option (List ℕ)) (P : Type 0) → is_some (cond b x y) ≡ true
    → (b ≡ true → is_some x ≡ true → P) → (b ≡ false → is_some y ≡ true → P) → P
by_some true x y P h f g = f refl h
by_some false x y P h f g = g refl h

then_some : (o : Option ℕ) (f : ℕ → Option (List ℕ)) (P : Type 0) → is_some (option_and_then f o) ≡ true
    → (is_found o ≡ true → (u : ℕ) → is_some (f u) ≡ true → P) → P
then_some None f P h g = absurd (false≢true h)
then_some (Some u) f P h g = g refl u h

rest_some : (a : List ℕ) (r : Option (List ℕ)) → is_some (prepend a r) ≡ true → is_some r ≡ true
rest_some a None h = h
rest_some a (Some s) h = refl

never : {P : Type 0} → false ≡ true → P
never h = absurd (false≢true h)

found_string : (o : Option (List ℕ)) → is_good (string_token o) ≡ true → is_some o ≡ true
found_string None h = h
found_string (Some s) h = refl

operator_rest : (x : ℕ) (ls : List Lexeme) → AllGood (operator_lexeme x ∷ ls) → AllGood ls
operator_rest x ls g = go (x == 123) (x == 125) (x == 91) (x == 93) (x == 44) g
  where
    go : (a b c d e : Bool)
        → AllGood
        (cond a (token begin_object)
        (cond b (token end_object) (cond c (token begin_array) (cond d (token end_array) (cond e comma colon)))) ∷ ls)
        → AllGood ls
    go true b c d e g = g.1
    go false true c d e g = g.1
    go false false true d e g = g.1
    go false false false true e g = g.1
    go false false false false true g = g
    go false false false false false g = g

closes_byte : (m : Mode) (c : Class) (x : ℕ) (xs : List ℕ) → IsOutside m
    → (is_some (content plain xs) ≡ true → Closes in_string xs) → Closes between xs → Closes in_word xs
    → AllGood (lex_byte m c x xs (λ n. lex n xs)) → IsOutside (mode_after (next_mode m c) xs)
closes_byte between quote x xs out s b w g = s (found_string (content plain xs) g.0) g.1
closes_byte between backslash x xs out s b w g = never g.0
closes_byte between operator x xs out s b w g = b (operator_rest x (lex between xs) g)
closes_byte between space x xs out s b w g = b g
closes_byte between other x xs out s b w g = w g.1
closes_byte in_word quote x xs out s b w g = w g
closes_byte in_word backslash x xs out s b w g = w g
closes_byte in_word operator x xs out s b w g = b (operator_rest x (lex between xs) g)
closes_byte in_word space x xs out s b w g = b g
closes_byte in_word other x xs out s b w g = w g
closes_byte in_string c x xs out s b w g = absurd out
closes_byte in_escape c x xs out s b w g = absurd out

mutual
  unfolding content lex mode_after

  outside_closes : (m : Mode) (xs : List ℕ) → IsOutside m → Closes m xs
  outside_closes m [] out g = out
  outside_closes m (x ∷ xs) out g =
      closes_byte m (class x) x xs out (string_closes plain xs) (outside_closes between xs tt)
      (outside_closes in_word xs tt) g

  string_closes : (w : Within) (xs : List ℕ) → is_some (content w xs) ≡ true → Closes (mode w) xs
  string_closes plain [] h = never h
  string_closes plain (x ∷ xs) h =
      by_some (x == 34) _ _ (Closes in_string (x ∷ xs)) h (λ q k. closes_quote x xs q (outside_closes between xs tt))
      (λ q k. by_some (x == 92) _ _ (Closes in_string (x ∷ xs)) k
      (λ b l. closes_backslash x xs b (string_closes after_backslash xs l))
      (λ b l. by_some (nat_lt x 32) _ _ (Closes in_string (x ∷ xs)) l (λ t n. never n)
      (λ t n. closes_plain x xs q b (string_closes plain xs (rest_some (x ∷ []) _ n)))))
  string_closes after_backslash [] h = never h
  string_closes after_backslash (x ∷ xs) h =
      by_some (x == 117) _ _ (Closes in_escape (x ∷ xs)) h (λ u k. closes_escape x xs (string_closes after_u xs k))
      (λ u k. then_some (short_escape x) _ (Closes in_escape (x ∷ xs)) k
      (λ f c l. closes_escape x xs (string_closes plain xs (rest_some (c ∷ []) _ l))))
  string_closes after_u [] h = never h
  string_closes after_u (a ∷ []) h = never h
  string_closes after_u (a ∷ b ∷ []) h = never h
  string_closes after_u (a ∷ b ∷ c ∷ []) h = never h
  string_closes after_u (a ∷ b ∷ c ∷ d ∷ xs) h =
      then_some (code_unit a b c d) _ (Closes in_string (a ∷ b ∷ c ∷ d ∷ xs)) h (λ f u k. closes_unit a b c d xs f
      (by_some (is_high_surrogate u) _ _ (Closes in_string xs) k (λ t l. string_closes (after_high u) xs l)
      (λ t l. by_some (is_low_surrogate u) _ _ (Closes in_string xs) l (λ z n. never n)
      (λ z n. string_closes plain xs (rest_some (encode_utf8 u) _ n)))))
  string_closes (after_high h) [] e = never e
  string_closes (after_high h) (s ∷ []) e = never e
  string_closes (after_high h) (s ∷ u ∷ []) e = never e
  string_closes (after_high h) (s ∷ u ∷ a ∷ []) e = never e
  string_closes (after_high h) (s ∷ u ∷ a ∷ b ∷ []) e = never e
  string_closes (after_high h) (s ∷ u ∷ a ∷ b ∷ c ∷ []) e = never e
  string_closes (after_high h) (s ∷ u ∷ a ∷ b ∷ c ∷ d ∷ xs) e =
      by_some ((s == 92) && (u == 117)) _ _ (Closes in_string (s ∷ u ∷ a ∷ b ∷ c ∷ d ∷ xs)) e
      (λ t k. then_some (code_unit a b c d) _ (Closes in_string (s ∷ u ∷ a ∷ b ∷ c ∷ d ∷ xs)) k (λ f l n.
      closes_backslash s (u ∷ a ∷ b ∷ c ∷ d ∷ xs) (and_parts (s == 92) (u == 117) t).0
      (closes_escape u (a ∷ b ∷ c ∷ d ∷ xs) (closes_unit a b c d xs f
      (by_some (is_low_surrogate l) _ _ (Closes in_string xs) n
      (λ y z. string_closes plain xs (rest_some (encode_utf8 (surrogate_pair h l)) _ z)) (λ y z. never z))))))
      (λ t k. never k)

-- a text whose tokens are good ends outside strings
pub tokens-closed : (text : List ℕ) → AreGood (tokens text) → EndsOutside text
tokens-closed text good = outside_closes between text tt (good_lexemes (lex between text) fresh good)

pub text-closed : (levels : ℕ) (text : List ℕ) (d : Data) → read_at levels text ≡ Some d → EndsOutside text
text-closed levels text d e = let v = value_of levels text d e in
    tokens-closed text (subst AreGood (sym v.spells.spelled) (value_good v.was))

mode_after-append : (m : Mode) (x y : List ℕ) → mode_after m (x ++ y) ≡ mode_after (mode_after m x) y
unfolding mode_after
mode_after-append m [] y = refl
mode_after-append m (b ∷ x) y = mode_after-append (next_mode m (class b)) x y

before_bracket : (m : Mode) → IsOutside (next_mode m operator) → IsOutside m
before_bracket between h = tt
before_bracket in_word h = tt
before_bracket in_string h = h
before_bracket in_escape h = h

pub run-closed : (levels : ℕ) (run : List ℕ) (d : Data) → read_at levels (array_text run []) ≡ Some d → EndsOutside run
unfolding mode_after
run-closed levels run d e =
    before_bracket (mode_after between run)
    (subst IsOutside (mode_after-append between run (93 ∷ [])) (text-closed levels (array_text run []) d e))

pub member-run-closed : (levels : ℕ) (run : List ℕ) (d : Data) → read_at levels (object_text run []) ≡ Some d
    → EndsOutside run
unfolding mode_after
member-run-closed levels run d e =
    before_bracket (mode_after between run)
    (subst IsOutside (mode_after-append between run (125 ∷ [])) (text-closed levels (object_text run []) d e))
