-- A text has at most one token more than bytes: the last may say that it ends too early.
use Rattle.std.proofs.Common.{ℕ, suc, ◌≤◌, Bool, true, false, List, [], ◌∷◌, length, arith}
use Rattle.json.specs.Token.{Token, begin_object, end_object, begin_array, end_array, key, string, number, boolean}
use Rattle.json.specs.Token.{null, bad}
use Rattle.json.specs.Lex.{Lexeme, token, comma, colon, Class, quote, backslash, operator, space, other, class, Mode}
use Rattle.json.specs.Lex.{between, in_word, in_string, in_escape, lex_byte, lex, Place, fresh, after_value, after_comma}
use Rattle.json.specs.Lex.{after_key, begins_colon, may_begin, may_close, if_allowed, place_token, punctuate, tokens}

-- a byte adds a lexeme at most
module _ (n x : ℕ) (xs : List ℕ) (k : Mode → List Lexeme) (most : (m : Mode) → length (k m) ≤ n) where
  byte : (m : Mode) (c : Class) → length (lex_byte m c x xs k) ≤ suc n
  byte between quote = omega (arith, most in_string)
  byte between backslash = omega (arith, most in_word)
  byte between operator = omega (arith, most between)
  byte between space = omega (arith, most between)
  byte between other = omega (arith, most in_word)
  byte in_word quote = omega (arith, most in_word)
  byte in_word backslash = omega (arith, most in_word)
  byte in_word operator = omega (arith, most between)
  byte in_word space = omega (arith, most between)
  byte in_word other = omega (arith, most in_word)
  byte in_string quote = omega (arith, most between)
  byte in_string backslash = omega (arith, most in_escape)
  byte in_string operator = omega (arith, most in_string)
  byte in_string space = omega (arith, most in_string)
  byte in_string other = omega (arith, most in_string)
  byte in_escape c = omega (arith, most in_string)

lexemes : (m : Mode) (text : List ℕ) → length (lex m text) ≤ length text
unfolding lex
lexemes m [] = omega arith
lexemes m (x ∷ xs) = byte (length xs) x xs (λ next. lex next xs) (λ next. lexemes next xs) m (class x)

-- and a lexeme a token at most
module _ (n : ℕ) (k : Place → List Token) (most : (p : Place) → length (k p) ≤ n) where
  allowed : (b : Bool) (t : Token) (next : Place) → length (if_allowed b t k next) ≤ suc n
  allowed true t next = omega (arith, most next)
  allowed false t next = omega arith

  placed : (p : Place) (t : Token) (before_colon : Bool) → length (place_token p t before_colon k) ≤ suc n
  placed p begin_object b = allowed (may_begin p) begin_object fresh
  placed p end_object b = allowed (may_close p) end_object after_value
  placed p begin_array b = allowed (may_begin p) begin_array fresh
  placed p end_array b = allowed (may_close p) end_array after_value
  placed p (key s) b = omega arith
  placed p (string s) true = allowed (may_begin p) (key s) after_key
  placed p (string s) false = allowed (may_begin p) (string s) after_value
  placed p (number s) b = allowed (may_begin p) (number s) after_value
  placed p (boolean v) b = allowed (may_begin p) (boolean v) after_value
  placed p null b = allowed (may_begin p) null after_value
  placed p bad b = omega arith

punctuated : (p : Place) (ls : List Lexeme) → length (punctuate p ls) ≤ suc (length ls)
unfolding punctuate
punctuated fresh [] = omega arith
punctuated after_value [] = omega arith
punctuated after_comma [] = omega arith
punctuated after_key [] = omega arith
punctuated fresh (token t ∷ ls) =
    placed _ (λ next. punctuate next ls) (λ next. punctuated next ls) fresh t (begins_colon ls)
punctuated after_value (token t ∷ ls) =
    placed _ (λ next. punctuate next ls) (λ next. punctuated next ls) after_value t (begins_colon ls)
punctuated after_comma (token t ∷ ls) =
    placed _ (λ next. punctuate next ls) (λ next. punctuated next ls) after_comma t (begins_colon ls)
punctuated after_key (token t ∷ ls) =
    placed _ (λ next. punctuate next ls) (λ next. punctuated next ls) after_key t (begins_colon ls)
punctuated fresh (comma ∷ ls) = omega arith
punctuated after_value (comma ∷ ls) = omega (arith, punctuated after_comma ls)
punctuated after_comma (comma ∷ ls) = omega arith
punctuated after_key (comma ∷ ls) = omega arith
punctuated fresh (colon ∷ ls) = omega arith
punctuated after_value (colon ∷ ls) = omega arith
punctuated after_comma (colon ∷ ls) = omega arith
punctuated after_key (colon ∷ ls) = omega (arith, punctuated fresh ls)

pub few_tokens : (text : List ℕ) → length (tokens text) ≤ suc (length text)
few_tokens text = omega (arith, punctuated fresh (lex between text), lexemes between text)
