-- The lexemes of a text that ends outside strings, and of what follows it.
use Rattle.std.proofs.Common.{◌≡◌, ℕ, true, List, [], ◌∷◌, ◌++◌, refl, ap, ap₂}
use Rattle.json.specs.Token as Token
use Rattle.json.specs.Text.{plain}
use Rattle.json.specs.Word.{ends_word}
use Rattle.json.specs.Lex.{token, string_token, operator_lexeme, Class, quote, backslash, operator, space, other, class}
use Rattle.json.specs.Lex.{Mode, between, in_word, in_string, in_escape, lex_byte, lex}
use Rattle.json.proofs.Printed.Numbers.{in_word-ended}
use Rattle.fb_pieces.specs.Modes.{next_mode, mode_after, IsOutside}
use Rattle.fb_pieces.specs.LexemesSplit.{MayCut}
use Rattle.fb_pieces.proofs.laws.StringContentEndsAtItsQuote.{content-cut}
use Rattle.fb_pieces.proofs.laws.WordEndsAtADelimiter.{word-split}

outside : (m : Mode) (y : List ℕ) → MayCut m y → IsOutside m
outside between y h = tt
outside in_word y h = tt
outside in_string y h = h
outside in_escape y h = h

step : (m : Mode) (c : Class) (b : ℕ) (x y : List ℕ) → MayCut (mode_after (next_mode m c) x) y
    → ((n : Mode) → MayCut (mode_after n x) y → lex n (x ++ y) ≡ lex n x ++ lex between y)
    → lex_byte m c b (x ++ y) (λ n. lex n (x ++ y)) ≡ lex_byte m c b x (λ n. lex n x) ++ lex between y
step between quote b x y h ih =
    ap₂ (λ o l. token (string_token o) ∷ l) (content-cut plain x y (outside _ y h)) (ih in_string h)
step between backslash b x y h ih = ap (λ l. token Token.bad ∷ l) (ih in_word h)
step between operator b x y h ih = ap (λ l. operator_lexeme b ∷ l) (ih between h)
step between space b x y h ih = ih between h
step between other b x y h ih = ap₂ (λ w l. token w ∷ l) (word-split b x y h) (ih in_word h)
step in_word quote b x y h ih = ih in_word h
step in_word backslash b x y h ih = ih in_word h
step in_word operator b x y h ih = ap (λ l. operator_lexeme b ∷ l) (ih between h)
step in_word space b x y h ih = ih between h
step in_word other b x y h ih = ih in_word h
step in_string quote b x y h ih = ih between h
step in_string backslash b x y h ih = ih in_escape h
step in_string operator b x y h ih = ih in_string h
step in_string space b x y h ih = ih in_string h
step in_string other b x y h ih = ih in_string h
step in_escape c b x y h ih = ih in_string h

pub lex-cut : (x y : List ℕ) (m : Mode) → MayCut (mode_after m x) y → lex m (x ++ y) ≡ lex m x ++ lex between y
unfolding lex mode_after
lex-cut [] y between h = refl
lex-cut [] y in_word h = in_word-ended y h
lex-cut [] y in_string h = absurd h
lex-cut [] y in_escape h = absurd h
lex-cut (b ∷ x) y m h = step m (class b) b x y h (λ n k. lex-cut x y n k)

-- a text that ends outside strings may be cut off before what ends a word
pub may_cut : (m : Mode) (next : List ℕ) → IsOutside m → ends_word next ≡ true → MayCut m next
may_cut between next h e = tt
may_cut in_word next h e = e
may_cut in_string next h e = h
may_cut in_escape next h e = h
