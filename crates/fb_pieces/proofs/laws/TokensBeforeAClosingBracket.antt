-- The tokens before a closing bracket are those of the lexemes before it.
use Rattle.std.proofs.Common.{◌≡◌, Bool, true, false, List, [], ◌∷◌, ◌++◌}
use Rattle.std.proofs.Common.{refl, sym, ap, ◌∙◌, subst}
use Rattle.std.proofs.lemmas.Bool.{false≢true}
use Rattle.std.proofs.lemmas.List.{append_cancel_right}
use Rattle.json.specs.Token.{Token, begin_object, end_object, begin_array, end_array, key, string, number, boolean}
use Rattle.json.specs.Token.{null, bad}
use Rattle.json.specs.Lex.{Lexeme, token, comma, colon, Place, fresh, after_value, after_comma, after_key}
use Rattle.json.specs.Lex.{begins_colon, may_begin, may_close, if_allowed, place_token, punctuate}
use Rattle.fb_pieces.specs.TokensSplit.{AreGood}
use Rattle.fb_pieces.proofs.laws.TokensSplitAtAComma.{place_after, punctuate-cut, begins_colon-append}

-- a token that stands where a bracket may close
abbrev pub Closes : Token → Type 0
Closes close = (p : Place) (b : Bool) (k : Place → List Token)
    → place_token p close b k ≡ if_allowed (may_close p) close k after_value

allowed_good : (b : Bool) (t : Token) (k l : Place → List Token) (n : Place) → AreGood (if_allowed b t l n)
    → (AreGood (l n) → AreGood (k n)) → AreGood (if_allowed b t k n)
allowed_good true t k l n good ih = (good.0, ih good.1)
allowed_good false t k l n good ih = absurd (false≢true good.0)

token_good : (p : Place) (t : Token) (b : Bool) (k l : Place → List Token) → AreGood (place_token p t b l)
    → ((n : Place) → AreGood (l n) → AreGood (k n)) → AreGood (place_token p t b k)
token_good p begin_object b k l good ih = allowed_good (may_begin p) begin_object k l fresh good (ih fresh)
token_good p end_object b k l good ih = allowed_good (may_close p) end_object k l after_value good (ih after_value)
token_good p begin_array b k l good ih = allowed_good (may_begin p) begin_array k l fresh good (ih fresh)
token_good p end_array b k l good ih = allowed_good (may_close p) end_array k l after_value good (ih after_value)
token_good p (key s) b k l good ih = absurd (false≢true good.0)
token_good p (string s) true k l good ih = allowed_good (may_begin p) (key s) k l after_key good (ih after_key)
token_good p (string s) false k l good ih = allowed_good (may_begin p) (string s) k l after_value good (ih after_value)
token_good p (number s) b k l good ih = allowed_good (may_begin p) (number s) k l after_value good (ih after_value)
token_good p (boolean v) b k l good ih = allowed_good (may_begin p) (boolean v) k l after_value good (ih after_value)
token_good p null b k l good ih = allowed_good (may_begin p) null k l after_value good (ih after_value)
token_good p bad b k l good ih = absurd (false≢true good.0)

good-right : (ts us : List Token) → AreGood (ts ++ us) → AreGood us
good-right [] us g = g
good-right (t ∷ ts) us g = good-right ts us g.1

module _ (close : Token) (closes : Closes close) where
  at_close : (p : Place) → AreGood (punctuate p (token close ∷ [])) → may_close p ≡ true
  unfolding punctuate
  at_close fresh good = refl
  at_close after_value good = refl
  at_close after_comma good = absurd (false≢true (subst AreGood (closes after_comma false _) good).0)
  at_close after_key good = absurd (false≢true (subst AreGood (closes after_key false _) good).0)

  before_close : (ls : List Lexeme) (p : Place) → AreGood (punctuate p (ls ++ token close ∷ []))
      → AreGood (punctuate p ls)
  unfolding punctuate
  before_close [] fresh good = tt
  before_close [] after_value good = tt
  before_close [] after_comma good = absurd (false≢true (at_close after_comma good))
  before_close [] after_key good = absurd (false≢true (at_close after_key good))
  before_close (token t ∷ ls) p good =
      token_good p t (begins_colon ls) (λ n. punctuate n ls) (λ n. punctuate n (ls ++ token close ∷ []))
      (rw (← (begins_colon-append ls (token close ∷ []) refl)) good) (λ n g. before_close ls n g)
  before_close (comma ∷ ls) fresh good = absurd (false≢true good.0)
  before_close (comma ∷ ls) after_value good = before_close ls after_comma good
  before_close (comma ∷ ls) after_comma good = absurd (false≢true good.0)
  before_close (comma ∷ ls) after_key good = absurd (false≢true good.0)
  before_close (colon ∷ ls) fresh good = absurd (false≢true good.0)
  before_close (colon ∷ ls) after_value good = absurd (false≢true good.0)
  before_close (colon ∷ ls) after_comma good = absurd (false≢true good.0)
  before_close (colon ∷ ls) after_key good = before_close ls fresh good

  close_alone : (q : Place) → AreGood (punctuate q (token close ∷ [])) → punctuate q (token close ∷ []) ≡ close ∷ []
  unfolding punctuate
  close_alone q good =
      closes q false _ ∙ ap (λ b. if_allowed b close (λ n. punctuate n []) after_value) (at_close q good)

  pub before_bracket : (ls : List Lexeme) (ts : List Token) → AreGood (ts ++ close ∷ [])
      → punctuate fresh (ls ++ token close ∷ []) ≡ ts ++ close ∷ [] → punctuate fresh ls ≡ ts
  before_bracket ls ts good e =
      let whole = subst AreGood (sym e) good in
      let cut = punctuate-cut ls (token close ∷ []) fresh (before_close ls fresh whole) refl in
      let last = good-right (punctuate fresh ls) _ (subst AreGood cut whole) in
      append_cancel_right (punctuate fresh ls) ts (close ∷ [])
      (ap (λ us. punctuate fresh ls ++ us) (sym (close_alone (place_after fresh ls) last)) ∙ sym cut ∙ e)
