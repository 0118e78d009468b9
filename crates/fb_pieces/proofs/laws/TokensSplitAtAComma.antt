-- Punctuation splits after tokens that are all good.
use Rattle.std.proofs.Common.{◌≡◌, ℕ, Bool, true, false, List, [], ◌∷◌, ◌++◌}
use Rattle.std.proofs.Common.{refl, sym, ap, ap₂, ◌∙◌, subst}
use Rattle.std.specs.Prelude.{⊤}
use Rattle.std.proofs.lemmas.Bool.{false≢true}
use Rattle.json.specs.Token.{Token, begin_object, end_object, begin_array, end_array, key, string, number, boolean}
use Rattle.json.specs.Token.{null, bad}
use Rattle.json.specs.Lex.{Lexeme, token, comma, colon, Place, fresh, after_value, after_comma, after_key, begins_colon}
use Rattle.json.specs.Lex.{may_begin, may_close, if_allowed, place_token, punctuate}
use Rattle.json.specs.Print.{ends}
use Rattle.fb_pieces.specs.TokensSplit.{AreGood, ends_value_after, opens, AreValues}

abbrev pub next_place : Token → Bool → Place
next_place begin_object b = fresh
next_place end_object b = after_value
next_place begin_array b = fresh
next_place end_array b = after_value
next_place (key s) b = after_value
next_place (string s) true = after_key
next_place (string s) false = after_value
next_place (number s) b = after_value
next_place (boolean v) b = after_value
next_place null b = after_value
next_place bad b = after_value

abbrev pub place_after : Place → List Lexeme → Place
place_after p [] = p
place_after p (token t ∷ ls) = place_after (next_place t (begins_colon ls)) ls
place_after p (comma ∷ ls) = place_after after_comma ls
place_after p (colon ∷ ls) = place_after fresh ls

pub begins_colon-append : (ls ms : List Lexeme) → begins_colon ms ≡ false → begins_colon (ls ++ ms) ≡ begins_colon ls
begins_colon-append [] ms h = h
begins_colon-append (token t ∷ ls) ms h = refl
begins_colon-append (comma ∷ ls) ms h = refl
begins_colon-append (colon ∷ ls) ms h = refl

allowed_cut : (b : Bool) (t : Token) (k l : Place → List Token) (n : Place) (tail : List Token)
    → AreGood (if_allowed b t k n) → (AreGood (k n) → l n ≡ k n ++ tail)
    → if_allowed b t l n ≡ if_allowed b t k n ++ tail
allowed_cut true t k l n tail good ih = ap (λ ts. t ∷ ts) (ih good.1)
allowed_cut false t k l n tail good ih = absurd (false≢true good.0)

token_cut : (p : Place) (t : Token) (b : Bool) (k l : Place → List Token) (tail : List Token)
    → AreGood (place_token p t b k) → (AreGood (k (next_place t b)) → l (next_place t b) ≡ k (next_place t b) ++ tail)
    → place_token p t b l ≡ place_token p t b k ++ tail
token_cut p begin_object b k l tail good ih = allowed_cut (may_begin p) begin_object k l fresh tail good ih
token_cut p end_object b k l tail good ih = allowed_cut (may_close p) end_object k l after_value tail good ih
token_cut p begin_array b k l tail good ih = allowed_cut (may_begin p) begin_array k l fresh tail good ih
token_cut p end_array b k l tail good ih = allowed_cut (may_close p) end_array k l after_value tail good ih
token_cut p (key s) b k l tail good ih = absurd (false≢true good.0)
token_cut p (string s) true k l tail good ih = allowed_cut (may_begin p) (key s) k l after_key tail good ih
token_cut p (string s) false k l tail good ih = allowed_cut (may_begin p) (string s) k l after_value tail good ih
token_cut p (number s) b k l tail good ih = allowed_cut (may_begin p) (number s) k l after_value tail good ih
token_cut p (boolean v) b k l tail good ih = allowed_cut (may_begin p) (boolean v) k l after_value tail good ih
token_cut p null b k l tail good ih = allowed_cut (may_begin p) null k l after_value tail good ih
token_cut p bad b k l tail good ih = absurd (false≢true good.0)

pub punctuate-cut : (ls ms : List Lexeme) (p : Place) → AreGood (punctuate p ls) → begins_colon ms ≡ false
    → punctuate p (ls ++ ms) ≡ punctuate p ls ++ punctuate (place_after p ls) ms
unfolding punctuate
punctuate-cut [] ms fresh good h = refl
punctuate-cut [] ms after_value good h = refl
punctuate-cut [] ms after_comma good h = absurd (false≢true good.0)
punctuate-cut [] ms after_key good h = absurd (false≢true good.0)
punctuate-cut (token t ∷ ls) ms p good h =
    ap (λ b. place_token p t b (λ n. punctuate n (ls ++ ms))) (begins_colon-append ls ms h)
    ∙ token_cut p t (begins_colon ls) (λ n. punctuate n ls) (λ n. punctuate n (ls ++ ms)) _ good
    (λ g. punctuate-cut ls ms (next_place t (begins_colon ls)) g h)
punctuate-cut (comma ∷ ls) ms fresh good h = absurd (false≢true good.0)
punctuate-cut (comma ∷ ls) ms after_value good h = punctuate-cut ls ms after_comma good h
punctuate-cut (comma ∷ ls) ms after_comma good h = absurd (false≢true good.0)
punctuate-cut (comma ∷ ls) ms after_key good h = absurd (false≢true good.0)
punctuate-cut (colon ∷ ls) ms fresh good h = absurd (false≢true good.0)
punctuate-cut (colon ∷ ls) ms after_value good h = absurd (false≢true good.0)
punctuate-cut (colon ∷ ls) ms after_comma good h = absurd (false≢true good.0)
punctuate-cut (colon ∷ ls) ms after_key good h = punctuate-cut ls ms fresh good h

-- ---- tokens that end a value end at that place

abbrev pub Start : Place → Bool → Type 0
Start fresh c = c ≡ false
Start after_value c = ⊤
Start after_comma c = ⊤
Start after_key c = c ≡ false

allowed_end : (b : Bool) (t : Token) (k : Place → List Token) (n : Place) (c : Bool) (P : Type 0)
    → AreGood (if_allowed b t k n) → ends_value_after c (if_allowed b t k n) ≡ true
    → (AreGood (k n) → ends_value_after (ends t) (k n) ≡ true → P) → P
allowed_end true t k n c P good e f = f good.1 e
allowed_end false t k n c P good e f = absurd (false≢true good.0)

token_end : (p : Place) (t : Token) (b : Bool) (k : Place → List Token) (c : Bool) (P : Place → Type 0)
    → AreGood (place_token p t b k) → ends_value_after c (place_token p t b k) ≡ true
    → ((n : Place) (e : Bool) → Start n e → AreGood (k n) → ends_value_after e (k n) ≡ true → P n) → P (next_place t b)
token_end p begin_object b k c P good e f =
    allowed_end (may_begin p) begin_object k fresh c (P fresh) good e (f fresh false refl)
token_end p end_object b k c P good e f =
    allowed_end (may_close p) end_object k after_value c (P after_value) good e (f after_value true tt)
token_end p begin_array b k c P good e f =
    allowed_end (may_begin p) begin_array k fresh c (P fresh) good e (f fresh false refl)
token_end p end_array b k c P good e f =
    allowed_end (may_close p) end_array k after_value c (P after_value) good e (f after_value true tt)
token_end p (key s) b k c P good e f = absurd (false≢true good.0)
token_end p (string s) true k c P good e f =
    allowed_end (may_begin p) (key s) k after_key c (P after_key) good e (f after_key false refl)
token_end p (string s) false k c P good e f =
    allowed_end (may_begin p) (string s) k after_value c (P after_value) good e (f after_value true tt)
token_end p (number s) b k c P good e f =
    allowed_end (may_begin p) (number s) k after_value c (P after_value) good e (f after_value true tt)
token_end p (boolean v) b k c P good e f =
    allowed_end (may_begin p) (boolean v) k after_value c (P after_value) good e (f after_value true tt)
token_end p null b k c P good e f =
    allowed_end (may_begin p) null k after_value c (P after_value) good e (f after_value true tt)
token_end p bad b k c P good e f = absurd (false≢true good.0)

pub ends_there : (ls : List Lexeme) (p : Place) (c : Bool) → Start p c → AreGood (punctuate p ls)
    → ends_value_after c (punctuate p ls) ≡ true → place_after p ls ≡ after_value
unfolding punctuate
ends_there [] fresh c s good e = absurd (false≢true (sym s ∙ e))
ends_there [] after_value c s good e = refl
ends_there [] after_comma c s good e = absurd (false≢true good.0)
ends_there [] after_key c s good e = absurd (false≢true good.0)
ends_there (token t ∷ ls) p c s good e =
    token_end p t (begins_colon ls) (λ n. punctuate n ls) c (λ n. place_after n ls ≡ after_value) good e
    (λ n d r g h. ends_there ls n d r g h)
ends_there (comma ∷ ls) fresh c s good e = absurd (false≢true good.0)
ends_there (comma ∷ ls) after_value c s good e = ends_there ls after_comma c tt good e
ends_there (comma ∷ ls) after_comma c s good e = absurd (false≢true good.0)
ends_there (comma ∷ ls) after_key c s good e = absurd (false≢true good.0)
ends_there (colon ∷ ls) fresh c s good e = absurd (false≢true good.0)
ends_there (colon ∷ ls) after_value c s good e = absurd (false≢true good.0)
ends_there (colon ∷ ls) after_comma c s good e = absurd (false≢true good.0)
ends_there (colon ∷ ls) after_key c s good e = ends_there ls fresh c s good e

-- ---- after a comma, where a value begins

string_either : (s : List ℕ) (b : Bool) (k : Place → List Token)
    → place_token after_comma (string s) b k ≡ place_token fresh (string s) b k
string_either s true k = refl
string_either s false k = refl

pub after_comma-fresh : (ls : List Lexeme) → opens (punctuate fresh ls) ≡ true
    → punctuate after_comma ls ≡ punctuate fresh ls
unfolding punctuate
after_comma-fresh [] h = absurd (false≢true h)
after_comma-fresh (token begin_object ∷ ls) h = refl
after_comma-fresh (token end_object ∷ ls) h = absurd (false≢true h)
after_comma-fresh (token begin_array ∷ ls) h = refl
after_comma-fresh (token end_array ∷ ls) h = absurd (false≢true h)
after_comma-fresh (token (key s) ∷ ls) h = refl
after_comma-fresh (token (string s) ∷ ls) h = string_either s (begins_colon ls) (λ n. punctuate n ls)
after_comma-fresh (token (number s) ∷ ls) h = refl
after_comma-fresh (token (boolean v) ∷ ls) h = refl
after_comma-fresh (token null ∷ ls) h = refl
after_comma-fresh (token bad ∷ ls) h = refl
after_comma-fresh (comma ∷ ls) h = refl
after_comma-fresh (colon ∷ ls) h = refl

-- ---- a comma between two runs of values

-- what follows a run of values
pub values-then : (p : Place) (ls ms : List Lexeme) (ts : List Token) → may_begin p ≡ true → AreValues ts
    → punctuate fresh ls ≡ ts → begins_colon ms ≡ false → punctuate p (ls ++ ms) ≡ ts ++ punctuate after_value ms
values-then fresh ls ms ts may v e h =
    let good = subst AreGood (sym e) v.good in
    punctuate-cut ls ms fresh good h
    ∙ ap₂ (λ us q. us ++ punctuate q ms) e
    (ends_there ls fresh false refl good (ap (ends_value_after false) e ∙ v.last))
values-then after_value ls ms ts may v e h = absurd (false≢true may)
values-then after_comma ls ms ts may v e h =
    let f = after_comma-fresh ls (ap opens e ∙ v.first) ∙ e in
    let good = subst AreGood (sym f) v.good in
    punctuate-cut ls ms after_comma good h
    ∙ ap₂ (λ us q. us ++ punctuate q ms) f
    (ends_there ls after_comma false tt good (ap (ends_value_after false) f ∙ v.last))
values-then after_key ls ms ts may v e h = absurd (false≢true may)

pub punctuate-comma : (ls ms : List Lexeme) → AreValues (punctuate fresh ls) → AreValues (punctuate fresh ms)
    → punctuate fresh (ls ++ comma ∷ ms) ≡ punctuate fresh ls ++ punctuate fresh ms
unfolding punctuate
punctuate-comma ls ms v w =
    values-then fresh ls (comma ∷ ms) _ refl v refl refl
    ∙ ap (λ us. punctuate fresh ls ++ us) (after_comma-fresh ms w.first)
