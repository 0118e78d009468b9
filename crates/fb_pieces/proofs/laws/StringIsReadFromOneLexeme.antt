-- A text that is read as a string has one lexeme.
use Rattle.std.proofs.Common.{◌≡◌, ℕ, Bool, true, false, List, [], ◌∷◌, Option, Some, None, option_map, refl, ◌∙◌}
use Rattle.json.specs.Token as tok
use Rattle.json.specs.Token.{Token}
use Rattle.json.specs.Json as json
use Rattle.json.specs.Tree.{json_tokens}
use Rattle.json.specs.Lex.{Lexeme, token, comma, colon, between, lex, Place, fresh, after_value, after_comma, after_key}
use Rattle.json.specs.Lex.{begins_colon, may_begin, may_close, if_allowed, place_token, punctuate}
use Rattle.serde_json.specs.Data as Data
use Rattle.serde_json.specs.Data.{string, Num, Items, Members}
use Rattle.serde_json.specs.Read.{of_json, of_items, of_members, number_of}
use Rattle.fb_pieces.specs.Reads.{read_at}
use Rattle.fb_pieces.proofs.laws.ReadTextHasTheTokensOfAValue.{value_of}

if_some : {P : Type 0} (b : Bool) (t : Token) (k : Place → List Token) (n : Place) → if_allowed b t k n ≡ [] → P
if_some true t k n e = absurd cc
if_some false t k n e = absurd cc

place_some : {P : Type 0} (p : Place) (t : Token) (b : Bool) (k : Place → List Token) → place_token p t b k ≡ [] → P
place_some p tok.begin_object b k e = if_some (may_begin p) _ k fresh e
place_some p tok.end_object b k e = if_some (may_close p) _ k after_value e
place_some p tok.begin_array b k e = if_some (may_begin p) _ k fresh e
place_some p tok.end_array b k e = if_some (may_close p) _ k after_value e
place_some p (tok.key s) b k e = absurd cc
place_some p (tok.string s) true k e = if_some (may_begin p) _ k after_key e
place_some p (tok.string s) false k e = if_some (may_begin p) _ k after_value e
place_some p (tok.number s) b k e = if_some (may_begin p) _ k after_value e
place_some p (tok.boolean v) b k e = if_some (may_begin p) _ k after_value e
place_some p tok.null b k e = if_some (may_begin p) _ k after_value e
place_some p tok.bad b k e = absurd cc

-- lexemes without a token, behind a comma and behind a value
none_after_comma : {P : Type 0} (ls : List Lexeme) → punctuate after_comma ls ≡ [] → P
unfolding punctuate
none_after_comma [] e = absurd cc
none_after_comma (token t ∷ ls) e = place_some after_comma t _ _ e
none_after_comma (comma ∷ ls) e = absurd cc
none_after_comma (colon ∷ ls) e = absurd cc

none_after_value : (ls : List Lexeme) → punctuate after_value ls ≡ [] → ls ≡ []
unfolding punctuate
none_after_value [] e = refl
none_after_value (token t ∷ ls) e = place_some after_value t _ _ e
none_after_value (comma ∷ ls) e = none_after_comma ls e
none_after_value (colon ∷ ls) e = absurd cc

-- the lexemes of one string
one_placed : (t : Token) (b : Bool) (ls : List Lexeme) (s : List ℕ)
    → place_token fresh t b (λ p. punctuate p ls) ≡ tok.string s ∷ [] → token t ∷ ls ≡ token (tok.string s) ∷ []
one_placed tok.begin_object b ls s e = absurd cc
one_placed tok.end_object b ls s e = absurd cc
one_placed tok.begin_array b ls s e = absurd cc
one_placed tok.end_array b ls s e = absurd cc
one_placed (tok.key r) b ls s e = absurd cc
one_placed (tok.string r) true ls s e = absurd cc
one_placed (tok.string r) false ls s e =
    let none : punctuate after_value ls ≡ [] = cc in
    let rest = none_after_value ls none in
    cc
one_placed (tok.number r) b ls s e = absurd cc
one_placed (tok.boolean v) b ls s e = absurd cc
one_placed tok.null b ls s e = absurd cc
one_placed tok.bad b ls s e = absurd cc

one_lexeme : (ls : List Lexeme) (s : List ℕ) → punctuate fresh ls ≡ tok.string s ∷ []
    → ls ≡ token (tok.string s) ∷ []
unfolding punctuate
one_lexeme [] s e = absurd cc
one_lexeme (token t ∷ ls) s e = one_placed t (begins_colon ls) ls s e
one_lexeme (comma ∷ ls) s e = absurd cc
one_lexeme (colon ∷ ls) s e = absurd cc

-- the value that is a string
string_was : (j : json.Json) (s : List ℕ) → of_json j ≡ Some (string s) → json_tokens j ≡ tok.string s ∷ []
string_was json.null s e = absurd cc
string_was (json.boolean b) s e = absurd cc
string_was (json.number n) s e = go (number_of n) e
  where
    go : {P : Type 0} (o : Option Num) → option_map Data.number o ≡ Some (string s) → P
    go None e = absurd cc
    go (Some n) e = absurd cc
string_was (json.string r) s e = cc
string_was (json.array js) s e = go (of_items js) e
  where
    go : {P : Type 0} (o : Option Items) → option_map Data.array o ≡ Some (string s) → P
    go None e = absurd cc
    go (Some n) e = absurd cc
string_was (json.object ms) s e = go (of_members ms Data.no_members) e
  where
    go : {P : Type 0} (o : Option Members) → option_map Data.object o ≡ Some (string s) → P
    go None e = absurd cc
    go (Some n) e = absurd cc

pub string_lexeme : (levels : ℕ) (text s : List ℕ) → read_at levels text ≡ Some (string s)
    → lex between text ≡ token (tok.string s) ∷ []
string_lexeme levels text s e =
    let v = value_of levels text (string s) e in
    one_lexeme (lex between text) s (v.spells.spelled ∙ string_was v.was s v.data_of)
