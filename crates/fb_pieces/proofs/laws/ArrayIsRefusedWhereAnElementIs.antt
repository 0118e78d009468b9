-- An array is refused where one of its elements is.
use Rattle.std.proofs.Common.{◌≡◌, ℕ, suc, ◌≤◌, Bool, true, false, List, [], ◌∷◌, ◌++◌, Option, Some, None, option_map}
use Rattle.std.proofs.Common.{option_and_then, refl, sym, ap, ◌∙◌, arith, append-nil}
use Rattle.std.proofs.lemmas.Bool.{false≢true}
use Rattle.json.specs.Token as tok
use Rattle.json.specs.Token.{Token}
use Rattle.json.specs.Lex.{Lexeme, token, comma, colon, between, lex, Place, fresh, after_value, after_comma, after_key}
use Rattle.json.specs.Lex.{begins_colon, may_begin, place_token, punctuate, tokens}
use Rattle.json.specs.Align.{is_good}
use Rattle.json.specs.Print.{begins}
use Rattle.json.specs.Json as json
use Rattle.json.specs.Tree as tree
use Rattle.json.specs.Tree.{json_tokens, items_tokens}
use Rattle.serde_json.specs.Data.{Data, array, Items, no_items, item}
use Rattle.serde_json.specs.Read.{of_json, of_items}
use Rattle.fb_pieces.specs.Modes.{mode_after, IsOutside}
use Rattle.fb_pieces.specs.ArrayRefused.{Level, AreBetweenCommas, read_all, HasLexeme, ArrayIsThatOfItsElements}
use Rattle.fb_pieces.specs.Texts.{array_rest, array_text}
use Rattle.fb_pieces.specs.Reads.{read_at}
use Rattle.fb_pieces.specs.ArrayOfElements.{ReadEach}
use Rattle.fb_pieces.proofs.laws.LexemesSplitOutsideStrings.{lex-cut, may_cut}
use Rattle.fb_pieces.proofs.laws.RunsMakeTheArray.{array_rest_no_colon, array_rest_ends, elements_make_the_array_shown}
use Rattle.fb_pieces.proofs.laws.ReadTextHasTheTokensOfAValue.{spells_value, read_spelled}
use Rattle.fb_pieces.proofs.laws.ValueIsReadBeforeAComma.{Stops, token_inv, no_bad, not_there, no_close, first_token}
use Rattle.fb_pieces.proofs.laws.ValueIsReadBeforeAComma.{value_opens, no_bad_list, take_value}

stop_at : (es : List (List ℕ)) (p : Place) (u : Token) (ts : List Token) → may_begin p ≡ true → is_good u ≡ true
    → begins u ≡ true → punctuate p (lex between (array_rest es)) ≡ u ∷ ts → ⊥
unfolding lex punctuate
stop_at [] p u ts may g b e =
    false≢true ((token_inv p tok.end_array false (λ q. punctuate q []) u ts g e).begins_too ∙ b)
stop_at (x ∷ es) fresh u ts may g b e = no_bad u [] ts g e
stop_at (x ∷ es) after_value u ts may g b e = false≢true may
stop_at (x ∷ es) after_comma u ts may g b e = no_bad u [] ts g e
stop_at (x ∷ es) after_key u ts may g b e = false≢true may

rest_stops : (es : List (List ℕ)) → Stops (lex between (array_rest es))
rest_stops es = record { no_colon = array_rest_no_colon es; stop = stop_at es }

-- nothing is left of a piece after its value
spent : (ms : List Lexeme) (stops : Stops ms) (rest : List Lexeme) (js : json.Items) → Level 0 rest
    → punctuate after_value (rest ++ ms) ≡ items_tokens js → rest ≡ []
unfolding punctuate
spent ms stops [] js level e = refl
spent ms stops (token t ∷ ls) json.no_items level e =
    absurd (first_token ms stops 0 t ls after_value tok.end_array [] level refl e).level
spent ms stops (token t ∷ ls) (json.item j js) level e =
    not_there ms stops after_value t (begins_colon (ls ++ ms)) (λ q. punctuate q (ls ++ ms)) _ refl
    (value_opens ms stops j (items_tokens js)) e
spent ms stops (comma ∷ ls) js level e = absurd level
spent ms stops (colon ∷ ls) json.no_items level e = no_bad tok.end_array [] [] refl e
spent ms stops (colon ∷ ls) (json.item j js) level e =
    no_bad_list ms stops [] _ (value_opens ms stops j (items_tokens js)) e

string_either : (s : List ℕ) (b : Bool) (k : Place → List Token)
    → place_token fresh (tok.string s) b k ≡ place_token after_comma (tok.string s) b k
string_either s true k = refl
string_either s false k = refl

abbrev OpensWell : List Token → Type 0
OpensWell [] = ⊥
OpensWell (u ∷ us) = (begins u ≡ true) × (is_good u ≡ true)

opens_well : (j : json.Json) → OpensWell (json_tokens j)
opens_well json.null = (refl, refl)
opens_well (json.boolean b) = (refl, refl)
opens_well (json.number s) = (refl, refl)
opens_well (json.string s) = (refl, refl)
opens_well (json.array js) = (refl, refl)
opens_well (json.object ks) = (refl, refl)

refused : {P : Type 0} (ts : List Token) → OpensWell ts → tok.bad ∷ [] ≡ ts → P
refused [] o e = absurd o
refused (u ∷ ts) o e = no_bad u [] ts o.1 e

from_fresh : (ls : List Lexeme) (ts : List Token) → OpensWell ts → punctuate after_comma ls ≡ ts
    → punctuate fresh ls ≡ ts
unfolding punctuate
from_fresh [] ts o e = refused ts o e
from_fresh (token tok.begin_object ∷ ls) ts o e = e
from_fresh (token tok.end_object ∷ ls) ts o e = refused ts o e
from_fresh (token tok.begin_array ∷ ls) ts o e = e
from_fresh (token tok.end_array ∷ ls) ts o e = refused ts o e
from_fresh (token (tok.key s) ∷ ls) ts o e = e
from_fresh (token (tok.string s) ∷ ls) ts o e = string_either s (begins_colon ls) (λ n. punctuate n ls) ∙ e
from_fresh (token (tok.number s) ∷ ls) ts o e = e
from_fresh (token (tok.boolean v) ∷ ls) ts o e = e
from_fresh (token tok.null ∷ ls) ts o e = e
from_fresh (token tok.bad ∷ ls) ts o e = e
from_fresh (comma ∷ ls) ts o e = e
from_fresh (colon ∷ ls) ts o e = e

at_fresh : (p : Place) (ls : List Lexeme) (ts : List Token) → may_begin p ≡ true → OpensWell ts → punctuate p ls ≡ ts
    → punctuate fresh ls ≡ ts
at_fresh fresh ls ts may o e = e
at_fresh after_value ls ts may o e = absurd (false≢true may)
at_fresh after_comma ls ts may o e = from_fresh ls ts o e
at_fresh after_key ls ts may o e = absurd (false≢true may)

record OnePiece (depth : ℕ) (e : List ℕ) (es : List (List ℕ)) (j : json.Json) (js : json.Items) : Type 0 where
  read : read_at depth e ≡ of_json j
  after : punctuate after_value (lex between (array_rest es)) ≡ items_tokens js

one_piece : (depth : ℕ) (p : Place) (e : List ℕ) (es : List (List ℕ)) (j : json.Json) (js : json.Items)
    → may_begin p ≡ true → IsOutside (mode_after between e) → Level 0 (lex between e) → tree.depth j ≤ depth
    → punctuate p (lex between (e ++ array_rest es)) ≡ json_tokens j ++ items_tokens js → OnePiece depth e es j js
unfolding punctuate
one_piece depth p e es j js may out level le h =
    let ms = lex between (array_rest es) in
    let stops = rest_stops es in
    let cut = lex-cut e (array_rest es) between
    (may_cut (mode_after between e) (array_rest es) out (array_rest_ends es)) in
    let t = take_value ms stops j 0 (lex between e) p (items_tokens js) level may (ap (punctuate p) (sym cut) ∙ h) in
    let nil = spent ms stops t.rest js t.level t.after in
    let alone : punctuate p (lex between e) ≡ json_tokens j = t.alone
    ∙ ap (λ l. json_tokens j ++ punctuate after_value l) nil ∙ append-nil (json_tokens j) in
    record {
      read = read_spelled depth e j
          (record {
            spelled = at_fresh p (lex between e) (json_tokens j) may
                (opens_well j) alone;
            shallow = le;
          });
      after = ap (λ l. punctuate after_value (l ++ ms)) (sym nil) ∙ t.after;
    }

all_pieces : (depth : ℕ) (es : List (List ℕ)) (js : json.Items) → AreBetweenCommas es → tree.items_depth js ≤ depth
    → punctuate after_value (lex between (array_rest es)) ≡ items_tokens js → of_items js ≡ read_all depth es
unfolding lex punctuate
all_pieces depth [] json.no_items pieces le h = refl
all_pieces depth [] (json.item j js) pieces le h = absurd (end_first j (items_tokens js) h)
  where
    end_first : (j : json.Json) (us : List Token) → tok.end_array ∷ [] ≡ json_tokens j ++ us → ⊥
    end_first json.null us e = cc
    end_first (json.boolean b) us e = cc
    end_first (json.number s) us e = cc
    end_first (json.string s) us e = cc
    end_first (json.array js) us e = cc
    end_first (json.object ks) us e = cc
all_pieces depth (e ∷ es) json.no_items pieces le h =
    no_close (lex between (array_rest es)) (rest_stops es)
    (lex between (e ++ array_rest es)) tok.end_array [] refl refl h
all_pieces depth (e ∷ es) (json.item j js) pieces le h =
    let o = one_piece depth after_comma e es j js refl pieces.0 pieces.1 (omega arith) h in
    ap (λ x. option_and_then (λ d. option_map (item d) x) (of_json j))
    (all_pieces depth es js pieces.2 (omega arith) o.after)
    ∙ ap (option_and_then (λ d. option_map (item d) (read_all depth es))) (sym o.read)

each_of : (depth : ℕ) (es : List (List ℕ)) (ds : Items) → AreBetweenCommas es → read_all depth es ≡ Some ds
    → ReadEach depth es ds
each_of depth [] no_items pieces h = tt
each_of depth [] (item d ds) pieces h = absurd cc
each_of depth (e ∷ es) ds pieces h =
    go (read_at depth e) (read_all depth es) ds refl refl h (λ ds k. each_of depth es ds pieces.2 k)
  where
    go : (o : Option Data) (q : Option Items) (ds : Items) → read_at depth e ≡ o → read_all depth es ≡ q
        → option_and_then (λ d. option_map (item d) q) o ≡ Some ds
        → ((ds : Items) → read_all depth es ≡ Some ds → ReadEach depth es ds) → ReadEach depth (e ∷ es) ds
    go None q ds a b k ih = absurd cc
    go (Some d) None ds a b k ih = absurd cc
    go (Some d) (Some more) no_items a b k ih = absurd cc
    go (Some d) (Some more) (item c cs) a b k ih =
        let f : d ≡ c = cc in
        let g : more ≡ cs = cc in
        (a ∙ ap Some f, ih cs (b ∙ ap Some g))

not_empty : (ms : List Lexeme) (stops : Stops ms) (ls : List Lexeme) → HasLexeme ls → Level 0 ls
    → punctuate fresh (ls ++ ms) ≡ tok.end_array ∷ [] → ⊥
unfolding punctuate
not_empty ms stops [] some level e = some
not_empty ms stops (token t ∷ ls) some level e = (first_token ms stops 0 t ls fresh tok.end_array [] level refl e).level
not_empty ms stops (comma ∷ ls) some level e = level
not_empty ms stops (colon ∷ ls) some level e = no_bad tok.end_array [] [] refl e

first_array : (depth : ℕ) (e : List ℕ) (es : List (List ℕ)) (j : json.Json) → HasLexeme (lex between e)
    → AreBetweenCommas (e ∷ es) → tree.depth j ≤ suc depth → tokens (array_text e es) ≡ json_tokens j
    → of_json j ≡ option_map array (read_all depth (e ∷ es))
unfolding lex punctuate
first_array depth e es json.null some pieces le h = absurd cc
first_array depth e es (json.boolean b) some pieces le h = absurd cc
first_array depth e es (json.number s) some pieces le h = absurd cc
first_array depth e es (json.string s) some pieces le h = absurd cc
first_array depth e es (json.object ks) some pieces le h = absurd cc
first_array depth e es (json.array json.no_items) some pieces le h =
    let k : punctuate fresh (lex between (e ++ array_rest es)) ≡ tok.end_array ∷ [] = cc in
    let cut = lex-cut e (array_rest es) between
    (may_cut (mode_after between e) (array_rest es) pieces.0 (array_rest_ends es)) in
    absurd
    (not_empty (lex between (array_rest es)) (rest_stops es) (lex between e) some pieces.1
    (ap (punctuate fresh) (sym cut) ∙ k))
first_array depth e es (json.array (json.item j js)) some pieces le h =
    let k : punctuate fresh (lex between (e ++ array_rest es)) ≡ json_tokens j ++ items_tokens js = cc in
    let o = one_piece depth fresh e es j js refl pieces.0 pieces.1 (omega arith) k in
    ap (option_map array)
    (ap (λ x. option_and_then (λ d. option_map (item d) x) (of_json j))
    (all_pieces depth es js pieces.2 (omega arith) o.after)
    ∙ ap (option_and_then (λ d. option_map (item d) (read_all depth es))) (sym o.read))

pub array_is_that_of_its_elements_shown : ArrayIsThatOfItsElements
array_is_that_of_its_elements_shown depth e es some pieces = by_each (read_all depth (e ∷ es)) refl
  where
    none : (o : Option (json.Json × List Token)) → json.value (suc depth) (tokens (array_text e es)) ≡ o
        → read_all depth (e ∷ es) ≡ None
        → option_and_then of_json (option_and_then (λ p. json.if_last p.0 p.1) o) ≡ None
    none None a b = refl
    none (Some (j, t ∷ ts)) a b = refl
    none (Some (j, [])) a b =
        let s = spells_value (suc depth)
        (array_text e es) j a in first_array depth e es j some pieces s.shallow s.spelled ∙ ap (option_map array) b

    by_each : (o : Option Items) → read_all depth (e ∷ es) ≡ o
        → read_at (suc depth) (array_text e es) ≡ option_map array (read_all depth (e ∷ es))
    by_each (Some ds) h =
        elements_make_the_array_shown depth e es ds (each_of depth (e ∷ es) ds pieces h) ∙ ap (option_map array) (sym h)
    by_each None h = none (json.value (suc depth) (tokens (array_text e es))) refl h ∙ ap (option_map array) (sym h)
