-- A text that begins with a bracket, brace or quote, after blanks, is read as an array, an object or a string.
use Rattle.std.proofs.Common.{◌≡◌, ◌≢◌, ◌∙◌, ◌<◌, ◌+◌, ℕ, zero, suc, List, [], ◌∷◌, ◌++◌, Option, None, Some, length}
use Rattle.std.proofs.Common.{take, drop}
use Rattle.std.proofs.Common.{get_or, option_and_then, option_map, Bool, true, false, ◌==◌, ◌⊎◌, inl, inr, refl, ap, sym}
use Rattle.std.proofs.Common.{IfSome, arith, is_some, take-append-drop}
use Rattle.std.proofs.Math.Seq.{drop-cons}
use Rattle.std.specs.List.{list_all}
use Rattle.std.proofs.lemmas.Bool.{and_parts, eqb-true, or_cases}
use Rattle.json.specs.Token.{Token}
use Rattle.json.specs.Word.{is_space}
use Rattle.json.specs.Json as json
use Rattle.json.specs.Lex.{Lexeme, Place, after_value, begins_colon, between, class, fresh, in_string, lex}
use Rattle.json.specs.Lex.{lex_byte, place_token, punctuate, space, string_token, token, tokens}
use Rattle.json.specs.Text.{content, plain}
use Rattle.serde_json.specs.Data.{Data, Items, Members, array, boolean, no_members, null, number, object, string}
use Rattle.serde_json.specs.Read.{of_items, of_json, of_members}
use Rattle.fb_pieces.specs.Blanks.{AreBlanks}
use Rattle.fb_pieces.specs.Reads.{read_at}
use Rattle.fb_encode.specs.Outlines.{IsOf}
use Rattle.fb_encode.specs.declared.outlines.Container.{Container}
use Rattle.fb_encode.specs.declared.outlines.Container.TheVariants.{Array, Object, String}

blank_or : (x c : ℕ) (b : Bool) → class c ≡ space → (b ≡ true → class x ≡ space)
    → (b ≡ true) ⊎ ((x == c) ≡ true) → class x ≡ space
blank_or x c b is rest (inl e) = rest e
blank_or x c b is rest (inr e) = rw (eqb-true x c e) is

blank_class : (x : ℕ) → is_space x ≡ true → class x ≡ space
blank_class x h =
    blank_or x 13 _ refl
    (λ h. blank_or x 10 _ refl
    (λ h. blank_or x 9 _ refl (λ h. rw (eqb-true x 32 h) refl) (or_cases _ _ h))
    (or_cases _ _ h)) (or_cases _ _ h)

blanks_before : (blanks text : List ℕ) → AreBlanks blanks → lex between (blanks ++ text) ≡ lex between text
unfolding lex
blanks_before [] text h = refl
blanks_before (x ∷ blanks) text h =
    let p = and_parts (is_space x) (list_all is_space blanks) h in
    ap (λ c. lex_byte between c x (blanks ++ text) (λ m. lex m (blanks ++ text)))
    (blank_class x p.0)
    ∙ blanks_before blanks text p.1

-- ---- what is read of the first token

abbrev read_of : Option (json.Json × List Token) → Option Data
read_of r = option_and_then of_json (option_and_then (λ p. json.if_last p.0 p.1) r)

items_array : (o : Option Items) (t : Data) → option_map array o ≡ Some t → IsOf Array t
items_array None t is = cc
items_array (Some ds) null is = cc
items_array (Some ds) (boolean b) is = cc
items_array (Some ds) (number n) is = cc
items_array (Some ds) (string s) is = cc
items_array (Some ds) (array es) is = tt
items_array (Some ds) (object ms) is = cc

members_object : (o : Option Members) (t : Data) → option_map object o ≡ Some t → IsOf Object t
members_object None t is = cc
members_object (Some ms) null is = cc
members_object (Some ms) (boolean b) is = cc
members_object (Some ms) (number n) is = cc
members_object (Some ms) (string s) is = cc
members_object (Some ms) (array es) is = cc
members_object (Some ms) (object ns) is = tt

array_read : (r : Option (json.Items × List Token)) (t : Data) → read_of (json.parse_map json.array r) ≡ Some t
    → IsOf Array t
array_read None t is = cc
array_read (Some (js, [])) t is = items_array (of_items js) t is
array_read (Some (js, u ∷ us)) t is = cc

object_read : (r : Option (json.Members × List Token)) (t : Data) → read_of (json.parse_map json.object r) ≡ Some t
    → IsOf Object t
object_read None t is = cc
object_read (Some (ms, [])) t is = members_object (of_members ms no_members) t is
object_read (Some (ms, u ∷ us)) t is = cc

opening_read : (levels : ℕ) (ts : List Token) (t : Data) → read_of (json.value levels (Token.begin_array ∷ ts)) ≡ Some t
    → IsOf Array t
unfolding json.value
opening_read zero ts t is = array_read None t is
opening_read (suc levels) ts t is = array_read (json.items (json.value levels) (length ts) ts) t is

brace_read : (levels : ℕ) (ts : List Token) (t : Data) → read_of (json.value levels (Token.begin_object ∷ ts)) ≡ Some t
    → IsOf Object t
unfolding json.value
brace_read zero ts t is = object_read None t is
brace_read (suc levels) ts t is = object_read (json.members (json.value levels) (length ts) ts) t is

string_read : (s : List ℕ) (ts : List Token) (t : Data) → read_of (Some (json.string s, ts)) ≡ Some t → IsOf String t
string_read s [] null is = cc
string_read s [] (boolean b) is = cc
string_read s [] (number n) is = cc
string_read s [] (string r) is = tt
string_read s [] (array ds) is = cc
string_read s [] (object ms) is = cc
string_read s (u ∷ us) t is = cc

-- A string before a colon is a key.
named_read : (levels : ℕ) (s : List ℕ) (before_colon : Bool) (k : Place → List Token) (t : Data)
    → read_of (json.value levels (place_token fresh (Token.string s) before_colon k)) ≡ Some t → IsOf String t
unfolding json.value
named_read zero s true k t is = cc
named_read (suc levels) s true k t is = cc
named_read zero s false k t is = string_read s (k after_value) t is
named_read (suc levels) s false k t is = string_read s (k after_value) t is

quote_read : (levels : ℕ) (found : Option (List ℕ)) (ls : List Lexeme) (t : Data)
    → read_of (json.value levels (punctuate fresh (token (string_token found) ∷ ls))) ≡ Some t → IsOf String t
unfolding json.value punctuate
quote_read zero None ls t is = cc
quote_read (suc levels) None ls t is = cc
quote_read levels (Some s) ls t is = named_read levels s (begins_colon ls) (λ next. punctuate next ls) t is

-- ---- the text

bracket_first : (rest : List ℕ) → tokens (91 ∷ rest) ≡ Token.begin_array ∷ punctuate fresh (lex between rest)
unfolding lex punctuate
bracket_first rest = refl

brace_first : (rest : List ℕ) → tokens (123 ∷ rest) ≡ Token.begin_object ∷ punctuate fresh (lex between rest)
unfolding lex punctuate
brace_first rest = refl

quote_first : (rest : List ℕ)
    → tokens (34 ∷ rest) ≡ punctuate fresh (token (string_token (content plain rest)) ∷ lex in_string rest)
unfolding lex
quote_first rest = refl

module _ (text : List ℕ) (at x : ℕ) (blanks : AreBlanks (take at text)) (within : at < length text)
    (is : get_or text at 0 ≡ x) where
  behind : text ≡ take at text ++ (x ∷ drop (at + 1) text)
  behind =
      let one : at + 1 ≡ suc at = omega arith in
      let here : drop at text ≡ x ∷ drop (at + 1) text = rw (one, ← is, drop-cons text at 0) refl in
      sym (take-append-drop at text) ∙ ap (λ (xs : List ℕ). take at text ++ xs) here

  tokens_behind : tokens text ≡ tokens (x ∷ drop (at + 1) text)
  tokens_behind =
      ap tokens behind ∙ ap (punctuate fresh) (blanks_before (take at text) (x ∷ drop (at + 1) text) blanks)

  abbrev read_tokens : ℕ → List Token → Option Data
  read_tokens levels ts = read_of (json.value levels ts)

  pub bracketed : x ≡ 91 → (levels : ℕ) (t : Data) → read_at levels text ≡ Some t → IsOf Array t
  bracketed opens levels t is =
      let first = tokens_behind ∙ ap (λ (y : ℕ). tokens (y ∷ drop (at + 1) text)) opens
      ∙ bracket_first (drop (at + 1) text) in
      opening_read levels _ t (sym (ap (read_tokens levels) first) ∙ is)

  pub braced : x ≡ 123 → (levels : ℕ) (t : Data) → read_at levels text ≡ Some t → IsOf Object t
  braced opens levels t is =
      let first = tokens_behind ∙ ap (λ (y : ℕ). tokens (y ∷ drop (at + 1) text)) opens
      ∙ brace_first (drop (at + 1) text) in
      brace_read levels _ t (sym (ap (read_tokens levels) first) ∙ is)

  pub quoted : x ≡ 34 → (levels : ℕ) (t : Data) → read_at levels text ≡ Some t → IsOf String t
  quoted opens levels t is =
      let rest = drop (at + 1) text in
      let first = tokens_behind ∙ ap (λ (y : ℕ). tokens (y ∷ rest)) opens ∙ quote_first rest in
      quote_read levels (content plain rest) (lex in_string rest) t (sym (ap (read_tokens levels) first) ∙ is)

-- ---- a container isn't null

null_is_none : (container : Container) → IsOf container null → ⊥
null_is_none Array is = is
null_is_none Object is = is
null_is_none String is = is

pub not_null : (text : List ℕ) (found : Option Container)
    → IfSome found (λ container. (levels : ℕ) (t : Data) → read_at levels text ≡ Some t → IsOf container t)
    → is_some found ≡ true → (levels : ℕ) → read_at levels text ≢ Some null
not_null text None is some levels null_read = cc
not_null text (Some container) is some levels null_read = null_is_none container (is levels null null_read)
