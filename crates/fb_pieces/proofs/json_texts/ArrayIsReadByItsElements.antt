-- An array is read element by element, and the tree that is read of it has as many.
use Rattle.std.proofs.Common.{◌≡◌, ◌≢◌, ℕ, suc, ◌+◌, ◌-◌, ◌≤◌, ◌<◌, true, List, [], ◌∷◌, length, Option, Some}
use Rattle.std.proofs.Common.{Result, Ok, Err, MatchResult}
use Rattle.std.proofs.Common.{None, ◌++◌, append-nil, is_some, option_map, option_and_then, refl, sym, ap, ◌∙◌, arith}
use Rattle.json.specs.Token.{Token, begin_array}
use Rattle.json.specs.Lex.{tokens}
use Rattle.json.specs.Json as json
use Rattle.json.specs.declared.reader.Invalid.{Invalid}
use Rattle.json.specs.Json.{after_end_array, parse_map}
use Rattle.json.specs.Tree.{json_tokens, items_tokens}
use Rattle.json.proofs.Grammar.{items_end, items_fail, items_more, left, left_none, left_some, value-begin_array}
use Rattle.json.proofs.Nesting.{value-depth}
use Rattle.json.proofs.Printed.Trees.{value-json_tokens}
use Rattle.json.proofs.Unique.Spelling.{value-json_tokens_back}
use Rattle.serde_json.specs.Data.{Data, Items, array, number, object, no_items, item, no_members}
use Rattle.serde_json.specs.Read.{number_of, of_json, of_items, of_members}
use Rattle.fb_pieces.specs.Reads.{read_at}
use Rattle.fb_pieces.specs.JsonTexts.{BeginsNoArray, IsArrayPassed, are_in_range, count, count_values, elements_passed}
use Rattle.fb_pieces.proofs.laws.ReadTextHasTheTokensOfAValue.{spells_value, read_spelled, value_of}
use Rattle.fb_pieces.proofs.laws.JsonHasItsNumbersInRange.{value_in_range}

-- ---- element by element

-- n elements more
abbrev pub add : ℕ → Option (ℕ × List Token) → Option (ℕ × List Token)
add n passed = parse_map (λ m. n + m) passed

abbrev pub counted : Option (json.Items × List Token) → Option (ℕ × List Token)
counted read = parse_map count_values read

add_none : (o : Option (ℕ × List Token)) → o ≡ add 0 o
add_none None = refl
add_none (Some (m, ts)) = let same : m ≡ 0 + m = omega arith in ap (λ x. Some (x, ts)) same

add_one : (n : ℕ) (j : json.Json) (o : Option (json.Items × List Token))
    → add n (counted (parse_map (json.item j) o)) ≡ add (n + 1) (counted o)
add_one n j None = refl
add_one n j (Some (js, ts)) =
    let more : n + suc (count_values js) ≡ (n + 1) + count_values js = omega arith in
    ap (λ m. Some (m, ts)) more

pub none_passed : (o : Option (json.Items × List Token)) → counted o ≡ add 0 (counted o)
none_passed o = add_none (counted o)

module _ (levels n : ℕ) (ts : List Token) (more : after_end_array ts ≡ None) where
  pub one_passed : (passed : ℕ) (rest : List Token) → 0 < n → json.skip_value levels ts ≡ Some rest
      → add passed (counted (json.items (json.value levels) n ts))
      ≡ add (passed + 1) (counted (json.items (json.value levels) (n - 1) rest))
  one_passed passed rest some skipped =
      let j = left_some (json.value levels ts) rest skipped in
      ap (λ o. add passed (counted o)) (items_more (json.value levels) n ts rest j.0 some more j.1)
      ∙ add_one passed j.0 (json.items (json.value levels) (n - 1) rest)

  pub bad_element : (passed : ℕ) → json.skip_value levels ts ≡ None
      → add passed (counted (json.items (json.value levels) n ts)) ≡ None
  bad_element passed bad =
      ap (λ o. add passed (counted o)) (items_fail (json.value levels) n ts more (left_none _ bad))

pub all_passed : (levels n passed : ℕ) (ts rest : List Token) → length ts ≤ n → after_end_array ts ≡ Some rest
    → add passed (counted (json.items (json.value levels) n ts)) ≡ Some (passed, rest)
all_passed levels n passed ts rest few end =
    let same : passed + 0 ≡ passed = omega arith in
    ap (λ o. add passed (counted o)) (items_end (json.value levels) n ts rest few end)
    ∙ ap (λ m. Some (m, rest)) same

-- ---- an array

counted_items : (o : Option (json.Items × List Token)) (n : ℕ) (rest : List Token) → counted o ≡ Some (n, rest)
    → (js : json.Items) × (o ≡ Some (js, rest)) × (n ≡ count_values js)
counted_items None n rest e = absurd cc
counted_items (Some (js, ts)) n rest e =
    let left_over : Some ts ≡ Some rest = ap left e in
    let number : Some (count_values js) ≡ Some n = ap (option_map (λ p. p.0)) e in
    (js, cc, cc)

not_counted : (o : Option (json.Items × List Token)) (js : json.Items) (us : List Token) → counted o ≡ None
    → parse_map json.array o ≢ Some (json.array js, us)
not_counted None js us none e = absurd cc
not_counted (Some p) js us none e = absurd cc

module _ (levels : ℕ) (ts : List Token) where
  pub opens_array : (js : json.Items) (us : List Token) → json.value levels ts ≡ Some (json.array js, us)
      → (0 < levels) × (ts ≡ begin_array ∷ (items_tokens js ++ us))
  opens_array js us e =
      let deep = value-depth levels ts us (json.array js) e in
      (omega (arith, deep), value-json_tokens_back levels ts us (json.array js) e)

  module _ (rest : List Token) (low : 0 < levels) (first : ts ≡ begin_array ∷ rest) where
    opened : json.value levels ts
        ≡ parse_map json.array (json.items (json.value (levels - 1)) (length rest) rest)
    opened = ap (json.value levels) first ∙ value-begin_array levels rest low

    array_passed : (n : ℕ) (us : List Token) → elements_passed (levels - 1) rest ≡ Some (n, us)
        → IsArrayPassed levels ts us n
    array_passed n us passed =
        let found = counted_items _ n us passed in
        (found.0, opened ∙ ap (parse_map json.array) found.1, found.2)

    no_array_passed : elements_passed (levels - 1) rest ≡ None → BeginsNoArray levels ts
    no_array_passed none js us e = not_counted _ js us none (sym opened ∙ e)

    pub array_or_none : (us : List Token) (r : Result ℕ Invalid)
        → MatchResult r (λ n. elements_passed (levels - 1) rest ≡ Some (n, us))
        (λ _. elements_passed (levels - 1) rest ≡ None)
        → MatchResult r (IsArrayPassed levels ts us) (λ _. BeginsNoArray levels ts)
    array_or_none us (Ok n) passed = array_passed n us passed
    array_or_none us (Err e) none = no_array_passed none

-- ---- what is read of a text

two_read : (o : Option Data) (p : Option Items) (ds : Items) → option_and_then (λ d. option_map (item d) p) o ≡ Some ds
    → (d : Data) × (es : Items) × (p ≡ Some es) × (ds ≡ item d es)
two_read None p ds e = absurd cc
two_read (Some d) None ds e = absurd cc
two_read (Some d) (Some es) ds e = (d, es, refl, cc)

read_items : (js : json.Items) (ds : Items) → of_items js ≡ Some ds → count_values js ≡ count ds
read_items json.no_items no_items e = refl
read_items json.no_items (item d ds) e = absurd cc
read_items (json.item j js) ds e =
    let two = two_read (of_json j) (of_items js) ds e in
    ap suc (read_items js two.1 two.2) ∙ sym (ap count two.3)

some_items : (o : Option Items) → is_some (option_map array o) ≡ true → (ds : Items) × (o ≡ Some ds)
some_items None e = absurd cc
some_items (Some ds) e = (ds, refl)

-- Where an array has been passed, nothing follows, and all numbers are in range, it is read.
pub array_is_read : (levels n : ℕ) (text : List ℕ) → IsArrayPassed levels (tokens text) [] n
    → are_in_range (tokens text) ≡ true → (ds : Items) × (read_at levels text ≡ Some (array ds)) × (n ≡ count ds)
array_is_read levels n text (js, passed, same) range =
    let s = spells_value levels text (json.array js) passed in
    let some = sym (value_in_range (json.array js)) ∙ ap are_in_range (sym s.spelled) ∙ range in
    let found = some_items (of_items js) some in
    (found.0, read_spelled levels text (json.array js) s ∙ ap (option_map array) found.1, same ∙ read_items js found.0 found.1)

of_map : {A : Type 0} (f : A → Data) (o : Option A) (d : Data) → option_map f o ≡ Some d → (a : A) × (o ≡ Some a) × (f a ≡ d)
of_map f None d e = absurd cc
of_map f (Some a) d e = (a, refl, cc)

json_of_array : (j : json.Json) (ds : Items) → of_json j ≡ Some (array ds)
    → (js : json.Items) × (j ≡ json.array js) × (of_items js ≡ Some ds)
json_of_array json.null ds e = absurd cc
json_of_array (json.boolean b) ds e = absurd cc
json_of_array (json.number s) ds e = let found = of_map number (number_of s) (array ds) e in absurd cc
json_of_array (json.string s) ds e = absurd cc
json_of_array (json.array js) ds e =
    let found = of_map array (of_items js) (array ds) e in
    (js, refl, found.1 ∙ ap Some cc)
json_of_array (json.object ms) ds e =
    let found = of_map object (of_members ms no_members) (array ds) e in absurd cc

-- And of a text that is read as an array all that is so.
pub record ReadArray (levels : ℕ) (text : List ℕ) (ds : Items) : Type 0 where
  pub js : json.Items
  pub passed : json.value levels (tokens text) ≡ Some (json.array js, [])
  pub same : count_values js ≡ count ds
  pub range : are_in_range (tokens text) ≡ true

pub read_array : (levels : ℕ) (text : List ℕ) (ds : Items) → read_at levels text ≡ Some (array ds)
    → ReadArray levels text ds
read_array levels text ds read =
    let v = value_of levels text (array ds) read in
    let found = json_of_array v.was ds v.data_of in
    record {
      js = found.0;
      passed = ap (json.value levels) (v.spells.spelled ∙ sym (append-nil (json_tokens v.was)))
          ∙ value-json_tokens v.was levels [] v.spells.shallow ∙ ap (λ j. Some (j, [])) found.1;
      same = read_items found.0 ds found.2;
      range = ap are_in_range v.spells.spelled ∙ value_in_range v.was ∙ ap is_some v.data_of;
    }

-- Then nothing follows the array that was passed, and it has as many elements.
pub whole_array : (levels n : ℕ) (text : List ℕ) (rest : List Token) (ds : Items)
    → IsArrayPassed levels (tokens text) rest n → read_at levels text ≡ Some (array ds) → (rest ≡ []) × (n ≡ count ds)
whole_array levels n text rest ds (js, passed, same) read =
    let r = read_array levels text ds read in
    let both = sym passed ∙ r.passed in
    let left_over : Some rest ≡ Some [] = ap left both in
    let arrays : Some (json.array js) ≡ Some (json.array r.js) = ap (option_map (λ p. p.0)) both in
    let items : js ≡ r.js = cc in
    (cc, same ∙ ap count_values items ∙ r.same)
