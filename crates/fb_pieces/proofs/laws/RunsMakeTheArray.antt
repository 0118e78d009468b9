-- Runs of elements make the array of them all; an element is a run of one.
use Rattle.std.proofs.Common.{◌≡◌, ℕ, suc, ◌≤◌, Bool, true, false, List, [], ◌∷◌, ◌++◌, Option, Some, None, option_map}
use Rattle.std.proofs.Common.{option_and_then, refl, sym, ap, ◌∙◌, subst, arith, append_assoc, append-nil}
use Rattle.json.specs.Token as tok
use Rattle.json.specs.Token.{Token}
use Rattle.json.specs.Word.{ends_word}
use Rattle.json.specs.Lex.{between, lex, Place, fresh, after_value, after_comma}
use Rattle.json.specs.Lex.{begins_colon, may_begin, punctuate, tokens}
use Rattle.json.specs.Json as json
use Rattle.json.specs.Tree as tree
use Rattle.json.specs.Tree.{json_tokens, items_tokens}
use Rattle.serde_json.specs.Data.{Data, array, Items, no_items, item}
use Rattle.serde_json.specs.Read.{of_json, of_items}
use Rattle.fb_pieces.specs.Modes.{mode_after}
use Rattle.fb_pieces.specs.TokensSplit.{AreGood, ends_value_after, AreValues}
use Rattle.fb_pieces.specs.Texts.{array_rest, array_text}
use Rattle.fb_pieces.specs.Reads.{read_at}
use Rattle.fb_pieces.specs.ArrayOfElements.{ReadEach, ElementsMakeTheArray}
use Rattle.fb_pieces.specs.ArrayOfRuns.{ReadsRun, ReadRuns, append, joined, RunsMakeTheArray}
use Rattle.fb_pieces.specs.InBrackets.{ElementIsReadWithoutBrackets}
use Rattle.fb_pieces.proofs.laws.LexemesSplitOutsideStrings.{lex-cut, may_cut}
use Rattle.fb_pieces.proofs.laws.TokensSplitAtAComma.{values-then}
use Rattle.fb_pieces.proofs.laws.TokensBeforeAClosingBracket.{before_bracket}
use Rattle.fb_pieces.proofs.laws.TokensOfAValue.{AreGood-append, opens-append, ends-append, value_good, value_ends}
use Rattle.fb_pieces.proofs.laws.TokensOfAValue.{value_opens}
use Rattle.fb_pieces.proofs.laws.ReadTextHasTheTokensOfAValue.{value_of, read_value}
use Rattle.fb_pieces.proofs.laws.ReadTextClosesItsStrings.{tokens-closed, run-closed}

-- ---- what follows an element

pub array_rest_ends : (es : List (List ℕ)) → ends_word (array_rest es) ≡ true
array_rest_ends [] = refl
array_rest_ends (e ∷ es) = refl

pub array_rest_no_colon : (es : List (List ℕ)) → begins_colon (lex between (array_rest es)) ≡ false
unfolding lex
array_rest_no_colon [] = refl
array_rest_no_colon (e ∷ es) = refl

-- ---- the tokens of items without brackets

abbrev inner : json.Items → List Token
inner json.no_items = []
inner (json.item j js) = json_tokens j ++ inner js

abbrev json_append : json.Items → json.Items → json.Items
json_append json.no_items ks = ks
json_append (json.item j js) ks = json.item j (json_append js ks)

inner-append : (js ks : json.Items) → inner js ++ items_tokens ks ≡ items_tokens (json_append js ks)
inner-append json.no_items ks = refl
inner-append (json.item j js) ks =
    append_assoc (json_tokens j) (inner js) (items_tokens ks) ∙ ap (λ l. json_tokens j ++ l) (inner-append js ks)

append-no_items : (js : json.Items) → json_append js json.no_items ≡ js
append-no_items json.no_items = refl
append-no_items (json.item j js) = ap (json.item j) (append-no_items js)

depth-append : (js ks : json.Items) (n : ℕ) → tree.items_depth js ≤ n → tree.items_depth ks ≤ n
    → tree.items_depth (json_append js ks) ≤ n
depth-append json.no_items ks n h k = k
depth-append (json.item j js) ks n h k = omega (arith, depth-append js ks n (omega arith) k)

ends-inner : (c : Bool) (js : json.Items) → c ≡ true → ends_value_after c (inner js) ≡ true
ends-inner c json.no_items h = h
ends-inner c (json.item j js) h = ends-append c (json_tokens j) (inner js) ∙ ends-inner _ js (value_ends c j)

good-inner : (js : json.Items) → AreGood (inner js)
good-inner json.no_items = tt
good-inner (json.item j js) = AreGood-append _ _ (value_good j) (good-inner js)

some_items : (js : json.Items) (ds : Items) → of_items js ≡ Some ds → (ds ≡ no_items → ⊥) → AreValues (inner js)
some_items json.no_items no_items e h = absurd (h refl)
some_items json.no_items (item d ds) e h = absurd cc
some_items (json.item j js) ds e h = record {
  good = good-inner (json.item j js);
  first = opens-append (json_tokens j) (inner js) (value_opens j);
  last = ends-append false (json_tokens j) (inner js) ∙ ends-inner _ js (value_ends false j);
}

of_items-append : (js ks : json.Items) (ds es : Items) → of_items js ≡ Some ds → of_items ks ≡ Some es
    → of_items (json_append js ks) ≡ Some (append ds es)
of_items-append json.no_items ks no_items es h k = k
of_items-append json.no_items ks (item d ds) es h k = absurd cc
of_items-append (json.item j js) ks ds es h k =
    go (of_json j) (of_items js) refl refl h (λ more b. of_items-append js ks more es b k)
  where
    go : (o : Option Data) (p : Option Items) → of_json j ≡ o → of_items js ≡ p
        → option_and_then (λ x. option_map (item x) p) o ≡ Some ds
        → ((more : Items) → of_items js ≡ Some more → of_items (json_append js ks) ≡ Some (append more es))
        → of_items (json_append (json.item j js) ks) ≡ Some (append ds es)
    go None p a b e ih = absurd cc
    go (Some d) None a b e ih = absurd cc
    go (Some d) (Some more) a b e ih =
        ap (option_and_then (λ x. option_map (item x) (of_items (json_append js ks)))) a
        ∙ ap (option_map (item d)) (ih more b) ∙ ap (λ o. option_map (λ l. append l es) o) e

-- ---- runs

-- the text spells these items, without brackets
record Run (levels : ℕ) (text : List ℕ) (ds : Items) : Type 0 where
  was : json.Items
  values : AreValues (inner was)
  spelled : tokens text ≡ inner was
  shallow : tree.items_depth was ≤ levels
  data_of : of_items was ≡ Some ds

one_element : (levels : ℕ) (e : List ℕ) (d : Data) → read_at levels e ≡ Some d → Run levels e (item d no_items)
one_element levels e d read =
    let v = value_of levels e d read in
    let is = ap (option_and_then (λ x. option_map (item x) (Some no_items))) v.data_of in
    record {
      was = json.item v.was json.no_items;
      values = some_items (json.item v.was json.no_items) (item d no_items) is (λ none. cc);
      spelled = v.spells.spelled ∙ sym (append-nil (json_tokens v.was));
      shallow = omega (arith, v.spells.shallow);
      data_of = is;
    }

items_of_array : (j : json.Json) (ds : Items) (ts : List Token) → of_json j ≡ Some (array ds)
    → tok.begin_array ∷ ts ≡ json_tokens j
    → (js : json.Items) × (j ≡ json.array js) × (of_items js ≡ Some ds) × (ts ≡ items_tokens js)
items_of_array json.null ds ts e h = absurd cc
items_of_array (json.boolean b) ds ts e h = absurd cc
items_of_array (json.number s) ds ts e h = absurd cc
items_of_array (json.string s) ds ts e h = absurd cc
items_of_array (json.object ms) ds ts e h = absurd cc
items_of_array (json.array js) ds ts e h = (js, refl, unmapped (of_items js) e, cc)
  where
    unmapped : (o : Option Items) → option_map array o ≡ Some (array ds) → o ≡ Some ds
    unmapped None e = absurd cc
    unmapped (Some es) e = cc

run_of : (levels : ℕ) (text : List ℕ) (ds : Items) → ReadsRun levels text ds → Run levels text ds
unfolding lex punctuate
run_of levels text ds r =
    let v = value_of (suc levels) (array_text text []) (array ds) r.read in
    let closed = run-closed (suc levels) text (array ds) r.read in
    let lexed = lex-cut text (93 ∷ []) between (may_cut (mode_after between text) (93 ∷ []) closed refl) in
    let a = items_of_array v.was ds (punctuate fresh (lex between (text ++ 93 ∷ []))) v.data_of v.spells.spelled in
    let deep : tree.depth (json.array a.0) ≤ suc levels = rw a.1 at v.spells.shallow in
    let end = inner-append a.0 json.no_items ∙ ap items_tokens (append-no_items a.0) in
    record {
      was = a.0;
      values = some_items a.0 ds a.2 r.some;
      spelled = before_bracket tok.end_array (λ p b k. refl) (lex between text) (inner a.0)
          (AreGood-append (inner a.0) _ (good-inner a.0) (refl, tt))
          (ap (punctuate fresh) (sym lexed) ∙ a.3 ∙ sym end);
      shallow = omega arith;
      data_of = a.2;
    }

-- ---- what follows a run

-- the texts, each behind a comma, and the bracket spell these items
record Rest (levels : ℕ) (es : List (List ℕ)) (ds : Items) : Type 0 where
  was : json.Items
  spelled : punctuate after_value (lex between (array_rest es)) ≡ items_tokens was
  shallow : tree.items_depth was ≤ levels
  data_of : of_items was ≡ Some ds

no_rest : (levels : ℕ) → Rest levels [] no_items
unfolding lex punctuate
no_rest levels = record { was = json.no_items; spelled = refl; shallow = omega arith; data_of = refl }

-- the tokens of a run and what follows it, where a value may begin
run-then : (levels : ℕ) (p : Place) (e : List ℕ) (es : List (List ℕ)) (ds ns : Items) (run : Run levels e ds)
    (rest : Rest levels es ns) → may_begin p ≡ true
    → punctuate p (lex between (e ++ array_rest es)) ≡ items_tokens (json_append run.was rest.was)
run-then levels p e es ds ns run rest may =
    let closed = tokens-closed e (subst AreGood (sym run.spelled) run.values.good) in
    ap (punctuate p)
    (lex-cut e (array_rest es) between (may_cut (mode_after between e) (array_rest es) closed (array_rest_ends es)))
    ∙ values-then p (lex between e) (lex between (array_rest es)) (inner run.was) may run.values run.spelled
    (array_rest_no_colon es)
    ∙ ap (λ l. inner run.was ++ l) rest.spelled ∙ inner-append run.was rest.was

one_more : (levels : ℕ) (e : List ℕ) (es : List (List ℕ)) (ds ns : Items) → Run levels e ds → Rest levels es ns
    → Rest levels (e ∷ es) (append ds ns)
unfolding lex punctuate
one_more levels e es ds ns run rest = record {
  was = json_append run.was rest.was;
  spelled = run-then levels after_comma e es ds ns run rest refl;
  shallow = depth-append run.was rest.was levels run.shallow rest.shallow;
  data_of = of_items-append run.was rest.was ds ns run.data_of rest.data_of;
}

whole : (levels : ℕ) (e : List ℕ) (es : List (List ℕ)) (ds ns : Items) → Run levels e ds → Rest levels es ns
    → read_at (suc levels) (array_text e es) ≡ Some (array (append ds ns))
unfolding lex punctuate
whole levels e es ds ns run rest = read_value (suc levels) (array_text e es) (array (append ds ns))
    (record {
      was = json.array (json_append run.was rest.was);
      spells = record {
        spelled = ap (λ l. tok.begin_array ∷ l) (run-then levels fresh e es ds ns run rest refl);
        shallow = omega (arith, depth-append run.was rest.was levels run.shallow rest.shallow);
      };
      data_of = ap (option_map array) (of_items-append run.was rest.was ds ns run.data_of rest.data_of);
    })

-- ---- the laws

elements_rest : (levels : ℕ) (es : List (List ℕ)) (ds : Items) → ReadEach levels es ds → Rest levels es ds
elements_rest levels [] no_items r = no_rest levels
elements_rest levels [] (item d ds) r = absurd r
elements_rest levels (e ∷ es) no_items r = absurd r
elements_rest levels (e ∷ es) (item d ds) r =
    one_more levels e es (item d no_items) ds (one_element levels e d r.0) (elements_rest levels es ds r.1)

pub elements_make_the_array_shown : ElementsMakeTheArray
elements_make_the_array_shown levels e es no_items r = absurd r
elements_make_the_array_shown levels e es (item d ds) r =
    whole levels e es (item d no_items) ds (one_element levels e d r.0) (elements_rest levels es ds r.1)

runs_rest : (levels : ℕ) (es : List (List ℕ)) (rs : List Items) → ReadRuns levels es rs → Rest levels es (joined rs)
runs_rest levels [] [] r = no_rest levels
runs_rest levels [] (d ∷ ds) r = absurd r
runs_rest levels (e ∷ es) [] r = absurd r
runs_rest levels (e ∷ es) (d ∷ ds) r =
    one_more levels e es d (joined ds) (run_of levels e d r.0) (runs_rest levels es ds r.1)

pub runs_make_the_array_shown : RunsMakeTheArray
runs_make_the_array_shown levels e es [] r = absurd r
runs_make_the_array_shown levels e es (d ∷ ds) r =
    whole levels e es d (joined ds) (run_of levels e d r.0) (runs_rest levels es ds r.1)

-- the one item of a run of one
only_item : (js : json.Items) (d : Data) → of_items js ≡ Some (item d no_items)
    → (j : json.Json) × (js ≡ json.item j json.no_items) × (of_json j ≡ Some d)
only_item json.no_items d e = absurd cc
only_item (json.item j json.no_items) d e = (j, refl, go (of_json j) e)
  where
    go : (o : Option Data) → option_and_then (λ x. option_map (item x) (Some no_items)) o ≡ Some (item d no_items)
        → o ≡ Some d
    go None e = absurd cc
    go (Some c) e = cc
only_item (json.item j (json.item k ks)) d e = absurd (go (of_json j) (of_json k) (of_items ks) e)
  where
    go : (o p : Option Data) (q : Option Items)
        → option_and_then (λ x. option_map (item x) (option_and_then (λ y. option_map (item y) q) p)) o
        ≡ Some (item d no_items)
        → ⊥
    go None p q e = cc
    go (Some c) None q e = cc
    go (Some c) (Some b) None e = cc
    go (Some c) (Some b) (Some r) e = cc

pub element_is_read_without_brackets_shown : ElementIsReadWithoutBrackets
element_is_read_without_brackets_shown levels e d read =
    let run = run_of levels e (item d no_items) (record { some = λ none. cc; read = read }) in
    let only = only_item run.was d run.data_of in
    read_value levels e d
    (record {
      was = only.0;
      spells = record {
        spelled = run.spelled ∙ ap inner only.1 ∙ append-nil (json_tokens only.0);
        shallow = let deep = rw only.1 at run.shallow in omega arith;
      };
      data_of = only.2;
    })
