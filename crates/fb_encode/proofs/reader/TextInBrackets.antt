-- A text in brackets: its bytes, and what is read of it without them.
use Rattle.std.proofs.Common.{◌≡◌, ◌∙◌, ◌+◌, ◌-◌, ◌≤◌, ◌++◌, ◌∷◌, [], ℕ, zero, suc, List, Some, refl, sym, ap}
use Rattle.std.proofs.Common.{length, get_or, replicate, append_assoc, arith, IsUtf8}
use Rattle.std.proofs.lemmas.List.{append-nil, replicate_more}
use Rattle.simdutf8.proofs.StepsLemmas.{IsUtf8-after_ascii, IsUtf8-append_ascii, IsAscii-replicate}
use Rattle.serde_json.specs.Data.{Data, null, boolean, number, string, array, object, no_items, item}
use Rattle.serde_json.specs.Find.{as_array}
use Rattle.serde_json.specs.View.{view as tree_view, items_view}
use Rattle.serde_json.specs.declared.value.Value.{Value as Json}
use Rattle.serde_json.specs.Read.{read}
use Rattle.fb_pieces.specs.InBrackets.{TextIsReadWithoutBrackets, in_arrays, in_brackets}
use Rattle.fb_pieces.specs.Reads.{read_at}
use Rattle.fb_pieces.specs.Texts.{array_text}

-- one closing bracket more, at the front or at the end
one_more : (n x : ℕ) → replicate (suc n) x ≡ replicate n x ++ (x ∷ [])
one_more n x =
    let same : n + 1 ≡ suc n = omega arith in
    sym (replicate_more n x ∙ ap (λ (m : ℕ). replicate m x) same)

-- n opening brackets, the text, and as many closing ones
pub bracketed : (n : ℕ) (text : List ℕ) → replicate n 91 ++ (text ++ replicate n 93) ≡ in_brackets n text
bracketed zero text = append-nil text
bracketed (suc n) text =
    let inner : replicate n 91 ++ (text ++ (replicate n 93 ++ (93 ∷ []))) ≡ in_brackets n text ++ (93 ∷ []) =
    ap (λ (xs : List ℕ). replicate n 91 ++ xs) (sym (append_assoc text (replicate n 93) (93 ∷ [])))
    ∙ sym (append_assoc (replicate n 91) (text ++ replicate n 93) (93 ∷ []))
    ∙ ap (λ (xs : List ℕ). xs ++ (93 ∷ [])) (bracketed n text) in
    ap (λ (xs : List ℕ). 91 ∷ (replicate n 91 ++ (text ++ xs))) (one_more n 93)
    ∙ ap (λ (xs : List ℕ). 91 ∷ xs) inner

-- a text between brackets is UTF-8 if the whole is
pub utf8_within : (n : ℕ) (text : List ℕ) → IsUtf8 (in_brackets n text) → IsUtf8 text
utf8_within zero text utf8 = utf8
utf8_within (suc n) text utf8 =
    let inner = in_brackets n text in
    let behind = (IsUtf8-after_ascii (91 ∷ []) (inner ++ (93 ∷ [])) (IsAscii-replicate 1 91 (omega arith))).0 utf8 in
    utf8_within n text ((IsUtf8-append_ascii inner (93 ∷ []) (IsAscii-replicate 1 93 (omega arith))).0 behind)

-- what is read in brackets of the excerpt's own is the tree of the excerpt
pub read_without : TextIsReadWithoutBrackets → (brackets : ℕ) (text : List ℕ) (t : Data) → brackets ≤ 127
    → read (in_brackets (127 - brackets) text) ≡ Some (in_arrays (127 - brackets) t) → read_at brackets text ≡ Some t
read_without law brackets text t low is =
    let all : 127 ≡ (127 - brackets) + brackets = omega arith in
    law brackets (127 - brackets) text t (rw (← all) is)

-- one array more, within those that are there
pub arrays_more : (n : ℕ) (d : Data) → in_arrays (n + 1) d ≡ in_arrays n (array (item d no_items))
arrays_more zero d = refl
arrays_more (suc n) d =
    let same : suc n + 1 ≡ suc (n + 1) = omega arith in
    ap (λ (m : ℕ). in_arrays m d) same ∙ ap (λ (e : Data). array (item e no_items)) (arrays_more n d)

-- a tree that is an array of one element
pub one_element : (d : Data) (elements : List Json) (inner : Json) → Some (items_view elements) ≡ as_array d
    → length elements ≡ 1 → inner ≡ get_or elements 0 inner → d ≡ array (item (tree_view inner) no_items)
one_element null elements inner is one at = cc
one_element (boolean b) elements inner is one at = cc
one_element (number n) elements inner is one at = cc
one_element (string s) elements inner is one at = cc
one_element (object ms) elements inner is one at = cc
one_element (array ds) [] inner is one at = absurd (omega (arith, one))
one_element (array ds) (v ∷ w ∷ vs) inner is one at = absurd (omega (arith, one))
one_element (array ds) (v ∷ []) inner is one at =
    let same : ds ≡ item (tree_view v) no_items = cc in
    ap array same ∙ ap (λ (u : Json). array (item (tree_view u) no_items)) (sym at)

-- one pair of brackets more, within those that are there
pub brackets_more : (n : ℕ) (text : List ℕ) → in_brackets (n + 1) text ≡ in_brackets n (array_text text [])
brackets_more zero text = refl
brackets_more (suc n) text =
    let same : suc n + 1 ≡ suc (n + 1) = omega arith in
    ap (λ (m : ℕ). in_brackets m text) same ∙ ap (λ (e : List ℕ). array_text e []) (brackets_more n text)
