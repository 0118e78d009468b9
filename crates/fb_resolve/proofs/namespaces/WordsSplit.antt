-- A name's words, split off at its first or its last dot.
use Rattle.std.proofs.Common.{◌≡◌, ◌≢◌, ◌<◌, ◌≤◌, ◌+◌, ◌==◌, ℕ, suc, Bor, List, [], ◌∷◌, ◌++◌, length, take, drop}
use Rattle.std.proofs.Common.{get_or, Option, None, Some, MatchOption, refl, ap, sym, ◌∙◌, arith, ne_eqb}
use Rattle.std.specs.List.{position_or_len, before_first, after_first}
use Rattle.std.specs.Str.Pattern.{RFindsChar}
use Rattle.std.proofs.lemmas.List.{take-append-drop, length-take-le, get_or-take}
use Rattle.std.proofs.lemmas.List.Sums.{fails_before_first, passes_at_first}
use Rattle.std.proofs.lemmas.Bool.{eqb-true}
use Rattle.std.proofs.lemmas.Bool.Decides.{nat_tests}
use Rattle.std.proofs.lemmas.Str.Pattern.{NoCharPasses-char}
use Rattle.std.proofs.lemmas.Str.{len_utf8_ascii}
use Rattle.std.proofs.Math.Seq.{drop-cons}
use Rattle.fb_syntax.specs.Signs.{dot}
use Rattle.fb_schema.specs.Schema.{Name}
use Rattle.fb_resolve.specs.Words.{with_first, words}
use Rattle.fb_resolve.proofs.namespaces.WordsOf.{words-inside}

-- a name without a dot is one word
pub words-plain : (s : Name) → ((i : ℕ) → i < length s → get_or s i 0 ≢ dot) → words s ≡ s ∷ []
words-plain [] h = refl
words-plain (c ∷ s) h = rw (ne_eqb c dot (h 0 (omega arith)))
    (ap (with_first c) (words-plain s (λ i l. h (suc i) (omega arith))))

-- a name with a dot at a place
pub words-dot : (s : Name) (i : ℕ) → i < length s → get_or s i 0 ≡ dot
    → words s ≡ words (take i s) ++ words (drop (i + 1) s)
words-dot s i l h =
    let next : i + 1 ≡ suc i = omega arith in
    ap words (sym (take-append-drop i s) ∙ ap (λ r. take i s ++ r)
    (drop-cons s i 0 l ∙ ap (λ c. c ∷ drop (suc i) s) h ∙ ap (λ k. dot ∷ drop k s) (sym next)))
    ∙ words-inside (take i s) (drop (i + 1) s)

-- what the last dot splits a name into, as std's call gives it
pub words-last : (s : Name) (r : Option (Bor (List ℕ) × Bor (List ℕ)))
    → MatchOption r (RFindsChar dot s None) (λ x. (i : ℕ) × (j : ℕ) × RFindsChar dot s (Some (i, j))
    × (x.0.now ≡ take i s) × (x.1.now ≡ drop j s) × (i ≤ j) × (length x.0.now ≡ i)
    × (length x.1.now + j ≡ length s))
    → MatchOption r (words s ≡ s ∷ []) (λ x. words s ≡ words x.0.now ++ x.1.now ∷ [])
words-last s None h = words-plain s (λ i l. NoCharPasses-char dot s i h (omega arith) l)
words-last s (Some x) h =
    let i = h.0 in
    let j = h.1 in
    let next : j ≡ i + 1 = omega (arith, h.2.1.ends, len_utf8_ascii dot (omega arith)) in
    let inside : i < length s = omega (arith, next, h.7) in
    let later : words (drop j s) ≡ drop j s ∷ [] =
    words-plain (drop j s) (λ k l. NoCharPasses-char dot (drop j s) k h.2.0 (omega arith) l) in
    words-dot s i inside (h.2.1.byte (omega arith))
    ∙ ap (λ n. words (take i s) ++ words (drop n s)) (sym next)
    ∙ ap (λ ws. words (take i s) ++ ws) later
    ∙ ap (λ p. words p ++ drop j s ∷ []) (sym h.3) ∙ ap (λ w. words x.0.now ++ w ∷ []) (sym h.4)

-- before the first dot there is none
no-dot : (s : Name) (i : ℕ) → i < position_or_len (λ d. d == 46) s → get_or s i 0 ≢ dot
no-dot s i h is = let other = fails_before_first (λ d. d == 46) s i 0 h in grind (arith, nat_tests)

-- a name with a dot is the word before the first one and the words behind it
pub words-first : (s word behind : Name) → word ≡ before_first (λ d. d == 46) s → behind ≡ after_first (λ d. d == 46) s
    → position_or_len (λ d. d == 46) s < length s → words s ≡ word ∷ words behind
words-first s word behind w b p =
    let n = position_or_len (λ d. d == 46) s in
    let first : words (take n s) ≡ take n s ∷ [] = words-plain (take n s) (λ i l.
    let less : i < n = omega (arith, length-take-le n s (omega arith)) in
    rw (get_or-take n s i 0 less) (no-dot s i less)) in
    words-dot s n p (eqb-true (get_or s n 0) 46 (passes_at_first (λ d. d == 46) s 0 p))
    ∙ ap (λ ws. ws ++ words (drop (n + 1) s)) first ∙ cc

-- a name without a dot is one word
pub words-one : (s : Name) → position_or_len (λ d. d == 46) s ≡ length s → words s ≡ s ∷ []
words-one s p = words-plain s (λ i l. no-dot s i (omega arith))
