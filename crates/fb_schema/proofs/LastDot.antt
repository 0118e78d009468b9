-- What a text's last dot splits it into.
use Rattle.std.proofs.Common.{◌≡◌, ℕ, zero, suc, ◌+◌, ◌-◌, ◌≤◌, ◌<◌, ◌≢◌, List, length, get_or, take, drop, Option}
use Rattle.std.proofs.Common.{Some, None, MatchOption, ⊎_elim, refl, sym, ap, ◌∙◌, arith, Bor, eq-eqb, ne_eqb}
use Rattle.std.proofs.Common.{get_or-drop, length-drop}
use Rattle.std.specs.Str.Pattern.{RFindsChar}
use Rattle.std.specs.Option.{option_map}
use Rattle.fb_schema.specs.Paths.{dot}
use Rattle.std.specs.Path.{rfind_below, rsplit_once}
use Rattle.std.proofs.lemmas.Str.Pattern.{NoCharPasses-char}
use Rattle.std.proofs.lemmas.Bool.{cases_eq, cond-true, cond-false}
use Rattle.std.proofs.lemmas.Str.{len_utf8_ascii}

module _ (text : List ℕ) where
  none_below : (n : ℕ) → ((i : ℕ) → i < n → get_or text i 0 ≢ dot) → rfind_below dot text n ≡ None
  none_below zero h = refl
  none_below (suc n) h = cond-false _ _ _ (ne_eqb _ dot (h n (omega arith))) ∙ none_below n (λ i l. h i (omega arith))

  last_below : (k n : ℕ) → k < n → get_or text k 0 ≡ dot → ((i : ℕ) → k < i → i < n → get_or text i 0 ≢ dot)
      → rfind_below dot text n ≡ Some k
  last_below k zero l at h = absurd (omega arith)
  last_below k (suc n) l at h =
      ⊎_elim (λ e. cond-true _ _ _ (eq-eqb _ dot (ap (λ j. get_or text j 0) (sym e) ∙ at)) ∙ ap (λ j. Some j) (sym e))
      (λ other. cond-false _ _ _ (ne_eqb _ dot (h n (omega arith) (omega arith)))
      ∙ last_below k n (omega arith) at (λ i a b. h i a (omega arith))) (cases_eq k n)

  -- what std's call gives at a dot
  pub split_at_dot : (r : Option (Bor (List ℕ) × Bor (List ℕ)))
      → MatchOption r (RFindsChar dot text None) (λ x. (i : ℕ) × (j : ℕ) × RFindsChar dot text (Some (i, j))
      × (x.0.now ≡ take i text) × (x.1.now ≡ drop j text) × (i ≤ j) × (length x.0.now ≡ i)
      × (length x.1.now + j ≡ length text))
      → option_map (λ x. (x.0.now, x.1.now)) r ≡ rsplit_once dot text
  unfolding rsplit_once
  split_at_dot None h =
      sym (ap (option_map (λ i. (take i text, drop (i + 1) text)))
      (none_below (length text) (λ i. NoCharPasses-char dot text i h (omega arith))))
  split_at_dot (Some x) h =
      let i = h.0 in
      let j = h.1 in
      let next : j ≡ i + 1 = omega (arith, h.2.1.ends, len_utf8_ascii dot (omega arith)) in
      let later : (k : ℕ) → i < k → k < length text → get_or text k 0 ≢ dot = λ k a l e.
      let back : j + (k - j) ≡ k = omega arith in
      NoCharPasses-char dot (drop j text) (k - j) h.2.0 (omega arith) (omega (arith, length-drop j text))
      (get_or-drop j text (k - j) 0 ∙ ap (λ n. get_or text n 0) back ∙ e) in
      let found = last_below i (length text) (omega (arith, h.7)) (h.2.1.byte (omega arith)) later in
      let second = h.4 ∙ ap (λ n. drop n text) next in
      (λ t. Some (h.3 t, second t)) ∙ sym (ap (option_map (λ k. (take k text, drop (k + 1) text))) found)
