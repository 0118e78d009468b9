-- A text escaped: a stretch as it is, the escape of the byte behind it, and the rest escaped.
use Rattle.std.proofs.Common.{◌≡◌, ℕ, zero, suc, ◌+◌, ◌<◌, ◌≤◌, Bool, true, false, ◌&&◌, ◌==◌, not, nat_le, nat_lt}
use Rattle.std.proofs.Common.{List, [], ◌∷◌, ◌++◌, length, get_or, take, drop, append-nil, refl, ap, sym, ◌∙◌}
use Rattle.std.proofs.Common.{arith, ne_eqb}
use Rattle.std.specs.List.{prefix_len}
use Rattle.std.proofs.lemmas.Bool.{and_parts}
use Rattle.std.proofs.lemmas.Bool.Decides.{nat_tests}
use Rattle.std.proofs.lemmas.List.Sums.{prefix_len_stops}
use Rattle.json.specs.Print.{escape, escape_byte}
use Rattle.fb_text.specs.Escapes.{is_plain}

plain_byte : (c : ℕ) → is_plain c ≡ true → escape_byte c ≡ c ∷ []
unfolding escape_byte
plain_byte c plain =
    let most = and_parts (nat_le 32 c && not (c == 34)) (not (c == 92)) plain in
    let two = and_parts (nat_le 32 c) (not (c == 34)) most.0 in
    let high : 32 ≤ c = grind (arith, nat_tests, two.0) in
    let quote : (c == 34) ≡ false = grind (arith, nat_tests, two.1) in
    let slash : (c == 92) ≡ false = grind (arith, nat_tests, most.1) in
    let low : nat_lt c 32 ≡ false = grind (arith, nat_tests, high) in
    rw (
      quote,
      slash,
      ne_eqb c 8 (λ e. omega arith),
      ne_eqb c 12 (λ e. omega arith),
      ne_eqb c 10 (λ e. omega arith),
      ne_eqb c 13 (λ e. omega arith),
      ne_eqb c 9 (λ e. omega arith),
      low,
    ) refl

-- what follows the stretch that stands as it is
pub run_escaped : (bs : List ℕ)
    → escape bs ≡ take (prefix_len is_plain bs) bs ++ escape (drop (prefix_len is_plain bs) bs)
run_escaped [] = refl
run_escaped (c ∷ cs) = by (is_plain c) refl (run_escaped cs)
  where
    by : (b : Bool) → is_plain c ≡ b
        → escape cs ≡ take (prefix_len is_plain cs) cs ++ escape (drop (prefix_len is_plain cs) cs)
        → escape (c ∷ cs) ≡ take (prefix_len is_plain (c ∷ cs)) (c ∷ cs)
        ++ escape (drop (prefix_len is_plain (c ∷ cs)) (c ∷ cs))
    by true is rest =
        let next : 1 + prefix_len is_plain cs ≡ suc (prefix_len is_plain cs) = omega arith in
        rw (is, next, plain_byte c is) (ap (λ l. c ∷ l) rest)
    by false is rest = rw is refl

-- the byte behind some others
at_drop : (bs : List ℕ) (n b : ℕ) (rest : List ℕ) → drop n bs ≡ b ∷ rest → (n < length bs) × (get_or bs n b ≡ b)
at_drop [] zero b rest e = cc
at_drop [] (suc n) b rest e = cc
at_drop (x ∷ xs) zero b rest e = (omega arith, cc)
at_drop (x ∷ xs) (suc n) b rest e = let later = at_drop xs n b rest e in (omega (arith, later.0), later.1)

module _ (bs : List ℕ) (run : ℕ) (is : run ≡ prefix_len is_plain bs) where
  whole : escape bs ≡ take run bs ++ escape (drop run bs)
  whole = rw is (run_escaped bs)

  -- the byte behind the stretch doesn't stand as it is
  pub stops : (b : ℕ) (rest : List ℕ) → drop run bs ≡ b ∷ rest → is_plain b ≡ false
  stops b rest e =
      let here = at_drop bs run b rest e in
      let stopped : is_plain (get_or bs run b) ≡ false =
      rw is (prefix_len_stops is_plain bs b (omega (arith, here.0, is))) in
      rw here.1 at stopped

  -- the stretch, the byte's escape, and the rest escaped
  pub step : (b : ℕ) (rest : List ℕ) → drop run bs ≡ b ∷ rest
      → take run bs ++ (escape_byte b ++ escape rest) ≡ escape bs
  unfolding whole
  step b rest e = sym (whole ∙ ap (λ l. take run bs ++ escape l) e)

  -- the last stretch
  pub last : length (drop run bs) ≡ 0 → take run bs ≡ escape bs
  unfolding whole
  last e = sym (whole ∙ (ap (λ l. take run bs ++ escape l) (none (drop run bs) e) ∙ append-nil (take run bs)))
    where
      none : (l : List ℕ) → length l ≡ 0 → l ≡ []
      none [] h = refl
      none (x ∷ xs) h = absurd (omega arith)
