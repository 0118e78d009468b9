-- Loops over items.
use Rattle.std.proofs.Common.{◌≡◌, ℕ, suc, ◌<◌, ◌≤◌, ◌-◌, List, length, Bool, true, false, Option, Some, None, Result}
use Rattle.std.proofs.Common.{Ok, Err, refl, sym, arith}
use Rattle.std.specs.Result.{result_or}
use Rattle.fb_syntax.specs.declared.parser.Stop.{Stop}
use Rattle.fb_syntax.specs.declared.parser.Stop.TheVariants.{Memory}
use Rattle.fb_syntax.specs.Lexemes.{Lexeme}
use Rattle.fb_syntax.specs.Stops.{Fails}
use Rattle.fb_syntax.specs.Rules.{Front, many, until}

-- What the items so far made, and those that follow add to it, is what the items from `begun` on make.
pub record Repeats {X B : Type 0} (item : List Lexeme → Front X) (stop : List Lexeme → Bool) (add : B → X → B)
    (start : B) (begun : List Lexeme) (made : B) (rest : List Lexeme) : Type 0 where
  pub steps : ℕ
  pub enough : length rest ≤ steps
  pub same : many item stop add (suc steps) made rest ≡ until item stop add start begun

-- What fails as memory does, or is none, fails where another is none with it.
fails_with : {X Y : Type 0} (stop : Stop) (a : Option X) (b : Option Y) → (a ≡ None → b ≡ None) → Fails stop a
    → Fails stop b
fails_with Memory a b f e = tt
fails_with _ a b f e = f e

module _ {X B : Type 0} (item : List Lexeme → Front X) (stop : List Lexeme → Bool) (add : B → X → B) (start : B) where
  pub begins : (ts : List Lexeme) → Repeats item stop add start ts start ts
  unfolding until
  begins ts = record { steps = length ts; enough = omega arith; same = refl }

  pub goes_on : (begun rest after : List Lexeme) (made : B) (x : X) → length after < length rest
      → Repeats item stop add start begun made rest → stop rest ≡ false → item rest ≡ Some (x, after)
      → Repeats item stop add start begun (add made x) after
  unfolding many
  goes_on begun rest after made x shorter so_far none e =
      let fewer : so_far.steps ≡ suc (so_far.steps - 1) = omega (arith, so_far.enough) in
      let same : many item stop add (suc (suc (so_far.steps - 1))) made rest ≡ until item stop add start begun =
      rw fewer at so_far.same in
      record { steps = so_far.steps - 1; enough = omega (arith, so_far.enough); same = rw (none, e) at same }

  pub ends : (begun rest : List Lexeme) (made : B) → Repeats item stop add start begun made rest → stop rest ≡ true
      → until item stop add start begun ≡ Some (made, rest)
  unfolding many
  ends begun rest made so_far e = sym (rw e at so_far.same)

  pub fails : (why : Stop) (begun rest : List Lexeme) (made : B) → Repeats item stop add start begun made rest
      → stop rest ≡ false → Fails why (item rest) → Fails why (until item stop add start begun)
  unfolding many
  fails why begun rest made so_far goes_on = fails_with why (item rest) (until item stop add start begun)
      (λ none. sym (rw (goes_on, none) at so_far.same))

-- What isn't replaced by an error was found.
pub kept_ok : {T E D : Type 0} (r : Result T E) (d : D) (x : T) → result_or r (Err d) ≡ Ok x → r ≡ Ok x
kept_ok (Ok y) d x e = cc
kept_ok (Err f) d x e = absurd cc
