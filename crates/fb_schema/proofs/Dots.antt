-- Whether a text has a dot, by a look at each byte.
use Rattle.std.proofs.Common.{◌≡◌, ℕ, zero, suc, ◌+◌, ◌≤◌, ◌==◌, ◌||◌, List, Bool, true, false, if◌then◌else◌, length}
use Rattle.std.proofs.Common.{get_or}
use Rattle.std.proofs.Common.{take, drop, Option, Some, None, refl, sym, ap, ◌∙◌, arith}
use Rattle.std.specs.Prelude.{is_some}
use Rattle.std.specs.List.{list_any}
use Rattle.std.specs.Option.{option_map}
use Rattle.std.specs.Path.{rfind_below, rsplit_once}
use Rattle.std.proofs.lemmas.List.Folds.{list_any_more}
use Rattle.std.proofs.Math.Seq.{take-length}
use Rattle.fb_schema.specs.Paths.{dot}

abbrev pub is_dot : ℕ → Bool
is_dot byte = byte == dot

some_or : (b : Bool) (n : ℕ) (r : Option ℕ) → is_some (if b then Some n else r) ≡ (is_some r || b)
some_or true n None = refl
some_or true n (Some k) = refl
some_or false n None = refl
some_or false n (Some k) = refl

some_map : {X Y : Type 0} (f : X → Y) (o : Option X) → is_some (option_map f o) ≡ is_some o
some_map f None = refl
some_map f (Some x) = refl

module _ (text : List ℕ) where
  any_below : (n : ℕ) → n ≤ length text → is_some (rfind_below dot text n) ≡ list_any is_dot (take n text)
  any_below zero l = refl
  any_below (suc n) l =
      let next : n + 1 ≡ suc n = omega arith in
      some_or (is_dot (get_or text n 0)) n (rfind_below dot text n)
      ∙ ap (λ b. b || is_dot (get_or text n 0)) (any_below n (omega (arith, l)))
      ∙ sym (list_any_more is_dot text n 0 (omega (arith, l)))
      ∙ ap (λ k. list_any is_dot (take k text)) next

  -- it has one where a dot splits it
  pub any_dot : list_any is_dot text ≡ is_some (rsplit_once dot text)
  unfolding rsplit_once
  any_dot =
      sym (some_map (λ i. (take i text, drop (i + 1) text)) (rfind_below dot text (length text))
      ∙ any_below (length text) (omega arith)
      ∙ ap (list_any is_dot) (take-length text))
