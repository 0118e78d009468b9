use Rattle.std.proofs.Common.{arith, rules, ◌++◌, ◌∙◌, ap, sym, [], ◌∷◌, string_bytes, ◌≡◌, ◌<◌, ◌==◌, length, take}
use Rattle.std.proofs.Common.{get_or, append_assoc, refl, subst}
use Rattle.fb_resolve.specs.MembersRead.{with_underscores, underscore_for_dot}
use Rattle.std.proofs.lemmas.List.{map-append, get_or-take, length-take, take_all}
use Rattle.std.proofs.lemmas.List.Folds.{map_fixed}
use Rattle.std.proofs.lemmas.List.Sums.{fails_before_first, passes_at_first, split_at_first}
use Rattle.std.specs.List.{position_or_len, before_first, after_first}
use Rattle.fb_schema.specs.Schema.{Name}
use Rattle.std.proofs.lemmas.Grind.{common_steps}
use Rattle.fb_resolve.proofs.members.underscored.Goals as goal

-- Underscores for dots, up to the first dot and behind it.

-- what stands before the first dot stays as it is
same_before : (s : Name) → with_underscores (before_first (λ d. d == 46) s) ≡ before_first (λ d. d == 46) s
same_before s = map_fixed underscore_for_dot (before_first (λ d. d == 46) s) (λ k e l.
    let within : k < position_or_len (λ d. d == 46) s =
    omega (arith, l, length-take (position_or_len (λ d. d == 46) s) s) in
    rw (get_or-take (position_or_len (λ d. d == 46) s) s k e within, fails_before_first (λ d. d == 46) s k e within)
    refl)

-- a name without a dot
underscored-plain : (s : Name) → position_or_len (λ d. d == 46) s ≡ length s → with_underscores s ≡ s
underscored-plain s none =
    grind (arith, none, take_all (length s) s, same_before s)

-- a name with one
underscored-dot : (s : Name) → position_or_len (λ d. d == 46) s < length s
    → with_underscores s ≡ before_first (λ d. d == 46) s ++ 95 ∷ with_underscores (after_first (λ d. d == 46) s)
underscored-dot s there =
    let p = λ (d : Rattle.std.proofs.Common.ℕ). d == 46 in
    let dot = get_or s (position_or_len p s) 0 in
    grind (
      arith,
      split_at_first p s 0 there,
      map-append underscore_for_dot (before_first p s) (dot ∷ after_first p s),
      same_before s,
      passes_at_first p s 0 there,
    )

pub loop-word-preserved : goal.loop-word-preserved
loop-word-preserved c =
    let split = c.in-Some-split_once.ensures.byte (omega arith) (λ w o h. h) in
    let dot = underscored-dot c.loop-word.rest.now split.2 in
    (search rules, grind (arith, common_steps, split.0, split.1, dot, c.loop-word.invariant.1))

pub returns : goal.returns
returns c =
    let law = underscored-plain c.loop-word.rest.now
    (c.in_default-split_once.ensures.byte (omega arith) (λ w o h. h)) in
    grind (arith, common_steps, law, c.loop-word.invariant.1)

pub returns-in_default : goal.returns-in_default
returns-in_default c = sym (underscored-plain c.args.name.now (c.in_default.ensures.byte (omega arith) (λ w o h. h)))
