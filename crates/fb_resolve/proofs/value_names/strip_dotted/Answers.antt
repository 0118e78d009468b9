use Rattle.std.proofs.Common.{◌≡◌, ◌≢◌, ◌∙◌, [], ◌∷◌, drop, length, None, Some, Option, Bor, MatchOption, Bool, true}
use Rattle.std.proofs.Common.{false, refl, sym, ap, subst, arith, if◌then◌else◌}
use Rattle.std.specs.List.{starts_with}
use Rattle.std.specs.Bool.{nat_eq}
use Rattle.std.specs.Option.{option_copied}
use Rattle.std.specs.Str.{IsCharBoundary}
use Rattle.std.proofs.lemmas.Bool.Decides.{nat_tests}
use Rattle.std.proofs.lemmas.Str.Pattern.{starts_text, strip_prefix_char}
use Rattle.fb_syntax.specs.Signs.{dot}
use Rattle.fb_schema.specs.Schema.{Name}
use Rattle.fb_resolve.specs.EnumValues.{behind, behind_dot}
use Rattle.fb_resolve.proofs.value_names.strip_dotted.Goals as goal

-- what is left of a text that a dot begins
left_of_dot : (name : Name) (left : Option (Bor Name))
    → MatchOption left ((rest : Name) → name ≢ dot ∷ rest) (λ x. name ≡ dot ∷ x.now)
    → option_copied left ≡ behind_dot name
left_of_dot [] None h = refl
left_of_dot [] (Some x) h = cc
left_of_dot (c ∷ cs) None h = grind (arith, nat_tests, h cs)
left_of_dot (c ∷ cs) (Some x) h = let first : c ≡ dot = cc in let rest : cs ≡ x.now = cc in grind (arith, nat_tests)

behind_where : (prefix name : Name) (b : Bool) → b ≡ starts_with nat_eq name prefix
    → behind prefix name ≡ (if b then behind_dot (drop (length prefix) name) else None)
unfolding behind
behind_where prefix name b e = ap (λ b. if b then behind_dot (drop (length prefix) name) else None) (sym e)

pub returns-in_err-strip_prefix : goal.returns-in_err-strip_prefix
returns-in_err-strip_prefix c =
    ap option_copied c.from_residual.ensures ∙ sym
    (behind_where c.args.prefix.now c.args.name.now false
    (starts_text false c.args.prefix.now c.args.name.now c.in_err-strip_prefix.ensures.cases))

pub returns : goal.returns
returns c =
    let h = c.in_ok-strip_prefix.ensures.cases in
    let starts = starts_text true c.args.prefix.now c.args.name.now
    (h.0, h.1, subst (IsCharBoundary c.args.name.now) (sym h.1.0) h.1.2) in
    left_of_dot c.in_ok-strip_prefix.field-0.now c.strip_prefix-2.result
    (strip_prefix_char dot c.in_ok-strip_prefix.field-0.now c.strip_prefix-2.result c.strip_prefix-2.ensures.cases
    (omega arith))
    ∙ ap behind_dot (h.2 ∙ ap (λ k. drop k c.args.name.now) h.1.0)
    ∙ sym (behind_where c.args.prefix.now c.args.name.now true starts)
