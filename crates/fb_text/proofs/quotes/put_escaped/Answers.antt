use Rattle.std.proofs.Common.{◌≡◌, ◌==◌, ◌∷◌, [], true, List, ℕ, length, sym, refl, ◌∙◌, arith}
use Rattle.std.proofs.lemmas.Bool.Decides.{nat_tests}
use Rattle.json.specs.Print.{escape}
use Rattle.fb_text.proofs.noted.PiecesAddUp.{added_none, added_as, then}
use Rattle.fb_text.proofs.quotes.EscapeGoesByStretches.{stops, step, last}
use Rattle.fb_text.proofs.quotes.put_escaped.Goals as goal

pub put_escape-requires : goal.put_escape-requires
put_escape-requires g c =
    stops c.loop-left.left.now c.plain_run.result c.plain_run.ensures.run c.in-Some.byte.now c.in-Some.rest.now
    (sym c.split_at.ensures.back ∙ c.in-Some.ensures.cases.0)

pub returns-in_default : goal.returns-in_default
returns-in_default g c =
    let ended = rw c.split_at.ensures.back at c.in_default.ensures.cases in
    let made = last c.loop-left.left.now c.plain_run.result c.plain_run.ensures.run ended in
    c.loop-left.invariant _ (added_as made (added_as c.split_at.ensures.front c.put.ensures))

pub loop-left-preserved : goal.loop-left-preserved
loop-left-preserved g c =
    let front = c.split_at.ensures.front in
    let made = step c.loop-left.left.now c.plain_run.result c.plain_run.ensures.run c.in-Some.byte.now
    c.in-Some.rest.now (sym c.split_at.ensures.back ∙ c.in-Some.ensures.cases.0) in
    λ end rest. c.loop-left.invariant end
    (added_as made (then (added_as front c.put.ensures) (then c.put_escape.ensures rest)))

-- nothing is left
none : (l : List ℕ) → true ≡ (length l == 0) → [] ≡ escape l
none [] h = refl
none (x ∷ xs) h = let empty : length (x ∷ xs) ≡ 0 = grind (arith, nat_tests, h) in absurd (omega arith)

pub returns : goal.returns
returns g c = c.loop-left.invariant _
    (added_as (none c.loop-left.left.now (sym c.loop-left-test.false ∙ c.is_empty.ensures)) (added_none _))
