use Rattle.std.proofs.Common.{◌≡◌, ◌∙◌, ◌++◌, ◌∷◌, [], ℕ, List, ap, append_assoc, replicate, arith, sym}
use Rattle.std.proofs.lemmas.List.{append-nil, replicate_more}
use Rattle.std.proofs.lemmas.Result.{IfOk-from_err}
use Rattle.fb_encode.proofs.reader.TextInBrackets.{bracketed}
use Rattle.fb_encode.proofs.reader.Reader.put_in_brackets.Goals as goal

pub returns : goal.returns
returns c =
    let n = c.args.brackets in
    let text = c.args.text.now in
    let all : c.loop-2.counter ≡ n = omega arith in
    c.loop-2.invariant ∙ ap (λ (m : ℕ). replicate n 91 ++ (text ++ replicate m 93)) all ∙ bracketed n text

pub loop-preserved : goal.loop-preserved
loop-preserved c =
    c.in_ok-push.ensures.items
    ∙ ap (λ (xs : List ℕ). xs ++ (91 ∷ [])) c.loop.invariant
    ∙ replicate_more c.loop.counter 91

pub loop-2-init : goal.loop-2-init
loop-2-init c =
    let n = c.args.brackets in
    let text = c.args.text.now in
    let all : c.loop.counter ≡ n = omega arith in
    c.in_ok-extend_from_slice.ensures.items
    ∙ ap (λ (xs : List ℕ). xs ++ text) (c.loop.invariant ∙ ap (λ (m : ℕ). replicate m 91) all)
    ∙ ap (λ (xs : List ℕ). replicate n 91 ++ xs) (sym (append-nil text))

pub loop-2-preserved : goal.loop-2-preserved
loop-2-preserved c =
    let opening = replicate c.args.brackets 91 in
    let text = c.args.text.now in
    let closing = replicate c.loop-2.counter 93 in
    c.in_ok-push-2.ensures.items
    ∙ ap (λ (xs : List ℕ). xs ++ (93 ∷ [])) c.loop-2.invariant
    ∙ append_assoc opening (text ++ closing) (93 ∷ [])
    ∙ ap (λ (xs : List ℕ). opening ++ xs) (append_assoc text closing (93 ∷ []))
    ∙ ap (λ (xs : List ℕ). opening ++ (text ++ xs)) (replicate_more c.loop-2.counter 93)

pub returns-in_err-push : goal.returns-in_err-push
returns-in_err-push c = IfOk-from_err _ _ c.from_residual-in_err-push.ensures.0

pub returns-in_err-extend_from_slice : goal.returns-in_err-extend_from_slice
returns-in_err-extend_from_slice c = IfOk-from_err _ _ c.from_residual-in_err-extend_from_slice.ensures.0

pub returns-in_err-push-2 : goal.returns-in_err-push-2
returns-in_err-push-2 c = IfOk-from_err _ _ c.from_residual-in_err-push-2.ensures.0
