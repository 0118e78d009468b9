use Rattle.std.proofs.Common.{◌∙◌, ◌-◌, List, ℕ, length, take, drop, sym, ap, arith}
use Rattle.fb_tape.proofs.known_vtables.WordsTellBytes.{same_parts, rest_whole}
use Rattle.fb_tape.proofs.known_vtables.are_equal.Goals as goal

pub returns : goal.returns
returns c =
    let a = c.args.a.now in
    let b = c.args.b.now in
    let last = length a - 8 in (
      λ same. same_parts 8 last a b (omega (arith, c.if-a-gt16.false))
          (c.same_word.ensures.0 c.if-not-same_word.false)
          (sym (rest_whole last a) ∙ c.same_word-2.ensures.0 same ∙ rest_whole last b),
      λ same. c.same_word-2.ensures.1 (ap (λ (xs : List ℕ). take (length xs - last) (drop last xs)) same),
    )
