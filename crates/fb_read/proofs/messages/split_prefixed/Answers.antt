use Rattle.std.proofs.Common.{◌≡◌, ◌∙◌, ◌+◌, ◌≤◌, ◌++◌, ℕ, ap, sym, length, take, drop, arith}
use Rattle.std.proofs.lemmas.List.{take-append-drop, length-take-le}
use Rattle.fb_value.specs.Num.{Bytes, num}
use Rattle.fb_value.specs.Messages.{IsMessage}
use Rattle.fb_value.proofs.held.MessagesAreTold.{num_before}
use Rattle.fb_read.proofs.messages.split_prefixed.Goals as goal

-- A size prefix and as many bytes as it says are a message.
cut_off : (b first rest : Bytes) (count : ℕ) → count ≡ num b 0 4 → 4 + count ≤ length b → first ≡ take (4 + count) b
    → rest ≡ drop (4 + count) b → IsMessage first × (b ≡ first ++ rest)
cut_off b first rest count is within front back =
    let whole : b ≡ first ++ rest = sym (take-append-drop (4 + count) b) ∙ ap (λ x. x ++ drop (4 + count) b) (sym front)
    ∙ ap (λ x. first ++ x) (sym back) in
    let long : length first ≡ 4 + count = ap length front ∙ length-take-le (4 + count) b within in
    let same : num b 0 4 ≡ num first 0 4 = ap (λ x. num x 0 4) whole ∙ num_before first rest 0 4 (omega (arith, long))
    in
    (record { long = omega (arith, long); counted = omega (arith, long, is, same) }, whole)

pub returns-clause-message : goal.returns-clause-message
returns-clause-message c =
    cut_off c.args.bytes.now _ _ c.u32_at.result c.u32_at.ensures (omega (arith, c.if-bytes-end.false))
    c.split_at.ensures.front c.split_at.ensures.back
