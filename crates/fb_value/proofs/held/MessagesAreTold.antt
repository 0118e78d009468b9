-- Size-prefixed buffers are told apart by their size prefixes.
use Rattle.std.proofs.Common.{◌≡◌, ℕ, zero, suc, ◌+◌, ◌≤◌, ◌++◌, Option, None, length, take, refl}
use Rattle.std.proofs.Common.{ap, sym, ◌∙◌, arith, length-append}
use Rattle.std.proofs.lemmas.Bool.{le-leb}
use Rattle.std.proofs.lemmas.Bool.Decides.{nat_tests}
use Rattle.std.proofs.lemmas.List.{get_or_append_left, append_cancel_left}
use Rattle.std.proofs.Math.Seq.{take-append_seam}
use Rattle.fb_value.specs.Num.{Bytes, num}
use Rattle.fb_value.specs.Rules.{first_failing}
use Rattle.fb_value.specs.Holds.{prefixed_fault}
use Rattle.fb_value.specs.Messages.{IsMessage, OneMessageInFront, MessageIsWhole, HeldIsMessage}
use Rattle.fb_value.proofs.rules.RulesHoldOneByOne.{rule_held}

-- a number in the first of two lists of bytes
pub num_before : (m rest : Bytes) (p n : ℕ) → p + n ≤ length m → num (m ++ rest) p n ≡ num m p n
unfolding num
num_before m rest p zero within = refl
num_before m rest p (suc n) within =
    rw (num_before m rest p n (omega (arith, within)), get_or_append_left m rest 0 (p + n) (omega (arith, within))) refl

same_length : (m n rest more : Bytes) → IsMessage m → IsMessage n → m ++ rest ≡ n ++ more → length m ≡ length n
same_length m n rest more first second same =
    let left = num_before m rest 0 4 (omega (arith, first.long)) in
    let right = num_before n more 0 4 (omega (arith, second.long)) in
    let count : num m 0 4 ≡ num n 0 4 = sym left ∙ ap (λ b. num b 0 4) same ∙ right in
    omega (arith, count, first.counted, second.counted)

pub one_in_front_shown : OneMessageInFront
one_in_front_shown m n rest more first second same =
    let long = same_length m n rest more first second same in
    let is : m ≡ n = sym (take-append_seam m rest) ∙ ap (take (length m)) same
    ∙ ap (λ k. take k (n ++ more)) long ∙ take-append_seam n more in
    (is, append_cancel_left n rest more (ap (λ b. b ++ rest) (sym is) ∙ same))

pub whole_shown : MessageIsWhole
unfolding first_failing
whole_shown m rest h =
    let all = length-append m rest in
    let same = num_before m rest 0 4 h.long in
    rw (
      le-leb 4 (length (m ++ rest)) (omega (arith, all, h.long)),
      le-leb (4 + num (m ++ rest) 0 4) (length (m ++ rest)) (omega (arith, all, same, h.counted)),
    ) refl

counts : (b : Bytes) (id : Option Bytes) → prefixed_fault b id ≡ None → IsMessage b
unfolding prefixed_fault
counts b id none =
    let first = rule_held _ _ _ none in
    let second = rule_held _ _ _ first.1 in
    let third = rule_held _ _ _ second.1 in
    record {
      long = grind (arith, nat_tests);
      counted = grind (arith, nat_tests);
    }

pub held_shown : HeldIsMessage
held_shown L most raw b v holds = counts b _ holds.header
