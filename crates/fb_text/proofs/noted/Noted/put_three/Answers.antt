use Rattle.std.proofs.Common.{◌≡◌, ◌++◌, List, ℕ, refl, ap, ◌∙◌, append_assoc}
use Rattle.fb_text.specs.Noted.{buffer_of}
use Rattle.fb_text.specs.WriteBuffers.{pending}
use Rattle.fb_text.proofs.noted.PiecesAddUp.{added_waiting}
use Rattle.fb_text.proofs.noted.Noted.put_three.Goals as goal

-- three pieces behind what waits
joined : (before one two three : List ℕ) → ((before ++ one) ++ two) ++ three ≡ before ++ (one ++ (two ++ three))
joined before one two three =
    append_assoc (before ++ one) two three ∙ append_assoc before one (two ++ three)

pub returns : goal.returns
returns g c =
    let one = c.args.first.now in
    let two = c.args.second.now in
    let three = c.args.third.now in
    let first = rw c.as_bytes.ensures.value at c.add.ensures.pending in
    let second = rw c.as_bytes-2.ensures.value at c.add-2.ensures.pending ∙ ap (λ l. l ++ two) first in
    let third = rw c.as_bytes-3.ensures.value at c.add-3.ensures.pending ∙ ap (λ l. l ++ three) second in
    added_waiting _ _ (one ++ (two ++ three)) refl
    (c.add-3.ensures.written ∙ (c.add-2.ensures.written ∙ c.add.ensures.written)) refl
    (λ _. third ∙ joined (pending (buffer_of c.args.self.now)) one two three)
