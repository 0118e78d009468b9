-- What is in front of an element is the front of one piece, where few levels are around it.
use Rattle.std.proofs.Common.{◌≡◌, ℕ, suc, ◌+◌, ◌*◌, ◌≤◌, List, ◌∷◌, take, true, false, Some, ap, arith}
use Rattle.std.specs.Prelude.{codes}
use Rattle.fb_text.specs.Indents.{levels_blanks}
use Rattle.fb_text.specs.Texts.{line}
use Rattle.fb_text.proofs.indents.LevelsAddUp.{levels_front}

-- after another element
pub next_line : (n : ℕ) → n ≤ 7 → take (2 + 2 * n) (codes ",\n              ") ≡ line (Some (levels_blanks n)) true
next_line n few =
    let more : 2 + 2 * n ≡ suc (suc (2 * n)) = omega arith in
    rw more (ap (λ (l : List ℕ). 44 ∷ 10 ∷ l) (levels_front 7 n (codes "") few))

-- before the first
pub first_line : (n : ℕ) → n ≤ 7 → take (1 + 2 * n) (codes "\n               ") ≡ line (Some (levels_blanks n)) false
first_line n few =
    let more : 1 + 2 * n ≡ suc (2 * n) = omega arith in
    rw more (ap (λ (l : List ℕ). 10 ∷ l) (levels_front 7 n (codes " ") few))
