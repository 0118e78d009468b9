-- Blanks and comments: one at most stands at a place.
use Rattle.std.proofs.Common.{take, ◌-◌, ◌≡◌, ℕ, ◌+◌, ◌<◌, ◌≤◌, ◌||◌, ◌==◌, not, true, false, List, [], ◌∷◌, length}
use Rattle.std.proofs.Common.{drop, get_or, refl, arith, length-drop}
use Rattle.std.proofs.lemmas.Bool.{or_left}
use Rattle.std.proofs.lemmas.List.{take_rest}
use Rattle.std.proofs.lemmas.List.Sums.{prefix_len-le-length}
use Rattle.fb_syntax.specs.Bytes.{is_blank}
use Rattle.fb_syntax.specs.Gaps.{is_close, ClosesBehind, line_len, IsGap, blank, block, line}

close_long : (text : List ℕ) → is_close text ≡ true → 2 ≤ length text
close_long (a ∷ b ∷ cs) e = omega arith
close_long _ e = absurd cc

pub gap_within : {n : ℕ} {text : List ℕ} → IsGap n text → (0 < n) × (n ≤ length text)
gap_within (blank e) = (omega arith, omega arith)
gap_within (block {cs = cs} n closes) = (
  omega arith,
  omega (arith, close_long (drop n cs) closes.closed, length-drop n cs),
)
gap_within (line {cs = cs}) = (omega arith, omega (arith, prefix_len-le-length (λ c. not (c == 10)) cs))

pub same_gap : {m n : ℕ} {text : List ℕ} → IsGap m text → IsGap n text → m ≡ n
same_gap (blank e) (blank f) = refl
same_gap (blank e) _ = absurd cc
same_gap (block m e) (block n f) = grind (arith, e.open_before n, f.open_before m)
same_gap line line = refl
same_gap _ (blank f) = absurd cc

pub gap_starts : {n c : ℕ} {cs : List ℕ} → IsGap n (c ∷ cs) → (is_blank c || c == 47) ≡ true
gap_starts {c = c} (blank e) = or_left (is_blank c) (c == 47) e
gap_starts (block n e) = refl
gap_starts line = refl

pub behind_first : (text : List ℕ) → take (length text - 1) (drop 1 text) ≡ drop 1 text
behind_first text = take_rest text 1

-- A gap from the first bytes of a text, and where there is none.
pub blank_gap : (text : List ℕ) → is_blank (get_or text 0 0) ≡ true → IsGap 1 text
blank_gap [] e = absurd cc
blank_gap (c ∷ cs) e = blank e

pub line_gap : (text : List ℕ) (n : ℕ) → get_or text 0 0 ≡ 47 → n ≡ line_len (drop 1 text) → IsGap (2 + n) (47 ∷ text)
line_gap [] n e f = absurd cc
line_gap (c ∷ cs) n e f = rw (e, f) line

pub block_gap : (text : List ℕ) (n : ℕ) → get_or text 0 0 ≡ 42 → ClosesBehind n (drop 1 text)
    → IsGap (n + 4) (47 ∷ text)
block_gap [] n e f = absurd cc
block_gap (c ∷ cs) n e f = rw e (block n f)

pub no_comment : {n : ℕ} (text : List ℕ) → (get_or text 0 0 ≡ 47 → ⊥)
    → (get_or text 0 0 ≡ 42 → (k : ℕ) → is_close (drop k (drop 1 text)) ≡ false) → IsGap n (47 ∷ text) → ⊥
no_comment text no_slash no_close (blank e) = cc
no_comment text no_slash no_close (block n e) = let no = no_close refl n in let yes = e.closed in cc
no_comment text no_slash no_close line = no_slash refl
