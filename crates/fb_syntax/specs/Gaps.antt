-- What may stand between tokens: blanks and comments (Writing a schema: comments as in C).
use Rattle.std.specs.Prelude.{ℕ, ◌≡◌, ◌<◌, ◌+◌, Bool, true, false, ◌==◌, ◌&&◌, not, List, ◌∷◌, drop}
use Rattle.std.specs.List.{prefix_len}
use Rattle.fb_syntax.specs.Bytes.{is_blank}

-- */ stands here
abbrev pub is_close : List ℕ → Bool
is_close (a ∷ b ∷ cs) = a == 42 && b == 47
is_close _ = false

-- The first */ stands after n bytes.
pub record ClosesBehind (n : ℕ) (text : List ℕ) : Type 0 where
  pub closed : is_close (drop n text) ≡ true
  pub open_before : (k : ℕ) → k < n → is_close (drop k text) ≡ false

-- how many bytes there are up to a line feed or the text's end; a carriage return may be one of them
abbrev pub line_len : List ℕ → ℕ
line_len = prefix_len (λ c. not (c == 10))

-- The first n bytes are a blank; or /* and what stands up to the first */, with it: `/*/` is none; or // and the rest
-- of the line.
pub data IsGap : ℕ → List ℕ → Type 0 where
  blank : {c : ℕ} {cs : List ℕ} → is_blank c ≡ true → IsGap 1 (c ∷ cs)
  block : {cs : List ℕ} (n : ℕ) → ClosesBehind n cs → IsGap (n + 4) (47 ∷ 42 ∷ cs)
  line : {cs : List ℕ} → IsGap (2 + line_len cs) (47 ∷ 47 ∷ cs)
