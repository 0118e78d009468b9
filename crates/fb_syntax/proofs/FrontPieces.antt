-- What stands at the front decides which tokens a text has; the scanner goes from piece to piece.
use Rattle.std.proofs.Common.{◌≡◌, ℕ, ◌+◌, ◌<◌, List, [], ◌++◌, ◌≤◌, length, drop, refl, ap, sym, arith, ◌∙◌}
use Rattle.std.proofs.Common.{append_assoc, length-drop, Some, None, Ok, Err, ◌∷◌}
use Rattle.std.proofs.lemmas.List.{append-nil, drop-drop}
use Rattle.fb_syntax.specs.declared.tokens.Token.{Token}
use Rattle.fb_syntax.specs.declared.scan.GapOrToken.{GapOrToken}
use Rattle.fb_syntax.specs.Spells.{Spells, finished, piece, mark_len, OneSpelling, IsAtFront, len_of, tokens_of}
use Rattle.fb_syntax.specs.Gaps.{IsGap}
use Rattle.fb_syntax.specs.NextToken.{ComesNext, ended, after_gap, longest, refused}
use Rattle.fb_syntax.specs.declared.tokens.BadToken.{BadToken}
use Rattle.fb_syntax.proofs.Gaps.{gap_within}
use Rattle.fb_syntax.proofs.FirstBytes.{nowhere, one_piece, token_some}
use Rattle.std.proofs.lemmas.Grind.{common_steps}
use Rattle.fb_syntax.specs.declared.scan.GapOrToken.TheVariants as pieces

pub piece_within : (piece : GapOrToken) (text : List ℕ) → IsAtFront text piece
    → (0 < len_of piece) × (len_of piece ≤ length text)
piece_within (pieces.Gap n) text g = gap_within g
piece_within (pieces.Token kind n) text h = (token_some kind n text h.0, (h.0).within)

-- Where a piece stands, the tokens are its own and those behind it.
pub behind : (at : ℕ) (text : List ℕ) (p : GapOrToken) (tokens : List Token) → IsAtFront text p → Spells at text tokens
    → (rest : List Token) × (tokens ≡ tokens_of at p ++ rest) × Spells (at + len_of p) (drop (len_of p) text) rest
behind at text p tokens h finished = absurd (nowhere [] p refl h)
behind at text p tokens h (piece {rest = rest} q g s) = rw (one_piece text p q h g) (rest, refl, s)

-- Where nothing stands, only the end of the text is spelled.
pub nothing : (at : ℕ) (text : List ℕ) (tokens : List Token) → ((p : GapOrToken) → IsAtFront text p → ⊥)
    → Spells at text tokens → (length text ≡ 0) × (tokens ≡ [])
nothing at text tokens none finished = (refl, refl)
nothing at text tokens none (piece p h s) = absurd (none p h)

-- A text has one list of tokens.
pub same_tokens : (at : ℕ) (text : List ℕ) (xs ys : List Token) → Spells at text xs → Spells at text ys → xs ≡ ys
same_tokens at text xs ys finished other = sym (nothing at [] ys (λ p h. nowhere [] p refl h) other).1
same_tokens at text xs ys (piece {rest = rest} p h s) other =
    let split = behind at text p ys h other in
    rw split.1 (ap (λ ts. tokens_of at p ++ ts) (same_tokens (at + len_of p)
    (drop (len_of p) text) rest split.0 s split.2))

-- A text is spelled by one list of tokens at most.
pub one_spelling_shown : OneSpelling
one_spelling_shown bytes xs ys a b = same_tokens (mark_len bytes)
    (drop (mark_len bytes) bytes) xs ys a.spelled b.spelled

-- Before the place `at` stand the tokens `found`: with those behind it they are all, and none else are.
pub record Scanned (start : ℕ) (text : List ℕ) (at : ℕ) (found : List Token) : Type 0 where
  pub within : at ≤ length text
  pub sound : (rest : List Token) → Spells at (drop at text) rest → Spells start (drop start text) (found ++ rest)
  pub only : (every : List Token) → Spells start (drop start text) every
      → (rest : List Token) × (every ≡ found ++ rest) × Spells at (drop at text) rest

pub begun : (start : ℕ) (text : List ℕ) → start ≤ length text → Scanned start text start []
begun start text h = record { within = h; sound = λ rest s. s; only = λ every s. (every, refl, s) }

abbrev pub Passed : (start : ℕ) (text : List ℕ) (at : ℕ) (found : List Token) (p : GapOrToken) → Type 0
Passed start text at found p = (at + len_of p ≤ length text) × (0 < len_of p)
    × Scanned start text (at + len_of p) (found ++ tokens_of at p)

pub over_piece : (start : ℕ) (text : List ℕ) (at : ℕ) (found : List Token) (p : GapOrToken)
    → Scanned start text at found → IsAtFront (drop at text) p → Passed start text at found p
over_piece start text at found p s here =
    let w = piece_within p (drop at text) here in
    let room : at + len_of p ≤ length text = omega (arith, w.1, s.within, length-drop at text) in
    let further : drop (len_of p) (drop at text) ≡ drop (at + len_of p) text = grind (arith, common_steps) in (
      room,
      w.0,
      record {
        within = room;
        sound = λ rest spelled. rw append_assoc (s.sound (tokens_of at p ++ rest) (piece p here (rw further spelled)));
        only = λ every spelled.
            let split = s.only every spelled in
            let first = behind at (drop at text) p split.0 here split.2 in
            (first.0, rw append_assoc (split.1 ∙ ap (λ r. found ++ r) first.1), rw further at first.2);
      },
    )

pub over_fault : (start : ℕ) (text : List ℕ) (at : ℕ) (found : List Token) → Scanned start text at found
    → at < length text → ((p : GapOrToken) → IsAtFront (drop at text) p → ⊥) → (every : List Token)
    → Spells start (drop start text) every → ⊥
over_fault start text at found s h none every spelled =
    let split = s.only every spelled in
    let end = nothing at (drop at text) split.0 none split.2 in omega (arith, end.0, length-drop at text)

pub over : (start : ℕ) (text : List ℕ) (at : ℕ) (found : List Token) → Scanned start text at found → length text ≤ at
    → Spells start (drop start text) found × ((every : List Token) → Spells start (drop start text) every
    → found ≡ every)
over start text at found s h =
    let none : drop at text ≡ [] = grind (arith, common_steps) in
    let whole : found ++ [] ≡ found = grind (arith, common_steps) in (
      rw whole at (s.sound [] (rw none finished)),
      λ every spelled. let split = s.only every spelled in
          let last = nothing at [] split.0 (λ p h. nowhere [] p refl h) (rw none at split.2) in
          sym (split.1 ∙ ap (λ r. found ++ r) last.1 ∙ whole),
    )

-- The same from token to token.
gap_passed : (start : ℕ) (text : List ℕ) (at : ℕ) (found : List Token) (n : ℕ) → Scanned start text at found
    → IsGap n (drop at text) → Scanned start text (at + n) found
gap_passed start text at found n s gap = rw append-nil at (over_piece start text at found (pieces.Gap n) s gap).2

pub over_token : (start : ℕ) (text : List ℕ) (at : ℕ) (rest : List ℕ) (found : List Token) (token : Token)
    → rest ≡ drop at text → Scanned start text at found → ComesNext at rest (Some (Ok token))
    → Scanned start text (token.at + token.len) (found ++ token ∷ [])
over_token start text at rest found token is s (after_gap n gap next) =
    over_token start text (at + n) (drop n rest) found token (rw is (drop-drop n at text))
    (gap_passed start text at found n s (rw is at gap)) next
over_token start text at rest found token is s (longest kind n l small) =
    (over_piece start text at found (pieces.Token kind n) s (rw is at l, rw is at small)).2

pub over_bad : (start : ℕ) (text : List ℕ) (at : ℕ) (rest : List ℕ) (found : List Token) (bad : BadToken)
    → rest ≡ drop at text → Scanned start text at found → ComesNext at rest (Some (Err bad)) → (every : List Token)
    → Spells start (drop start text) every → ⊥
over_bad start text at rest found bad is s (after_gap n gap next) = over_bad start text (at + n) (drop n rest) found
    bad (rw is (drop-drop n at text)) (gap_passed start text at found n s (rw is at gap)) next
over_bad start text at rest found bad is s (refused some none) =
    let here : at < length text = omega (arith, ap length is, length-drop at text, some) in
    over_fault start text at found s here (rw is at none)

pub over_end : (start : ℕ) (text : List ℕ) (at : ℕ) (rest : List ℕ) (found : List Token)
    → rest ≡ drop at text → Scanned start text at found → ComesNext at rest None
    → Spells start (drop start text) found × ((every : List Token) → Spells start (drop start text) every
    → found ≡ every)
over_end start text at rest found is s (after_gap n gap next) = over_end start text (at + n) (drop n rest) found
    (rw is (drop-drop n at text)) (gap_passed start text at found n s (rw is at gap)) next
over_end start text at rest found is s ended =
    let last : length text ≤ at = omega (arith, ap length is, length-drop at text) in over start text at found s last
