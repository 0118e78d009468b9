-- What a text's tokens say can be read.
use Rattle.std.proofs.Common.{◌≡◌, ℕ, zero, suc, ◌+◌, ◌-◌, ◌<◌, ◌≤◌, ◌==◌, true, List, [], ◌∷◌, ◌++◌, IsUtf8, length}
use Rattle.std.proofs.Common.{take, drop, get_or, refl, sym, ap, ◌∙◌, arith, length-drop}
use Rattle.std.proofs.lemmas.Bool.Decides.{nat_tests}
use Rattle.std.proofs.lemmas.Bool.{and_parts, eqb-true}
use Rattle.std.proofs.lemmas.List.{get_or-drop, drop-drop}
use Rattle.std.proofs.lemmas.List.Elements.{All-nil, All-cons}
use Rattle.std.proofs.lemmas.Str.{IsCharBoundary-before_ascii, IsCharBoundary-after_ascii}
use Rattle.std.specs.List.{prefix_len}
use Rattle.std.specs.Str.{IsCharBoundary}
use Rattle.fb_syntax.specs.declared.tokens.TokenKind.{TokenKind}
use Rattle.fb_syntax.specs.declared.tokens.TokenKind.TheVariants.{Integer, Quoted, Punct}
use Rattle.fb_syntax.specs.declared.tokens.Token.{Token}
use Rattle.fb_syntax.specs.declared.scan.GapOrToken.{GapOrToken}
use Rattle.fb_syntax.specs.declared.scan.GapOrToken.TheVariants as pieces
use Rattle.fb_syntax.specs.Bytes.{is_quotable}
use Rattle.fb_syntax.specs.TokenBytes.{is_token, is_closed_by_quote, starts, IsLongest, IsSmall}
use Rattle.fb_syntax.specs.Spells.{IsAtFront, len_of, tokens_of, Spells, finished, piece, SpellsText, mark_len}
use Rattle.fb_syntax.specs.Lexemes.{IsReadable, AreReadable, content}
use Rattle.fb_syntax.proofs.Gaps.{gap_starts}
use Rattle.fb_syntax.proofs.FirstBytes.{longest_starts}
use Rattle.fb_syntax.proofs.FrontPieces.{piece_within}
use Rattle.fb_syntax.proofs.LongestTokens.{closed-complete}

ascii_first : (text : List ℕ) (p : GapOrToken) → IsAtFront text p → get_or text 0 0 < 128
ascii_first [] p h = omega arith
ascii_first (c ∷ cs) (pieces.Gap n) g = let e = gap_starts g in grind (arith, nat_tests)
ascii_first (c ∷ cs) (pieces.Token k n) h = by_kind k (longest_starts k n c cs h.0) where
  by_kind : (k : TokenKind) → starts k c ≡ true → c < 128
  by_kind (Punct p) e = grind (arith, nat_tests)
  by_kind _ e = grind (arith, nat_tests)

-- A text may be cut before a gap or a token: it begins with a byte of ASCII.
cut_before : (text : List ℕ) (at : ℕ) (p : GapOrToken) → IsAtFront (drop at text) p → IsCharBoundary text at
cut_before text at p h =
    let w = piece_within p (drop at text) h in
    let here : at + 0 ≡ at = omega arith in
    IsCharBoundary-before_ascii text at (omega (arith, w.0, w.1, length-drop at text))
    (rw (get_or-drop at text 0 0, here) at (ascii_first (drop at text) p h))

quote_ends : (text : List ℕ) (n : ℕ) → IsLongest Quoted n text
    → (2 ≤ n) × (get_or text 0 0 ≡ 34) × (get_or text (n - 1) 0 ≡ 34)
unfolding is_token
quote_ends (c ∷ cs) (suc (suc m)) h =
    let both = and_parts (c == 34) _ h.spelled in
    let close = closed-complete cs (suc m) (omega (arith, h.within)) both.1 in
    let last : m ≡ prefix_len is_quotable cs = omega (arith, close.0) in
    let behind : suc (suc m) - 1 ≡ suc m = omega arith in
    (omega arith, eqb-true c 34 both.0, rw (behind, last) close.1)
quote_ends (c ∷ cs) (suc zero) h = let none = (and_parts (c == 34) (is_closed_by_quote []) h.spelled).1 in absurd cc
quote_ends [] (suc n) h = let none = h.spelled in absurd cc
quote_ends text zero h = let none = h.spelled in absurd cc

small_content : (kind : TokenKind) (text : List ℕ) (at n : ℕ) → IsSmall kind (take n (drop at text))
    → IsSmall kind (content text (record { kind = kind; at = at; len = n }))
small_content Integer text at n small =
    let start : at + 0 ≡ at = omega arith in
    let len : n - (0 + 0) ≡ n = omega arith in
    rw (start, len) small
small_content _ text at n small = tt

readable : (text : List ℕ) (at n : ℕ) (kind : TokenKind) → IsUtf8 text → IsAtFront (drop at text) (pieces.Token kind n)
    → IsCharBoundary text (at + n) → IsReadable text (record { kind = kind; at = at; len = n })
readable text at n Quoted u h behind =
    let q = quote_ends (drop at text) n h.0 in
    let first : get_or text (at + 0) 0 ≡ 34 = sym (get_or-drop at text 0 0) ∙ q.1 in
    let last : get_or text (at + (n - 1)) 0 ≡ 34 = sym (get_or-drop at text (n - 1) 0) ∙ q.2 in
    let start : at + 0 ≡ at = omega arith in
    let end : at + n - 1 ≡ at + (n - 1) = omega (arith, q.0) in
    record {
      quotes = q.0;
      within = behind.0;
      starts = IsCharBoundary-after_ascii text at u (omega (arith, q.0, behind.0)) (omega (arith, rw start at first));
      ends = rw end (IsCharBoundary-before_ascii text (at + (n - 1)) (omega (arith, q.0, behind.0))
          (omega (arith, last)));
      small = tt;
    }
readable text at n kind u h behind =
    let start : at + 0 ≡ at = omega arith in
    let end : at + n - 0 ≡ at + n = omega arith in
    record {
      quotes = omega arith;
      within = behind.0;
      starts =
          rw start (cut_before text at (pieces.Token kind n) h);
      ends = rw end behind;
      small =
          small_content kind text at n h.1;
    }

-- The tokens from a place on can be read, and the text may be cut there.
from_place : (whole : List ℕ) (at : ℕ) (text : List ℕ) (tokens : List Token) → IsUtf8 whole → drop at whole ≡ text
    → at ≤ length whole → Spells at text tokens → AreReadable whole tokens × IsCharBoundary whole at
from_place whole at text tokens u e w finished =
    (All-nil (IsReadable whole), (w, λ h. absurd (omega (arith, ap length e, length-drop at whole))))
from_place whole at text tokens u e w (piece {rest = rest} p h s) =
    let here : IsAtFront (drop at whole) p = rw e h in
    let room = piece_within p (drop at whole) here in
    let others = from_place whole (at + len_of p) (drop (len_of p) text) rest u
    (sym (drop-drop (len_of p) at whole) ∙ ap (drop (len_of p)) e)
    (omega (arith, room.0, room.1, length-drop at whole)) s in
    (with_piece p here others, cut_before whole at p here) where
      with_piece : (p : GapOrToken) → IsAtFront (drop at whole) p
          → AreReadable whole rest × IsCharBoundary whole (at + len_of p) → AreReadable whole (tokens_of at p ++ rest)
      with_piece (pieces.Gap n) here others = others.0
      with_piece (pieces.Token kind n) here others =
          All-cons (IsReadable whole) (record { kind = kind; at = at; len = n }) rest
          (readable whole at n kind u here others.1) others.0

mark_within : (text : List ℕ) → mark_len text ≤ length text
mark_within (a ∷ b ∷ c ∷ text) = grind (arith, nat_tests)
mark_within _ = grind (arith, nat_tests)

pub all_readable : (text : List ℕ) (tokens : List Token) → SpellsText text tokens → AreReadable text tokens
all_readable text tokens s = (from_place text (mark_len text) (drop (mark_len text) text) tokens s.utf8 refl
    (mark_within text) s.spelled).0
