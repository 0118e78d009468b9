-- The first byte of what stands at the front: it decides the kind.
use Rattle.std.proofs.Common.{◌≡◌, ◌≢◌, ℕ, zero, suc, ◌≤◌, true, false, cond, ◌==◌, ◌||◌, List, [], ◌∷◌, length, take}
use Rattle.std.proofs.Common.{refl, ap, sym, ◌∙◌, get_or, ◌<◌, arith}
use Rattle.std.proofs.lemmas.Bool.Decides.{nat_tests}
use Rattle.std.proofs.lemmas.Bool.{and_parts}
use Rattle.std.specs.List.{list_all}
use Rattle.fb_syntax.specs.declared.tokens.TokenKind.{TokenKind}
use Rattle.fb_syntax.specs.declared.tokens.TokenKind.TheVariants.{Word, Integer, Quoted, Punct}
use Rattle.fb_syntax.specs.declared.scan.GapOrToken.{GapOrToken}
use Rattle.fb_syntax.specs.declared.scan.GapOrToken.TheVariants as pieces
use Rattle.fb_syntax.specs.Bytes.{is_letter, is_digit, is_sign, is_punct, is_blank, is_word_byte}
use Rattle.fb_syntax.specs.Integers.{is_unsigned}
use Rattle.fb_syntax.specs.TokenBytes.{is_token, starts, is_closed_by_quote, IsLongest, IsSmall}
use Rattle.fb_syntax.specs.Spells.{IsAtFront}
use Rattle.fb_syntax.specs.Gaps.{IsGap}
use Rattle.fb_syntax.proofs.Gaps.{gap_starts, gap_within, same_gap, behind_first, line_gap, block_gap, no_comment}

pub unsigned_starts : (c : ℕ) (s : List ℕ) → is_unsigned (c ∷ s) ≡ true → is_digit c ≡ true
unsigned_starts c (x ∷ h ∷ s) e = grind (arith, nat_tests)
unsigned_starts c _ e = grind (arith, nat_tests)

pub token_starts : (k : TokenKind) (c : ℕ) (s : List ℕ) → is_token k (c ∷ s) ≡ true → starts k c ≡ true
unfolding is_token
token_starts Word c s e = (and_parts (is_letter c) (list_all is_word_byte s) e).0
token_starts Integer c s e = grind (arith, nat_tests, unsigned_starts c s)
token_starts Quoted c s e = (and_parts (c == 34) (is_closed_by_quote s) e).0
token_starts (Punct p) c [] e = e
token_starts (Punct p) c (d ∷ s) e = absurd cc

kind_of : ℕ → TokenKind
kind_of c = cond (is_letter c) Word (cond (c == 34) Quoted (cond (is_punct c) (Punct c) Integer))

-- No gap begins with a byte that begins a token, and no token of another kind.
started_kind : (k : TokenKind) (c : ℕ) → starts k c ≡ true → (k ≡ kind_of c) × ((is_blank c || c == 47) ≡ false)
unfolding kind_of
started_kind (Punct p) c e = grind (arith, nat_tests)
started_kind _ c e = grind (arith, nat_tests)

pub token_some : (k : TokenKind) (n : ℕ) (text : List ℕ) → IsLongest k n text → 0 < n
unfolding is_token
token_some (Punct p) zero text h = let e = h.spelled in absurd cc
token_some _ zero text h = let e = h.spelled in absurd cc
token_some k (suc n) text h = omega arith

pub longest_starts : (k : TokenKind) (n c : ℕ) (cs : List ℕ) → IsLongest k n (c ∷ cs) → starts k c ≡ true
longest_starts k zero c cs h = absurd (omega (arith, token_some k zero (c ∷ cs) h))
longest_starts k (suc n) c cs h = token_starts k c (take n cs) h.spelled

-- What is the longest token of its kind is the longest of all.
pub longest_of : (kind : TokenKind) (n c : ℕ) (cs : List ℕ) → starts kind c ≡ true → n ≤ length (c ∷ cs)
    → is_token kind (take n (c ∷ cs)) ≡ true → ((m : ℕ) → m ≤ length cs → is_token kind (c ∷ take m cs) ≡ true
    → suc m ≤ n) → IsLongest kind n (c ∷ cs)
longest_of kind n c cs s w t only = record { within = w; spelled = t; longest = no_longer } where
  no_longer : (k : TokenKind) (m : ℕ) → m ≤ length (c ∷ cs) → is_token k (take m (c ∷ cs)) ≡ true → m ≤ n
  no_longer k zero h u = omega arith
  no_longer k (suc m) h u =
      let same : k ≡ kind = (started_kind k c (token_starts k c (take m cs) u)).0 ∙ sym (started_kind kind c s).0 in
      only m (omega arith) (rw same at u)

gap_or_token : {c : ℕ} {cs : List ℕ} (m : ℕ) (k : TokenKind) → IsGap m (c ∷ cs) → starts k c ≡ true → ⊥
gap_or_token {c = c} m k g s = let a = gap_starts g in let b = (started_kind k c s).1 in cc

-- Where a byte begins tokens of a kind, nothing else stands.
pub only_kind : (kind : TokenKind) (c : ℕ) (cs : List ℕ) → starts kind c ≡ true
    → ((n : ℕ) → IsLongest kind n (c ∷ cs) → IsSmall kind (take n (c ∷ cs)) → ⊥) → (piece : GapOrToken)
    → IsAtFront (c ∷ cs) piece → ⊥
only_kind kind c cs s none (pieces.Gap n) g = gap_or_token n kind g s
only_kind kind c cs s none (pieces.Token k n) h =
    let same : k ≡ kind = (started_kind k c (longest_starts k n c cs h.0)).0 ∙ sym (started_kind kind c s).0 in
    none n (rw same at h.0) (rw same at h.1)

pub only_gaps : (c : ℕ) (cs : List ℕ) → (is_blank c || c == 47) ≡ true → ((n : ℕ) → IsGap n (c ∷ cs) → ⊥)
    → (piece : GapOrToken) → IsAtFront (c ∷ cs) piece → ⊥
only_gaps c cs s none (pieces.Gap n) g = none n g
only_gaps c cs s none (pieces.Token k n) h = let a = (started_kind k c (longest_starts k n c cs h.0)).1 in cc

pub ruleset comments = (line_gap, block_gap, no_comment, only_gaps, behind_first)

pub nowhere : (text : List ℕ) (piece : GapOrToken) → length text ≡ 0 → IsAtFront text piece → ⊥
nowhere text (pieces.Gap n) e g = let w = gap_within g in omega (arith, w.0, w.1)
nowhere text (pieces.Token k n) e h = let w = (h.0).within in omega (arith, token_some k n text h.0)

-- One piece at most stands at the front.
pub one_piece : (text : List ℕ) (p q : GapOrToken) → IsAtFront text p → IsAtFront text q → p ≡ q
one_piece [] p q h i = absurd (nowhere [] p refl h)
one_piece (c ∷ cs) (pieces.Gap m) (pieces.Gap n) h i = ap pieces.Gap (same_gap h i)
one_piece (c ∷ cs) (pieces.Gap m) (pieces.Token k n) h i = absurd (gap_or_token m k h (longest_starts k n c cs i.0))
one_piece (c ∷ cs) (pieces.Token j m) (pieces.Gap n) h i = absurd (gap_or_token n j i (longest_starts j m c cs h.0))
one_piece (c ∷ cs) (pieces.Token j m) (pieces.Token k n) h i =
    let kinds : j ≡ k = (started_kind j c (longest_starts j m c cs h.0)).0
    ∙ sym (started_kind k c (longest_starts k n c cs i.0)).0 in
    let up = (h.0).longest k n (i.0).within (i.0).spelled in
    let down = (i.0).longest j m (h.0).within (h.0).spelled in
    let lengths : m ≡ n = omega arith in
    rw (kinds, lengths) refl

-- Nothing begins with any other byte.
pub no_start : (text : List ℕ) → is_blank (get_or text 0 0) ≡ false → get_or text 0 0 ≢ 47
    → is_letter (get_or text 0 0) ≡ false → is_digit (get_or text 0 0) ≡ false → is_sign (get_or text 0 0) ≡ false
    → get_or text 0 0 ≢ 34 → is_punct (get_or text 0 0) ≡ false → (piece : GapOrToken) → IsAtFront text piece → ⊥
no_start [] blank slash letter digit sign quote mark piece h = nowhere [] piece refl h
no_start (c ∷ cs) blank slash letter digit sign quote mark (pieces.Gap n) g = let e = gap_starts g in
    grind (arith, nat_tests)
no_start (c ∷ cs) blank slash letter digit sign quote mark (pieces.Token k n) h =
    other k (longest_starts k n c cs h.0) where
      other : (k : TokenKind) → starts k c ≡ true → ⊥
      other (Punct p) e = grind (arith, nat_tests)
      other _ e = grind (arith, nat_tests)
