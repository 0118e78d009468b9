-- A text of printable ASCII with at most 120 characters before each line feed is a page when it is ended.
use Rattle.std.proofs.Common.{ℕ, zero, suc, ◌≡◌, ◌+◌, ◌-◌, ◌<◌, ◌++◌, ◌⊎◌, inl, inr, true, List, [], ◌∷◌, chars, refl}
use Rattle.std.proofs.Common.{sym, ap, ◌∙◌, arith, append-nil, append_assoc, slice_index}
use Rattle.std.specs.Str.{IsAscii}
use Rattle.std.proofs.lemmas.Bool.Decides.{nat_tests}
use Rattle.std.proofs.lemmas.Str.{chars-IsAscii}
use Rattle.unicode_width.specs.Width.{char_width}
use Rattle.fb_explain_pages.specs.Printed.{is_printable, is_printed}
use Rattle.fb_explain_pages.specs.Lines.{columns_of, IsPage, Written, IsWritten}
use Rattle.fb_explain_pages.proofs.lines.WhatIsWrittenIsLines.{nothing, line_ended, character_added, page}

printable-columns : (byte : ℕ) → is_printable byte ≡ true → columns_of byte ≡ 1
unfolding char_width
printable-columns byte h = grind (arith, nat_tests)

printed-cases : (left byte : ℕ) (bytes : List ℕ) → is_printed left (byte ∷ bytes) ≡ true
    → ((byte ≡ 10) × (is_printed 120 bytes ≡ true)) ⊎
    ((is_printable byte ≡ true) × (0 < left) × (is_printed (left - 1) bytes ≡ true))
printed-cases left byte bytes h = grind (arith, nat_tests)

with_text : (a b : List ℕ) (n : ℕ) → a ≡ b → IsWritten (record { text = a; columns = n })
    → (m : ℕ) × IsWritten (record { text = b; columns = m })
with_text a b n e h = (n, rw (← e) h)

printed-added : (bytes : List ℕ) (left : ℕ) (w : Written) → IsWritten w → w.columns + left ≡ 120
    → is_printed left bytes ≡ true
    → (n : ℕ) × IsWritten (record { text = w.text ++ bytes; columns = n })
printed-added [] left w written room h = with_text _ _ w.columns (sym (append-nil w.text)) written
printed-added (byte ∷ bytes) left w written room h = elim (printed-cases left byte bytes h) [
  | inl feed ↦
      let more = printed-added bytes 120 (record { text = w.text ++ 10 ∷ []; columns = 0 })
      (line_ended w written) refl feed.1 in
      with_text _ _ more.0 (append_assoc w.text (10 ∷ []) bytes ∙ ap (λ b. w.text ++ b ∷ bytes) (sym feed.0)) more.1
  | inr shown ↦
      let one = printable-columns byte shown.0 in
      let more = printed-added bytes (left - 1) (record
      { text = w.text ++ byte ∷ []; columns = w.columns + columns_of byte })
      (character_added w byte (omega (arith, one)) (omega (arith, one, room, shown.1)) written)
      (omega (arith, one, room, shown.1)) shown.2 in
      with_text _ _ more.0 (append_assoc w.text (byte ∷ []) bytes) more.1
]

is_ascii : (left byte : ℕ) (bytes : List ℕ) → is_printed left (byte ∷ bytes) ≡ true → byte < 128
is_ascii left byte bytes h = grind (arith, nat_tests)

printed-rest : (left byte : ℕ) (bytes : List ℕ) → is_printed left (byte ∷ bytes) ≡ true
    → (n : ℕ) × (is_printed n bytes ≡ true)
printed-rest left byte bytes h = elim (printed-cases left byte bytes h)
    [ inl feed ↦ (120, feed.1) | inr shown ↦ (left - 1, shown.2) ]

printed-ascii : (bytes : List ℕ) (left : ℕ) → is_printed left bytes ≡ true → IsAscii bytes
printed-ascii [] left h = λ i. omega arith
printed-ascii (byte ∷ bytes) left h = λ i. elim i as (λ k. slice_index (byte ∷ bytes) k < 128) [
  | zero ↦ is_ascii left byte bytes h
  | suc k ↦ let rest = printed-rest left byte bytes h in printed-ascii bytes rest.0 rest.1 k
]

pub page_of_ascii : (bytes : List ℕ) → is_printed 120 bytes ≡ true → IsPage (chars bytes ++ 10 ∷ [])
page_of_ascii bytes h =
    rw (chars-IsAscii bytes (printed-ascii bytes 120 h))
    (let begun = printed-added bytes 120 (record { text = []; columns = 0 }) nothing refl h in
    page _ (line_ended _ begun.1) refl)
