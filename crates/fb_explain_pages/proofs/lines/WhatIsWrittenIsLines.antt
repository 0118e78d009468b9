-- Ended lines, and one that goes on, stay so when a character is added or the line is ended.
use Rattle.std.proofs.Common.{ℕ, ◌≡◌, ◌+◌, ◌<◌, ◌≤◌, ◌++◌, List, [], ◌∷◌, sum_by, chars, refl, sym, ap, ◌∙◌, arith}
use Rattle.std.proofs.Common.{append-nil, append_assoc}
use Rattle.std.specs.List.{All}
use Rattle.std.specs.Str.{IsUtf8}
use Rattle.std.specs.Char.{IsScalar}
use Rattle.std.proofs.lemmas.List.Elements.{All-nil, All-head, All-push}
use Rattle.std.proofs.lemmas.List.Sums.{sum_by-cons, sum_by-append}
use Rattle.std.proofs.lemmas.Str.{chars-nil, chars-append, chars_past_char, IsUtf8-encode}
use lib.Utf8.{encode}
use Rattle.fb_explain_pages.specs.Lines.{columns_of, IsLine, IsPage, Written, IsWritten, ended}

chars-encode : (c : ℕ) → IsScalar c → chars (encode c) ≡ c ∷ []
chars-encode c s =
    chars_past_char (encode c) [] c (IsUtf8-encode c s) (sym (append-nil (encode c))) ∙ ap (λ rest. c ∷ rest) chars-nil

-- the characters of a text behind which one is pushed
pub chars-push : (bytes : List ℕ) (c : ℕ) → IsUtf8 bytes → IsScalar c
    → chars (bytes ++ encode c) ≡ chars bytes ++ c ∷ []
chars-push bytes c u s = chars-append bytes (encode c) u ∙ ap (λ end. chars bytes ++ end) (chars-encode c s)

empty_line : IsLine []
empty_line = record { shown = All-nil (λ c. 0 < columns_of c); narrow = omega arith }

pub nothing : IsWritten (record { text = []; columns = 0 })
nothing =
    record { lines = []; line = []; are_lines = All-nil IsLine; is_line = empty_line; spelled = refl; taken = refl }

ended-push : (lines : List (List ℕ)) (line : List ℕ) → ended (lines ++ line ∷ []) ≡ ended lines ++ (line ++ 10 ∷ [])
ended-push [] line = refl
ended-push (first ∷ lines) line =
    ap (λ rest. first ++ 10 ∷ rest) (ended-push lines line)
    ∙ sym (append_assoc first (10 ∷ ended lines) (line ++ 10 ∷ []))

pub line_ended : (w : Written) → IsWritten w → IsWritten (record { text = w.text ++ 10 ∷ []; columns = 0 })
line_ended w h = record {
  lines = h.lines ++ h.line ∷ [];
  line = [];
  are_lines = All-push IsLine h.lines h.line h.are_lines h.is_line;
  is_line = empty_line;
  spelled = ap (λ text. text ++ 10 ∷ []) h.spelled ∙ append_assoc (ended h.lines) h.line (10 ∷ [])
      ∙ sym (ended-push h.lines h.line) ∙ sym (append-nil (ended (h.lines ++ h.line ∷ [])));
  taken = refl;
}

sum-push : (line : List ℕ) (c : ℕ) → sum_by columns_of (line ++ c ∷ []) ≡ sum_by columns_of line + columns_of c
sum-push line c = grind (arith, sum_by-append columns_of line (c ∷ []), sum_by-cons columns_of c [])

pub character_added : (w : Written) (c : ℕ) → 0 < columns_of c → w.columns + columns_of c ≤ 120 → IsWritten w
    → IsWritten (record { text = w.text ++ c ∷ []; columns = w.columns + columns_of c })
character_added w c shown fits h = record {
  lines = h.lines;
  line = h.line ++ c ∷ [];
  are_lines = h.are_lines;
  is_line = record {
    shown = All-push (λ c. 0 < columns_of c) h.line c h.is_line.shown shown;
    narrow = omega (arith, sum-push h.line c, h.taken, fits);
  };
  spelled = ap (λ text. text ++ c ∷ []) h.spelled ∙ append_assoc (ended h.lines) h.line (c ∷ []);
  taken = omega (arith, sum-push h.line c, h.taken);
}

no_characters : (line : List ℕ) → All (λ c. 0 < columns_of c) line → sum_by columns_of line ≡ 0 → line ≡ []
no_characters [] shown none = refl
no_characters (c ∷ line) shown none =
    absurd (omega (arith, sum_by-cons columns_of c line, none, All-head (λ c. 0 < columns_of c) c line shown))

-- where no column of the last line is taken
pub page : (w : Written) → IsWritten w → w.columns ≡ 0 → IsPage w.text
page w h none = record {
  lines = h.lines;
  are_lines = h.are_lines;
  spelled = h.spelled ∙ ap (λ line. ended h.lines ++ line) (no_characters h.line h.is_line.shown (sym h.taken ∙ none))
      ∙ append-nil (ended h.lines);
}
