-- Runs of the elements of `[true,null,"a,]"]`, and what is none.
use Rattle.std.specs.Prelude.{◌≡◌, ℕ, true, false, None, List, [], ◌∷◌, refl}
use Rattle.std.proofs.Common.{lit≤}
use Rattle.json.specs.Text.{content}
use Rattle.json.specs.Word.{word, after_number}
use Rattle.json.specs.Json.{items, members, value}
use Rattle.json.specs.Lex.{lex, punctuate}
use Rattle.serde_json.specs.Data.{null, boolean, string, no_items, item}
use Rattle.fb_pieces.specs.Texts.{array_text}
use Rattle.fb_pieces.specs.Reads.{read_at}
use Rattle.fb_pieces.specs.ArrayOfRuns.{ReadRuns}
use Rattle.fb_pieces.specs.declared.cut.Run.{Run}
use Rattle.fb_pieces.specs.ReadByPieces.{IsCutIntoRuns}

-- `true,null`
abbrev pub two : List ℕ
two = 0x74 ∷ 0x72 ∷ 0x75 ∷ 0x65 ∷ 0x2c ∷ 0x6e ∷ 0x75 ∷ 0x6c ∷ 0x6c ∷ []

-- `"a,]"`
abbrev pub one : List ℕ
one = 0x22 ∷ 0x61 ∷ 0x2c ∷ 0x5d ∷ 0x22 ∷ []

-- The text is cut after its second element.
abbrev pub two_and_one : List Run
two_and_one = record { elements = record { start = 1; end = 10 }; count = 2; is_last = false }
    ∷ record { elements = record { start = 11; end = 16 }; count = 1; is_last = true } ∷ []

pub is_cut : IsCutIntoRuns (array_text two (one ∷ [])) two_and_one
is_cut = record {
  at = 0;
  end = 17;
  before = record { blanks = refl; opens = refl };
  cut = (
    record { starts = refl; ends = lit≤ tt; before = refl },
    refl,
    (record { starts = refl; ends = lit≤ tt; before = refl }, refl, refl),
  );
  after = refl;
}

-- Each run is read in brackets of its own.
pub runs_read : ReadRuns 0 (two ∷ one ∷ [])
    (item (boolean true) (item null no_items) ∷ item (string (0x61 ∷ 0x2c ∷ 0x5d ∷ [])) no_items ∷ [])
unfolding content word after_number items members value lex punctuate
runs_read = (record { some = λ none. cc; read = refl }, (record { some = λ none. cc; read = refl }, tt))

-- An empty run is read in brackets, but not between two commas: so a run has to have an element.
pub empty_run_refused : read_at 1 (array_text two ([] ∷ [])) ≡ None
unfolding content word after_number items members value lex punctuate
empty_run_refused = refl

-- A string that is cut at its comma is refused, in brackets too.
pub half_string_refused : read_at 1 (array_text (0x22 ∷ 0x61 ∷ []) []) ≡ None
unfolding content word after_number items members value lex punctuate
half_string_refused = refl
