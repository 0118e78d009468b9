-- A text whose pieces are UTF-8: what is between them is ASCII.
use Rattle.std.specs.Prelude.{ℕ, List, ◌∷◌, IsUtf8, map}
use Rattle.std.specs.List.{All}
use Rattle.fb_pieces.specs.declared.cut.Run.{Run}
use Rattle.fb_pieces.specs.declared.cut.Member.{Member}
use Rattle.fb_pieces.specs.CutTexts.{run_text, member_texts}
use Rattle.fb_pieces.specs.ReadByPieces.{IsCutIntoRuns, IsCutIntoMembers}

-- An array's text whose runs are UTF-8 is UTF-8.
abbrev pub CutArrayIsUtf8 : Type 0
CutArrayIsUtf8 = (text : List ℕ) (run : Run) (runs : List Run) → IsCutIntoRuns text (run ∷ runs)
    → All IsUtf8 (map (run_text text) (run ∷ runs)) → IsUtf8 text

-- An object's text whose members' names and values are UTF-8 is UTF-8.
abbrev pub CutObjectIsUtf8 : Type 0
CutObjectIsUtf8 = (text : List ℕ) (member : Member) (members : List Member) → IsCutIntoMembers text (member ∷ members)
    → All (λ m. IsUtf8 m.0 × IsUtf8 m.1) (map (member_texts text) (member ∷ members)) → IsUtf8 text
