-- The text of an array or object that is cut into pieces which are read.
use Rattle.std.specs.Prelude.{◌≡◌, ℕ, suc, ◌+◌, Some, List, ◌∷◌, map, take, drop, slice_get}
use Rattle.json.specs.Ascii as ascii
use Rattle.serde_json.specs.Data.{Data, array, object, Items, no_members}
use Rattle.fb_pieces.specs.declared.cut.Run.{Run}
use Rattle.fb_pieces.specs.declared.cut.Member.{Member}
use Rattle.fb_pieces.specs.Blanks.{AreBlanks}
use Rattle.fb_pieces.specs.Reads.{read_at}
use Rattle.fb_pieces.specs.ArrayOfRuns.{ReadRuns, joined}
use Rattle.fb_pieces.specs.ObjectOfMembers.{ReadMembers, put_all}
use Rattle.fb_pieces.specs.CutTexts.{AreRunsOf, AreMembersOf, run_text, member_texts}

-- This opening bracket is here, and blanks alone come before it.
pub record OpensAt (text : List ℕ) (bracket at : ℕ) : Type 0 where
  pub blanks : AreBlanks (take at text)
  pub opens : slice_get text at ≡ Some bracket

-- The text is a bracket, these runs with the commas between them, and a bracket, with blanks round it.
pub record IsCutIntoRuns (text : List ℕ) (runs : List Run) : Type 0 where
  pub at : ℕ
  pub end : ℕ
  pub before : OpensAt text ascii.open_bracket at
  pub cut : AreRunsOf text (at + 1) end runs
  pub after : AreBlanks (drop end text)

-- The same of a brace and members.
pub record IsCutIntoMembers (text : List ℕ) (members : List Member) : Type 0 where
  pub at : ℕ
  pub end : ℕ
  pub before : OpensAt text ascii.open_brace at
  pub cut : AreMembersOf text (at + 1) end members
  pub after : AreBlanks (drop end text)

-- A text whose runs are read in brackets of their own is read as the array of them all.
abbrev pub CutArrayIsRead : Type 0
CutArrayIsRead = (levels : ℕ) (text : List ℕ) (run : Run) (runs : List Run) (rs : List Items)
    → IsCutIntoRuns text (run ∷ runs) → ReadRuns levels (map (run_text text) (run ∷ runs)) rs
    → read_at (suc levels) text ≡ Some (array (joined rs))

-- A text whose members' names and values are read one by one is read as the object of them all.
abbrev pub CutObjectIsRead : Type 0
CutObjectIsRead = (levels : ℕ) (text : List ℕ) (member : Member) (members : List Member) (ds : List (List ℕ × Data))
    → IsCutIntoMembers text (member ∷ members)
    → ReadMembers levels (map (member_texts text) (member ∷ members)) ds
    → read_at (suc levels) text ≡ Some (object (put_all ds no_members))
