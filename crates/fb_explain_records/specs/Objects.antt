-- The JSON object of a finding, token by token.
use Rattle.std.specs.Prelude.{ℕ, ◌≡◌, ◌++◌, List, [], ◌∷◌, Option, None, Some, codes, decimal, option_map, string_bytes}
use Rattle.std.specs.Option.{option_map_or}
use Rattle.json.specs.Token.{Token, key, string, number, begin_object, end_object}
use Rattle.json.specs.Print.{print}
use Rattle.fb_faults.specs.FaultTable.{name_of, number_of}
use Rattle.fb_faults.specs.FaultPlaces.{owner_of, slot_of}
use Rattle.fb_findings.specs.Findings.{offset_in}
use Rattle.fb_findings.specs.declared.finding.Finding.{Finding}
use Rattle.fb_findings.specs.declared.positions.Position.{Position}
use Rattle.fb_findings.specs.declared.sources.Location.{Location}
use Rattle.fb_explain_records.specs.Places.{severity_word}
use Rattle.fb_explain_records.specs.declared.context.StreamMessage.{StreamMessage}

abbrev pub string_member : List ℕ → List ℕ → List Token
string_member name text = key name ∷ string text ∷ []

-- left out where the text is empty
abbrev pub text_member : List ℕ → List ℕ → List Token
text_member name [] = []
text_member name (byte ∷ bytes) = string_member name (byte ∷ bytes)

-- left out where there is no number
abbrev pub number_member : List ℕ → Option ℕ → List Token
number_member name None = []
number_member name (Some n) = key name ∷ number (decimal n) ∷ []

abbrev pub fault_members : Finding → List Token
fault_members f = string_member (codes "severity") (severity_word f.severity)
    ++ (number_member (codes "number") (Some (number_of f.fault)) ++ string_member (codes "name") (name_of f.fault))

abbrev pub position_in : Option Location → Option Position
position_in place = option_map_or (λ (l : Location). l.position) place None

abbrev pub position_members : List ℕ → Option Position → List Token
position_members file position = text_member (codes "file") file
    ++ (number_member (codes "line") (option_map (λ (p : Position). p.line) position)
    ++ number_member (codes "column") (option_map (λ (p : Position). p.column) position))

-- the file of a finding that has a place; another one where it has none
abbrev pub file_in : List ℕ → Option Location → List ℕ
file_in file place = option_map_or (λ (l : Location). l.path.now) place file

abbrev pub place_members : List ℕ → Option ℕ → Finding → List Token
place_members file ends f = position_members (file_in file f.place) (position_in f.place)
    ++ (number_member (codes "end_column") ends ++ number_member (codes "offset") (offset_in f.place))

abbrev pub subject_members : Finding → List Token
subject_members f = text_member (codes "path") (string_bytes f.path)
    ++ (number_member (codes "type") (owner_of f.fault) ++ (number_member (codes "slot") (slot_of f.fault)
    ++ (text_member (codes "type_name") (string_bytes f.type_name)
    ++ text_member (codes "field_name") (string_bytes f.field_name))))

-- the place in the old schema
abbrev pub other_members : Option Location → List Token
other_members None = []
other_members (Some l) = key (codes "other") ∷ begin_object ∷ (position_members l.path.now l.position
    ++ end_object ∷ [])

-- the number of a stream's message
abbrev pub index_in : Option StreamMessage → Option ℕ
index_in message = option_map (λ (m : StreamMessage). m.index) message

-- what is wrong, and where
abbrev pub report_members : List ℕ → Option ℕ → List ℕ → Finding → List Token
report_members file ends message f = fault_members f ++ (string_member (codes "message") message
    ++ place_members file ends f)

-- what it is about, and what is shown to people
abbrev pub about_members : Option ℕ → List ℕ → Finding → List Token
about_members index rendered f = subject_members f ++ (other_members f.old_place
    ++ (number_member (codes "message_index") index ++ text_member (codes "rendered") rendered))

-- a finding's object at a file, in a message of this number, with its words
abbrev pub object_of : List ℕ → Option ℕ → Option ℕ → List ℕ → List ℕ → Finding → List Token
object_of file ends index message rendered f = begin_object ∷ (report_members file ends message f
    ++ (about_members index rendered f ++ end_object ∷ []))

-- an object and a line feed
pub record IsObjectLine (file : List ℕ) (index : Option ℕ) (f : Finding) (line : List ℕ) : Type 0 where
  pub ends : Option ℕ
  pub message : List ℕ
  pub rendered : List ℕ
  pub spelled : line ≡ print (object_of file ends index message rendered f) ++ 10 ∷ []
