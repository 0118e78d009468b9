-- What is read of the members of an object's text, where so many brackets may be open in each at once.
use Rattle.std.specs.Prelude.{ℕ, List, [], Option, None, Some, map, unwrap_or}
use Rattle.std.specs.List.{All}
use Rattle.serde_json.specs.Data.{Data, null, boolean, number, string, array, object, Members, no_members}
use Rattle.fb_pieces.specs.Reads.{read_at}
use Rattle.fb_pieces.specs.ObjectOfMembers.{put_all}
use Rattle.fb_encode.specs.TextsRead.{IsRead, IsReadAs}

-- the bytes of a string, and none of another tree
abbrev pub bytes_in : Option Data → List ℕ
bytes_in None = []
bytes_in (Some null) = []
bytes_in (Some (boolean b)) = []
bytes_in (Some (number n)) = []
bytes_in (Some (string s)) = s
bytes_in (Some (array ds)) = []
bytes_in (Some (object ms)) = []

-- the string that a text is read as, and no bytes where it is read as none
unfoldable pub name_read : ℕ → List ℕ → List ℕ
name_read brackets text = bytes_in (read_at brackets text)

-- the tree that a text is read as, and null where it isn't read
unfoldable pub tree_read : ℕ → List ℕ → Data
tree_read brackets text = unwrap_or (read_at brackets text) null

-- the name and the tree of each member
abbrev pub members_read : ℕ → List (List ℕ × List ℕ) → List (List ℕ × Data)
members_read brackets ms = map (λ m. (name_read brackets m.0, tree_read brackets m.1)) ms

-- the members of the object: of a name that is there twice the last value stays
abbrev pub object_read : ℕ → List (List ℕ × List ℕ) → Members
object_read brackets ms = put_all (members_read brackets ms) no_members

-- Each name is read as a string.
abbrev pub AreNamesRead : ℕ → List (List ℕ × List ℕ) → Type 0
AreNamesRead brackets ms = All (λ m. IsReadAs brackets m.0 (string (name_read brackets m.0))) ms

-- Each value is read.
abbrev pub AreValuesRead : ℕ → List (List ℕ × List ℕ) → Type 0
AreValuesRead brackets ms = All (λ m. IsRead brackets m.1) ms
