-- An object of members whose names and values are read one by one.
use Rattle.std.specs.Prelude.{◌≡◌, ℕ, suc, Some, List, [], ◌∷◌, map, ⊤}
use Rattle.serde_json.specs.Data.{Data, string, object, Members, no_members, put}
use Rattle.fb_pieces.specs.Reads.{read_at}
use Rattle.fb_pieces.specs.Texts.{object_text, member_text}

-- Each name is read as a string, and each value as that of one of the members, in order.
abbrev pub ReadMembers : ℕ → List (List ℕ × List ℕ) → List (List ℕ × Data) → Type 0
ReadMembers levels [] [] = ⊤
ReadMembers levels [] (d ∷ ds) = ⊥
ReadMembers levels (m ∷ ms) [] = ⊥
ReadMembers levels (m ∷ ms) (d ∷ ds) = (read_at levels m.0 ≡ Some (string d.0)) × (read_at levels m.1 ≡ Some d.1)
    × ReadMembers levels ms ds

-- The members, put one after another: of a name that is there twice the last value stays.
abbrev pub put_all : List (List ℕ × Data) → Members → Members
put_all [] found = found
put_all (d ∷ ds) found = put_all ds (put d.0 d.1 found)

-- Members whose names and values are read one by one make the object that is read of them all, with a level more.
abbrev pub MembersMakeTheObject : Type 0
MembersMakeTheObject = (levels : ℕ) (m : List ℕ × List ℕ) (ms : List (List ℕ × List ℕ)) (ds : List (List ℕ × Data))
    → ReadMembers levels (m ∷ ms) ds
    → read_at (suc levels) (object_text (member_text m) (map member_text ms)) ≡ Some (object (put_all ds no_members))
