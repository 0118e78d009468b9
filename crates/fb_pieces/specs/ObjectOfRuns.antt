-- An object of runs of members, each of which is read in braces of its own.
use Rattle.std.specs.Prelude.{◌≡◌, ◌≢◌, ℕ, suc, Some, List, [], ◌∷◌, ⊤}
use Rattle.serde_json.specs.Data.{object, Members, no_members, member, put}
use Rattle.fb_pieces.specs.Reads.{read_at}
use Rattle.fb_pieces.specs.Texts.{object_text}

-- The run, in braces, is read as the object of these members, of which there are some.
pub record ReadsMembers (levels : ℕ) (run : List ℕ) (ms : Members) : Type 0 where
  pub some : ms ≢ no_members
  pub read : read_at (suc levels) (object_text run []) ≡ Some (object ms)

-- Each run is read as one of these, in order.
abbrev pub ReadMemberRuns : ℕ → List (List ℕ) → List Members → Type 0
ReadMemberRuns levels [] [] = ⊤
ReadMemberRuns levels [] (r ∷ rs) = ⊥
ReadMemberRuns levels (e ∷ es) [] = ⊥
ReadMemberRuns levels (e ∷ es) (r ∷ rs) = ReadsMembers levels e r × ReadMemberRuns levels es rs

-- The members of a run, put into what was found before: of a name that is there twice the last value stays.
abbrev pub put_members : Members → Members → Members
put_members no_members found = found
put_members (member k d ms) found = put_members ms (put k d found)

-- the members of all runs, one run after another
abbrev pub put_runs : List Members → Members → Members
put_runs [] found = found
put_runs (r ∷ rs) found = put_runs rs (put_members r found)

-- Runs that are read in braces of their own make the object that is read of them all.
abbrev pub RunsMakeTheObject : Type 0
RunsMakeTheObject = (levels : ℕ) (run : List ℕ) (runs : List (List ℕ)) (rs : List Members)
    → ReadMemberRuns levels (run ∷ runs) rs
    → read_at (suc levels) (object_text run runs) ≡ Some (object (put_runs rs no_members))
