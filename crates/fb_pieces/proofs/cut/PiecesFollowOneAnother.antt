-- Pieces that are cut one behind another, and the next of them.
use Rattle.std.proofs.Common.{◌≡◌, ℕ, ◌+◌, true, false, List, [], ◌∷◌, ◌++◌, refl, sym, ◌∙◌}
use Rattle.fb_pieces.specs.declared.cut.Run.{Run}
use Rattle.fb_pieces.specs.declared.cut.Member.{Member}
use Rattle.fb_pieces.specs.Cuts.{IsRunOf, IsMemberOf}
use Rattle.fb_pieces.specs.CutTexts.{is_empty, AreRunsOf, AreMembersOf}

-- The runs follow one another from here. None is the last, and a further one begins behind the last comma.
abbrev pub RunsBefore : List ℕ → ℕ → ℕ → List Run → Type 0
RunsBefore text from next [] = from ≡ next
RunsBefore text from next (run ∷ runs) = IsRunOf text from run × (run.is_last ≡ false)
    × RunsBefore text (run.elements.end + 1) next runs

-- The same of members.
abbrev pub MembersBefore : List ℕ → ℕ → ℕ → List Member → Type 0
MembersBefore text from next [] = from ≡ next
MembersBefore text from next (member ∷ members) = IsMemberOf text from member × (member.is_last ≡ false)
    × MembersBefore text (member.value.end + 1) next members

some_behind : {X : Type 0} (xs : List X) (x : X) → is_empty (xs ++ x ∷ []) ≡ false
some_behind [] x = refl
some_behind (y ∷ xs) x = refl

pub runs_before_push : (text : List ℕ) (from next : ℕ) (runs : List Run) (run : Run) → RunsBefore text from next runs
    → IsRunOf text next run → run.is_last ≡ false
    → RunsBefore text from (run.elements.end + 1) (runs ++ run ∷ [])
runs_before_push text from next [] run same is more = (rw same is, more, refl)
runs_before_push text from next (r ∷ runs) run before is more =
    (before.0, before.1, runs_before_push text (r.elements.end + 1) next runs run before.2 is more)

pub runs_with_last : (text : List ℕ) (from next : ℕ) (runs : List Run) (run : Run) → RunsBefore text from next runs
    → IsRunOf text next run → run.is_last ≡ true
    → AreRunsOf text from (run.elements.end + 1) (runs ++ run ∷ [])
runs_with_last text from next [] run same is last = (rw same is, last, refl)
runs_with_last text from next (r ∷ runs) run before is last = (
  before.0,
  before.1 ∙ sym (some_behind runs run),
  runs_with_last text (r.elements.end + 1) next runs run before.2 is last,
)

pub members_before_push : (text : List ℕ) (from next : ℕ) (members : List Member) (member : Member)
    → MembersBefore text from next members → IsMemberOf text next member → member.is_last ≡ false
    → MembersBefore text from (member.value.end + 1) (members ++ member ∷ [])
members_before_push text from next [] member same is more =
    (rw same is, more, refl)
members_before_push text from next (m ∷ members) member before is more =
    (before.0, before.1, members_before_push text (m.value.end + 1) next members member before.2 is more)

pub members_with_last : (text : List ℕ) (from next : ℕ) (members : List Member) (member : Member)
    → MembersBefore text from next members → IsMemberOf text next member → member.is_last ≡ true
    → AreMembersOf text from (member.value.end + 1) (members ++ member ∷ [])
members_with_last text from next [] member same is last =
    (rw same is, last, refl)
members_with_last text from next (m ∷ members) member before is last = (
  before.0,
  before.1 ∙ sym (some_behind members member),
  members_with_last text (m.value.end + 1) next members member before.2 is last,
)
