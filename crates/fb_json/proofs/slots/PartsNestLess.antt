-- The arrays and objects in a tree: its parts have fewer, so that what reads them ends.
use Rattle.std.proofs.Common.{◌≡◌, ℕ, zero, suc, ◌+◌, ◌<◌, ◌≤◌, max, List, [], ◌∷◌, length, get_or, Option, Some, None}
use Rattle.std.proofs.Common.{Bor, Ordering, Less, Equal, Greater, nat_cmp, refl, arith, slice_get, inl, inr}
use Rattle.std.specs.Ordering.{match_ordering}
use Rattle.std.specs.Cmp.Lexicographic.{slice_cmp}
use Rattle.std.proofs.lemmas.Option.{slice_get_cases, slice_get_within}
use Rattle.serde_json.specs.declared.value.Value.{Value}
use Rattle.serde_json.specs.Data.{Data, null, boolean, number, string, array, object, Items, no_items, item, Members}
use Rattle.serde_json.specs.Data.{no_members, member}
use Rattle.serde_json.specs.Find.{get_member}
use Rattle.serde_json.specs.View.{view, items_view}
use Rattle.fb_schema.specs.Schema.{DeclaredField}
use Rattle.fb_json.specs.SlotMembers.{AreMembersOf, tree_seen}
use Rattle.fb_json.proofs.slots.MemberAtItsSlot.{member_at}

abbrev mutual
  pub nested : Data → ℕ
  nested null = 0
  nested (boolean b) = 0
  nested (number n) = 0
  nested (string s) = 0
  nested (array ds) = suc (items_nested ds)
  nested (object ms) = suc (members_nested ms)

  pub items_nested : Items → ℕ
  items_nested no_items = 0
  items_nested (item d ds) = nested d + items_nested ds

  pub members_nested : Members → ℕ
  members_nested no_members = 0
  members_nested (member k d ms) = nested d + members_nested ms

-- those of a tree that may not be there
abbrev pub tree_nested : Option (Bor Value) → ℕ
tree_nested None = 0
tree_nested (Some t) = nested (view t.now)

-- the most of some trees
abbrev pub most_nested : List (Option (Bor Value)) → ℕ
most_nested [] = 0
most_nested (r ∷ rs) = max (tree_nested r) (most_nested rs)

pub item_nested : (vs : List Value) (i : ℕ) (v : Value) → i < length vs → v ≡ get_or vs i v
    → nested (view v) ≤ items_nested (items_view vs)
item_nested [] i v within is = absurd (omega arith)
item_nested (w ∷ vs) zero v within is = rw is (omega arith)
item_nested (w ∷ vs) (suc i) v within is = let h = item_nested vs i v (omega arith) is in omega (arith, h)

-- one of some trees
pub tree_within : (rs : List (Option (Bor Value))) (i : ℕ) (r : Option (Bor Value)) → slice_get rs i ≡ Some r
    → tree_nested r ≤ most_nested rs
tree_within [] i r there = absurd cc
tree_within (x ∷ rs) zero r there = let same : x ≡ r = cc in rw (← same) (omega arith)
tree_within (x ∷ rs) (suc i) r there = let h = tree_within rs i r there in omega (arith, h)

found_nested : (o : Ordering) (e d : Data) (found : Option Data) (more : ℕ)
    → (found ≡ Some d → nested d ≤ more) → match_ordering o found (Some e) found ≡ Some d
    → nested d ≤ nested e + more
found_nested Less e d found more h is = omega (arith, h is)
found_nested Equal e d found more h is =
    let same : e ≡ d = cc in
    rw (← same) (omega arith)
found_nested Greater e d found more h is = omega (arith, h is)

pub member_nested : (k : List ℕ) (ms : Members) (d : Data) → get_member k ms ≡ Some d → nested d ≤ members_nested ms
member_nested k no_members d is = absurd cc
member_nested k (member l e ms) d is =
    found_nested (slice_cmp nat_cmp k l) e d (get_member k ms) (members_nested ms) (member_nested k ms d) is

most_within : (rs : List (Option (Bor Value))) (n : ℕ)
    → ((k : ℕ) (r : Option (Bor Value)) → slice_get rs k ≡ Some r → tree_nested r ≤ n) → most_nested rs ≤ n
most_within [] n h = omega arith
most_within (r ∷ rs) n h =
    let first : tree_nested r ≤ n = h 0 r refl in
    let rest : most_nested rs ≤ n = most_within rs n (λ k x there. h (suc k) x there) in
    omega arith

seen_nested : (r : Option (Bor Value)) (o : Option Data) (n : ℕ) → o ≡ tree_seen r
    → ((d : Data) → o ≡ Some d → nested d ≤ n) → tree_nested r ≤ n
seen_nested None o n is h = omega arith
seen_nested (Some t) o n is h = h (view t.now) is

-- the members that slots have
pub slots_nested : (trees : List (Option (Bor Value))) (fs : List DeclaredField) (ms : Members)
    → AreMembersOf trees fs ms → most_nested trees ≤ members_nested ms
slots_nested trees fs ms are = most_within trees (members_nested ms) each
  where
    each : (k : ℕ) (r : Option (Bor Value)) → slice_get trees k ≡ Some r → tree_nested r ≤ members_nested ms
    each k r there =
        elim (slice_get_cases fs k).1 [
          | inl slot ↦ seen_nested r (get_member slot.0.name ms) (members_nested ms)
              (member_at trees fs ms are k slot.0 slot.2 r there) (member_nested slot.0.name ms)
          | inr past ↦ absurd (omega (arith, slice_get_within trees k r there, are.all, past.0))
        ]
