-- The texts of a tree of serde_json are UTF-8, since each is a `String`, and so are those of what it means.
use Rattle.std.proofs.Common.{◌≡◌, ℕ, Bool, List, [], ◌∷◌, Option, None, Some, map, IsUtf8, String, Global, subst, refl}
use Rattle.std.proofs.Common.{Less, Equal, Greater}
use Rattle.std.proofs.lemmas.Str.{IsUtf8-string_bytes}
use Rattle.std.proofs.lemmas.Option.{same_Some}
use Rattle.std.specs.Ordering.{nat_cmp, match_ordering}
use Rattle.std.specs.Cmp.Lexicographic.{slice_cmp}
use Rattle.serde_json.specs.Data.{Data, string, array, object, Items, no_items, item, Members}
use Rattle.serde_json.specs.Data.{no_members, member}
use Rattle.serde_json.specs.Find.{get_member}
use Rattle.serde_json.specs.View.{view, view_step, items_of, members_of}
use Rattle.serde_json.specs.declared.value.Value.{Value, ind-Value, fold-roll-Value, map-Value}
use Rattle.serde_json.specs.declared.value.Value.TheOpen.{Value-F}
use Rattle.fb_schema.specs.declared.kinds.Kind.{Kind}
use Rattle.fb_schema.specs.declared.kinds.Kind.TheVariants.{Scalar, Enum, Struct, Table, Union, Code, Text}
use Rattle.fb_schema.specs.declared.kinds.Shape.{Shape}
use Rattle.fb_schema.specs.declared.kinds.Shape.TheVariants.{One, Many}
use Rattle.fb_schema.specs.Schema.{Name, DeclaredField, body_at, slots_in, parts_in}
use Rattle.fb_layout.specs.Laid.{LaidSchema, Slot, slot_of}
use Rattle.fb_value.specs.Datum.{Datum, a_number, a_text, a_vector, a_struct, a_table, a_member, Parts, no_parts}
use Rattle.fb_value.specs.Datum.{more_parts, SlotEntries, no_entries, absent_entry, present_entry}
use Rattle.fb_json.specs.Means.{PresentAs, PresentMeans, member_called, MeansAs, MemberMeans, PartsMean, EachMeans}
use Rattle.fb_json.specs.Means.{SlotsMean}
use Rattle.fb_json.proofs.slots.LookUpFindsMembers.{found_in}
use Rattle.fb_json.proofs.texts.ValueTextsAreUtf8.{HasUtf8, HaveUtf8, EntriesHaveUtf8}

abbrev mutual
  pub TreeHasUtf8 : Data → Type 0
  TreeHasUtf8 (string s) = IsUtf8 s
  TreeHasUtf8 (array ts) = TreesHaveUtf8 ts
  TreeHasUtf8 (object ms) = MembersHaveUtf8 ms
  TreeHasUtf8 _ = Unit {0}

  pub TreesHaveUtf8 : Items → Type 0
  TreesHaveUtf8 no_items = Unit {0}
  TreesHaveUtf8 (item t ts) = TreeHasUtf8 t × TreesHaveUtf8 ts

  pub MembersHaveUtf8 : Members → Type 0
  MembersHaveUtf8 no_members = Unit {0}
  MembersHaveUtf8 (member name t ms) = TreeHasUtf8 t × MembersHaveUtf8 ms

-- ---- trees in memory

module _ {X : Type 0} (get : X → Value) (has : (x : X) → TreeHasUtf8 (view (get x))) where
  elements : (xs : List X) → TreesHaveUtf8 (items_of (map view (map get xs)))
  elements [] = tt
  elements (x ∷ xs) = (has x, elements xs)

  -- however an object's members are mapped
  members : (outer : String Global × Value → String Global × Data) (inner : String Global × X → String Global × Value)
      → ((m : String Global × X) → (outer (inner m)).1 ≡ view (get m.1)) → (ms : List (String Global × X))
      → MembersHaveUtf8 (members_of (map outer (map inner ms)))
  members outer inner same [] = tt
  members outer inner same (m ∷ ms) = (rw (same m) (has m.1), members outer inner same ms)

  -- one level, where what is inside has
  level : (y : Value-F X) → TreeHasUtf8 (view_step (map-Value Value Data view (map-Value X Value get y)))
  level Value-F.Null = tt
  level (Value-F.String s) = IsUtf8-string_bytes s
  level (Value-F.Array v) = elements v.items
  level (Value-F.Object m) = members _ _ (λ e. refl) m.entries
  level _ = tt

pub tree_utf8 : (t : Value) → TreeHasUtf8 (view t)
tree_utf8 t =
    ind-Value (λ (w : Value). TreeHasUtf8 (view w))
    (λ x y e. rw (← e) (rw fold-roll-Value (level (λ c. c.0) (λ c. c.1) y))) t

-- ---- what a tree means

member_utf8 : (ms : Members) (name : Name) (t : Data) → MembersHaveUtf8 ms → get_member name ms ≡ Some t → TreeHasUtf8 t
member_utf8 no_members name t utf8 found = cc
member_utf8 (member l d ms) name t utf8 found =
    elim (slice_cmp nat_cmp name l) as (λ o. match_ordering o (get_member name ms) (Some d) (get_member name ms)
    ≡ Some t → TreeHasUtf8 t) [
      | Less ↦ λ h. member_utf8 ms name t utf8.1 h
      | Equal ↦ λ h. subst TreeHasUtf8 (same_Some d t h) utf8.0
      | Greater ↦ λ h. member_utf8 ms name t utf8.1 h
    ] found

module _ (d : Datum) (own : Data → Type 0) (member : Data → ℕ → Type 0) (own_utf8 : (t : Data) → TreeHasUtf8 t
    → own t → HasUtf8 d) (under_utf8 : (t : Data) (u : ℕ) → TreeHasUtf8 t → member t u → HasUtf8 d) where
  present_as : (t : Data) (shape : Shape) → TreeHasUtf8 t → PresentAs shape (own t) (member t) → HasUtf8 d
  present_as t (One (Code u)) utf8 h = absurd h
  present_as t (One (Union u)) utf8 h = under_utf8 t u.0 utf8 h
  present_as t _ utf8 h = own_utf8 t utf8 h

  present : (s : Slot) (shape : Shape) (o : Option Data) → ((t : Data) → o ≡ Some t → TreeHasUtf8 t)
      → PresentMeans s shape o d own member → HasUtf8 d
  present s shape (Some t) utf8 h = present_as t shape (utf8 t refl) h
  present s shape None utf8 h = rw h.2 tt

module _ (L : LaidSchema) (unknown : Bool) where
  mutual
    pub meant_utf8 : (t : Data) (shape : Shape) (d : Datum) → TreeHasUtf8 t → MeansAs L unknown t shape d → HasUtf8 d
    meant_utf8 t (One (Scalar base)) (a_number n) utf8 h = tt
    meant_utf8 t (One (Enum e)) (a_number n) utf8 h = tt
    meant_utf8 t (One Text) (a_text bytes) utf8 h = subst TreeHasUtf8 h utf8
    meant_utf8 t (One (Struct s)) (a_struct ds) utf8 h =
        parts_utf8 h.0 (parts_in (body_at L.schema s.0)) ds (subst TreeHasUtf8 h.1 utf8) h.3
    meant_utf8 t (One (Table id)) (a_table type es) utf8 h =
        slots_utf8 h.0 0 (slots_in (body_at L.schema type)) es (subst TreeHasUtf8 h.1 utf8) h.4
    meant_utf8 t (Many kind) (a_vector ds) utf8 h = each_utf8 h.0 kind ds (subst TreeHasUtf8 h.1 utf8) h.2
    meant_utf8 t _ _ utf8 h = absurd h

    united_utf8 : (t : Data) (u c : ℕ) (d : Datum) → TreeHasUtf8 t → MemberMeans L unknown t u c d → HasUtf8 d
    united_utf8 t u c (a_member k d) utf8 h =
        let named = h.1 in meant_utf8 t (One (Table (record { 0 = named.0 }))) d utf8 named.2
    united_utf8 t u c _ utf8 h = absurd h

    parts_utf8 : (ms : Members) (fs : List DeclaredField) (ds : Parts) → MembersHaveUtf8 ms
        → PartsMean L unknown ms fs ds → HaveUtf8 ds
    parts_utf8 ms [] no_parts utf8 h = tt
    parts_utf8 ms (f ∷ fs) (more_parts d ds) utf8 h =
        (meant_utf8 h.0 f.shape d (member_utf8 ms f.name h.0 utf8 h.1) h.2, parts_utf8 ms fs ds utf8 h.3)
    parts_utf8 ms _ _ utf8 h = absurd h

    each_utf8 : (ts : Items) (kind : Kind) (ds : Parts) → TreesHaveUtf8 ts → EachMeans L unknown ts kind ds
        → HaveUtf8 ds
    each_utf8 no_items kind no_parts utf8 h = tt
    each_utf8 (item t ts) kind (more_parts d ds) utf8 h =
        (meant_utf8 t (One kind) d utf8.0 h.0, each_utf8 ts kind ds utf8.1 h.1)
    each_utf8 _ kind _ utf8 h = absurd h

    slots_utf8 : (ms : Members) (before : ℕ) (fs : List DeclaredField) (es : SlotEntries) → MembersHaveUtf8 ms
        → SlotsMean L unknown ms before fs es → EntriesHaveUtf8 es
    slots_utf8 ms before [] no_entries utf8 h = tt
    slots_utf8 ms before (f ∷ fs) (absent_entry es) utf8 h = slots_utf8 ms h.0 fs es utf8 h.3
    slots_utf8 ms before (f ∷ fs) (present_entry d es) utf8 h = (
      present d (λ t. MeansAs L unknown t f.shape d) (λ t u. MemberMeans L unknown t u h.0 d)
          (λ t has m. meant_utf8 t f.shape d has m) (λ t u has m. united_utf8 t u h.0 d has m) (slot_of L.schema f)
          f.shape (member_called f.name ms)
          (λ t has. member_utf8 ms f.name t utf8 (found_in (get_member f.name ms) t has)) h.3,
      slots_utf8 ms h.0 fs es utf8 h.4,
    )
    slots_utf8 ms before _ _ utf8 h = absurd h
