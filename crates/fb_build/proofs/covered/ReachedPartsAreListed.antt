-- Each part to which a path leads is among those that a value's recursion lists.
use Rattle.std.proofs.Common.{◌≡◌, ℕ, zero, suc, ◌+◌, ◌⊎◌, inl, inr, ◌++◌, List, [], ◌∷◌, length, Option, None, Some}
use Rattle.std.proofs.Common.{slice_get, refl, ◌∙◌, arith, length-append}
use Rattle.std.specs.List.{Contains}
use Rattle.std.proofs.lemmas.List.{get_or_append_left, get_or-append-add}
use Rattle.fb_layout.specs.Laid.{LaidSchema, Slot, StoredKind, table_kind, text_kind, slots_of, size_of}
use Rattle.fb_value.specs.Datum.{Datum, a_text, a_vector, a_table, a_member, Parts, no_parts, more_parts, SlotEntries}
use Rattle.fb_value.specs.Datum.{no_entries, absent_entry, present_entry, count}
use Rattle.fb_value.specs.Num.{Bytes, num}
use Rattle.fb_value.specs.Places.{Target, table_part, member_part, text_part, vector_part, Sort, ref_place, part_place}
use Rattle.fb_value.specs.Places.{inline_place, code_place, unknown_place, Place, named, named_slots, named_elements}
use Rattle.fb_value.specs.Places.{target_of}
use Rattle.fb_value.specs.Lies.{IsCode, EntryAt, Lies, LiesItems, LiesSlots, LiesAt}
use Rattle.fb_value.specs.Reached.{Path, Names, Leads}
use Rattle.fb_value.specs.Holds.{root_place}
use Rattle.fb_value.proofs.reached.StepsLeadForward.{same_place}
use Rattle.fb_build.specs.Pieces.{PartAt, reached_behind, reached_named, reached_element, reached, reached_items}
use Rattle.fb_build.specs.Pieces.{reached_entries, reached_parts}
use Rattle.fb_build.specs.CoveredLaws.{listed_as, ReachedIsListed}

in_front : {X : Type 0} (xs ys : List X) (x : X) → Contains xs x → Contains (xs ++ ys) x
in_front xs ys x h =
    let whole = length-append xs ys in
    (h.0, omega (arith, h.1, whole), get_or_append_left xs ys x h.0 h.1 ∙ h.2)

behind : {X : Type 0} (xs ys : List X) (x : X) → Contains ys x → Contains (xs ++ ys) x
behind xs ys x h =
    let whole = length-append xs ys in
    (length xs + h.0, omega (arith, h.1, whole), get_or-append-add xs ys h.0 x ∙ h.2)

-- a code, or the value of one that no member has: it names nothing
NamesNothing : Sort → Type 0
NamesNothing (ref_place X) = ⊥
NamesNothing (part_place X) = ⊥
NamesNothing (inline_place kind) = ⊥
NamesNothing _ = Unit {0}

code_names_nothing : (L : LaidSchema) (b : Bytes) (s : Sort) (p : ℕ) → IsCode L b s p → NamesNothing s
unfolding NamesNothing
code_names_nothing L b (code_place u k required here) p is = tt
code_names_nothing L b _ p is = absurd is

module _ (L : LaidSchema) (b : Bytes) (all : List PartAt) where
  -- all of these are listed
  AreListed : List PartAt → Type 0
  AreListed xs = (x : PartAt) → Contains xs x → Contains all x

  parts_at : Sort → ℕ → Datum → List PartAt
  parts_at s p d = reached_behind b s p (λ X q. reached L b X q d)

  -- a value lies there whose parts are listed, or nothing is named there
  Settled : Place → Type 0
  Settled x = ((d : Datum) × LiesAt L b x.sort x.at d × AreListed (parts_at x.sort x.at d)) ⊎ NamesNothing x.sort

  front_listed : (xs ys : List PartAt) → AreListed (xs ++ ys) → AreListed xs
  unfolding AreListed
  front_listed xs ys h x is = h x (in_front xs ys x is)

  rest_listed : (xs ys : List PartAt) → AreListed (xs ++ ys) → AreListed ys
  unfolding AreListed
  rest_listed xs ys h x is = h x (behind xs ys x is)

  entry_settled : (s : Sort) (p : ℕ) (d : Datum) → EntryAt L b s p d (λ s q. Lies L b s q d)
      → AreListed (parts_at s p d) → Settled (record { sort = s; at = p })
  unfolding Settled NamesNothing
  entry_settled (code_place u k required here) p d lies each = absurd lies
  entry_settled (unknown_place c) p d lies each = inr tt
  entry_settled _ p d lies each = inl (d, lies, each)

  slots_child : (fs : List Slot) (xs : List (Option Place)) (es : SlotEntries) → LiesSlots L b fs xs es
      → AreListed (reached_entries L b xs es) → (k : ℕ) (y : Place) → slice_get xs k ≡ Some (Some y) → Settled y
  unfolding Settled parts_at
  slots_child [] [] no_entries lies each k y e = cc
  slots_child (f ∷ fs) (None ∷ xs) (absent_entry es) lies each zero y e = cc
  slots_child (f ∷ fs) (Some x ∷ xs) (absent_entry es) lies each zero y e =
      rw (← (same_place x y e)) (inr (code_names_nothing L b x.sort x.at lies.0))
  slots_child (f ∷ fs) (x ∷ xs) (absent_entry es) lies each (suc k) y e = slots_child fs xs es lies.1 each k y e
  slots_child (f ∷ fs) (None ∷ xs) (present_entry d es) lies each zero y e = cc
  slots_child (f ∷ fs) (Some x ∷ xs) (present_entry d es) lies each zero y e =
      rw (← (same_place x y e)) (entry_settled x.sort x.at d lies.0
      (front_listed (parts_at x.sort x.at d) (reached_entries L b xs es) each))
  slots_child (f ∷ fs) (x ∷ xs) (present_entry d es) lies each (suc k) y e =
      slots_child fs xs es lies.1 (rest_listed (reached_named b x (λ X q. reached L b X q d))
      (reached_entries L b xs es) each) k y e
  slots_child _ _ _ lies each k y e = absurd lies

  items_child : (kind : StoredKind) (X : Target) (p : ℕ) (ds : Parts) → target_of kind ≡ Some X → size_of L kind ≡ 4
      → LiesItems L b kind p ds → AreListed (reached_items L b kind p ds)
      → (k : ℕ) (y : Place) → slice_get (named_elements X p (count ds)) k ≡ Some (Some y) → Settled y
  unfolding Settled parts_at named_elements
  items_child kind X p no_parts is four lies each k y e = cc
  items_child kind X p (more_parts d ds) is four lies each zero y e =
      let mine = front_listed (reached_element b (target_of kind) p (λ Y q. reached L b Y q d))
      (reached_items L b kind (p + size_of L kind) ds) each in
      rw (← (same_place (record { sort = ref_place X; at = p }) y e)) (inl (
        d,
        rw is at lies.0,
        rw is at mine,
      ))
  items_child kind X p (more_parts d ds) is four lies each (suc k) y e =
      let later = rest_listed (reached_element b (target_of kind) p (λ Y q. reached L b Y q d))
      (reached_items L b kind (p + size_of L kind) ds) each in
      items_child kind X (p + 4) ds is four (rw (← four) lies.1)
      (rw (← four) later) k y e

  vector_child : (kind : StoredKind) (p : ℕ) (ds : Parts) → count ds ≡ num b p 4 → LiesItems L b kind (p + 4) ds
      → AreListed (reached_items L b kind (p + 4) ds)
      → (k : ℕ) (y : Place) → slice_get (named L b (part_place (vector_part kind)) p) k ≡ Some (Some y) → Settled y
  vector_child text_kind p ds n lies each k y e =
      items_child text_kind text_part (p + 4) ds refl refl lies each k y (rw n e)
  vector_child (table_kind t) p ds n lies each k y e =
      items_child (table_kind t) (table_part t) (p + 4) ds refl refl lies each k y (rw n e)
  vector_child _ p ds n lies each k y e = cc

  part_child : (X : Target) (p : ℕ) (d : Datum) → Lies L b (part_place X) p d → AreListed (reached L b X p d)
      → (k : ℕ) (y : Place) → slice_get (named L b (part_place X) p) k ≡ Some (Some y) → Settled y
  part_child text_part p (a_text bytes) lies each k y e = cc
  part_child (vector_part kind) p (a_vector ds) lies each k y e =
      vector_child kind p ds lies.1 lies.2
      (rest_listed (record { target = vector_part kind; at = p } ∷ []) (reached_items L b kind (p + 4) ds) each) k y e
  part_child (table_part t) p (a_table type es) lies each k y e =
      slots_child (slots_of L t) (named_slots L b p 0 (slots_of L t)) es lies.2
      (rest_listed (record { target = table_part t; at = p } ∷ [])
      (reached_entries L b (named_slots L b p 0 (slots_of L t)) es) each) k y e
  part_child (member_part c t) p (a_member c2 d) lies each k y e = part_child (table_part t) p d lies.1 each k y e
  part_child _ p _ lies each k y e = absurd lies

  ref_child : (X : Target) (p : ℕ) (d : Datum) → Lies L b (part_place X) (p + num b p 4) d
      → AreListed (reached L b X (p + num b p 4) d) → (k : ℕ) (y : Place)
      → slice_get (named L b (ref_place X) p) k ≡ Some (Some y) → Settled y
  unfolding Settled parts_at
  ref_child X p d lies each zero y e =
      rw (← (same_place (record { sort = part_place X; at = p + num b p 4 }) y e)) (inl (d, lies, each))
  ref_child X p d lies each (suc k) y e = cc

  at_child : (s : Sort) (p : ℕ) (d : Datum) → LiesAt L b s p d → AreListed (parts_at s p d) → (k : ℕ) (y : Place)
      → slice_get (named L b s p) k ≡ Some (Some y) → Settled y
  unfolding parts_at
  at_child (ref_place X) p d lies each k y e = ref_child X p d lies.1 each k y e
  at_child (part_place X) p d lies each k y e = part_child X p d lies each k y e
  at_child (inline_place kind) p d lies each k y e = cc
  at_child _ p d lies each k y e = absurd lies

  nothing_child : (s : Sort) (p : ℕ) → NamesNothing s → (k : ℕ) (y : Place)
      → slice_get (named L b s p) k ≡ Some (Some y) → Settled y
  unfolding NamesNothing
  nothing_child (code_place u n required here) p is k y e = cc
  nothing_child (unknown_place c) p is k y e = cc
  nothing_child _ p is k y e = absurd is

  child : (x : Place) → Settled x → (k : ℕ) (y : Place) → Names L b x k y → Settled y
  unfolding Settled
  child x (inl lies) k y e = at_child x.sort x.at lies.0 lies.1 lies.2 k y e
  child x (inr is) k y e = nothing_child x.sort x.at is k y e

  reach : (path : Path) (x y : Place) → Settled x → Leads L b x path y → Settled y
  reach [] x y settled e = rw (← e) settled
  reach (k ∷ path) x y settled leads = reach path leads.1 y (child x settled k leads.1 leads.2) leads.3

  first_listed : (x : PartAt) (xs : List PartAt) → AreListed (x ∷ xs) → Contains all x
  unfolding AreListed
  first_listed x xs h = h x (0, omega arith, refl)

  part_listed : (X : Target) (p : ℕ) (d : Datum) → Lies L b (part_place X) p d → AreListed (reached L b X p d)
      → Contains all (record { target = listed_as X; at = p })
  part_listed text_part p (a_text bytes) lies each = first_listed _ [] each
  part_listed (vector_part kind) p (a_vector ds) lies each = first_listed _ (reached_items L b kind (p + 4) ds) each
  part_listed (table_part t) p (a_table type es) lies each =
      first_listed _ (reached_entries L b (named_slots L b p 0 (slots_of L t)) es) each
  part_listed (member_part c t) p (a_member c2 (a_table type es)) lies each =
      first_listed _ (reached_entries L b (named_slots L b p 0 (slots_of L t)) es) each
  part_listed (member_part c t) p (a_member c2 _) lies each = absurd lies.1
  part_listed _ p _ lies each = absurd lies

  settled_listed : (X : Target) (p : ℕ) → Settled (record { sort = part_place X; at = p })
      → Contains all (record { target = listed_as X; at = p })
  unfolding Settled NamesNothing parts_at
  settled_listed X p (inl lies) = part_listed X p lies.0 lies.1 lies.2
  settled_listed X p (inr is) = absurd is

  pub every_listed : (x : Place) (d : Datum) → LiesAt L b x.sort x.at d
      → ((y : PartAt) → Contains (reached_behind b x.sort x.at (λ X q. reached L b X q d)) y → Contains all y)
      → (path : Path) (X : Target) (p : ℕ) → Leads L b x path (record { sort = part_place X; at = p })
      → Contains all (record { target = listed_as X; at = p })
  unfolding Settled AreListed parts_at
  every_listed x d lies each path X p leads =
      settled_listed X p (reach path x (record { sort = part_place X; at = p }) (inl (d, lies, each)) leads)

pub listed_shown : ReachedIsListed
listed_shown L b v lies path X p leads =
    every_listed L b (reached_parts L b v) (root_place L) v lies (λ y is. is) path X p leads
