-- The elements of one array, and then those of another.
use Rattle.std.proofs.Common.{◌≡◌, ◌∙◌, ◌+◌, ◌++◌, ◌∷◌, [], ℕ, zero, suc, Bool, List, Result, Ok, Err}
use Rattle.std.proofs.Common.{refl, sym, ap, arith}
use Rattle.std.proofs.lemmas.List.{length-append}
use Rattle.std.proofs.lemmas.List.Elements.{filter_map-append}
use Rattle.serde_json.specs.Data.{Data, Items, no_items, item}
use Rattle.fb_schema.specs.declared.kinds.Kind.{Kind}
use Rattle.fb_schema.specs.declared.kinds.Shape.TheVariants.{One}
use Rattle.fb_layout.specs.Laid.{LaidSchema, StoredKind, one_of, stored_kind}
use Rattle.fb_value.specs.Datum.{Datum}
use Rattle.fb_value.specs.Room.{parts_room, room}
use Rattle.fb_value.specs.View.{parts_in}
use Rattle.fb_tape.specs.NamedParts.{apart_of, as_list, elements_apart}
use Rattle.fb_tape.specs.Tapes.{Taped}
use Rattle.fb_json.specs.declared.faults.Place.{Place}
use Rattle.fb_json.specs.declared.faults.JsonFault.{JsonFault}
use Rattle.fb_json.specs.Meant.{count, items_meant, meant}
use Rattle.fb_json.specs.Outcome.{◌>>=◌, Counted}
use Rattle.fb_json.proofs.slots.OneSlotOrFieldMore.{after, fails_by}
use Rattle.fb_build.specs.OneByOne.{EachElementFits}
use Rattle.fb_build.proofs.noted.OneMoreFits.{parts_room_more}
use Rattle.fb_build.proofs.noted.PartsAreAdded.{adds_same, adds_then}
use Rattle.fb_build.proofs.noted.PartsFollow.{named_more}
use Rattle.fb_pieces.specs.ArrayOfRuns.{append, joined}
use Rattle.fb_encode.proofs.elements.ElementsAreNoted.{one_more_fits}
use Rattle.fb_encode.specs.TextsRead.{AreElementsAddedOr, IsNotedOr}
use Rattle.fb_encode.specs.TreesNoted.{AddsTargets, AreElementsAdded}

pub count-append : (ds es : Items) → count (append ds es) ≡ count ds + count es
count-append no_items es = omega arith
count-append (item d ds) es = omega (arith, count-append ds es)

append-none : (ds : Items) → append ds no_items ≡ ds
append-none no_items = refl
append-none (item d ds) = ap (item d) (append-none ds)

append-assoc : (ds es fs : Items) → append (append ds es) fs ≡ append ds (append es fs)
append-assoc no_items es fs = refl
append-assoc (item d ds) es fs = ap (item d) (append-assoc ds es fs)

-- one run more
pub joined-more : (rs : List Items) (r : Items) → joined (rs ++ (r ∷ [])) ≡ append (joined rs) r
joined-more [] r = append-none r
joined-more (s ∷ rs) r = ap (append s) (joined-more rs r) ∙ sym (append-assoc s (joined rs) r)

-- ---- what they give

none_before : {A : Type 0} (r : Counted (List A)) → after [] r ≡ r
none_before (Ok x) = refl
none_before (Err e) = refl

put_first : {A : Type 0} (x : A) (xs : List A) (r : Counted (List A))
    → (after xs r >>= λ ys. Ok (x ∷ ys.0, ys.1)) ≡ after (x ∷ xs) r
put_first x xs (Ok y) = refl
put_first x xs (Err e) = refl

module _ (L : LaidSchema) (unknown : Bool) (kind : Kind) (at : Place) (levels : ℕ) where
  -- those of the first, and then those of the second
  then_meant : Items → Counted (List Datum) → Counted (List Datum)
  then_meant es r = r >>= λ x. after x.0 (items_meant L unknown es kind at levels x.1)

  put_before : (es : Items) (x : Datum) (r : Counted (List Datum))
      → (then_meant es r >>= λ ys. Ok (x ∷ ys.0, ys.1)) ≡ then_meant es (r >>= λ ys. Ok (x ∷ ys.0, ys.1))
  unfolding then_meant
  put_before es x (Err e) = refl
  put_before es x (Ok y) = put_first x y.0 (items_meant L unknown es kind at levels y.1)

  -- one element before those of the first
  one_before : (ds es : Items) → ((left : ℕ) → items_meant L unknown (append ds es) kind at levels left
      ≡ then_meant es (items_meant L unknown ds kind at levels left)) → (r : Counted Datum)
      → (r >>= λ x. items_meant L unknown (append ds es) kind at levels x.1 >>= λ xs. Ok (x.0 ∷ xs.0, xs.1))
      ≡ then_meant es (r >>= λ x. items_meant L unknown ds kind at levels x.1 >>= λ xs. Ok (x.0 ∷ xs.0, xs.1))
  unfolding then_meant
  one_before ds es rest (Err e) = refl
  one_before ds es rest (Ok x) =
      ap (λ (r : Counted (List Datum)). r >>= λ xs. Ok (x.0 ∷ xs.0, xs.1)) (rest x.1)
      ∙ put_before es x.0 (items_meant L unknown ds kind at levels x.1)

  items_then : (ds es : Items) (left : ℕ) → items_meant L unknown (append ds es) kind at levels left
      ≡ then_meant es (items_meant L unknown ds kind at levels left)
  unfolding then_meant
  items_then no_items es left = sym (none_before (items_meant L unknown es kind at levels left))
  items_then (item d ds) es left =
      one_before ds es (λ n. items_then ds es n) (meant L unknown d (One kind) at levels left)

  -- what elements give with the cells that are left for them, or none
  abbrev pub given_of : Items → Result ℕ JsonFault → Counted (List Datum)
  given_of ds found = found >>= λ left. items_meant L unknown ds kind at levels left

  pub given_then : (ds es : Items) (start : Result ℕ JsonFault) (xs : List Datum) (left : ℕ)
      → given_of ds start ≡ Ok (xs, left)
      → given_of (append ds es) start ≡ after xs (items_meant L unknown es kind at levels left)
  unfolding then_meant
  given_then ds es (Err e) xs left is = cc
  given_then ds es (Ok n) xs left is = items_then ds es n ∙ ap (then_meant es) is

  pub fault_then : (ds es : Items) (start : Result ℕ JsonFault) (f : JsonFault) → given_of ds start ≡ Err f
      → given_of (append ds es) start ≡ Err f
  unfolding then_meant
  fault_then ds es (Err e) f is = is
  fault_then ds es (Ok n) f is = items_then ds es n ∙ ap (then_meant es) is

-- ---- what is added of them

-- what one element names
pub one_element : (L : LaidSchema) (unknown : Bool) (kind : Kind) (at : Place) (levels left : ℕ) (t : Data)
    (a b : Taped) (r : Result ℕ JsonFault) → IsNotedOr L (one_of (stored_kind L.schema kind))
    (meant L unknown t (One kind) at levels left) a b r → AreElementsAddedOr L (stored_kind L.schema kind)
    (AddsTargets L (stored_kind L.schema kind)) (items_meant L unknown (item t no_items) kind at levels left) 1 a b r
one_element L unknown kind at levels left t a b (Err f) fails =
    fails_by f (meant L unknown t (One kind) at levels left) _ (λ h. ap (λ (r : Counted Datum). r >>= λ x.
    items_meant L unknown no_items kind at levels x.1 >>= λ xs. Ok (x.0 ∷ xs.0, xs.1)) h) fails
one_element L unknown kind at levels left t a b (Ok rest) h =
    let k = stored_kind L.schema kind in
    let d = h.value in
    record {
      elements = d ∷ [];
      given_is = ap (λ (r : Counted Datum). r >>= λ x.
          items_meant L unknown no_items kind at levels x.1 >>= λ xs. Ok (x.0 ∷ xs.0, xs.1)) h.given_is;
      count_is = refl;
      fits = one_more_fits L k [] d h.fits h.whole (λ j e is. cc);
      adds = adds_same a b (as_list (apart_of (one_of k) d)) (elements_apart k (d ∷ [])) (room L (one_of k) d)
          (parts_room L k (parts_in (d ∷ []))) (sym (named_more k [] d)) (omega (arith, parts_room_more L k [] d))
          h.adds;
    }

-- the elements of one tape's step, and then those of the next
abbrev pub AreAddedInTurn : (Taped → Taped → List Datum → Type 0) → Type 0
AreAddedInTurn AddsAll = (a b c : Taped) (xs ys : List Datum) → AddsAll a b xs → AddsAll b c ys → AddsAll a c (xs ++ ys)

fits_then : (L : LaidSchema) (kind : StoredKind) (xs ys : List Datum) → EachElementFits L kind xs
    → EachElementFits L kind ys → EachElementFits L kind (xs ++ ys)
fits_then L kind [] ys first second k d at = second k d at
fits_then L kind (x ∷ xs) ys first second zero d at = first 0 d at
fits_then L kind (x ∷ xs) ys first second (suc k) d at =
    fits_then L kind xs ys (λ j e is. first (suc j) e is) second k d at

room_then : (L : LaidSchema) (kind : StoredKind) (xs ys : List Datum)
    → parts_room L kind (parts_in (xs ++ ys)) ≡ parts_room L kind (parts_in xs) + parts_room L kind (parts_in ys)
room_then L kind [] ys = omega arith
room_then L kind (x ∷ xs) ys = omega (arith, room_then L kind xs ys)

-- what elements name waits in turn
pub targets_then : (L : LaidSchema) (kind : StoredKind) → AreAddedInTurn (AddsTargets L kind)
targets_then L kind a b c xs ys first second =
    adds_same a c (elements_apart kind xs ++ elements_apart kind ys) (elements_apart kind (xs ++ ys))
    (parts_room L kind (parts_in xs) + parts_room L kind (parts_in ys)) (parts_room L kind (parts_in (xs ++ ys)))
    (sym (filter_map-append (apart_of (one_of kind)) xs ys)) (sym (room_then L kind xs ys))
    (adds_then a b c _ _ _ _ first second)

pub added_then : (L : LaidSchema) (kind : StoredKind) (AddsAll : Taped → Taped → List Datum → Type 0)
    → AreAddedInTurn AddsAll → (given more whole : Counted (List Datum)) (m n : ℕ)
    (a b c : Taped) (left : ℕ) (h : AreElementsAdded L kind AddsAll given m a b left) → whole ≡ after h.elements more
    → (now : Result ℕ JsonFault) → AreElementsAddedOr L kind AddsAll more n b c now
    → AreElementsAddedOr L kind AddsAll whole (m + n) a c now
added_then L kind AddsAll turn given more whole m n a b c left h is (Err f) fails =
    fails_by f more whole (λ e. is ∙ ap (after h.elements) e) fails
added_then L kind AddsAll turn given more whole m n a b c left h is (Ok rest) k = record {
  elements = h.elements ++ k.elements;
  given_is = is ∙ ap (after h.elements) k.given_is;
  count_is = omega (arith, length-append h.elements k.elements, h.count_is, k.count_is);
  fits = fits_then L kind h.elements k.elements h.fits k.fits;
  adds = turn a b c h.elements k.elements h.adds k.adds;
}
