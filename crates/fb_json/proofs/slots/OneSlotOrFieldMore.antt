-- One slot, field or element after the other, as a loop does.
use Rattle.std.proofs.Common.{◌≡◌, ◌∙◌, ℕ, suc, ◌+◌, ◌<◌, ◌≤◌, List, [], ◌∷◌, ◌++◌, length, map, drop, get_or, Bool}
use Rattle.std.proofs.Common.{◌⊎◌, inl, inr, Option, Some, option_map, slice_get, Result, Ok, Err, refl, ap, sym}
use Rattle.std.proofs.Common.{add-one}
use Rattle.std.proofs.Math.Seq.{drop-cons}
use Rattle.std.proofs.lemmas.List.{drop_all, append_assoc, append-nil}
use Rattle.std.proofs.lemmas.Option.{slice_get-map, slice_get-get_or}
use Rattle.serde_json.specs.declared.value.Value.{Value as Json}
use Rattle.serde_json.specs.View.{view as tree_view, items_view}
use Rattle.fb_schema.specs.declared.kinds.Kind.{Kind}
use Rattle.fb_schema.specs.declared.kinds.Shape.TheVariants.{One}
use Rattle.fb_schema.specs.declared.types.FieldInfo.{FieldInfo}
use Rattle.fb_schema.specs.Seen.{field_seen}
use Rattle.fb_layout.specs.Laid.{LaidSchema}
use Rattle.fb_value.specs.Datum.{Datum}
use Rattle.fb_json.specs.declared.faults.Place.{Place}
use Rattle.fb_json.specs.declared.faults.JsonFault.{JsonFault}
use Rattle.fb_json.specs.declared.faults.JsonFault.TheVariants.{Memory}
use Rattle.fb_json.specs.Outcome.{◌>>=◌, Fails, Counted}
use Rattle.fb_json.specs.Meant.{Look, slot_place, code_after, entry_meant, slots_meant, part_meant, parts_meant, meant}
use Rattle.fb_json.specs.Meant.{items_meant, count}

-- these in front of the later ones
abbrev pub after : {A : Type 0} → List A → Counted (List A) → Counted (List A)
after front (Err e) = Err e
after front (Ok x) = Ok (front ++ x.0, x.1)

pub fails_is : {Y : Type 0} (e : JsonFault) (whole : Result Y JsonFault) → whole ≡ Err e → Fails e whole
fails_is Memory whole h = tt
fails_is _ whole h = h

-- the fault of a part is the fault of the whole
pub fails_by : {X Y : Type 0} (e : JsonFault) (part : Result X JsonFault) (whole : Result Y JsonFault)
    → (part ≡ Err e → whole ≡ Err e) → Fails e part → Fails e whole
fails_by Memory part whole same h = tt
fails_by _ part whole same h = same h

-- a failure is that of memory, or the fault that is given
pub failed : {Y : Type 0} (f : JsonFault) (r : Result Y JsonFault) → Fails f r → (f ≡ Memory) ⊎ (r ≡ Err f)
failed Memory r h = inl refl
failed _ r h = inr h

put_front : {A : Type 0} (front : List A) (x : A) (r : Counted (List A))
    → after front (r >>= λ xs. Ok (x ∷ xs.0, xs.1)) ≡ after (front ++ x ∷ []) r
put_front front x (Err e) = refl
put_front front x (Ok xs) = rw append_assoc refl

pub drop_at : {A : Type 0} (xs : List A) (k : ℕ) (x : A) → k < length xs → x ≡ get_or xs k x
    → drop k xs ≡ x ∷ drop (k + 1) xs
drop_at xs k x h is = let there : drop k xs ≡ get_or xs k x ∷ drop (k + 1) xs = rw (add-one, drop-cons xs k x) refl in
    there ∙ ap (λ y. y ∷ drop (k + 1) xs) (sym is)

-- what is seen at a place
pub seen_at : {A B : Type 0} (view : A → B) (xs : List A) (k : ℕ) (x : A) → k < length xs → x ≡ get_or xs k x
    → slice_get (map view xs) k ≡ Some (view x)
seen_at view xs k x within is = slice_get-map view xs k
    ∙ ap (option_map view) (slice_get-get_or xs k x within ∙ ap Some (sym is))

pub slot_at : (slots : List FieldInfo) (k : ℕ) (f : FieldInfo) → k < length slots → f ≡ get_or slots k f
    → slice_get (map field_seen slots) k ≡ Some (field_seen f)
slot_at slots k f within is = seen_at field_seen slots k f within is

module _ (L : LaidSchema) (look : Look) (t : ℕ) (slots : List FieldInfo) (k : ℕ) (f : FieldInfo)
    (within : k < length slots) (is : f ≡ get_or slots k f) where
  here : map field_seen (drop k slots) ≡ field_seen f ∷ map field_seen (drop (k + 1) slots)
  here = ap (map field_seen) (drop_at slots k f within is)

  module _ (front : List (Option Datum)) (code levels left : ℕ) where
    pub slots_next : (c rest : ℕ) (e : Option Datum)
        → code_after L.schema look (slot_place t k) code f.deprecated (field_seen f).name f.shape ≡ Ok c
        → entry_meant L look (field_seen f) (slot_place t k) c levels left ≡ Ok (e, rest)
        → after front (slots_meant L look t (map field_seen (drop k slots)) k code levels left)
        ≡ after (front ++ e ∷ []) (slots_meant L look t (map field_seen (drop (k + 1) slots)) (k + 1) c levels rest)
    unfolding slots_meant
    slots_next c rest e told given =
        rw (here, told, given)
        (put_front front e (slots_meant L look t (map field_seen (drop (k + 1) slots)) (k + 1) c levels rest))

    pub slots_untold : (fault : JsonFault)
        → code_after L.schema look (slot_place t k) code f.deprecated (field_seen f).name f.shape ≡ Err fault
        → after front (slots_meant L look t (map field_seen (drop k slots)) k code levels left) ≡ Err fault
    unfolding slots_meant
    slots_untold fault told = rw (here, told) refl

    pub slots_ungiven : (c : ℕ) (fault : JsonFault)
        → code_after L.schema look (slot_place t k) code f.deprecated (field_seen f).name f.shape ≡ Ok c
        → entry_meant L look (field_seen f) (slot_place t k) c levels left ≡ Err fault
        → after front (slots_meant L look t (map field_seen (drop k slots)) k code levels left) ≡ Err fault
    unfolding slots_meant
    slots_ungiven c fault told given = rw (here, told, given) refl

  module _ (front : List Datum) (levels left : ℕ) where
    pub parts_next : (at : Place) → at ≡ slot_place t k → (rest : ℕ) (d : Datum)
        → part_meant (look (field_seen f).name) f.shape at levels left ≡ Ok (d, rest)
        → after front (parts_meant look t (map field_seen (drop k slots)) k levels left)
        ≡ after (front ++ d ∷ []) (parts_meant look t (map field_seen (drop (k + 1) slots)) (k + 1) levels rest)
    unfolding parts_meant
    parts_next at stands rest d found =
        let given : part_meant (look (field_seen f).name) f.shape (slot_place t k) levels left ≡ Ok (d, rest) =
        rw (← stands) found in
        rw (here, given) (put_front front d (parts_meant look t (map field_seen (drop (k + 1) slots)) (k + 1) levels
        rest))

    pub parts_ungiven : (at : Place) → at ≡ slot_place t k → (fault : JsonFault)
        → part_meant (look (field_seen f).name) f.shape at levels left ≡ Err fault
        → after front (parts_meant look t (map field_seen (drop k slots)) k levels left) ≡ Err fault
    unfolding parts_meant
    parts_ungiven at stands fault found =
        let given : part_meant (look (field_seen f).name) f.shape (slot_place t k) levels left ≡ Err fault =
        rw (← stands) found in
        rw (here, given) refl

pub slots_end : (L : LaidSchema) (look : Look) (t : ℕ) (slots : List FieldInfo) (k : ℕ) (front : List (Option Datum))
    (code levels left : ℕ) → length slots ≤ k
    → after front (slots_meant L look t (map field_seen (drop k slots)) k code levels left) ≡ Ok (front, left)
unfolding slots_meant
slots_end L look t slots k front code levels left past =
    let none : map field_seen (drop k slots) ≡ [] = ap (map field_seen) (drop_all k slots past) in
    rw (none, append-nil) refl

pub parts_end : (look : Look) (t : ℕ) (slots : List FieldInfo) (k : ℕ) (front : List Datum) (levels left : ℕ)
    → length slots ≤ k → after front (parts_meant look t (map field_seen (drop k slots)) k levels left)
    ≡ Ok (front, left)
unfolding parts_meant
parts_end look t slots k front levels left past =
    let none : map field_seen (drop k slots) ≡ [] = ap (map field_seen) (drop_all k slots past) in
    rw (none, append-nil) refl

pub counted : (vs : List Json) → count (items_view vs) ≡ length vs
counted [] = refl
counted (v ∷ vs) = ap suc (counted vs)

-- ---- elements

module _ (L : LaidSchema) (unknown : Bool) (kind : Kind) (at : Place) (levels left : ℕ) (front : List Datum) where
  pub items_next : (v : Json) (vs : List Json) (d : Datum) (rest : ℕ)
      → meant L unknown (tree_view v) (One kind) at levels left ≡ Ok (d, rest)
      → after front (items_meant L unknown (items_view (v ∷ vs)) kind at levels left)
      ≡ after (front ++ d ∷ []) (items_meant L unknown (items_view vs) kind at levels rest)
  items_next v vs d rest given =
      rw given (put_front front d (items_meant L unknown (items_view vs) kind at levels rest))

  pub items_ungiven : (v : Json) (vs : List Json) (fault : JsonFault)
      → meant L unknown (tree_view v) (One kind) at levels left ≡ Err fault
      → after front (items_meant L unknown (items_view (v ∷ vs)) kind at levels left) ≡ Err fault
  items_ungiven v vs fault given = rw given refl

  pub element_ungiven : (es : List Json) (i : ℕ) (e : Json) → i < length es → e ≡ get_or es i e → (fault : JsonFault)
      → meant L unknown (tree_view e) (One kind) at levels left ≡ Err fault
      → after front (items_meant L unknown (items_view (drop i es)) kind at levels left) ≡ Err fault
  element_ungiven es i e within is fault given =
      rw (drop_at es i e within is) (items_ungiven e (drop (i + 1) es) fault given)

  pub items_end : after front (items_meant L unknown (items_view []) kind at levels left) ≡ Ok (front, left)
  items_end = rw append-nil refl
