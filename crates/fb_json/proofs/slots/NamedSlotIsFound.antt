-- A field whose name a member has is the one that the name's look-up finds. So a member says nothing of other fields.
use Rattle.std.proofs.Common.{◌≡◌, ◌≢◌, ◌∙◌, ℕ, suc, Bool, true, false, List, [], ◌∷◌, AllPairs, map, find, inl, inr, cond}
use Rattle.std.proofs.Common.{position, slice_get}
use Rattle.std.proofs.Common.{Option, Some, None, option_map, bytes_eq, Ordering, Less, Equal, Greater, nat_cmp, refl}
use Rattle.std.proofs.Common.{ap, sym}
use Rattle.std.specs.Option.{option_and_then}
use Rattle.std.specs.Ordering.{match_ordering, is_eq}
use Rattle.std.specs.Cmp.Lexicographic.{slice_cmp}
use Rattle.std.proofs.lemmas.Option.{slice_get-map}
use Rattle.std.proofs.lemmas.Slice.Eq.{bytes_eq-Decides}
use Rattle.std.proofs.lemmas.Map.Text.{is_eq-slice_cmp}
use Rattle.serde_json.specs.Data.{Data, Members, member}
use Rattle.serde_json.specs.Find.{get_member}
use Rattle.fb_schema.specs.Schema.{Name, DeclaredField, DeclaredBody, table_body, struct_body}
use Rattle.fb_schema.specs.Schema.{DeclaredType, DeclaredSchema, body_in, body_at}
use Rattle.fb_schema.specs.Found.{field_named, fields_in}
use Rattle.fb_schema.specs.WellDeclared.{IsBody, IsDeclared, names_of}
use Rattle.fb_json.specs.SlotMembers.{AreFieldsOf}
use Rattle.fb_schema.proofs.Distinct.{found_at}
use Rattle.fb_schema.proofs.Positions.{position-map, find-position}

abbrev pub IsFoundAs : DeclaredBody → ℕ → DeclaredField → Type 0
IsFoundAs body k f = (field_named body f.name ≡ Some f) × (f.slot ≡ k)

-- a slot of a table, or a field of a struct, is a field of the type
pub in_fields : (fs : List DeclaredField) (body : DeclaredBody) → AreFieldsOf fs body → (k : ℕ) (f : DeclaredField)
    → slice_get fs k ≡ Some f → slice_get (fields_in body) k ≡ Some f
in_fields fs (table_body gs) (inl same) k f there = rw (← same) there
in_fields fs (struct_body gs align) (inr same) k f there = rw (← same) there
in_fields fs _ (inl same) k f there = absurd (let none = rw same at there in cc)
in_fields fs _ (inr same) k f there = absurd (let none = rw same at there in cc)

found_among : (fs : List DeclaredField) → AllPairs (λ a b. a ≢ b) (names_of fs)
    → ((k : ℕ) (f : DeclaredField) → slice_get fs k ≡ Some f → f.slot ≡ k) → (k : ℕ) (f : DeclaredField)
    → slice_get fs k ≡ Some f → (find (λ g. bytes_eq f.name g.name) fs ≡ Some f) × (f.slot ≡ k)
found_among fs names slots k f there =
    let at : slice_get (map (λ g. g.name) fs) k ≡ Some f.name =
    slice_get-map (λ g. g.name) fs k ∙ ap (option_map (λ g. g.name)) there in
    let placed : position (bytes_eq f.name) (map (λ g. g.name) fs) ≡ Some k =
    found_at bytes_eq bytes_eq-Decides (map (λ g. g.name) fs) k f.name names at in (
      sym (find-position (λ g. bytes_eq f.name g.name) fs)
          ∙ (ap (option_and_then (slice_get fs))
          (sym (position-map (λ g. g.name) (bytes_eq f.name) fs) ∙ placed) ∙ there),
      slots k f there,
    )

found_in_body : (S : DeclaredSchema) (t : ℕ) (body : DeclaredBody) → IsBody S t body → (k : ℕ)
    (f : DeclaredField) → slice_get (fields_in body) k ≡ Some f → IsFoundAs body k f
found_in_body S t (table_body fs) is k f there = found_among fs is.names is.slots k f there
found_in_body S t (struct_body fs align) is k f there = found_among fs is.names is.slots k f there
found_in_body S t _ is k f there = absurd cc

-- each field is found by its name
pub found_as : (S : DeclaredSchema) (t : ℕ) → IsDeclared S → (k : ℕ) (f : DeclaredField)
    → slice_get (fields_in (body_at S t)) k ≡ Some f → IsFoundAs (body_at S t) k f
found_as S t declared k f = by (slice_get S.types t) refl
  where
    by : (o : Option DeclaredType) → slice_get S.types t ≡ o → slice_get (fields_in (body_in o)) k ≡ Some f
        → IsFoundAs (body_in o) k f
    by None e there = absurd cc
    by (Some type) e there = found_in_body S t type.body (declared.bodies t type e) k f there

-- ---- the slot that a name's look-up finds has that name

found_there : {X : Type 0} (p : X → Bool) (xs : List X) (x : X) → find p xs ≡ Some x
    → (j : ℕ) × (slice_get xs j ≡ Some x) × (p x ≡ true)
found_there p [] x e = absurd cc
found_there {X} p (y ∷ ys) x e = by (p y) refl e (found_there p ys x)
  where
    by : (b : Bool) → p y ≡ b → cond b (Some y) (find p ys) ≡ Some x
        → (find p ys ≡ Some x → (j : ℕ) × (slice_get ys j ≡ Some x) × (p x ≡ true))
        → (j : ℕ) × (slice_get (y ∷ ys) j ≡ Some x) × (p x ≡ true)
    by true passes is later = let same : y ≡ x = cc in (0, is, rw (← same) passes)
    by false fails is later = let there = later is in (suc there.0, there.1, there.2)

named_among : (name : Name) (fs : List DeclaredField)
    → ((k : ℕ) (f : DeclaredField) → slice_get fs k ≡ Some f → f.slot ≡ k) → (g f : DeclaredField) (k : ℕ)
    → find (λ h. bytes_eq name h.name) fs ≡ Some g → slice_get fs k ≡ Some f → k ≡ g.slot → f.name ≡ name
named_among name fs slots g f k found there at =
    let place = found_there (λ h. bytes_eq name h.name) fs g found in
    let same : k ≡ place.0 = at ∙ slots place.0 g place.1 in
    let here : slice_get fs place.0 ≡ Some f = rw (← same) there in
    let both : Some f ≡ Some g = sym here ∙ place.1 in
    let one : f ≡ g = cc in
    ap (λ (h : DeclaredField). h.name) one ∙ sym ((bytes_eq-Decides name g.name).0 place.2)

named_in_body : (S : DeclaredSchema) (t : ℕ) (body : DeclaredBody) → IsBody S t body → (name : Name)
    (g f : DeclaredField) (k : ℕ) → field_named body name ≡ Some g → slice_get (fields_in body) k ≡ Some f
    → k ≡ g.slot → f.name ≡ name
named_in_body S t (table_body fs) is name g f k found there at = named_among name fs is.slots g f k found there at
named_in_body S t (struct_body fs align) is name g f k found there at =
    named_among name fs is.slots g f k found there at
named_in_body S t _ is name g f k found there at = absurd cc

pub named_at : (S : DeclaredSchema) (t : ℕ) → IsDeclared S → (name : Name) (g f : DeclaredField) (k : ℕ)
    → field_named (body_at S t) name ≡ Some g → slice_get (fields_in (body_at S t)) k ≡ Some f → k ≡ g.slot
    → f.name ≡ name
named_at S t declared name g f k = by (slice_get S.types t) refl
  where
    by : (o : Option DeclaredType) → slice_get S.types t ≡ o → field_named (body_in o) name ≡ Some g
        → slice_get (fields_in (body_in o)) k ≡ Some f → k ≡ g.slot → f.name ≡ name
    by None e found there at = absurd cc
    by (Some type) e found there at =
        named_in_body S t type.body (declared.bodies t type e) name g f k found there at

-- ---- members

-- so its number is that of the slot
pub number_is : (g f : DeclaredField) (k : ℕ) → Some g ≡ Some f → f.slot ≡ k → k ≡ g.slot
number_is g f k same is = let one : g ≡ f = cc in sym is ∙ ap (λ (h : DeclaredField). h.slot) (sym one)

pub same_bytes : (a b : Name) → slice_cmp nat_cmp a b ≡ Equal → a ≡ b
same_bytes a b e = (bytes_eq-Decides a b).0 (sym (is_eq-slice_cmp a b) ∙ ap is_eq e)

-- a member of another name is passed over
pub passed_over : (name l : Name) (d : Data) (ms : Members) → name ≢ l
    → get_member name (member l d ms) ≡ get_member name ms
passed_over name l d ms apart = by (slice_cmp nat_cmp name l) refl
  where
    by : (o : Ordering) → slice_cmp nat_cmp name l ≡ o
        → match_ordering o (get_member name ms) (Some d) (get_member name ms) ≡ get_member name ms
    by Less e = refl
    by Equal e = absurd (apart (same_bytes name l e))
    by Greater e = refl
