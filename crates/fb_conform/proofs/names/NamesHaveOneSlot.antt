-- What a name stands for in a declared type, and that no other name does.
use Rattle.std.proofs.Common.{◌≡◌, ◌≢◌, ◌≤◌, ℕ, suc, nat_lt, Bool, true, false, List, [], ◌∷◌, map, length, get_or}
use Rattle.std.proofs.Common.{find, position}
use Rattle.std.proofs.Common.{slice_get, Option, None, Some, option_map, bytes_eq, codes, cond, AllPairs, refl}
use Rattle.std.proofs.Common.{sym, ap, ◌∙◌, arith}
use Rattle.std.specs.Option.{option_and_then}
use Rattle.std.proofs.lemmas.Bool.{ltb-true}
use Rattle.std.proofs.lemmas.Bool.Decides.{nat_tests}
use Rattle.std.proofs.lemmas.List.Quantifiers.{position-Some}
use Rattle.std.proofs.lemmas.Option.{slice_get-map, slice_get-get_or, slice_get_within, slice_get_past}
use Rattle.std.proofs.lemmas.Option.{get_or_from_slice_get}
use Rattle.std.proofs.lemmas.Slice.Eq.{bytes_eq-Decides}
use Rattle.fb_schema.specs.Schema.{Name, DeclaredField, DeclaredBody, table_body, struct_body, enum_body, union_body}
use Rattle.fb_schema.specs.Schema.{DeclaredType, DeclaredSchema, body_in, body_at, is_union}
use Rattle.fb_schema.specs.Found.{fields_in, field_named, code_named}
use Rattle.fb_schema.specs.WellDeclared.{IsBody, IsUnionBody, IsDeclared}
use Rattle.fb_schema.proofs.DeclaredNames.{keys_differ}
use Rattle.fb_schema.proofs.Distinct.{found_at}
use Rattle.fb_schema.proofs.Positions.{position-map, find-position}
use Rattle.fb_conform.specs.Names.{slot_named, name_in}
use Rattle.fb_conform.proofs.laws.EachBodyIsDeclared.{is_body}

-- ---- what stands where a name is found

-- what is found by its name stands at that position, and has the name
pub record FoundAt {X : Type 0} (key : X → Name) (xs : List X) (name : Name) (k : ℕ) : Type 0 where
  pub item : X
  pub at : slice_get xs k ≡ Some item
  pub named : key item ≡ name

pub found_there : {X : Type 0} (key : X → Name) (xs : List X) (name : Name) (k : ℕ)
    → position (λ x. bytes_eq name (key x)) xs ≡ Some k → FoundAt key xs name k
found_there {X} key xs name k is = by xs refl is
  where
    by : (ys : List X) → xs ≡ ys → position (λ x. bytes_eq name (key x)) ys ≡ Some k → FoundAt key ys name k
    by [] same e = absurd cc
    by (y ∷ ys) same e =
        let there = position-Some (λ x. bytes_eq name (key x)) (y ∷ ys) k y e in
        record {
          item = get_or (y ∷ ys) k y;
          at = slice_get-get_or (y ∷ ys) k y there.0;
          named = sym ((bytes_eq-Decides name (key (get_or (y ∷ ys) k y))).0 there.1);
        }

-- where no two names are the same, each stands where it is found
pub position_of : {X : Type 0} (key : X → Name) (xs : List X) (k : ℕ) (x : X) → AllPairs (λ a b. a ≢ b) (map key xs)
    → slice_get xs k ≡ Some x → position (λ y. bytes_eq (key x) (key y)) xs ≡ Some k
position_of key xs k x distinct there =
    sym (position-map key (bytes_eq (key x)) xs)
    ∙ found_at bytes_eq bytes_eq-Decides (map key xs) k (key x) distinct
    (slice_get-map key xs k ∙ ap (option_map key) there)

-- ---- fields

module _ (fs : List DeclaredField) (distinct : AllPairs (λ a b. a ≢ b) (map (λ f. f.name) fs))
    (slots : (k : ℕ) (f : DeclaredField) → slice_get fs k ≡ Some f → f.slot ≡ k) where
  -- a field is found by its name
  pub field_found : (k : ℕ) (f : DeclaredField) → slice_get fs k ≡ Some f
      → find (λ g. bytes_eq f.name g.name) fs ≡ Some f
  field_found k f there =
      sym (find-position (λ g. bytes_eq f.name g.name) fs)
      ∙ ap (option_and_then (slice_get fs)) (position_of (λ g. g.name) fs k f distinct there) ∙ there

  field_slot_in : (k : ℕ) (f : DeclaredField) → slice_get fs k ≡ Some f
      → option_map (λ g. g.slot) (find (λ g. bytes_eq f.name g.name) fs) ≡ Some k
  field_slot_in k f there = ap (option_map (λ g. g.slot)) (field_found k f there) ∙ ap Some (slots k f there)

  -- what is found by a name stands in its slot, and has the name
  pub found_field : (name : Name) (f : DeclaredField) → find (λ g. bytes_eq name g.name) fs ≡ Some f
      → (slice_get fs f.slot ≡ Some f) × (f.name ≡ name)
  found_field name f is = by (position (λ g. bytes_eq name g.name) fs) refl
    where
      by : (o : Option ℕ) → position (λ g. bytes_eq name g.name) fs ≡ o
          → (slice_get fs f.slot ≡ Some f) × (f.name ≡ name)
      by None e =
          let none : None ≡ Some f =
          ap (option_and_then (slice_get fs)) (sym e) ∙ find-position (λ g. bytes_eq name g.name) fs ∙ is in
          cc
      by (Some k) e =
          let at : slice_get fs k ≡ Some f =
          ap (option_and_then (slice_get fs)) (sym e) ∙ find-position (λ g. bytes_eq name g.name) fs ∙ is in
          let there = found_there (λ g. g.name) fs name k e in
          let same : Some there.item ≡ Some f = sym there.at ∙ at in
          let one : there.item ≡ f = cc in
          (ap (slice_get fs) (slots k f at) ∙ at, ap (λ (g : DeclaredField). g.name) (sym one) ∙ there.named)

  slot_field_in : (name : Name) (k : ℕ) → option_map (λ g. g.slot) (find (λ g. bytes_eq name g.name) fs) ≡ Some k
      → FoundAt (λ g. g.name) fs name k
  slot_field_in name k = by (find (λ g. bytes_eq name g.name) fs) refl
    where
      by : (o : Option DeclaredField) → find (λ g. bytes_eq name g.name) fs ≡ o → option_map (λ g. g.slot) o ≡ Some k
          → FoundAt (λ g. g.name) fs name k
      by None e none = absurd cc
      by (Some f) e is =
          let here = found_field name f e in
          let slot : f.slot ≡ k = cc in
          record { item = f; at = rw (← slot) here.0; named = here.1 }

-- ---- bodies

-- each field's name stands for its slot
pub field_slot : (S : DeclaredSchema) (t : ℕ) (body : DeclaredBody) → IsBody S t body → (k : ℕ) (f : DeclaredField)
    → slice_get (fields_in body) k ≡ Some f → slot_named body f.name ≡ Some k
field_slot S t (table_body fs) is k f there = field_slot_in fs is.names is.slots k f there
field_slot S t (struct_body fs force) is k f there = field_slot_in fs is.names is.slots k f there
field_slot S t _ is k f there = absurd cc

-- and no other name does
pub slot_field : (S : DeclaredSchema) (t : ℕ) (body : DeclaredBody) → IsBody S t body → is_union body ≡ false
    → (name : Name) (k : ℕ) → slot_named body name ≡ Some k → FoundAt (λ f. f.name) (fields_in body) name k
slot_field S t (table_body fs) is other name k e = slot_field_in fs is.names is.slots name k e
slot_field S t (struct_body fs force) is other name k e = slot_field_in fs is.names is.slots name k e
slot_field S t _ is other name k e = absurd cc

-- a member's name stands for its code
pub member_slot : (S : DeclaredSchema) (t : ℕ) (ms : List (Name × ℕ)) → IsUnionBody S ms → (k : ℕ) (m : Name × ℕ)
    → slice_get ms k ≡ Some m → slot_named (union_body ms) m.0 ≡ Some (suc k)
member_slot S t ms is k m there =
    ap (option_map (λ i. suc i)) (position_of (λ x. x.0) ms k m (keys_differ (λ x. x.0) ms is.names) there)

pub slot_member : (ms : List (Name × ℕ)) (name : Name) (k : ℕ) → slot_named (union_body ms) name ≡ Some k
    → (i : ℕ) × (k ≡ suc i) × FoundAt (λ m. m.0) ms name i
slot_member ms name k = by (position (λ m. bytes_eq name m.0) ms) refl
  where
    by : (o : Option ℕ) → position (λ m. bytes_eq name m.0) ms ≡ o → option_map (λ i. suc i) o ≡ Some k
        → (i : ℕ) × (k ≡ suc i) × FoundAt (λ m. m.0) ms name i
    by None e none = absurd cc
    by (Some i) e is = let next : k ≡ suc i = cc in (i, next, found_there (λ m. m.0) ms name i e)

-- ---- places

field_stands : (S : DeclaredSchema) (t : ℕ) (body : DeclaredBody) → IsBody S t body → (k : ℕ) (name : Name)
    → option_map (λ f. f.name) (slice_get (fields_in body) k) ≡ Some name → slot_named body name ≡ Some k
field_stands S t body is k name = by (slice_get (fields_in body) k) refl
  where
    by : (o : Option DeclaredField) → slice_get (fields_in body) k ≡ o → option_map (λ f. f.name) o ≡ Some name
        → slot_named body name ≡ Some k
    by None at e = absurd cc
    by (Some f) at e = let same : f.name ≡ name = cc in rw (← same) (field_slot S t body is k f at)

-- the name in a place stands for it
pub name_stands : (S : DeclaredSchema) (t : ℕ) (body : DeclaredBody) → IsBody S t body → (k : ℕ) (name : Name)
    → name_in body k ≡ Some name → slot_named body name ≡ Some k
name_stands S t (table_body fs) is k name e = field_stands S t (table_body fs) is k name e
name_stands S t (struct_body fs force) is k name e = field_stands S t (struct_body fs force) is k name e
name_stands S t (union_body ms) is (suc k) name e = by (slice_get ms k) refl e
  where
    by : (o : Option (Name × ℕ)) → slice_get ms k ≡ o → option_map (λ m. m.0) o ≡ Some name
        → slot_named (union_body ms) name ≡ Some (suc k)
    by None at e = absurd cc
    by (Some m) at e = let same : m.0 ≡ name = cc in rw (← same) (member_slot S t ms is k m at)
name_stands S t _ is k name e = absurd cc

-- and no other does
pub stands_in : (S : DeclaredSchema) (t : ℕ) (body : DeclaredBody) → IsBody S t body → (name : Name) (k : ℕ)
    → slot_named body name ≡ Some k → name_in body k ≡ Some name
stands_in S t (table_body fs) is name k e =
    let found = slot_field S t (table_body fs) is refl name k e in
    ap (option_map (λ f. f.name)) found.at ∙ ap Some found.named
stands_in S t (struct_body fs force) is name k e =
    let found = slot_field S t (struct_body fs force) is refl name k e in
    ap (option_map (λ f. f.name)) found.at ∙ ap Some found.named
stands_in S t (union_body ms) is name k e =
    let found = slot_member ms name k e in
    ap (name_in (union_body ms)) found.1 ∙ ap (option_map (λ m. m.0)) found.2.at ∙ ap Some found.2.named
stands_in S t _ is name k e = absurd cc

-- ---- look-ups

-- a field that a look-up finds tells the slot
pub slot_of_field : (body : DeclaredBody) (name : Name) (f : DeclaredField) → field_named body name ≡ Some f
    → slot_named body name ≡ Some f.slot
slot_of_field (table_body fs) name f e = ap (option_map (λ g. g.slot)) e
slot_of_field (struct_body fs force) name f e = ap (option_map (λ g. g.slot)) e
slot_of_field _ name f e = absurd cc

-- no member is called `NONE`
none_called : (S : DeclaredSchema) (ms : List (Name × ℕ)) → IsUnionBody S ms → (name : Name) → name ≡ codes "NONE"
    → (o : Option ℕ) → position (λ m. bytes_eq name m.0) ms ≡ o → o ≡ None
none_called S ms is name none None e = refl
none_called S ms is name none (Some k) e =
    let there = found_there (λ m. m.0) ms name k e in
    absurd (is.no_none k there.item (slice_get_within ms k there.item there.at)
    (ap (λ (m : Name × ℕ). m.0) (get_or_from_slice_get ms k there.item there.item there.at) ∙ there.named ∙ none))

-- where no field has the name, and it has no code or that of `NONE`, it stands for nothing
pub no_slot : (S : DeclaredSchema) (t : ℕ) (body : DeclaredBody) → IsBody S t body → (name : Name)
    → field_named body name ≡ None → (o : Option ℕ) → code_named body name ≡ o → ((c : ℕ) → o ≡ Some c → c ≡ 0)
    → slot_named body name ≡ None
no_slot S t (table_body fs) is name none o e zero = ap (option_map (λ g. g.slot)) none
no_slot S t (struct_body fs force) is name none o e zero = ap (option_map (λ g. g.slot)) none
no_slot S t (enum_body base flags values) is name none o e zero = refl
no_slot S t (union_body ms) is name none o e zero = by (bytes_eq name (codes "NONE")) refl e
  where
    first : Option ℕ
    first = position (λ m. bytes_eq name m.0) ms

    other : (p : Option ℕ) → option_map (λ k. suc k) p ≡ o → option_map (λ k. suc k) p ≡ None
    other None has = refl
    other (Some k) has = let bad : suc k ≡ 0 = zero (suc k) (sym has) in absurd (omega (arith, bad))

    by : (b : Bool) → bytes_eq name (codes "NONE") ≡ b → cond b (Some 0) (option_map (λ k. suc k) first) ≡ o
        → option_map (λ k. suc k) first ≡ None
    by true same has =
        ap (option_map (λ k. suc k))
        (none_called S ms is name ((bytes_eq-Decides name (codes "NONE")).0 same) first refl)
    by false same has = other first has

-- the field that a look-up finds stands in its slot, and has the name
pub field_at : (S : DeclaredSchema) (t : ℕ) (body : DeclaredBody) → IsBody S t body → (name : Name) (f : DeclaredField)
    → field_named body name ≡ Some f → (slice_get (fields_in body) f.slot ≡ Some f) × (f.name ≡ name)
field_at S t (table_body fs) is name f e = found_field fs is.names is.slots name f e
field_at S t (struct_body fs force) is name f e = found_field fs is.names is.slots name f e
field_at S t _ is name f e = absurd cc

-- a text that finds a code in two unions, where each name of both stands for one code, finds one code
pub one_code : (x y : DeclaredBody) (name : Name) (c d : ℕ)
    → ((k j : ℕ) → slot_named x name ≡ Some k → slot_named y name ≡ Some j → j ≡ k)
    → code_named x name ≡ Some c → code_named y name ≡ Some d → d ≡ c
one_code (union_body ms) (union_body ns) name c d keeps old new = by (bytes_eq name (codes "NONE")) refl old new
  where
    by : (b : Bool) → bytes_eq name (codes "NONE") ≡ b
        → cond b (Some 0) (option_map (λ k. suc k) (position (λ m. bytes_eq name m.0) ms)) ≡ Some c
        → cond b (Some 0) (option_map (λ k. suc k) (position (λ m. bytes_eq name m.0) ns)) ≡ Some d → d ≡ c
    by true same was is = cc
    by false same was is = keeps c d was is
one_code _ _ name c d keeps old new = absurd cc

-- the same in a declared schema, whatever the type's number
pub no_slot_at : (S : DeclaredSchema) → IsDeclared S → (t : ℕ) (name : Name) → field_named (body_at S t) name ≡ None
    → (c : ℕ) → code_named (body_at S t) name ≡ Some c → c ≡ 0 → slot_named (body_at S t) name ≡ None
no_slot_at S declared t name none c code zero = by (nat_lt t (length S.types)) refl
  where
    by : (x : Bool) → nat_lt t (length S.types) ≡ x → slot_named (body_at S t) name ≡ None
    by true test =
        no_slot S t (body_at S t) (is_body S declared t (ltb-true t (length S.types) test)) name none (Some c) code
        (λ k same. let one : c ≡ k = cc in sym one ∙ zero)
    by false test =
        let past : length S.types ≤ t = grind (arith, nat_tests, test) in
        ap (λ (o : Option DeclaredType). slot_named (body_in o) name) (slice_get_past S.types t past)
