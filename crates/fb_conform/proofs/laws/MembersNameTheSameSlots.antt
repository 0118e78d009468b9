-- The members of an object, each of which has the name of a field in use of both versions of a type.
use Rattle.std.proofs.Common.{◌≡◌, ℕ, not, Bool, true, false, Option, None, Some, slice_get, Ordering}
use Rattle.std.proofs.Common.{Less, Equal, Greater, nat_cmp, refl, sym, ap, ◌∙◌}
use Rattle.std.specs.Ordering.{match_ordering}
use Rattle.std.specs.Cmp.Lexicographic.{slice_cmp}
use Rattle.std.proofs.lemmas.Bool.{and_parts}
use Rattle.serde_json.specs.Data.{Data, Members, no_members, member}
use Rattle.serde_json.specs.Find.{get_member}
use Rattle.fb_schema.specs.Schema.{Name, DeclaredField, DeclaredBody, DeclaredSchema}
use Rattle.fb_schema.specs.Found.{fields_in, field_named}
use Rattle.fb_schema.specs.WellDeclared.{IsBody}
use Rattle.fb_json.specs.Meant.{is_used, names_known}
use Rattle.fb_json.proofs.slots.NamedSlotIsFound.{same_bytes}
use Rattle.fb_conform.specs.Names.{slot_named}
use Rattle.fb_conform.proofs.names.NamesHaveOneSlot.{field_slot, slot_of_field, field_at}

-- a member's name is that of a field in use
pub known_field : (body : DeclaredBody) (name : Name) (t : Data) (ms : Members) → names_known body ms ≡ true
    → get_member name ms ≡ Some t → is_used (field_named body name) ≡ true
unfolding names_known
known_field body name t no_members known there = absurd cc
known_field body name t (member l d ms) known there =
    let both = and_parts (is_used (field_named body l)) (names_known body ms) known in
    by both.0 (λ is. known_field body name t ms both.1 is) (slice_cmp nat_cmp name l) refl there
  where
    by : is_used (field_named body l) ≡ true
        → (get_member name ms ≡ Some t → is_used (field_named body name) ≡ true) → (o : Ordering)
        → slice_cmp nat_cmp name l ≡ o
        → match_ordering o (get_member name ms) (Some d) (get_member name ms) ≡ Some t
        → is_used (field_named body name) ≡ true
    by first rest Less e is = rest is
    by first rest Equal e is = ap (λ (n : Name). is_used (field_named body n)) (same_bytes name l e) ∙ first
    by first rest Greater e is = rest is

-- a field that is in use
pub record InUse (o : Option DeclaredField) : Type 0 where
  pub field : DeclaredField
  pub there : o ≡ Some field
  pub used : field.deprecated ≡ false

pub in_use : (o : Option DeclaredField) → is_used o ≡ true → InUse o
in_use None e = absurd cc
in_use (Some f) e = record { field = f; there = refl; used = by f.deprecated e }
  where
    by : (b : Bool) → not b ≡ true → b ≡ false
    by true e = absurd cc
    by false e = refl

module _ (S T : DeclaredSchema) (t u : ℕ) (x y : DeclaredBody) (old : IsBody S t x) (new : IsBody T u y)
    (keeps : (k j : ℕ) (name : Name) → slot_named x name ≡ Some k → slot_named y name ≡ Some j → j ≡ k)
    (ms : Members) (known : names_known x ms ≡ true) (stay : names_known y ms ≡ true) where
  -- the member of an old field is the new one's, which is in use
  pub in_new : (k : ℕ) (f g : DeclaredField) (d : Data) → slice_get (fields_in x) k ≡ Some f
      → slice_get (fields_in y) k ≡ Some g → get_member f.name ms ≡ Some d
      → (g.name ≡ f.name) × (g.deprecated ≡ false)
  in_new k f g d was is there =
      let found = in_use (field_named y f.name) (known_field y f.name d ms stay there) in
      let at = field_at T u y new f.name found.field found.there in
      let slot : found.field.slot ≡ k =
      keeps k found.field.slot f.name (field_slot S t x old k f was)
      (slot_of_field y f.name found.field found.there) in
      let both : Some g ≡ Some found.field =
      sym is ∙ rw (← slot) at.0 in
      let one : g ≡ found.field = cc in
      (ap (λ (h : DeclaredField). h.name) one ∙ at.1, ap (λ (h : DeclaredField). h.deprecated) one ∙ found.used)

  -- a member that a new field is called like is an old field's
  pub in_old : (k : ℕ) (g : DeclaredField) (d : Data) → slice_get (fields_in y) k ≡ Some g
      → get_member g.name ms ≡ Some d → (f : DeclaredField) × (slice_get (fields_in x) k ≡ Some f) × (f.name ≡ g.name)
  in_old k g d is there =
      let found = in_use (field_named x g.name) (known_field x g.name d ms known there) in
      let at = field_at S t x old g.name found.field found.there in
      let slot : k ≡ found.field.slot =
      keeps found.field.slot k g.name (slot_of_field x g.name found.field found.there)
      (field_slot T u y new k g is) in
      (found.field, rw slot at.0, at.1)

  -- a slot's member is the same under both names
  pub same_member : (k : ℕ) (f g : DeclaredField) → slice_get (fields_in x) k ≡ Some f
      → slice_get (fields_in y) k ≡ Some g → get_member g.name ms ≡ get_member f.name ms
  same_member k f g was is = by (get_member f.name ms) refl (get_member g.name ms) refl
    where
      by : (o : Option Data) → get_member f.name ms ≡ o → (p : Option Data) → get_member g.name ms ≡ p
          → get_member g.name ms ≡ get_member f.name ms
      by (Some d) there p e = ap (λ (n : Name). get_member n ms) (in_new k f g d was is there).0
      by None there None e = e ∙ sym there
      by None there (Some d) e =
          let named = in_old k g d is e in
          let both : Some named.0 ≡ Some f = sym named.1 ∙ was in
          let one : named.0 ≡ f = cc in
          ap (λ (n : Name). get_member n ms) (sym named.2 ∙ ap (λ (h : DeclaredField). h.name) one)

  -- a field that is deprecated has no member
  pub none_of_deprecated : (k : ℕ) (f g : DeclaredField) → slice_get (fields_in x) k ≡ Some f
      → slice_get (fields_in y) k ≡ Some g → g.deprecated ≡ true → get_member f.name ms ≡ None
  none_of_deprecated k f g was is gone = by (get_member f.name ms) refl
    where
      by : (o : Option Data) → get_member f.name ms ≡ o → o ≡ None
      by None e = refl
      by (Some d) e = let used = (in_new k f g d was is e).1 in let bad : true ≡ false = sym gone ∙ used in absurd cc

  -- nor has a new one
  pub none_of_new : (k : ℕ) (g : DeclaredField) → slice_get (fields_in x) k ≡ None → slice_get (fields_in y) k ≡ Some g
      → get_member g.name ms ≡ None
  none_of_new k g none is = by (get_member g.name ms) refl
    where
      by : (o : Option Data) → get_member g.name ms ≡ o → o ≡ None
      by None e = refl
      by (Some d) e = let named = in_old k g d is e in let bad : None ≡ Some named.0 = sym none ∙ named.1 in absurd cc
