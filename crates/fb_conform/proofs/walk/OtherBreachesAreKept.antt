-- What is kept of two types of one full name, but for the breaches that a walk reports of them.
use Rattle.std.proofs.Common.{◌≡◌, ◌≢◌, ℕ, ◌+◌, ◌<◌, ◌≤◌, ◌⊎◌, inl, inr, ◌↔◌, Bool, true, false, IsTrue, length, List}
use Rattle.std.proofs.Common.{All, Contains, ℤ, Option}
use Rattle.std.proofs.Common.{None, Some, slice_get, refl, sym, ap, subst, ◌∙◌, arith}
use Rattle.fb_schema.specs.declared.kinds.Base.{Base}
use Rattle.fb_schema.specs.Schema.{Name, DeclaredField, DeclaredBody, table_body, struct_body, enum_body, union_body}
use Rattle.fb_schema.specs.Schema.{body_at, slots_in, parts_in, values_in, is_table}
use Rattle.fb_layout.specs.Laid.{LaidSchema, struct_at}
use Rattle.fb_conform.specs.declared.breaches.Breach.{Breach}
use Rattle.fb_conform.specs.declared.breaches.Breach.TheVariants.{TypeGone, KindChanged, SlotGone, NewRequired}
use Rattle.fb_conform.specs.BreachTable.{number_of}
use Rattle.fb_conform.specs.ByName.{SameFields}
use Rattle.fb_conform.specs.Conforms.{SameKind, SameStruct, KeepsValues, KeepsMembers, is_required, Kept, Stands}
use Rattle.fb_conform.specs.Order.{type_place, slot_place}
use Rattle.fb_conform.specs.Twins.{twin, Twins, SlotTwins, TableSlot}
use Rattle.fb_conform.proofs.laws.BodiesOfOneKindAgree.{has_slot}
use Rattle.fb_conform.proofs.walk.EachBreachHasItsPlace.{id, OfSlot, of_type, of_slot, in_type}
use Rattle.fb_conform.proofs.twins.TypesAreFoundByTheirNames.{one_twin}

-- the number of the one breach that two types themselves can have, if they aren't both tables
abbrev pub own_number : DeclaredBody → DeclaredBody → ℕ
own_number (table_body fs) (table_body gs) = 0
own_number (struct_body fs m) (struct_body gs n) = 94
own_number (enum_body b flags values) (enum_body c marks others) = 101
own_number (union_body ms) (union_body ns) = 102
own_number _ _ = 93

-- the numbers of breaches that two fields in one slot can't have
abbrev pub IsOther : Option DeclaredField → Option DeclaredField → ℕ → Type 0
IsOther (Some f) (Some g) n = (n < 96) ⊎ (99 < n)
IsOther (Some f) None n = n ≢ 95
IsOther None (Some g) n = n ≢ 100
IsOther None None n = Unit {0}

kind_same : (x y : DeclaredBody) → 93 ≢ own_number x y → SameKind x y
kind_same (table_body fs) (table_body gs) other = tt
kind_same (struct_body fs m) (struct_body gs n) other = tt
kind_same (enum_body b flags values) (enum_body c marks others) other = tt
kind_same (union_body ms) (union_body ns) other = tt
kind_same _ _ other = absurd (other refl)

kind_differs : (x y : DeclaredBody) → own_number x y ≡ 93 → SameKind x y → ⊥
kind_differs (table_body fs) (table_body gs) own same = omega arith
kind_differs (struct_body fs m) (struct_body gs n) own same = omega arith
kind_differs (enum_body b flags values) (enum_body c marks others) own same = omega arith
kind_differs (union_body ms) (union_body ns) own same = omega arith
kind_differs _ _ own same = same

values_same : (x y : DeclaredBody) → 101 ≢ own_number x y → KeepsValues x y
values_same (enum_body b flags values) (enum_body c marks others) other = absurd (other refl)
values_same _ _ other = tt

pub not_tables : (x y : DeclaredBody) → 92 < own_number x y → IsTrue (is_table x) → IsTrue (is_table y) → ⊥
not_tables (table_body fs) (table_body gs) more one two = omega arith
not_tables _ _ more one two = cc

pub tables_own : (x y : DeclaredBody) → IsTrue (is_table x) → IsTrue (is_table y) → own_number x y ≡ 0
tables_own (table_body fs) (table_body gs) one two = refl
tables_own _ _ one two = cc

pub enum_decides : (kept : Bool) (x y : DeclaredBody) (b c : Base) (flags marks : Bool)
    (values others : List (Name × ℤ)) → x ≡ enum_body b flags values → y ≡ enum_body c marks others
    → IsTrue kept ↔ ((c ≡ b) × (marks ≡ flags) × All (Contains (values_in y)) values)
    → IsTrue kept ↔ KeepsValues x y
enum_decides kept x y b c flags marks values others was is decides = rw (was, is) (rw is at decides)

-- two tests, one after the other
pub both_passed : (P Q R : Type 0) (same there kept : Bool) → IsTrue same ↔ (P × Q) → IsTrue there ↔ R → same ≡ true
    → kept ≡ there → IsTrue kept ↔ (P × Q × R)
both_passed P Q R same there kept first second passed is =
    let both = first.0 passed in
    (λ e. (both.0, both.1, second.0 (sym is ∙ e)), λ all. is ∙ second.1 all.2)

pub one_failed : (P Q R : Type 0) (same kept : Bool) → IsTrue same ↔ (P × Q) → same ≡ false → kept ≡ false
    → IsTrue kept ↔ (P × Q × R)
one_failed P Q R same kept first failed is = (
  λ e. let bad : false ≡ true = sym is ∙ e in cc,
  λ all. let bad : false ≡ true = sym failed
      ∙ first.1 (all.0, all.1) in cc,
)

none_between : (n : ℕ) → 96 ≤ n → n ≤ 99 → (n < 96) ⊎ (99 < n) → ⊥
none_between n low high outside = elim outside [ inl less ↦ omega (arith, less) | inr past ↦ omega (arith, past) ]

module _ (A B : LaidSchema) (t : ℕ) where
  struct_same : (u : ℕ) (x y : DeclaredBody) → 94 ≢ own_number x y → SameStruct A B t u x y
  struct_same u (struct_body fs m) (struct_body gs n) other = absurd (other refl)
  struct_same u _ _ other = tt

  members_same : (x y : DeclaredBody) → 102 ≢ own_number x y → KeepsMembers A.schema B.schema x y
  members_same (union_body ms) (union_body ns) other = absurd (other refl)
  members_same _ _ other = tt

  -- of a type that has no twin nothing else stands than that it is gone
  pub untwinned : ((u : ℕ) → Twins A.schema B.schema t u → ⊥) → (r : Breach) → type_place r ≡ t + 1
      → (r ≡ TypeGone (id t) → Kept A B (TypeGone (id t))) → Kept A B r
  untwinned never = in_type (λ r. (r ≡ TypeGone (id t) → Kept A B (TypeGone (id t))) → Kept A B r) t
      (record {
        gone = λ here. here refl;
        kind = λ here u twins. absurd (never u twins);
        struct = λ here u twins. absurd (never u twins);
        values = λ here u twins. absurd (never u twins);
        members = λ here u twins. absurd (never u twins);
      })
      (λ k. record {
        gone = λ here u f twins table at. absurd (never u twins);
        shape = λ here f g pair. absurd (never pair.type pair.twins);
        default = λ here f g pair. absurd (never pair.type pair.twins);
        required = λ here f g pair. absurd (never pair.type pair.twins);
        deprecated = λ here f g pair. absurd (never pair.type pair.twins);
        new = λ here u g twins table none at. absurd (never u twins);
      })

  pub gone_stands : t < length A.schema.types → twin A.schema B.schema t ≡ None → Stands A B (TypeGone (id t))
  gone_stands known gone kept =
      let there = kept known in let bad : None ≡ Some there.0 = sym gone ∙ there.1 in cc

  module _ (u : ℕ) (twins : Twins A.schema B.schema t u) where
    -- what holds of the twin holds of each
    pub only : (P : ℕ → Type 0) → P u → (v : ℕ) → Twins A.schema B.schema t v → P v
    only P here v other = subst P (one_twin A.schema B.schema t u v twins other) here

    pub twin_decides : (kept : Bool) (P : ℕ → Type 0) → IsTrue kept ↔ P u
        → IsTrue kept ↔ ((v : ℕ) → Twins A.schema B.schema t v → P v)
    twin_decides kept P decides = (λ e. only P (decides.0 e), λ all. decides.1 (all u twins))

    pub struct_decides : (kept : Bool) (x y : DeclaredBody) → own_number x y ≡ 94
        → IsTrue kept ↔ (SameFields A.schema B.schema (parts_in x) (parts_in y)
        × ((struct_at B u).align ≡ (struct_at A t).align)) → IsTrue kept ↔ SameStruct A B t u x y
    struct_decides kept (struct_body fs m) (struct_body gs n) own decides = decides
    struct_decides kept (table_body fs) (table_body gs) own decides = absurd (omega arith)
    struct_decides kept (enum_body b flags values) (enum_body c marks others) own decides = absurd (omega arith)
    struct_decides kept (union_body ms) (union_body ns) own decides = absurd (omega arith)
    struct_decides kept _ _ own decides = absurd (omega arith)

    pub body_kept : (r : Breach) → type_place r ≡ t + 1 → slot_place r ≡ 0
        → number_of r ≢ own_number (body_at A.schema t) (body_at B.schema u) → Kept A B r
    body_kept =
        let x = body_at A.schema t in
        let y = body_at B.schema u in
        of_type (λ r. number_of r ≢ own_number x y → Kept A B r) t (record {
          gone = λ other known. (u, twins);
          kind = λ other. only (λ v. SameKind x (body_at B.schema v)) (kind_same x y other);
          struct = λ other. only (λ v. SameStruct A B t v x (body_at B.schema v)) (struct_same u x y other);
          values = λ other. only (λ v. KeepsValues x (body_at B.schema v)) (values_same x y other);
          members = λ other. only (λ v. KeepsMembers A.schema B.schema x (body_at B.schema v))
              (members_same x y other);
        })

    pub kind_stands : own_number (body_at A.schema t) (body_at B.schema u) ≡ 93 → Stands A B (KindChanged (id t))
    kind_stands own kept = kind_differs (body_at A.schema t) (body_at B.schema u) own (kept u twins)

    -- two types that aren't both tables have no slots
    pub no_slots : (IsTrue (is_table (body_at A.schema t)) → IsTrue (is_table (body_at B.schema u)) → ⊥) → (r : Breach)
        → type_place r ≡ t + 1 → 1 ≤ slot_place r → Kept A B r
    no_slots never = in_type (λ r. 1 ≤ slot_place r → Kept A B r) t
        (record {
          gone = λ past. absurd (omega (arith, past));
          kind = λ past. absurd (omega (arith, past));
          struct = λ past. absurd (omega (arith, past));
          values = λ past. absurd (omega (arith, past));
          members = λ past. absurd (omega (arith, past));
        })
        (λ k. record {
          gone = λ past v f other table at. absurd (neither v other (has_slot _ k f at) table);
          shape = λ past f g pair. absurd (no_pair k f g pair);
          default = λ past f g pair. absurd (no_pair k f g pair);
          required = λ past f g pair. absurd (no_pair k f g pair);
          deprecated = λ past f g pair. absurd (no_pair k f g pair);
          new = λ past v g other table none at. absurd (neither v other table (has_slot _ k g at));
        })
      where
        neither : (v : ℕ) → Twins A.schema B.schema t v → IsTrue (is_table (body_at A.schema t))
            → IsTrue (is_table (body_at B.schema v)) → ⊥
        neither v other one = only (λ w. IsTrue (is_table (body_at B.schema w)) → ⊥) (never one) v other

        no_pair : (k : ℕ) (f g : DeclaredField) → SlotTwins A.schema B.schema t k f g → ⊥
        no_pair k f g pair = neither pair.type pair.twins (has_slot _ k f pair.old) (has_slot _ k g pair.new)

  module _ (k : ℕ) where
    -- no other fields are in the slot
    pub pair_decides : (kept : Bool) (P : DeclaredField → DeclaredField → Type 0) (f g : DeclaredField)
        → SlotTwins A.schema B.schema t k f g → IsTrue kept ↔ P f g
        → IsTrue kept ↔ ((a b : DeclaredField) → SlotTwins A.schema B.schema t k a b → P a b)
    pair_decides kept P f g pair decides = (λ e. others (decides.0 e), λ all. decides.1 (all f g pair))
      where
        others : P f g → (a b : DeclaredField) → SlotTwins A.schema B.schema t k a b → P a b
        others here a b other =
            let twins = one_twin A.schema B.schema t pair.type other.type pair.twins other.twins in
            let one : Some f ≡ Some a = sym pair.old ∙ other.old in
            let two : Some g ≡ Some b =
            sym pair.new ∙ ap (λ v. slice_get (slots_in (body_at B.schema v)) k) twins ∙ other.new in
            let first : f ≡ a = cc in
            let second : g ≡ b = cc in
            rw (← first, ← second) here

    in_slot : (o p : Option DeclaredField) → TableSlot A.schema B.schema t k o p → (v : ℕ)
        → Twins A.schema B.schema t v → slice_get (slots_in (body_at B.schema v)) k ≡ p
    in_slot o p slot = only slot.type slot.tables.twins (λ v. slice_get (slots_in (body_at B.schema v)) k ≡ p) slot.new

    found : (o p : Option DeclaredField) → TableSlot A.schema B.schema t k o p → (f g : DeclaredField)
        → SlotTwins A.schema B.schema t k f g → (o ≡ Some f) × (p ≡ Some g)
    found o p slot f g pair =
        (sym slot.old ∙ pair.old, sym (in_slot o p slot pair.type pair.twins) ∙ pair.new)

    -- of a slot in which one table has no field
    one_field : (Q : ℕ → Type 0) → ((f g : DeclaredField) → SlotTwins A.schema B.schema t k f g → ⊥)
        → (Q 95 → Kept A B (SlotGone (id t) k)) → (Q 100 → Kept A B (NewRequired (id t) k))
        → OfSlot (λ r. Q (number_of r) → Kept A B r) t k
    one_field Q never gone new = record {
      gone = gone;
      shape = λ q f g pair. absurd (never f g pair);
      default = λ q f g pair. absurd (never f g pair);
      required = λ q f g pair. absurd (never f g pair);
      deprecated = λ q f g pair. absurd (never f g pair);
      new = new;
    }

    other_kept : (o p : Option DeclaredField) → TableSlot A.schema B.schema t k o p
        → OfSlot (λ r. IsOther o p (number_of r) → Kept A B r) t k
    other_kept (Some f) (Some g) slot = record {
      gone = λ other v h twins table at. (g, in_slot (Some f) (Some g) slot v twins);
      shape = λ other. absurd (none_between 96 (omega arith) (omega arith) other);
      default = λ other. absurd (none_between 97 (omega arith) (omega arith) other);
      required = λ other. absurd (none_between 98 (omega arith) (omega arith) other);
      deprecated = λ other. absurd (none_between 99 (omega arith) (omega arith) other);
      new = λ other v h twins table none at. let bad : None ≡ Some f = sym none ∙ slot.old in cc;
    }
    other_kept (Some f) None slot =
        one_field (IsOther (Some f) None)
        (λ a b pair. let bad : None ≡ Some b = (found (Some f) None slot a b pair).1 in cc)
        (λ other. absurd (other refl))
        (λ other v h twins table none at. let bad : None ≡ Some f = sym none ∙ slot.old in cc)
    other_kept None (Some g) slot =
        one_field (IsOther None (Some g))
        (λ a b pair. let bad : None ≡ Some a = (found None (Some g) slot a b pair).0 in cc)
        (λ other v h twins table at. let bad : None ≡ Some h = sym slot.old ∙ at in cc) (λ other. absurd (other refl))
    other_kept None None slot =
        one_field (IsOther None None) (λ a b pair. let bad : None ≡ Some a = (found None None slot a b pair).0 in cc)
        (λ other v h twins table at. let bad : None ≡ Some h = sym slot.old ∙ at in cc)
        (λ other v h twins table none at.
        let bad : None ≡ Some h = sym (in_slot None None slot v twins) ∙ at in cc)

    pub slot_kept : (o p : Option DeclaredField) → TableSlot A.schema B.schema t k o p → (r : Breach)
        → type_place r ≡ t + 1 → slot_place r ≡ k + 1 → IsOther o p (number_of r) → Kept A B r
    slot_kept o p slot = of_slot (λ r. IsOther o p (number_of r) → Kept A B r) t k (other_kept o p slot)

    pub slot_gone_stands : (f : DeclaredField) → TableSlot A.schema B.schema t k (Some f) None
        → Stands A B (SlotGone (id t) k)
    slot_gone_stands f slot kept =
        let there = kept slot.type f slot.tables.twins slot.tables.new slot.old in
        let bad : None ≡ Some there.0 = sym slot.new ∙ there.1 in
        cc

    pub new_decides : (kept : Bool) (g : DeclaredField) → TableSlot A.schema B.schema t k None (Some g)
        → IsTrue kept ↔ (is_required g ≡ false) → IsTrue kept ↔ Kept A B (NewRequired (id t) k)
    new_decides kept g slot decides = (
      λ e v h twins table none at.
          let there : Some g ≡ Some h = sym (in_slot None (Some g) slot v twins) ∙ at in
          let same : g ≡ h = cc in
          rw (← same) (decides.0 e),
      λ plain. decides.1 (plain slot.type g slot.tables.twins slot.tables.old slot.old slot.new),
    )
