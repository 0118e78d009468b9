-- Chains of schemas.
use Rattle.std.proofs.Common.{◌≡◌, ℕ, ◌<◌, Bool, true, false, IsTrue, get_or, Contains, List, [], ◌∷◌, Option, None}
use Rattle.std.proofs.Common.{Some, slice_get, ℤ, refl, sym, ap, ◌∙◌}
use Rattle.std.specs.Option.{unwrap_or}
use Rattle.std.proofs.lemmas.List.Elements.{All-contains}
use Rattle.fb_value.specs.Datum.{Datum, a_number, a_text, a_vector, a_struct, a_table, a_member, an_unknown, Parts}
use Rattle.fb_value.specs.Datum.{no_parts, more_parts, SlotEntries, no_entries, absent_entry, present_entry}
use Rattle.fb_conform.specs.declared.breaches.Breach.TheVariants.{RootChanged, IdentifierChanged, TypeGone, KindChanged}
use Rattle.fb_conform.specs.declared.breaches.Breach.TheVariants.{StructChanged, SlotGone, FieldTypeChanged}
use Rattle.fb_conform.specs.declared.breaches.Breach.TheVariants.{DefaultChanged, RequiredChanged, DeprecatedTakenBack}
use Rattle.fb_conform.specs.declared.breaches.Breach.TheVariants.{NewRequired, EnumChanged, UnionChanged}
use Rattle.fb_schema.specs.Schema.{Name, DeclaredField, DeclaredBody, table_body, struct_body, enum_body, union_body}
use Rattle.fb_schema.specs.Schema.{DeclaredType, DeclaredSchema, body_in, body_at, slots_in, is_table}
use Rattle.fb_layout.specs.Laid.{LaidSchema, Slot, StoredKind, scalar_kind, struct_kind, table_kind, union_kind}
use Rattle.fb_layout.specs.Laid.{text_kind, StoredShape, one_of, vector_of, slots_of}
use Rattle.fb_value.specs.Reads.{default_entry}
use Rattle.fb_value.specs.Fits.{Fits, EachFits, EntriesFit, kind_of_type, FitsKind}
use Rattle.fb_layout.specs.WellMade.{IsWellMade}
use Rattle.fb_conform.specs.Laws.{ConformsOn, CarriesOn}
use Rattle.fb_conform.proofs.twins.TypesAreFoundByTheirNames.{twin_within, twin_declared, one_twin, twin_on}
use Rattle.fb_conform.proofs.laws.EachBodyIsDeclared.{is_body, slots_shaped}
use Rattle.fb_conform.proofs.laws.BodiesOfOneKindAgree.{has_slot, still_table}
use Rattle.fb_conform.proofs.laws.ConformingLayoutsAgree.{number_kept, twins, agrees}
use Rattle.fb_conform.proofs.laws.OldTypesByTheirNewNumbers.{KnownShape}
use Rattle.fb_conform.proofs.laws.LayoutsAgree.{Grown, types_in, Agrees}
use Rattle.fb_conform.specs.Twins.{Twins, SlotTwins, to_new}
use Rattle.fb_conform.specs.Conforms.{SameKind, SameStruct, KeepsValues, KeepsMembers, is_number, is_required, Conforms}
use Rattle.fb_conform.specs.Carry.{carry, carry_items, carry_slots, new_slots}
use Rattle.fb_conform.specs.Movement.{unless_gone}

same_kind : (x y z : DeclaredBody) → SameKind x y → SameKind y z → SameKind x z
same_kind (table_body fs) (table_body gs) (table_body hs) first second = tt
same_kind (struct_body fs m) (struct_body gs n) (struct_body hs o) first second = tt
same_kind (enum_body b flags values) (enum_body c marks others) (enum_body d more last) first second = tt
same_kind (union_body ms) (union_body ns) (union_body os) first second = tt
same_kind (table_body fs) (table_body gs) _ first second = absurd second
same_kind (struct_body fs m) (struct_body gs n) _ first second = absurd second
same_kind (enum_body b flags values) (enum_body c marks others) _ first second = absurd second
same_kind (union_body ms) (union_body ns) _ first second = absurd second
same_kind _ _ _ first second = absurd first

same_struct : (A B C : LaidSchema) (t u w : ℕ) (x y z : DeclaredBody) → SameKind x y → SameKind y z
    → SameStruct A B t u x y → SameStruct B C u w y z → SameStruct A C t w x z
same_struct A B C t u w (struct_body fs m) (struct_body gs n) (struct_body hs o) k l first second =
    (first.0 ∙ second.0, second.1 ∙ first.1)
same_struct A B C t u w (table_body fs) (table_body gs) z k l first second = tt
same_struct A B C t u w (enum_body b flags values) (enum_body c marks others) z k l first second = tt
same_struct A B C t u w (union_body ms) (union_body ns) z k l first second = tt
same_struct A B C t u w (struct_body fs m) (struct_body gs n) _ k l first second = absurd l
same_struct A B C t u w _ _ _ k l first second = absurd k

keeps_values : (x y z : DeclaredBody) → SameKind x y → SameKind y z → KeepsValues x y → KeepsValues y z
    → KeepsValues x z
keeps_values (enum_body b flags values) (enum_body c marks others) (enum_body d more last) k l first second = (
  second.0 ∙ first.0,
  second.1 ∙ first.1,
  λ k v within. All-contains (Contains last) others (get_or values k v)
      second.2 (first.2 k v within),
)
keeps_values (table_body fs) (table_body gs) z k l first second = tt
keeps_values (struct_body fs m) (struct_body gs n) z k l first second = tt
keeps_values (union_body ms) (union_body ns) z k l first second = tt
keeps_values (enum_body b flags values) (enum_body c marks others) _ k l first second = absurd l
keeps_values _ _ _ k l first second = absurd k

keeps_members : (S T R : DeclaredSchema) (x y z : DeclaredBody) → SameKind x y → SameKind y z → KeepsMembers S T x y
    → KeepsMembers T R y z → KeepsMembers S R x z
keeps_members S T R (union_body ms) (union_body ns) (union_body os) k l first second =
    λ c t e. let h = first c t e in let i = second c h.0 h.1 in (i.0, i.1, h.2 ∙ i.2)
keeps_members S T R (table_body fs) (table_body gs) z k l first second = tt
keeps_members S T R (struct_body fs m) (struct_body gs n) z k l first second = tt
keeps_members S T R (enum_body b flags values) (enum_body c marks others) z k l first second = tt
keeps_members S T R (union_body ms) (union_body ns) _ k l first second = absurd l
keeps_members S T R _ _ _ k l first second = absurd k

module _ (A B C : LaidSchema) (old : IsWellMade A) (mid : IsWellMade B) (first : Conforms A B)
    (second : Conforms B C) where
  -- the type between
  record Between (t w : ℕ) : Type 0 where
    pub type : ℕ
    pub before : Twins A.schema B.schema t type
    pub after : Twins B.schema C.schema type w

  between : (t w : ℕ) → Twins A.schema C.schema t w → Between t w
  between t w twins =
      let h = first (TypeGone (record { 0 = t })) (twin_declared A.schema C.schema t w twins) in
      let i = second (TypeGone (record { 0 = h.0 })) (twin_within A.schema B.schema t h.0 h.1) in
      let same : i.0 ≡ w = one_twin A.schema C.schema t i.0 w (sym (twin_on A.schema B.schema C.schema t h.0 h.1) ∙ i.1)
      twins in
      record { type = h.0; before = h.1; after = rw same at i.1 }

  -- the slot between
  record SlotBetween (t k : ℕ) (f h : DeclaredField) : Type 0 where
    pub slot : DeclaredField
    pub before : SlotTwins A.schema B.schema t k f slot
    pub type : ℕ
    pub after : SlotTwins B.schema C.schema type k slot h

  slot_between : (t k : ℕ) (f h : DeclaredField) → SlotTwins A.schema C.schema t k f h → SlotBetween t k f h
  slot_between t k f h pair =
      let on = between t pair.type pair.twins in
      let table = still_table (body_at A.schema t) (body_at B.schema on.type)
      (first (KindChanged (record { 0 = t })) on.type on.before) (has_slot (body_at A.schema t) k f pair.old) in
      let there = first (SlotGone (record { 0 = t }) k) on.type f on.before table pair.old in
      record {
        slot = there.0;
        before = record { type = on.type; twins = on.before; old = pair.old; new = there.1 };
        type = on.type;
        after = record { type = pair.type; twins = on.after; old = there.1; new = pair.new };
      }

  number_on : (t k : ℕ) (f g : DeclaredField) → SlotTwins A.schema B.schema t k f g → is_number f.shape ≡ true
      → is_number g.shape ≡ true
  number_on t k f g pair is =
      number_kept A B old mid first f.shape g.shape
      (slots_shaped A.schema t (body_at A.schema t)
      (is_body A.schema old.declared t (twin_declared A.schema B.schema t pair.type pair.twins)) k f pair.old)
      (slots_shaped B.schema pair.type (body_at B.schema pair.type)
      (is_body B.schema mid.declared pair.type (twin_within A.schema B.schema t pair.type pair.twins)) k g pair.new)
      (first (FieldTypeChanged (record { 0 = t }) k) f g pair) is

  added_on : (t k u w : ℕ) (h : DeclaredField) (o : Option DeclaredField) → Twins A.schema B.schema t u
      → Twins B.schema C.schema u w → IsTrue (is_table (body_at A.schema t)) → IsTrue (is_table (body_at B.schema u))
      → slice_get (slots_in (body_at A.schema t)) k ≡ None → slice_get (slots_in (body_at B.schema u)) k ≡ o
      → slice_get (slots_in (body_at C.schema w)) k ≡ Some h → is_required h ≡ false
  added_on t k u w h None before after was table none is there =
      second (NewRequired (record { 0 = u }) k) w h after table is there
  added_on t k u w h (Some g) before after was table none is there =
      second (RequiredChanged (record { 0 = u }) k) g h (record { type = w; twins = after; old = is; new = there })
      ∙ first (NewRequired (record { 0 = t }) k) u g before was none is

  kinds : (t w : ℕ) (mid : Between t w)
      → SameKind (body_at A.schema t) (body_at B.schema mid.type)
      × SameKind (body_at B.schema mid.type) (body_at C.schema w)
  kinds t w mid = (
    first (KindChanged (record { 0 = t })) mid.type mid.before,
    second (KindChanged (record { 0 = mid.type })) w mid.after,
  )

pub conforms_on : ConformsOn
conforms_on A B C old mid first second RootChanged = first RootChanged ∙ second RootChanged
conforms_on A B C old mid first second IdentifierChanged = second IdentifierChanged ∙ first IdentifierChanged
conforms_on A B C old mid first second (TypeGone t) = λ known.
    let h = first (TypeGone t) known in
    let i = second (TypeGone (record { 0 = h.0 })) (twin_within A.schema B.schema t.0 h.0 h.1) in
    (i.0, sym (twin_on A.schema B.schema C.schema t.0 h.0 h.1) ∙ i.1)
conforms_on A B C old mid first second (KindChanged t) = λ w twins.
    let on = between A B C old mid first second t.0 w twins in
    let both = kinds A B C old mid first second t.0 w on in
    same_kind _ _ _ both.0 both.1
conforms_on A B C old mid first second (StructChanged t) = λ w twins.
    let on = between A B C old mid first second t.0 w twins in
    let both = kinds A B C old mid first second t.0 w on in
    same_struct A B C t.0 on.type w _ _ _ both.0 both.1 (first (StructChanged t) on.type on.before)
    (second (StructChanged (record { 0 = on.type })) w on.after)
conforms_on A B C old mid first second (SlotGone t k) = λ w f twins table there.
    let on = between A B C old mid first second t.0 w twins in
    let both = kinds A B C old mid first second t.0 w on in
    let h = first (SlotGone t k) on.type f on.before
    (still_table (body_at A.schema t.0) (body_at B.schema on.type) both.0
    (has_slot (body_at A.schema t.0) k f there)) there in
    second (SlotGone (record { 0 = on.type }) k) w h.0 on.after table h.1
conforms_on A B C old mid first second (FieldTypeChanged t k) = λ f h pair.
    let on = slot_between A B C old mid first second t.0 k f h pair in
    first (FieldTypeChanged t k) f on.slot on.before ∙ second (FieldTypeChanged (record { 0 = on.type }) k) on.slot h
    on.after
conforms_on A B C old mid first second (DefaultChanged t k) = λ f h pair is too.
    let on = slot_between A B C old mid first second t.0 k f h pair in
    let still = number_on A B C old mid first second t.0 k f on.slot on.before is in
    let before = first (DefaultChanged t k) f on.slot on.before is still in
    let after = second (DefaultChanged (record { 0 = on.type }) k) on.slot h on.after still too in
    (after.0 ∙ before.0, after.1 ∙ before.1)
conforms_on A B C old mid first second (RequiredChanged t k) = λ f h pair.
    let on = slot_between A B C old mid first second t.0 k f h pair in
    second (RequiredChanged (record { 0 = on.type }) k) on.slot h on.after ∙ first (RequiredChanged t k) f on.slot
    on.before
conforms_on A B C old mid first second (DeprecatedTakenBack t k) = λ f h pair is.
    let on = slot_between A B C old mid first second t.0 k f h pair in
    second (DeprecatedTakenBack (record { 0 = on.type }) k) on.slot h on.after
    (first (DeprecatedTakenBack t k) f on.slot on.before is)
conforms_on A B C old mid first second (NewRequired t k) = λ w h twins table none there.
    let on = between A B C old mid first second t.0 w twins in
    let both = kinds A B C old mid first second t.0 w on in
    added_on A B C old mid first second t.0 k on.type w h _ on.before on.after table
    (still_table (body_at A.schema t.0) (body_at B.schema on.type) both.0 table) none refl there
conforms_on A B C old mid first second (EnumChanged t) = λ w twins.
    let on = between A B C old mid first second t.0 w twins in
    let both = kinds A B C old mid first second t.0 w on in
    keeps_values _ _ _ both.0 both.1 (first (EnumChanged t) on.type on.before)
    (second (EnumChanged (record { 0 = on.type })) w on.after)
conforms_on A B C old mid first second (UnionChanged t) = λ w twins.
    let on = between A B C old mid first second t.0 w twins in
    let both = kinds A B C old mid first second t.0 w on in
    keeps_members A.schema B.schema C.schema _ _ _ both.0 both.1 (first (UnionChanged t) on.type on.before)
    (second (UnionChanged (record { 0 = on.type })) w on.after)

-- What new slots have goes on to the next schema.
new_on : (B C : LaidSchema) (to : ℕ → ℕ) (n : ℕ) (gs hs : List Slot) → Grown to n gs hs
    → carry_slots B C hs (new_slots gs) ≡ new_slots hs
new_on B C to n [] hs grown = refl
new_on B C to n (g ∷ gs) (h ∷ hs) grown = by_default g.if_absent h.deprecated refl refl (new_on B C to n gs hs grown.1)
  where
    by_default : (o : Option ℤ) (gone : Bool) → g.if_absent ≡ o → h.deprecated ≡ gone
        → carry_slots B C hs (new_slots gs) ≡ new_slots hs
        → carry_slots B C (h ∷ hs) (default_entry o (new_slots gs)) ≡ default_entry h.if_absent (new_slots hs)
    by_default None true is left rest = rw (grown.0.gone left, rest) refl
    by_default None false is left rest = rw (grown.0.absent left, is, rest) refl
    by_default (Some m) true is left rest = rw (grown.0.gone left, left, rest) refl
    by_default (Some m) false is left rest = rw (grown.0.absent left, is, left, rest) refl
new_on B C to n (g ∷ gs) [] grown = absurd grown

entry_on : (B C : LaidSchema) (h : Slot) (hs : List Slot) (gone left : Bool) (d e : Datum) (ss rs : SlotEntries)
    → h.deprecated ≡ left → (left ≡ false → gone ≡ false) → carry B C d ≡ e → carry_slots B C hs ss ≡ rs
    → carry_slots B C (h ∷ hs) (unless_gone gone d ss) ≡ unless_gone left e rs
entry_on B C h hs true true d e ss rs is used part_on rest = rw rest refl
entry_on B C h hs true false d e ss rs is used part_on rest = let bad : true ≡ false = used refl in cc
entry_on B C h hs false true d e ss rs is used part_on rest = rw (is, rest) refl
entry_on B C h hs false false d e ss rs is used part_on rest = rw (is, part_on, rest) refl

module _ (A B C : LaidSchema) (first : Agrees A B) (second : Agrees B C) (through : (t : ℕ) → t < types_in A
    → (to_new A B t < types_in B) × (to_new B C (to_new A B t) ≡ to_new A C t)) where
  mutual
    carry_on : (s : StoredShape) (d : Datum) → KnownShape (types_in A) s → Fits A s d
        → carry B C (carry A B d) ≡ carry A C d
    carry_on (one_of (scalar_kind base)) (a_number n) known fits = refl
    carry_on (one_of (struct_kind s)) (a_struct ds) known fits = refl
    carry_on (one_of text_kind) (a_text bytes) known fits = refl
    carry_on (one_of (table_kind t)) (a_table type ss) known fits =
        let inside = through t known in
        let slots : carry_slots B C (slots_of C (to_new B C (to_new A B t)))
        (carry_slots A B (slots_of B (to_new A B t)) ss) ≡ carry_slots A C (slots_of C (to_new B C (to_new A B t)))
        ss
        = slots_on (slots_of A t) (slots_of B (to_new A B t)) (slots_of C (to_new B C (to_new A B t))) ss
        (first.slots t known) (second.slots (to_new A B t) inside.0) fits.1 in
        rw (fits.0) (ap (λ x. a_table (to_new B C (to_new A B t)) x) slots
        ∙ ap (λ u. a_table u (carry_slots A C (slots_of C u) ss)) inside.1)
    carry_on (one_of (union_kind u)) (a_member c d) known fits =
        ap (λ x. a_member c x) (carry_on (one_of (table_kind fits.0)) d (first.members u c fits.0 known fits.1).0
        fits.2)
    carry_on (vector_of kind) (a_vector ds) known fits = ap a_vector (items_on kind ds known fits)
    carry_on (one_of (union_kind u)) (an_unknown c) known fits = refl
    carry_on _ _ known fits = absurd fits

    items_on : (kind : StoredKind) (ds : Parts) → KnownShape (types_in A) (one_of kind) → EachFits A kind ds
        → carry_items B C (carry_items A B ds) ≡ carry_items A C ds
    items_on kind no_parts known fits = refl
    items_on kind (more_parts d ds) known fits =
        rw (carry_on (one_of kind) d known fits.0, items_on kind ds known fits.1) refl

    slots_on : (fs gs hs : List Slot) (ss : SlotEntries) → Grown (to_new A B) (types_in A) fs gs
        → Grown (to_new B C) (types_in B) gs hs → EntriesFit A fs ss
        → carry_slots B C hs (carry_slots A B gs ss) ≡ carry_slots A C hs ss
    slots_on [] gs hs no_entries grown more fits = new_on B C (to_new B C) (types_in B) gs hs more
    slots_on (f ∷ fs) (g ∷ gs) (h ∷ hs) (absent_entry ss) grown more fits =
        rw (slots_on fs gs hs ss grown.1 more.1 fits.1) refl
    slots_on (f ∷ fs) (g ∷ gs) (h ∷ hs) (present_entry d ss) grown more fits =
        entry_on B C h hs g.deprecated h.deprecated (carry A B d) (carry A C d) (carry_slots A B gs ss)
        (carry_slots A C hs ss) refl more.0.in_use (carry_on f.shape d grown.0.known fits.1)
        (slots_on fs gs hs ss grown.1 more.1 fits.2)
    slots_on (f ∷ fs) [] hs ss grown more fits = absurd grown
    slots_on (f ∷ fs) (g ∷ gs) [] ss grown more fits = absurd more
    slots_on [] gs hs _ grown more fits = absurd fits
    slots_on (f ∷ fs) (g ∷ gs) (h ∷ hs) no_entries grown more fits = absurd fits

-- the root's value is one of its table
table_fits : (L : LaidSchema) (t : ℕ) (d : Datum) (name : Name) (body : DeclaredBody) → IsTrue (is_table body)
    → FitsKind L (kind_of_type t (Some (record { name = name; body = body }))) d → Fits L (one_of (table_kind t)) d
table_fits L t d name (table_body fs) is fits = fits
table_fits L t d name _ is fits = cc

pub type_fits : (L : LaidSchema) (t : ℕ) (d : Datum) (o : Option DeclaredType) → IsTrue (is_table (body_in o))
    → FitsKind L (kind_of_type t o) d → Fits L (one_of (table_kind t)) d
type_fits L t d None is fits = absurd fits
type_fits L t d (Some type) is fits = table_fits L t d type.name type.body is fits

pub carries_on : CarriesOn
carries_on A B C v old mid new first second fits =
    let through : (t : ℕ) → t < types_in A → (to_new A B t < types_in B) × (to_new B C (to_new A B t) ≡ to_new A C t) =
    λ t known.
    let h = twins A B old mid first t known in (
      twin_within A.schema B.schema t (to_new A B t) h,
      ap (λ o. unwrap_or o 0) (twin_on A.schema B.schema C.schema t (to_new A B t) h),
    )
    in
    carry_on A B C (agrees A B old mid first) (agrees B C mid new second) through (one_of (table_kind A.schema.root)) v
    old.declared.root.0
    (type_fits A A.schema.root v (slice_get A.schema.types A.schema.root) old.declared.root.1 fits)
