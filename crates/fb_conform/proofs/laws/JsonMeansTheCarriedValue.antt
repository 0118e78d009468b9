-- A JSON tree means the value carried under a new schema that keeps names.
use Rattle.std.proofs.Common.{◌≡◌, ℕ, ◌<◌, Bool, true, false, List, [], ◌∷◌, map, Option, None, Some, option_map}
use Rattle.std.proofs.Common.{IfSome, refl, sym, ap, ◌∙◌, arith}
use Rattle.serde_json.specs.Data.{Data, Items, no_items, item, Members}
use Rattle.serde_json.specs.Find.{get_member}
use Rattle.fb_schema.specs.declared.kinds.TypeId.{TypeId}
use Rattle.fb_schema.specs.declared.kinds.Kind.{Kind}
use Rattle.fb_schema.specs.declared.kinds.Kind.TheVariants.{Scalar, Enum, Struct as Fixed, Table, Union, Text}
use Rattle.fb_schema.specs.declared.kinds.Shape.{Shape}
use Rattle.fb_schema.specs.declared.kinds.Shape.TheVariants.{One, Many}
use Rattle.fb_schema.specs.Schema.{DeclaredField, body_at, slots_in, parts_in}
use Rattle.fb_schema.specs.WellDeclared.{KindNames, IsShape, IsPart}
use Rattle.fb_layout.specs.Laid.{LaidSchema, slot_of, member_by_code}
use Rattle.fb_layout.specs.WellMade.{IsWellMade}
use Rattle.fb_value.specs.Datum.{Datum, a_number, a_text, a_vector, a_struct, a_table, a_member, an_unknown, Parts}
use Rattle.fb_value.specs.Datum.{no_parts, more_parts, SlotEntries, no_entries, absent_entry, present_entry}
use Rattle.fb_json.specs.Means.{member_called, MeansAs, MemberMeans, PartsMean, EachMeans, SlotsMean}
use Rattle.fb_conform.specs.Carry.{carry, carry_items, carry_slots}
use Rattle.fb_conform.specs.Conforms.{Conforms}
use Rattle.fb_conform.specs.Laws.{NamesCarry}
use Rattle.fb_conform.specs.Names.{KeepsNames}
use Rattle.fb_conform.specs.NamesStay.{NamesStay, PartsStay, EachStays, SlotsStay}
use Rattle.fb_conform.specs.Twins.{to_new}
use Rattle.fb_conform.proofs.laws.MovedIsNoLarger.{depth_carried, cells_carried}
use Rattle.fb_conform.proofs.laws.ConformingLayoutsAgree.{members_moved, agrees}
use Rattle.fb_conform.proofs.laws.DeclaredShapesByTheirNewNumbers.{id, to_kind, to_shape}
use Rattle.fb_conform.proofs.laws.EachBodyIsDeclared.{part_shape, member_table}
use Rattle.fb_conform.proofs.laws.LastSlotIsNoCode.{EndsWhole}
use Rattle.fb_conform.proofs.laws.LayoutsAgree.{CodesFirst, types_in}
use Rattle.fb_conform.proofs.laws.SlotIsReadUnderItsNewName.{absent_step, present_entry_means}
use Rattle.fb_conform.proofs.laws.SlotsAndFieldsAgree.{SlotsAgree, PartsAgree, old_body, slots_agree, slots_whole}
use Rattle.fb_conform.proofs.laws.SlotsAndFieldsAgree.{new_codes, parts_agree}
use Rattle.fb_conform.proofs.laws.SlotsMeanTheCarriedEntries.{is_code, Told, new_mean, SlotAgrees, used_code}
use Rattle.fb_conform.proofs.laws.SlotsMeanTheCarriedEntries.{is_code_moved}
use Rattle.fb_conform.proofs.laws.TextsKeepTheirNumbers.{enum_means}

module _ (A B : LaidSchema) (old : IsWellMade A) (new : IsWellMade B) (conforms : Conforms A B)
    (keeps : KeepsNames A B) where
  abbrev to : ℕ → ℕ
  to t = to_new A B t

  -- what stands in a struct is carried as it is
  inline_same : (s : ℕ) (t : Data) (z : Shape) (d : Datum) → IsPart A.schema s z → MeansAs A false t z d
      → carry A B d ≡ d
  inline_same s t z (a_number n) part h = refl
  inline_same s t z (a_struct ds) part h = refl
  inline_same s t (One (Scalar b)) d part h = absurd h
  inline_same s t (One (Enum e)) d part h = absurd h
  inline_same s t (One (Fixed r)) d part h = absurd h
  inline_same s t z d part h = absurd part

  -- what no shape means
  no_vector : (t : Data) (kind : Kind) (ds : Parts) → MeansAs A false t (One kind) (a_vector ds) → ⊥
  no_vector t (Scalar b) ds h = h
  no_vector t _ ds h = h

  no_member : (t : Data) (s : Shape) (c : ℕ) (d : Datum) → MeansAs A false t s (a_member c d) → ⊥
  no_member t (One (Scalar b)) c d h = h
  no_member t _ c d h = h

  no_unknown : (t : Data) (s : Shape) (c : ℕ) → MeansAs A false t s (an_unknown c) → ⊥
  no_unknown t (One (Scalar b)) c h = h
  no_unknown t _ c h = h

  -- behind the last old slot no code is told
  abbrev Ends : Option DeclaredField → List DeclaredField → Type 0
  Ends before [] = (b : ℕ) → Told before 0 b
  Ends before (f ∷ fs) = Unit {0}

  ends_first : (fs : List DeclaredField) → Ends None fs
  ends_first [] = λ b. tt
  ends_first (f ∷ fs) = tt

  none_told : (ms : Members) (f g : DeclaredField) (b : ℕ) → SlotAgrees A B ms f g
      → is_code f.deprecated f.shape ≡ false → Told (Some g) 0 b
  none_told ms f g b agree none code =
      let used = used_code g.deprecated g.shape code in
      let yes : is_code f.deprecated f.shape ≡ true =
      ap (λ (x : Bool). is_code x f.shape) (agree.in_use used ∙ sym used)
      ∙ sym (is_code_moved to g.deprecated f.shape) ∙ ap (is_code g.deprecated) (sym agree.shape) ∙ code in
      let bad : false ≡ true = sym none ∙ yes in
      absurd cc

  ends_next : (ms : Members) (f g : DeclaredField) (fs : List DeclaredField) → SlotAgrees A B ms f g
      → EndsWhole (f ∷ fs) → Ends (Some g) fs
  ends_next ms f g [] agree whole = λ b. none_told ms f g b agree whole
  ends_next ms f g (h ∷ fs) agree whole = tt

  whole_next : (f : DeclaredField) (fs : List DeclaredField) → EndsWhole (f ∷ fs) → EndsWhole fs
  whole_next f [] whole = tt
  whole_next f (g ∷ fs) whole = whole

  -- what is said of a member, where there is one
  of_member : (f : DeclaredField) (d : Datum) (o : Option Data) (t : Data) → o ≡ Some t
      → IfSome o (λ u. NamesStay A B u f.shape d) → NamesStay A B t f.shape d
  of_member f d o t there stays = rw there at stays

  mutual
    pub mean : (d : Datum) (t : Data) (s : Shape) → IsShape A.schema s → MeansAs A false t s d → NamesStay A B t s d
        → MeansAs B false t (to_shape to s) (carry A B d)
    mean (a_number n) t (One (Scalar b)) known h stays = h
    mean (a_number n) t (One (Enum e)) known h stays = enum_means A B old new conforms e.0 known.0 t n h
    mean (a_text bytes) t (One Text) known h stays = h
    mean (a_struct ds) t (One (Fixed s)) known h stays =
        let there = rw h.1 at stays in (
          h.0,
          h.1,
          there.0,
          parts_mean ds h.0 s.0 (parts_in (body_at A.schema s.0)) (parts_in (body_at B.schema (to s.0)))
              (parts_agree A B old new conforms keeps s.0 known.0 known.1 h.0 h.2 there.0) h.3 there.1,
        )
    mean (a_table type es) t (One (Table i)) known h stays =
        let there = rw h.1 at stays in
        let all = rw h.2 at h.3 in
        let was = rw h.2 at h.4 in
        let x = slots_in (body_at A.schema i.0) in
        let y = slots_in (body_at B.schema (to i.0)) in
        let is = slots_mean es h.0 x y None 0 0
        (slots_agree A B old new conforms keeps i.0 known.0 known.1 h.0 all there.0)
        (slots_whole A B old new conforms keeps i.0 known.0 known.1 h.0 all there.0) (ends_first x) tt
        (new_codes A B old new conforms keeps i.0 known.0 known.1 h.0 all there.0) was there.1 in
        let same = sym h.2 in (
          h.0,
          h.1,
          ap to h.2,
          rw (← same) there.0,
          rw (← same) is,
        )
    mean (a_vector ds) t (Many kind) known h stays = (
      h.0,
      h.1,
      each_means ds h.0 kind known.0 h.2 (rw h.1 at stays),
    )
    mean (a_vector ds) t (One kind) known h stays = absurd (no_vector t kind ds h)
    mean (a_member c d) t s known h stays = absurd (no_member t s c d h)
    mean (an_unknown c) t s known h stays = absurd (no_unknown t s c h)
    mean _ t _ known h stays = absurd h

    member_means : (d : Datum) (t : Data) (u : TypeId) (c : ℕ) → u.0 < types_in A → MemberMeans A false t u.0 c d
        → NamesStay A B t (One (Union u)) d → MemberMeans B false t (to u.0) c (carry A B d)
    member_means (a_member k d) t u c known h stays =
        let table : ℕ = h.1.0 in
        let code : member_by_code A u.0 k ≡ Some table = ap (member_by_code A u.0) h.0 ∙ h.1.1 in
        let there = rw code at stays in (
          h.0,
          (
            to table,
            (members_moved A B old new conforms u.0 c table known h.1.1).1,
            mean d t (One (Table (id table)))
                (member_table A.schema u.0 (body_at A.schema u.0) (old_body A B old new conforms keeps u.0 known) c
                table h.1.1) h.1.2 there,
          ),
        )
    member_means _ t u c known h stays = absurd h

    each_means : (ds : Parts) (ts : Items) (kind : Kind) → KindNames A.schema kind → EachMeans A false ts kind ds
        → EachStays A B ts kind ds → EachMeans B false ts (to_kind to kind) (carry_items A B ds)
    each_means no_parts no_items kind known h stays = tt
    each_means (more_parts d ds) (item t ts) kind known h stays =
        (mean d t (One kind) known h.0 stays.0, each_means ds ts kind known h.1 stays.1)
    each_means no_parts (item t ts) kind known h stays = absurd h
    each_means (more_parts d ds) no_items kind known h stays = absurd h

    parts_mean : (ds : Parts) (ms : Members) (s : ℕ) (fs gs : List DeclaredField) → PartsAgree A B ms s fs gs
        → PartsMean A false ms fs ds → PartsStay A B ms fs ds → PartsMean B false ms gs ds
    parts_mean no_parts ms s [] [] agree h stays = tt
    parts_mean (more_parts d ds) ms s (f ∷ fs) (g ∷ gs) agree h stays =
        let one = mean d h.0 f.shape (part_shape A.schema s f.shape agree.0.part) h.2
        (of_member f d (get_member f.name ms) h.0 h.1 stays.0) in
        let shaped = rw (← agree.0.shape) at one in (
          h.0,
          agree.0.member ∙ h.1,
          rw (inline_same s h.0 f.shape d agree.0.part h.2) at shaped,
          parts_mean ds ms s fs gs agree.1 h.3 stays.1,
        )
    parts_mean no_parts ms s [] (g ∷ gs) agree h stays = absurd agree
    parts_mean (more_parts d ds) ms s (f ∷ fs) [] agree h stays = absurd agree
    parts_mean no_parts ms s (f ∷ fs) gs agree h stays = absurd h
    parts_mean (more_parts d ds) ms s [] gs agree h stays = absurd h

    slots_mean : (es : SlotEntries) (ms : Members) (fs gs : List DeclaredField) (before : Option DeclaredField)
        (a b : ℕ) → SlotsAgree A B ms fs gs → EndsWhole fs → Ends before fs → Told before a b
        → CodesFirst (option_map (slot_of B.schema) before) (map (slot_of B.schema) gs) → SlotsMean A false ms a fs es
        → SlotsStay A B ms fs es → SlotsMean B false ms b gs (carry_slots A B (map (slot_of B.schema) gs) es)
    slots_mean no_entries ms [] gs before a b agree whole ends told led h stays =
        new_mean B ms gs before b (ends b) agree led
    slots_mean (absent_entry es) ms (f ∷ fs) (g ∷ gs) before a b agree whole ends told led h stays =
        absent_step A B old new conforms keeps ms f g agree.0 before a b told led.0 fs gs es
        (carry_slots A B (map (slot_of B.schema) gs) es)
        (λ c d next m. slots_mean es ms fs gs (Some g) c d agree.1 (whole_next f fs whole)
        (ends_next ms f g fs agree.0 whole) next led.1 m stays.1) stays.0 h
    slots_mean (present_entry v es) ms (f ∷ fs) (g ∷ gs) before a b agree whole ends told led h stays =
        present_entry_means A B old new conforms keeps ms f g agree.0 before a b told led.0 fs gs es
        (carry_slots A B (map (slot_of B.schema) gs) es)
        (λ c d next m. slots_mean es ms fs gs (Some g) c d agree.1 (whole_next f fs whole)
        (ends_next ms f g fs agree.0 whole) next led.1 m stays.1) v
        (λ t there m. mean v t f.shape agree.0.known m (of_member f v (member_called f.name ms) t there stays.0))
        (λ t u c there is m. member_means v t u c
        (rw is at agree.0.known).0 m
        (rw (← is) (of_member f v (member_called f.name ms) t there stays.0))) h
    slots_mean (absent_entry es) ms (f ∷ fs) [] before a b agree whole ends told led h stays = absurd agree
    slots_mean (present_entry v es) ms (f ∷ fs) [] before a b agree whole ends told led h stays = absurd agree
    slots_mean _ ms _ gs before a b agree whole ends told led h stays = absurd h

pub names_carry : NamesCarry
names_carry A B most t v old new conforms keeps stays means =
    let root = id A.schema.root in
    let here = mean A B old new conforms keeps v t (One (Table root)) old.declared.root means.0 stays in
    let same = (agrees A B old new conforms).root in (
      rw (← same) at here,
      (let deep = depth_carried A B v in omega (arith, deep, means.1)),
      (let many = cells_carried A B v in omega (arith, many, means.2)),
    )
