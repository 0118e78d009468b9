-- What a JSON tree means under an old schema and under a new one that keeps names is one value, carried.
use Rattle.std.proofs.Common.{◌≡◌, ℕ, zero, suc, ◌<◌, ◌-◌, Bool, true, false, List, [], ◌∷◌, map, Option, None}
use Rattle.std.proofs.Common.{Some, is_some, option_map, Ok, IfSome, pos, refl, sym, ap, subst, ◌∙◌}
use Rattle.serde_json.specs.Data.{Data, null, number, string, object, Items, no_items, item, Members}
use Rattle.serde_json.specs.Find.{get_member}
use Rattle.fb_schema.specs.declared.kinds.TypeId.{TypeId}
use Rattle.fb_schema.specs.declared.kinds.Kind.{Kind}
use Rattle.fb_schema.specs.declared.kinds.Kind.TheVariants.{Struct as Fixed, Table, Union, Code}
use Rattle.fb_schema.specs.declared.kinds.Shape.{Shape}
use Rattle.fb_schema.specs.declared.kinds.Shape.TheVariants.{One, Many}
use Rattle.fb_schema.specs.Schema.{DeclaredField, body_at, slots_in, parts_in}
use Rattle.fb_schema.specs.WellDeclared.{KindNames, IsShape}
use Rattle.fb_layout.specs.Laid.{LaidSchema, stored_shape, slot_of, member_by_code}
use Rattle.fb_layout.specs.WellMade.{IsWellMade}
use Rattle.fb_value.specs.Counts.{cells}
use Rattle.fb_value.specs.Datum.{Datum, a_vector, a_struct, a_table, a_member, Parts}
use Rattle.fb_value.specs.Datum.{no_parts, more_parts, SlotEntries, no_entries, absent_entry, present_entry}
use Rattle.fb_json.specs.Meant.{meant, names_known, type_place}
use Rattle.fb_json.specs.Means.{CodeMeans, CodeAt, unless_null, member_called, AbsentAt, PresentAs}
use Rattle.fb_json.specs.Means.{PresentMeans, MeansAs}
use Rattle.fb_json.specs.Means.{MemberMeans, PartsMean, EachMeans, SlotsMean}
use Rattle.fb_json.specs.Laws.{AllThatIsMeant}
use Rattle.fb_json.specs.Outcome.{Counted}
use Rattle.fb_conform.specs.Carry.{carry}
use Rattle.fb_conform.specs.Conforms.{Conforms}
use Rattle.fb_conform.specs.Laws.{MeansCarried}
use Rattle.fb_conform.specs.Names.{KeepsNames}
use Rattle.fb_conform.specs.NamesStay.{members_of, elements_of, CodeStays, NamesStay, PartsStay, EachStays, SlotsStay}
use Rattle.fb_conform.specs.Twins.{to_new}
use Rattle.fb_conform.proofs.laws.ConformingLayoutsAgree.{members_moved, agrees}
use Rattle.fb_conform.proofs.laws.DeclaredShapesByTheirNewNumbers.{id, to_kind, to_shape}
use Rattle.fb_conform.proofs.laws.EachBodyIsDeclared.{part_shape, member_table}
use Rattle.fb_conform.proofs.laws.JsonMeansTheCarriedValue.{names_carry}
use Rattle.fb_conform.proofs.laws.LastSlotIsNoCode.{code_shape}
use Rattle.fb_conform.proofs.laws.LayoutsAgree.{AfterCode, CodesFirst, types_in}
use Rattle.fb_conform.proofs.laws.SlotIsReadUnderItsNewName.{no_code, present_no_code}
use Rattle.fb_conform.proofs.laws.SlotsAndFieldsAgree.{SlotsAgree, PartsAgree, old_body, slots_agree, new_codes}
use Rattle.fb_conform.proofs.laws.SlotsAndFieldsAgree.{parts_agree}
use Rattle.fb_conform.proofs.laws.SlotsMeanTheCarriedEntries.{is_code, Told, told_union, absent_slot, SlotAgrees}
use Rattle.fb_conform.proofs.laws.SlotsMeanTheCarriedEntries.{is_code_moved, code_in_use, used_code, handed}
use Rattle.fb_conform.proofs.laws.TextsKeepTheirNumbers.{code_path}
use Rattle.fb_json.proofs.slots.LookUpFindsMembers.{found_in}

-- ---- codes

code_id : (u w : TypeId) → One (Code u) ≡ One (Code w) → u.0 ≡ w.0
code_id u w e = cc

stays_none : (A B : LaidSchema) (s : Shape) (o : Option Data) → o ≡ None → CodeStays A B s o
stays_none A B s (Some t) e = absurd cc
stays_none A B (One (Code u)) None e = tt
stays_none A B _ None e = tt

stays_plain : (A B : LaidSchema) (s : Shape) (o : Option Data) → is_code false s ≡ false → CodeStays A B s o
stays_plain A B (One (Code u)) o e = absurd cc
stays_plain A B _ o e = tt

-- what tells a code under the new schema names a member there
stays_told : (A B : LaidSchema) (u : TypeId) (o : Option Data) (d : ℕ) → CodeMeans B.schema (to_new A B u.0) o d
    → CodeStays A B (One (Code u)) o
stays_told A B u (Some (string s)) d h = ap is_some h
stays_told A B u _ d h = tt

module _ (A B : LaidSchema) (old : IsWellMade A) (new : IsWellMade B) (conforms : Conforms A B)
    (keeps : KeepsNames A B) where
  abbrev to : ℕ → ℕ
  to t = to_new A B t

  -- a code is told once
  one_told : (u : ℕ) → u < types_in A → (o : Option Data) (c d : ℕ) → CodeMeans A.schema u o c
      → CodeMeans B.schema (to u) o d → d ≡ c
  one_told u known None c d was is = is ∙ sym was
  one_told u known (Some null) c d was is = is ∙ sym was
  one_told u known (Some (number x)) zero zero was is = refl
  one_told u known (Some (number x)) zero (suc d) was is =
      let both : Some (pos 0) ≡ Some (pos (suc d)) = sym was ∙ is.0 in cc
  one_told u known (Some (number x)) (suc c) zero was is =
      let both : Some (pos (suc c)) ≡ Some (pos 0) = sym was.0 ∙ is in cc
  one_told u known (Some (number x)) (suc c) (suc d) was is =
      let both : Some (pos (suc c)) ≡ Some (pos (suc d)) = sym was.0 ∙ is.0 in cc
  one_told u known (Some (string s)) c d was is = code_path A B old new conforms keeps u known s c d was is
  one_told u known _ c d was is = absurd was

  module _ (ms : Members) (f g : DeclaredField) (agree : SlotAgrees A B ms f g) where
    -- the codes that both slots tell
    record Codes (d : ℕ) : Type 0 where
      pub union : TypeId
      pub shape : f.shape ≡ One (Code union)
      pub means : CodeMeans B.schema (to union.0) (get_member f.name ms) d

    moved_code : (gone : Bool) → is_code gone g.shape ≡ is_code gone f.shape
    moved_code gone = ap (is_code gone) agree.shape ∙ is_code_moved to gone f.shape

    new_told : (b d : ℕ) → CodeAt B.schema ms g g.deprecated g.shape b d → is_code g.deprecated g.shape ≡ true → Codes d
    new_told b d is code =
        let here = code_in_use B.schema ms g g.deprecated g.shape b d code is in
        let was = code_shape g.deprecated f.shape (sym (moved_code g.deprecated) ∙ code) in
        let number : here.0.0 ≡ to was.0.0 =
        code_id here.0 (id (to was.0.0)) (sym here.1 ∙ agree.shape ∙ ap (to_shape to) was.1) in
        record {
          union = was.0;
          shape = was.1;
          means = rw (← agree.member) (rw (← number) here.2);
        }

    stays_at : (b d : ℕ) → CodeAt B.schema ms g g.deprecated g.shape b d
        → CodeStays A B f.shape (get_member f.name ms)
    stays_at b d is = by g.deprecated refl (is_code false f.shape) refl
      where
        by : (gone : Bool) → g.deprecated ≡ gone → (x : Bool) → is_code false f.shape ≡ x
            → CodeStays A B f.shape (get_member f.name ms)
        by true gone x code = stays_none A B f.shape (get_member f.name ms) (agree.none_of_deprecated gone)
        by false used false plain = stays_plain A B f.shape (get_member f.name ms) plain
        by false used true code =
            let codes = new_told b d is (ap (λ (x : Bool). is_code x g.shape) used ∙ moved_code false ∙ code) in
            rw codes.shape (stays_told A B codes.union (get_member f.name ms) d codes.means)

    told_next : (a b c d : ℕ) → CodeAt A.schema ms f f.deprecated f.shape a c
        → CodeAt B.schema ms g g.deprecated g.shape b d → Told (Some g) c d
    told_next a b c d was is code =
        let used = used_code g.deprecated g.shape code in
        let codes = new_told b d is code in
        let old_code : is_code f.deprecated f.shape ≡ true =
        ap (λ (x : Bool). is_code x f.shape) (agree.in_use used ∙ sym used) ∙ sym (moved_code g.deprecated) ∙ code in
        let here = code_in_use A.schema ms f f.deprecated f.shape a c old_code was in
        let number : here.0.0 ≡ codes.union.0 = code_id here.0 codes.union (sym here.1 ∙ codes.shape) in
        let known = (rw here.1 at agree.known).0 in
        one_told here.0.0 known (get_member f.name ms) c d here.2
        (rw number codes.means)

    -- a union in use is read behind one code
    one_code : (before : Option DeclaredField) (a b c d : ℕ) (u : TypeId) → Told before a b
        → AfterCode (option_map (slot_of B.schema) before) (stored_shape B.schema g.shape) g.deprecated
        → CodeAt A.schema ms f f.deprecated f.shape a c → CodeAt B.schema ms g g.deprecated g.shape b d
        → g.deprecated ≡ false → f.shape ≡ One (Union u) → d ≡ c
    one_code before a b c d u told led was is used shape =
        let moved : g.shape ≡ One (Union (id (to u.0))) = agree.shape ∙ ap (to_shape to) shape in
        handed B.schema ms g g.deprecated g.shape b d (no_code g.deprecated g.shape (id (to u.0)) moved) is
        ∙ told_union B.schema before a b g.deprecated g.shape (id (to u.0)) told led used moved
        ∙ sym (handed A.schema ms f f.deprecated f.shape a c (no_code f.deprecated f.shape u shape) was)

    -- a slot whose member is there is in use
    member_used : (t : Data) → member_called f.name ms ≡ Some t → g.deprecated ≡ false
    member_used t there = by g.deprecated refl
      where
        by : (x : Bool) → g.deprecated ≡ x → x ≡ false
        by false is = refl
        by true is =
            let bad : None ≡ Some t = sym (agree.none_of_deprecated is) ∙ found_in (get_member f.name ms) t there in
            absurd cc

    called_same : member_called g.name ms ≡ member_called f.name ms
    called_same = ap unless_null agree.member

    -- a member that the old slot reads isn't absent from the new one
    never_absent : (c d : ℕ) (v : Datum) (t : Data) → member_called f.name ms ≡ Some t
        → PresentMeans (slot_of A.schema f) f.shape (member_called f.name ms) v (λ u. MeansAs A false u f.shape v)
        (λ u n. MemberMeans A false u n c v)
        → AbsentAt B g d (member_called g.name ms) g.deprecated → ⊥
    never_absent c d v t there present absent = by (is_code false f.shape) refl
      where
        used : g.deprecated ≡ false
        used = member_used t there

        by : (x : Bool) → is_code false f.shape ≡ x → ⊥
        by true code =
            present_no_code A f f.shape (member_called f.name ms) v (λ u. MeansAs A false u f.shape v)
            (λ u n. MemberMeans A false u n c v) present refl code
        by false plain =
            let slot = absent_slot B g d (member_called g.name ms) g.shape
            (subst (λ (x : Bool). AbsentAt B g d (member_called g.name ms) x) used absent) (moved_code false ∙ plain) in
            let bad : None ≡ Some t = sym slot.none ∙ called_same ∙ there in
            cc

    -- what both slots read of a member
    module _ (t : Data) (there : member_called f.name ms ≡ Some t) (c d : ℕ) (v e : Datum) where
      old_present : PresentMeans (slot_of A.schema f) f.shape (member_called f.name ms) v
          (λ u. MeansAs A false u f.shape v) (λ u n. MemberMeans A false u n c v)
          → PresentAs f.shape (MeansAs A false t f.shape v) (λ n. MemberMeans A false t n c v)
      old_present h = rw there at h

      new_present : PresentMeans (slot_of B.schema g) g.shape (member_called g.name ms) e
          (λ u. MeansAs B false u g.shape e) (λ u n. MemberMeans B false u n d e)
          → PresentAs (to_shape to f.shape) (MeansAs B false t (to_shape to f.shape) e)
          (λ n. MemberMeans B false t n d e)
      new_present h =
          rw (← agree.shape) (rw (called_same ∙ there) at h)

  -- by the shape: an own value, or a union's member
  both_present : (s : Shape) (t : Data) (c d : ℕ) (v e : Datum)
      → (MeansAs A false t s v → MeansAs B false t (to_shape to s) e → NamesStay A B t s v)
      → ((u : TypeId) → s ≡ One (Union u) → MemberMeans A false t u.0 c v → MemberMeans B false t (to u.0) d e
      → NamesStay A B t (One (Union u)) v)
      → PresentAs s (MeansAs A false t s v) (λ n. MemberMeans A false t n c v)
      → PresentAs (to_shape to s) (MeansAs B false t (to_shape to s) e) (λ n. MemberMeans B false t n d e)
      → NamesStay A B t s v
  both_present (One (Code u)) t c d v e own member h i = absurd h
  both_present (One (Union u)) t c d v e own member h i = member u refl h i
  both_present _ t c d v e own member h i = own h i

  if_some : (o : Option Data) (P : Data → Type 0) → ((t : Data) → o ≡ Some t → P t) → IfSome o P
  if_some None P each = tt
  if_some (Some t) P each = each t refl

  same_members : (t : Data) (ms ns : Members) → t ≡ object ms → t ≡ object ns → ns ≡ ms
  same_members t ms ns one two = sym (ap members_of two) ∙ ap members_of one

  mutual
    stay : (v e : Datum) (t : Data) (s : Shape) → IsShape A.schema s → MeansAs A false t s v
        → MeansAs B false t (to_shape to s) e → NamesStay A B t s v
    stay v e t (One (Code u)) known h i = absurd h
    stay v e t (One (Union u)) known h i = absurd h
    stay (a_struct ds) (a_struct es) t (One (Fixed s)) known h i =
        let same = same_members t h.0 i.0 h.1 i.1 in
        let fields : names_known (body_at B.schema (to s.0)) h.0 ≡ true =
        rw (← same) i.2 in
        let x = parts_in (body_at A.schema s.0) in
        let y = parts_in (body_at B.schema (to s.0)) in
        let parts = parts_stay ds es h.0 s.0 x y
        (parts_agree A B old new conforms keeps s.0 known.0 known.1 h.0 h.2 fields) h.3
        (rw (← same) i.3) in
        rw (ap members_of h.1) (fields, parts)
    stay (a_struct ds) _ t (One (Fixed s)) known h i = absurd i
    stay _ e t (One (Fixed s)) known h i = absurd h
    stay (a_table type es) (a_table new_type is) t (One (Table n)) known h i =
        let same = same_members t h.0 i.0 h.1 i.1 in
        let all = rw h.2 at h.3 in
        let was = rw h.2 at h.4 in
        let fields : names_known (body_at B.schema (to n.0)) h.0 ≡ true =
        rw (← same) (rw (← i.2) i.3) in
        let x = slots_in (body_at A.schema n.0) in
        let y = slots_in (body_at B.schema (to n.0)) in
        let there = subst (λ (ms : Members). SlotsMean B false ms 0 y is) same
        (rw (← i.2) i.4) in
        let slots = slots_stay es is h.0 x y None 0 0
        (slots_agree A B old new conforms keeps n.0 known.0 known.1 h.0 all fields) tt
        (new_codes A B old new conforms keeps n.0 known.0 known.1 h.0 all fields) was there in
        rw (ap members_of h.1) (fields, slots)
    stay (a_table type es) _ t (One (Table n)) known h i = absurd i
    stay _ e t (One (Table n)) known h i = absurd h
    stay (a_vector ds) (a_vector es) t (Many kind) known h i =
        let same : i.0 ≡ h.0 = sym (ap elements_of i.1) ∙ ap elements_of h.1 in
        rw (← (ap elements_of h.1)) at (each_stay ds es h.0 kind known.0 h.2
        (rw (← same) i.2))
    stay (a_vector ds) _ t (Many kind) known h i = absurd i
    stay _ e t (Many kind) known h i = absurd h
    stay v e t _ known h i = tt

    member_stay : (v e : Datum) (t : Data) (u : TypeId) (c d : ℕ) → u.0 < types_in A → d ≡ c
        → MemberMeans A false t u.0 c v → MemberMeans B false t (to u.0) d e → NamesStay A B t (One (Union u)) v
    member_stay (a_member k v) (a_member l e) t u c d known same h i =
        let table : ℕ = h.1.0 in
        let code : member_by_code A u.0 k ≡ Some table = ap (member_by_code A u.0) h.0 ∙ h.1.1 in
        let both : Some i.1.0 ≡ Some (to table) =
        sym i.1.1 ∙ ap (member_by_code B (to u.0)) same
        ∙ (members_moved A B old new conforms u.0 c table known h.1.1).1 in
        let number : i.1.0 ≡ to table = cc in
        rw code (stay v e t (One (Table (id table)))
        (member_table A.schema u.0 (body_at A.schema u.0) (old_body A B old new conforms keeps u.0 known) c table h.1.1)
        h.1.2 (rw (← number) i.1.2))
    member_stay (a_member k v) _ t u c d known same h i = absurd i
    member_stay _ e t u c d known same h i = absurd h

    each_stay : (ds es : Parts) (ts : Items) (kind : Kind) → KindNames A.schema kind → EachMeans A false ts kind ds
        → EachMeans B false ts (to_kind to kind) es → EachStays A B ts kind ds
    each_stay no_parts es no_items kind known h i = tt
    each_stay (more_parts d ds) (more_parts e es) (item t ts) kind known h i =
        (stay d e t (One kind) known h.0 i.0, each_stay ds es ts kind known h.1 i.1)
    each_stay (more_parts d ds) no_parts (item t ts) kind known h i = absurd i
    each_stay no_parts es (item t ts) kind known h i = absurd h
    each_stay (more_parts d ds) es no_items kind known h i = absurd h

    parts_stay : (ds es : Parts) (ms : Members) (s : ℕ) (fs gs : List DeclaredField) → PartsAgree A B ms s fs gs
        → PartsMean A false ms fs ds → PartsMean B false ms gs es → PartsStay A B ms fs ds
    parts_stay no_parts es ms s [] gs agree h i = tt
    parts_stay (more_parts d ds) (more_parts e es) ms s (f ∷ fs) (g ∷ gs) agree h i =
        let both : Some i.0 ≡ Some h.0 = sym i.1 ∙ agree.0.member ∙ h.1 in
        let same : i.0 ≡ h.0 = cc in
        let is = subst (λ (t : Data). MeansAs B false t (to_shape to f.shape) e) same
        (rw (← agree.0.shape) i.2) in (
          rw h.1 (stay d e h.0 f.shape (part_shape A.schema s f.shape agree.0.part) h.2 is),
          parts_stay ds es ms s fs gs agree.1 h.3 i.3,
        )
    parts_stay (more_parts d ds) no_parts ms s (f ∷ fs) (g ∷ gs) agree h i = absurd i
    parts_stay (more_parts d ds) es ms s (f ∷ fs) [] agree h i = absurd agree
    parts_stay no_parts es ms s (f ∷ fs) gs agree h i = absurd h
    parts_stay (more_parts d ds) es ms s [] gs agree h i = absurd h

    slots_stay : (es is : SlotEntries) (ms : Members) (fs gs : List DeclaredField) (before : Option DeclaredField)
        (a b : ℕ) → SlotsAgree A B ms fs gs → Told before a b
        → CodesFirst (option_map (slot_of B.schema) before) (map (slot_of B.schema) gs) → SlotsMean A false ms a fs es
        → SlotsMean B false ms b gs is → SlotsStay A B ms fs es
    slots_stay no_entries is ms [] gs before a b agree told led h i = tt
    slots_stay (absent_entry es) (absent_entry is) ms (f ∷ fs) (g ∷ gs) before a b agree told led h i = (
      stays_at ms f g agree.0 b i.0 i.1,
      slots_stay es is ms fs gs (Some g) h.0 i.0 agree.1 (told_next ms f g agree.0 a b h.0 i.0 h.1 i.1) led.1 h.3 i.3,
    )
    slots_stay (absent_entry es) (present_entry e is) ms (f ∷ fs) (g ∷ gs) before a b agree told led h i = (
      stays_at ms f g agree.0 b i.0 i.1,
      slots_stay es is ms fs gs (Some g) h.0 i.0 agree.1 (told_next ms f g agree.0 a b h.0 i.0 h.1 i.1) led.1 h.3 i.4,
    )
    slots_stay (present_entry v es) (absent_entry is) ms (f ∷ fs) (g ∷ gs) before a b agree told led h i = (
      if_some (member_called f.name ms) (λ t. NamesStay A B t f.shape v)
          (λ t there. absurd (never_absent ms f g agree.0 h.0 i.0 v t there h.3 i.2)),
      slots_stay es is ms fs gs (Some g) h.0 i.0 agree.1 (told_next ms f g agree.0 a b h.0 i.0 h.1 i.1) led.1 h.4 i.3,
    )
    slots_stay (present_entry v es) (present_entry e is) ms (f ∷ fs) (g ∷ gs) before a b agree told led h i = (
      if_some (member_called f.name ms) (λ t. NamesStay A B t f.shape v)
          (λ t there. both_present f.shape t h.0 i.0 v e (λ m n. stay v e t f.shape agree.0.known m n)
          (λ u is_union m n. member_stay v e t u h.0 i.0
          (rw is_union at agree.0.known).0
          (one_code ms f g agree.0 before a b h.0 i.0 u told led.0 h.1 i.1 i.2 is_union) m n)
          (old_present ms f g agree.0 t there h.0 i.0 v e h.3) (new_present ms f g agree.0 t there h.0 i.0 v e i.3)),
      slots_stay es is ms fs gs (Some g) h.0 i.0 agree.1 (told_next ms f g agree.0 a b h.0 i.0 h.1 i.1) led.1 h.4 i.4,
    )
    slots_stay (absent_entry es) no_entries ms (f ∷ fs) (g ∷ gs) before a b agree told led h i = absurd i
    slots_stay (present_entry v es) no_entries ms (f ∷ fs) (g ∷ gs) before a b agree told led h i = absurd i
    slots_stay (absent_entry es) is ms (f ∷ fs) [] before a b agree told led h i = absurd agree
    slots_stay (present_entry v es) is ms (f ∷ fs) [] before a b agree told led h i = absurd agree
    slots_stay _ is ms _ gs before a b agree told led h i = absurd h

same_outcome : (r : Counted Datum) (p q : Datum × ℕ) → r ≡ Ok p → r ≡ Ok q → p ≡ q
same_outcome r p q one two = let both : ◌≡◌ {A = Counted Datum} (Ok p) (Ok q) = sym one ∙ two in cc

pub means_carried : AllThatIsMeant → MeansCarried
means_carried complete A B most t v w old new conforms keeps was is =
    let same = (agrees A B old new conforms).root in
    let here = subst (λ (n : ℕ). MeansAs B false t (One (Table (id n))) w) same is.0 in
    let stays = stay A B old new conforms keeps v w t (One (Table (id A.schema.root))) old.declared.root was.0 here in
    let carried = names_carry A B most t v old new conforms keeps stays was in
    let root = One (Table (id B.schema.root)) in
    let at = type_place B.schema.root in
    let first = complete B false t root at most.depth most.cells w is.0 is.1 is.2 in
    let second = complete B false t root at most.depth most.cells (carry A B v) carried.0 carried.1 carried.2 in
    ap (λ (p : Datum × ℕ). p.0) (same_outcome (meant B false t root at most.depth most.cells)
    (w, most.cells - cells w) (carry A B v, most.cells - cells (carry A B v)) first second)
