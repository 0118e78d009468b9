-- An entry that an object's members mean in an old slot, carried, they mean in the new one.
use Rattle.std.proofs.Common.{◌≡◌, ℕ, ◌<◌, ◌||◌, Bool, true, false, List, ◌∷◌, Option, None, Some, option_map, refl}
use Rattle.std.proofs.Common.{sym, ap}
use Rattle.std.proofs.Common.{subst, ◌∙◌}
use Rattle.serde_json.specs.Data.{Data, Members}
use Rattle.serde_json.specs.Find.{get_member}
use Rattle.fb_schema.specs.declared.kinds.TypeId.{TypeId}
use Rattle.fb_schema.specs.declared.kinds.Kind.TheVariants.{Union, Code}
use Rattle.fb_schema.specs.declared.kinds.Shape.{Shape}
use Rattle.fb_schema.specs.declared.kinds.Shape.TheVariants.{One}
use Rattle.fb_schema.specs.Schema.{DeclaredField}
use Rattle.fb_schema.specs.WellDeclared.{IsShape}
use Rattle.fb_layout.specs.Laid.{LaidSchema, stored_shape, default_of, slot_of}
use Rattle.fb_layout.specs.WellMade.{IsWellMade}
use Rattle.fb_value.specs.Datum.{Datum, SlotEntries, absent_entry, present_entry}
use Rattle.fb_json.specs.Means.{CodeAt, unless_null, member_called, AbsentMeans, AbsentAt, PresentMeans}
use Rattle.fb_json.specs.Means.{MeansAs}
use Rattle.fb_json.specs.Means.{MemberMeans, SlotsMean}
use Rattle.fb_conform.specs.Carry.{carry}
use Rattle.fb_conform.specs.Movement.{unless_gone}
use Rattle.fb_conform.specs.Conforms.{Conforms}
use Rattle.fb_conform.specs.Names.{KeepsNames}
use Rattle.fb_conform.specs.NamesStay.{CodeStays}
use Rattle.fb_conform.specs.Twins.{to_new}
use Rattle.fb_conform.proofs.laws.DeclaredShapesByTheirNewNumbers.{id, to_shape}
use Rattle.fb_conform.proofs.laws.LayoutsAgree.{AfterCode, types_in}
use Rattle.fb_conform.proofs.laws.SlotsMeanTheCarriedEntries.{is_code, Told, handed_on, told_union, absent_means}
use Rattle.fb_conform.proofs.laws.SlotsMeanTheCarriedEntries.{absent_slot, code_default, untold, SlotAgrees}
use Rattle.fb_conform.proofs.laws.SlotsMeanTheCarriedEntries.{is_code_moved}
use Rattle.fb_conform.proofs.laws.SlotsMeanTheCarriedEntries.{code_in_use, tells_code, used_code, handed, union_moved}
use Rattle.fb_conform.proofs.laws.SlotsMeanTheCarriedEntries.{present_step}
use Rattle.fb_conform.proofs.laws.TextsKeepTheirNumbers.{code_means}

absent_code : (L : LaidSchema) (g : DeclaredField) (c : ℕ) (o : Option Data) (s : Shape) → is_code false s ≡ true
    → AbsentMeans L g c o s
absent_code L g c o (One (Code u)) e = tt
absent_code L g c o _ e = absurd cc

-- nothing is present in the slot of a code
pub present_no_code : (L : LaidSchema) (f : DeclaredField) (s : Shape) (o : Option Data) (d : Datum)
    (own : Data → Type 0) (member : Data → ℕ → Type 0)
    → PresentMeans (slot_of L.schema f) s o d own member → f.shape ≡ s → is_code false s ≡ true → ⊥
present_no_code L f (One (Code u)) None d own member h is e =
    let given : default_of (f.deprecated || f.optional) f.default (stored_shape L.schema (One (Code u))) ≡ Some h.0 =
    rw is at h.1
    in
    let none : is_code false (One (Code u)) ≡ false =
    code_default L.schema h.0 f.default false (f.deprecated || f.optional) (One (Code u)) given in
    let bad : false ≡ true = sym none ∙ e in cc
present_no_code L f (One (Code u)) (Some t) d own member h is e = h
present_no_code L f _ o d own member h is e = cc

pub no_code : (gone : Bool) (s : Shape) (u : TypeId) → s ≡ One (Union u) → is_code gone s ≡ false
no_code true s u e = refl
no_code false s u e = ap (is_code false) e

module _ (A B : LaidSchema) (old : IsWellMade A) (new : IsWellMade B) (conforms : Conforms A B) (keeps : KeepsNames A B)
    (ms : Members) (f g : DeclaredField) (agree : SlotAgrees A B ms f g) (before : Option DeclaredField) (a b : ℕ)
    (told : Told before a b)
    (led : AfterCode (option_map (slot_of B.schema) before) (stored_shape B.schema g.shape) g.deprecated) where
  called_same : member_called g.name ms ≡ member_called f.name ms
  called_same = ap unless_null agree.member

  -- ---- the code that is told

  -- what is told at the slot under the new schema, and the same where it counts
  record NewCode (c : ℕ) : Type 0 where
    pub code : ℕ
    pub told_here : CodeAt B.schema ms g g.deprecated g.shape b code
    pub told_next : Told (Some g) c code
    pub of_union : (u : TypeId) → g.deprecated ≡ false → g.shape ≡ One (Union u) → code ≡ c

  union_known : (s : Shape) (u : TypeId) → IsShape A.schema s → s ≡ One (Code u) → u.0 < types_in A
  union_known s u known is = (rw is at known).0

  new_code : (c : ℕ) → CodeAt A.schema ms f f.deprecated f.shape a c
      → (is_code f.deprecated f.shape ≡ true → CodeStays A B f.shape (get_member f.name ms)) → NewCode c
  new_code c was stays = by (is_code g.deprecated g.shape) refl
    where
      by : (x : Bool) → is_code g.deprecated g.shape ≡ x → NewCode c
      by true is =
          let used = used_code g.deprecated g.shape is in
          let was_used = agree.in_use used in
          let moved : is_code f.deprecated f.shape ≡ true =
          ap (λ (x : Bool). is_code x f.shape) (was_used ∙ sym used)
          ∙ sym (is_code_moved (to_new A B) g.deprecated f.shape)
          ∙ ap (is_code g.deprecated) (sym agree.shape) ∙ is in
          let here = code_in_use A.schema ms f f.deprecated f.shape a c moved was in
          let u = here.0.0 in
          let there = code_means A B old new conforms keeps u (union_known f.shape here.0 agree.known here.1)
          (get_member f.name ms) c here.2
          (rw (← here.1) (stays moved)) in
          record {
            code = c;
            told_here = tells_code B.schema ms g g.deprecated g.shape b c (id (to_new A B u)) used
                (agree.shape ∙ ap (to_shape (to_new A B)) here.1)
                (rw agree.member there);
            told_next = λ code. refl;
            of_union = λ w in_use shape. refl;
          }
      by false is = record {
        code = b;
        told_here = handed_on B.schema ms g g.deprecated g.shape b is;
        told_next = λ code. untold g.deprecated g.shape c b is code;
        of_union = λ u used shape.
            let before_it = told_union B.schema before a b g.deprecated g.shape u told led used shape in
            let union = union_moved (to_new A B) f.shape u (sym agree.shape ∙ shape) in
            before_it
            ∙ sym (handed A.schema ms f f.deprecated f.shape a c (no_code f.deprecated f.shape union.0 union.1) was);
      }

  -- ---- entries

  absent_entry_means : (c : ℕ) (n : NewCode c) → AbsentAt A f c (member_called f.name ms) f.deprecated
      → AbsentAt B g n.code (member_called g.name ms) g.deprecated
  absent_entry_means c n h = by g.deprecated refl
    where
      was : f.deprecated ≡ false → AbsentMeans A f c (member_called f.name ms) f.shape
      was used = subst (λ (x : Bool). AbsentAt A f c (member_called f.name ms) x) used h

      by_code : g.deprecated ≡ false → (x : Bool) → is_code false f.shape ≡ x
          → AbsentMeans B g n.code (member_called g.name ms) g.shape
      by_code used true is =
          absent_code B g n.code (member_called g.name ms) g.shape
          (ap (is_code false) agree.shape ∙ is_code_moved (to_new A B) false f.shape ∙ is)
      by_code used false is =
          let slot = absent_slot A f c (member_called f.name ms) f.shape (was (agree.in_use used)) is in
          absent_means B g n.code (member_called g.name ms) g.shape (called_same ∙ slot.none)
          (agree.if_absent used ∙ slot.no_default) (agree.required ∙ slot.free)
          (λ u shape. let w = union_moved (to_new A B) f.shape u (sym agree.shape ∙ shape) in
          n.of_union u used shape ∙ slot.no_code w.0 w.1)

      by : (x : Bool) → g.deprecated ≡ x → AbsentAt B g n.code (member_called g.name ms) x
      by true is = tt
      by false is = by_code is (is_code false f.shape) refl

  module _ (fs gs : List DeclaredField) (es rest : SlotEntries)
      (later : (c d : ℕ) → Told (Some g) c d → SlotsMean A false ms c fs es → SlotsMean B false ms d gs rest) where
    pub absent_step : CodeStays A B f.shape (get_member f.name ms) → SlotsMean A false ms a (f ∷ fs) (absent_entry es)
        → SlotsMean B false ms b (g ∷ gs) (absent_entry rest)
    absent_step stays h =
        let n = new_code h.0 h.1 (λ is. stays) in
        (n.code, n.told_here, absent_entry_means h.0 n h.2, later h.0 n.code n.told_next h.3)

    module _ (d : Datum)
        (own : (t : Data) → member_called f.name ms ≡ Some t → MeansAs A false t f.shape d
        → MeansAs B false t (to_shape (to_new A B) f.shape) (carry A B d))
        (member : (t : Data) (u : TypeId) (c : ℕ) → member_called f.name ms ≡ Some t → f.shape ≡ One (Union u)
        → MemberMeans A false t u.0 c d → MemberMeans B false t (to_new A B u.0) c (carry A B d)) where
      pub present_entry_means : SlotsMean A false ms a (f ∷ fs) (present_entry d es)
          → SlotsMean B false ms b (g ∷ gs) (unless_gone g.deprecated (carry A B d) rest)
      present_entry_means h = by g.deprecated refl
        where
          never : is_code f.deprecated f.shape ≡ true → ⊥
          never is = present_no_code A f f.shape (member_called f.name ms) d (λ t. MeansAs A false t f.shape d)
              (λ t u. MemberMeans A false t u h.0 d) h.3 refl
              (rw (← h.2) is)

          n : NewCode h.0
          n = new_code h.0 h.1 (λ is. absurd (never is))

          next : SlotsMean B false ms n.code gs rest
          next = later h.0 n.code n.told_next h.4

          present : g.deprecated ≡ false
              → PresentMeans (slot_of B.schema g) g.shape (member_called g.name ms) (carry A B d)
              (λ t. MeansAs B false t g.shape (carry A B d)) (λ t u. MemberMeans B false t u n.code (carry A B d))
          present used =
              rw called_same (rw (← agree.shape) at
              (present_step A B ms f g d h.0 n.code f.shape (member_called f.name ms) (agree.if_absent used) own
              (λ t u there is m. rw (n.of_union (id (to_new A B u.0)) used
              (agree.shape ∙ ap (to_shape (to_new A B)) is)) (member t u h.0 there is m))
              h.3))

          by : (x : Bool) → g.deprecated ≡ x
              → SlotsMean B false ms b (g ∷ gs) (unless_gone x (carry A B d) rest)
          by true is = (
            n.code,
            n.told_here,
            subst (λ (x : Bool). AbsentAt B g n.code (member_called g.name ms) x) (sym is) tt,
            next,
          )
          by false is = (n.code, n.told_here, is, present is, next)
