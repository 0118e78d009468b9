-- What an object's members say of a slot, of a field that stays and of a new one.
use Rattle.std.proofs.Common.{◌≡◌, ℕ, ◌||◌, Bool, true, false, List, [], ◌∷◌, map}
use Rattle.std.proofs.Common.{Option, None, Some, option_map, ℤ, refl, sym, ap, ◌∙◌}
use Rattle.serde_json.specs.Data.{Data, Members}
use Rattle.serde_json.specs.Find.{get_member}
use Rattle.fb_schema.specs.declared.kinds.TypeId.{TypeId}
use Rattle.fb_schema.specs.declared.kinds.Kind.TheVariants.{Scalar, Enum, Struct as Fixed, Table, Union, Code, Text}
use Rattle.fb_schema.specs.declared.kinds.Shape.{Shape}
use Rattle.fb_schema.specs.declared.kinds.Shape.TheVariants.{One, Many}
use Rattle.fb_schema.specs.Schema.{DeclaredField, DeclaredSchema}
use Rattle.fb_schema.specs.WellDeclared.{IsShape}
use Rattle.fb_layout.specs.Laid.{LaidSchema, Slot, one_of, code_kind, stored_shape, default_of, slot_of}
use Rattle.fb_value.specs.Datum.{Datum, a_number, SlotEntries}
use Rattle.fb_value.specs.Reads.{default_entry}
use Rattle.fb_json.specs.Means.{CodeMeans, CodeAt, unless_null, member_called, AbsentMeans, AbsentAt}
use Rattle.fb_json.specs.Means.{PresentMeans, MeansAs, MemberMeans, SlotsMean}
use Rattle.fb_conform.specs.Carry.{carry, new_slots}
use Rattle.fb_conform.specs.Twins.{to_new}
use Rattle.fb_conform.proofs.laws.DeclaredShapesByTheirNewNumbers.{id, to_shape}
use Rattle.fb_conform.proofs.laws.LayoutsAgree.{AfterCode, CodesFirst}

-- ---- codes

-- the code of a union, in use
abbrev pub is_code : Bool → Shape → Bool
is_code false (One (Code u)) = true
is_code _ _ = false

-- the code that was told last is the same, where it was told right before
abbrev pub Told : Option DeclaredField → ℕ → ℕ → Type 0
Told None a b = Unit {0}
Told (Some g) a b = is_code g.deprecated g.shape ≡ true → b ≡ a

-- a slot that is no code in use passes on the code that it was given
pub handed_on : (S : DeclaredSchema) (ms : Members) (g : DeclaredField) (gone : Bool) (s : Shape) (b : ℕ)
    → is_code gone s ≡ false → CodeAt S ms g gone s b b
handed_on S ms g false (One (Code u)) b e = absurd cc
handed_on S ms g _ _ b e = refl

stored_code : (S : DeclaredSchema) (s : Shape) (u : ℕ) → stored_shape S s ≡ one_of (code_kind u)
    → is_code false s ≡ true
stored_code S (One (Code x)) u e = refl
stored_code S _ u e = cc

-- the code that a union in use is read behind
pub told_before : (S : DeclaredSchema) (before : Option DeclaredField) (a b u : ℕ) → Told before a b
    → AfterCode (option_map (slot_of S) before) (stored_shape S (One (Union (id u)))) false → b ≡ a
told_before S None a b u told led = let bad : None ≡ Some led.0 = led.1 in absurd cc
told_before S (Some g) a b u told led =
    let same : Some (slot_of S g) ≡ Some led.0 = led.1 in
    let one : slot_of S g ≡ led.0 = cc in
    let shape : stored_shape S g.shape ≡ one_of (code_kind u) = ap (λ (s : Slot). s.shape) one ∙ led.2 in
    told (rw (ap (λ (s : Slot). s.deprecated) one ∙ led.3) (stored_code S g.shape u shape))

-- the same of a union of any number, told by its shape
pub told_union : (S : DeclaredSchema) (before : Option DeclaredField) (a b : ℕ) (gone : Bool) (s : Shape) (u : TypeId)
    → Told before a b → AfterCode (option_map (slot_of S) before) (stored_shape S s) gone → gone ≡ false
    → s ≡ One (Union u) → b ≡ a
told_union S before a b gone s u told led used is =
    told_before S before a b u.0 told
    (rw used at (rw is at led))

-- ---- absent entries

-- an absent member means nothing where there is no default, nothing is required, and no union's code is told
pub absent_means : (L : LaidSchema) (g : DeclaredField) (c : ℕ) (o : Option Data) (s : Shape) → o ≡ None
    → (slot_of L.schema g).if_absent ≡ None → (slot_of L.schema g).required ≡ false
    → ((u : TypeId) → s ≡ One (Union u) → c ≡ 0) → AbsentMeans L g c o s
absent_means L g c o (One (Code u)) gone none free code = tt
absent_means L g c o (One (Union u)) gone none free code = (code u refl, gone, none, free)
absent_means L g c o _ gone none free code = (gone, none, free)

-- what it says of the old slot
pub record AbsentSlot (L : LaidSchema) (f : DeclaredField) (c : ℕ) (o : Option Data) (s : Shape) : Type 0 where
  pub none : o ≡ None
  pub no_default : (slot_of L.schema f).if_absent ≡ None
  pub free : (slot_of L.schema f).required ≡ false
  pub no_code : (u : TypeId) → s ≡ One (Union u) → c ≡ 0

pub absent_slot : (L : LaidSchema) (f : DeclaredField) (c : ℕ) (o : Option Data) (s : Shape) → AbsentMeans L f c o s
    → is_code false s ≡ false → AbsentSlot L f c o s
absent_slot L f c o (One (Code u)) h e = absurd cc
absent_slot L f c o (One (Union u)) h e =
    record { none = h.1; no_default = h.2; free = h.3; no_code = λ u is. h.0 }
absent_slot L f c o _ h e =
    record { none = h.0; no_default = h.1; free = h.2; no_code = λ u is. absurd cc }

-- a deprecated slot has no default, nor has a code
pub used_default : (S : DeclaredSchema) (g : DeclaredField) (n : ℤ) → (slot_of S g).if_absent ≡ Some n
    → g.deprecated ≡ false
used_default S g n = by g.deprecated
  where
    by : (b : Bool) → default_of (b || g.optional) g.default (stored_shape S g.shape) ≡ Some n → b ≡ false
    by false e = refl
    by true e = absurd cc

pub code_default : (S : DeclaredSchema) (n m : ℤ) (gone given : Bool) (s : Shape)
    → default_of given m (stored_shape S s) ≡ Some n → is_code gone s ≡ false
code_default S n m false true (One (Code b)) e = absurd cc
code_default S n m false false (One (Code b)) e = absurd cc
code_default S n m _ given _ e = refl

-- ---- new slots

-- a new slot has no member, and isn't required
pub record IsNewSlot (S : DeclaredSchema) (ms : Members) (g : DeclaredField) : Type 0 where
  pub member : get_member g.name ms ≡ None
  pub free : (slot_of S g).required ≡ false

abbrev pub AreNewSlots : DeclaredSchema → Members → List DeclaredField → Type 0
AreNewSlots S ms [] = Unit {0}
AreNewSlots S ms (g ∷ gs) = IsNewSlot S ms g × AreNewSlots S ms gs

no_member : (o : Option Data) → o ≡ None → unless_null o ≡ None
no_member None e = refl
no_member (Some t) e = absurd cc

code_of_none : (S : DeclaredSchema) (u : ℕ) (o : Option Data) → o ≡ None → CodeMeans S u o 0
code_of_none S u None e = refl
code_of_none S u (Some t) e = absurd cc

-- the code that a new slot tells is 0
new_code : (S : DeclaredSchema) (ms : Members) (g : DeclaredField) (gone : Bool) (s : Shape) (b : ℕ)
    → get_member g.name ms ≡ None → is_code gone s ≡ true → CodeAt S ms g gone s b 0
new_code S ms g false (One (Code u)) b none e = code_of_none S u.0 (get_member g.name ms) none
new_code S ms g _ _ b none e = absurd cc

-- what a slot that is no code in use leaves as told is 0 for what comes after it
pub untold : (gone : Bool) (s : Shape) (a b : ℕ) → is_code gone s ≡ false → is_code gone s ≡ true → b ≡ a
untold gone s a b none some = let bad : false ≡ true = sym none ∙ some in absurd cc

module _ (L : LaidSchema) (ms : Members) where
  -- a new slot means its default, with those behind it
  module _ (g : DeclaredField) (gs : List DeclaredField) (rest : SlotEntries) (before : Option DeclaredField) (b : ℕ)
      (told : Told before 0 b) (new : IsNewSlot L.schema ms g)
      (led : AfterCode (option_map (slot_of L.schema) before) (stored_shape L.schema g.shape) g.deprecated)
      (later : (c : ℕ) → Told (Some g) 0 c → SlotsMean L false ms c gs rest) where
    with_code : (c : ℕ) → CodeAt L.schema ms g g.deprecated g.shape b c
        → ((u : TypeId) → g.deprecated ≡ false → g.shape ≡ One (Union u) → c ≡ 0) → Told (Some g) 0 c
        → (o : Option ℤ) → (slot_of L.schema g).if_absent ≡ o
        → SlotsMean L false ms b (g ∷ gs) (default_entry o rest)
    with_code c code union next None none = (c, code, absent g.deprecated refl, later c next)
      where
        absent : (gone : Bool) → g.deprecated ≡ gone → AbsentAt L g c (member_called g.name ms) gone
        absent true is = tt
        absent false is =
            absent_means L g c (member_called g.name ms) g.shape (no_member (get_member g.name ms) new.member) none
            new.free (λ u shape. union u is shape)
    with_code c code union next (Some n) given = (
      c,
      code,
      used_default L.schema g n given,
      present (member_called g.name ms)
          (no_member (get_member g.name ms) new.member),
      later c next,
    )
      where
        present : (o : Option Data) → o ≡ None → PresentMeans (slot_of L.schema g) g.shape o (a_number n)
            (λ t. MeansAs L false t g.shape (a_number n)) (λ t u. MemberMeans L false t u c (a_number n))
        present None is = (n, given, refl)
        present (Some t) is = absurd cc

    by_code : (x : Bool) → is_code g.deprecated g.shape ≡ x
        → SlotsMean L false ms b (g ∷ gs) (default_entry (slot_of L.schema g).if_absent rest)
    by_code true is =
        with_code 0 (new_code L.schema ms g g.deprecated g.shape b new.member is) (λ u used shape. refl) (λ code. refl)
        (slot_of L.schema g).if_absent refl
    by_code false is =
        with_code b (handed_on L.schema ms g g.deprecated g.shape b is)
        (λ u used shape. told_union L.schema before 0 b g.deprecated g.shape u told led used shape)
        (λ code. untold g.deprecated g.shape 0 b is code) (slot_of L.schema g).if_absent refl

    new_step : SlotsMean L false ms b (g ∷ gs) (default_entry (slot_of L.schema g).if_absent rest)
    new_step = by_code (is_code g.deprecated g.shape) refl

  -- new slots mean their defaults
  pub new_mean : (gs : List DeclaredField) (before : Option DeclaredField) (b : ℕ) → Told before 0 b
      → AreNewSlots L.schema ms gs → CodesFirst (option_map (slot_of L.schema) before) (map (slot_of L.schema) gs)
      → SlotsMean L false ms b gs (new_slots (map (slot_of L.schema) gs))
  new_mean [] before b told new led = tt
  new_mean (g ∷ gs) before b told new led =
      new_step g gs (new_slots (map (slot_of L.schema) gs)) before b told new.0 led.0
      (λ c next. new_mean gs (Some g) c next new.1 led.1)

-- ---- slots that stay

-- an old slot and the new one of its number: what is known of their members, types and marks
pub record SlotAgrees (A B : LaidSchema) (ms : Members) (f g : DeclaredField) : Type 0 where
  pub member : get_member g.name ms ≡ get_member f.name ms
  pub none_of_deprecated : g.deprecated ≡ true → get_member f.name ms ≡ None
  pub known : IsShape A.schema f.shape
  pub shape : g.shape ≡ to_shape (to_new A B) f.shape
  pub if_absent : g.deprecated ≡ false → (slot_of B.schema g).if_absent ≡ (slot_of A.schema f).if_absent
  pub required : (slot_of B.schema g).required ≡ (slot_of A.schema f).required
  pub in_use : g.deprecated ≡ false → f.deprecated ≡ false

pub is_code_moved : (to : ℕ → ℕ) (gone : Bool) (s : Shape) → is_code gone (to_shape to s) ≡ is_code gone s
is_code_moved to true s = refl
is_code_moved to false (One (Code u)) = refl
is_code_moved to false (One (Scalar x)) = refl
is_code_moved to false (One (Enum x)) = refl
is_code_moved to false (One (Fixed x)) = refl
is_code_moved to false (One (Table x)) = refl
is_code_moved to false (One (Union x)) = refl
is_code_moved to false (One Text) = refl
is_code_moved to false (Many k) = refl

-- what a code in use tells
pub code_in_use : (S : DeclaredSchema) (ms : Members) (f : DeclaredField) (gone : Bool) (s : Shape) (a c : ℕ)
    → is_code gone s ≡ true → CodeAt S ms f gone s a c
    → (u : TypeId) × (s ≡ One (Code u)) × CodeMeans S u.0 (get_member f.name ms) c
code_in_use S ms f false (One (Code u)) a c e h = (u, refl, h)
code_in_use S ms f _ _ a c e h = absurd cc

pub tells_code : (S : DeclaredSchema) (ms : Members) (g : DeclaredField) (gone : Bool) (s : Shape) (b c : ℕ)
    (u : TypeId) → gone ≡ false → s ≡ One (Code u) → CodeMeans S u.0 (get_member g.name ms) c → CodeAt S ms g gone s b c
tells_code S ms g true s b c u used is h = absurd cc
tells_code S ms g false s b c u used is h = rw is h

-- a code in use is that of a union's code
pub used_code : (gone : Bool) (s : Shape) → is_code gone s ≡ true → gone ≡ false
used_code false s e = refl
used_code true s e = absurd cc

-- what isn't a code in use passes on what it was given
pub handed : (S : DeclaredSchema) (ms : Members) (f : DeclaredField) (gone : Bool) (s : Shape) (a c : ℕ)
    → is_code gone s ≡ false → CodeAt S ms f gone s a c → c ≡ a
handed S ms f false (One (Code u)) a c e h = absurd cc
handed S ms f _ _ a c e h = h

pub union_moved : (to : ℕ → ℕ) (s : Shape) (u : TypeId) → to_shape to s ≡ One (Union u)
    → (w : TypeId) × (s ≡ One (Union w))
union_moved to (One (Union w)) u e = (w, refl)
union_moved to _ u e = absurd cc

-- an entry that is present, from what its member means
pub present_step : (A B : LaidSchema) (ms : Members) (f g : DeclaredField) (d : Datum) (a b : ℕ) (s : Shape)
    (o : Option Data) → (slot_of B.schema g).if_absent ≡ (slot_of A.schema f).if_absent
    → ((t : Data) → o ≡ Some t → MeansAs A false t s d → MeansAs B false t (to_shape (to_new A B) s) (carry A B d))
    → ((t : Data) (u : TypeId) → o ≡ Some t → s ≡ One (Union u) → MemberMeans A false t u.0 a d
    → MemberMeans B false t (to_new A B u.0) b (carry A B d))
    → PresentMeans (slot_of A.schema f) s o d (λ t. MeansAs A false t s d) (λ t u. MemberMeans A false t u a d)
    → PresentMeans (slot_of B.schema g) (to_shape (to_new A B) s) o (carry A B d)
    (λ t. MeansAs B false t (to_shape (to_new A B) s) (carry A B d)) (λ t u. MemberMeans B false t u b (carry A B d))
present_step A B ms f g d a b s None same own member h = (h.0, same ∙ h.1, ap (carry A B) h.2)
present_step A B ms f g d a b (One (Code u)) (Some t) same own member h = absurd h
present_step A B ms f g d a b (One (Union u)) (Some t) same own member h = member t u refl refl h
present_step A B ms f g d a b _ (Some t) same own member h = own t refl h
