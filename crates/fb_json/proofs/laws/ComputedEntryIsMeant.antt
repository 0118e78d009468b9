-- What is computed for a leaf, a code or an entry is what it means.
use Rattle.std.proofs.Common.{◌≡◌, ℕ, zero, suc, ◌+◌, ◌≤◌, ℤ, pos, length, Bool, true, false, Option, Some}
use Rattle.std.proofs.Common.{None, option_map, is_some, Ok, Err, nat_lt, if◌then◌else◌, refl, sym, ap, subst, arith}
use Rattle.std.proofs.lemmas.Bool.Decides.{nat_tests}
use Rattle.serde_json.specs.Data.{Num, Data, null, boolean, number, string, array, object, Members}
use Rattle.serde_json.specs.Find.{as_integer, get_member}
use Rattle.fb_schema.specs.declared.kinds.Base.{Base}
use Rattle.fb_schema.specs.declared.kinds.Base.TheVariants.{Bool as Boolean}
use Rattle.fb_schema.specs.declared.kinds.Kind.TheVariants.{Scalar, Enum, Struct, Table, Union, Code, Text}
use Rattle.fb_schema.specs.declared.kinds.Shape.{Shape}
use Rattle.fb_schema.specs.declared.kinds.Shape.TheVariants.{One, Many}
use Rattle.fb_schema.specs.Ranges.{holds}
use Rattle.fb_schema.specs.Schema.{DeclaredField, DeclaredSchema, body_at, base_in}
use Rattle.fb_schema.specs.Found.{member_coded}
use Rattle.fb_schema.specs.WellDeclared.{InRange}
use Rattle.fb_layout.specs.Laid.{LaidSchema, Slot, slot_of, member_by_code}
use Rattle.fb_value.specs.Counts.{cells, depth}
use Rattle.fb_value.specs.Datum.{Datum, a_number, a_text, a_member}
use Rattle.fb_json.specs.declared.faults.Place.{Place}
use Rattle.fb_json.specs.declared.faults.JsonFault.TheVariants.{OutOfRange, UnknownName}
use Rattle.fb_json.specs.Outcome.{spent}
use Rattle.fb_schema.specs.Paths.{code_by_path}
use Rattle.fb_schema.proofs.NumbersInRange.{held_in_range}
use Rattle.fb_json.specs.Flags.{number_told}
use Rattle.fb_json.specs.Leaves.{in_range, boolean_in, scalar_meant, enum_meant, text_meant, leaf_meant, code_numbered}
use Rattle.fb_json.specs.Leaves.{code_told}
use Rattle.fb_json.specs.Meant.{Meaner, present, code_in, code_after, as_absent, as_member, union_meant, plain_meant}
use Rattle.fb_json.specs.Meant.{used_meant, meant, look}
use Rattle.fb_json.specs.Means.{ScalarMeans, EnumMeans, CodeMeans, CodeAt, unless_null, AbsentMeans, PresentAs}
use Rattle.fb_json.specs.Means.{PresentMeans, MeansAs, MemberMeans}
use Rattle.fb_json.proofs.laws.EachStepOfABindSucceeds.{at_ok, ok_inj, or_ok, bind_ok, spent_ok}
use Rattle.fb_json.proofs.slots.MembersWithTheirMeaning.{looked}
use Rattle.fb_json.proofs.slots.MembersWithTheirMeaning.{with_meaning}

-- ---- leaves

range_by : (b : Bool) (base : Base) (n m : ℤ) (at : Place) → holds base n ≡ b
    → (if b then Ok n else Err (OutOfRange at)) ≡ Ok m → (n ≡ m) × InRange base m
range_by false base n m at is h = cc
range_by true base n m at is h = let same = ok_inj n m h in (same, subst (InRange base) same (held_in_range base n is))

in_range_ok : (base : Base) (at : Place) (o : Option ℤ) (m : ℤ) → in_range base at o ≡ Ok m
    → (o ≡ Some m) × InRange base m
in_range_ok base at None m h = cc
in_range_ok base at (Some n) m h = let got = range_by (holds base n) base n m at refl h in (ap Some got.0, got.1)

boolean_ok : (base : Base) (b : Bool) (at : Place) (n : ℤ) → boolean_in base b at ≡ Ok n
    → ScalarMeans base (boolean b) n
boolean_ok Boolean true at n h = sym (ok_inj (pos 1) n h)
boolean_ok Boolean false at n h = sym (ok_inj (pos 0) n h)
boolean_ok _ b at n h = cc

pub scalar_ok : (base : Base) (t : Data) (at : Place) (n : ℤ) → scalar_meant base t at ≡ Ok n → ScalarMeans base t n
unfolding scalar_meant
scalar_ok base (number x) at n h = in_range_ok base at (as_integer x) n h
scalar_ok base (boolean b) at n h = boolean_ok base b at n h
scalar_ok base _ at n h = cc

pub enum_ok : (S : DeclaredSchema) (e : ℕ) (t : Data) (at : Place) (n : ℤ) → enum_meant S e t at ≡ Ok n
    → EnumMeans S e t n
unfolding enum_meant
enum_ok S e (number x) at n h = in_range_ok (base_in (body_at S e)) at (as_integer x) n h
enum_ok S e (string s) at n h = or_ok (number_told S e s) (UnknownName at) n h
enum_ok S e _ at n h = cc

-- what a computed value has
abbrev pub Good : LaidSchema → Bool → Data → Shape → ℕ → ℕ → Datum × ℕ → Type 0
Good L unknown t shape levels left p = MeansAs L unknown t shape p.0 × (p.1 + cells p.0 ≡ left) × (depth p.0 ≤ levels)

text_ok : (L : LaidSchema) (unknown : Bool) (t : Data) (at : Place) (levels left : ℕ) (p : Datum × ℕ)
    → text_meant t at left ≡ Ok p → Good L unknown t (One Text) levels left p
unfolding text_meant
text_ok L unknown (string s) at levels left p h =
    let got = bind_ok (spent (1 + length s) at left) _ p h in
    let sum = spent_ok (1 + length s) at left got.0 got.1 in
    at_ok (Good L unknown (string s) (One Text) levels left) (a_text s, got.0) p got.2 (refl, sum, omega arith)
text_ok L unknown _ at levels left p h = cc

pub leaf_ok : (L : LaidSchema) (unknown : Bool) (t : Data) (shape : Shape) (at : Place) (levels left : ℕ)
    (p : Datum × ℕ) → leaf_meant L.schema t shape at left ≡ Ok p → Good L unknown t shape levels left p
unfolding leaf_meant
leaf_ok L unknown t (One (Scalar base)) at levels left p h =
    let got = bind_ok (scalar_meant base t at) _ p h in
    at_ok (Good L unknown t (One (Scalar base)) levels left) (a_number got.0, left) p got.2
    (scalar_ok base t at got.0 got.1, omega arith, omega arith)
leaf_ok L unknown t (One (Enum e)) at levels left p h =
    let got = bind_ok (enum_meant L.schema e.0 t at) _ p h in
    at_ok (Good L unknown t (One (Enum e)) levels left) (a_number got.0, left) p got.2
    (enum_ok L.schema e.0 t at got.0 got.1, omega arith, omega arith)
leaf_ok L unknown t (One Text) at levels left p h = text_ok L unknown t at levels left p h
leaf_ok L unknown t _ at levels left p h = cc

-- ---- codes

coded_by : (b d : Bool) (S : DeclaredSchema) (u n c : ℕ) (x : Num) (at : Place) → nat_lt 255 (suc n) ≡ b
    → is_some (member_coded (body_at S u) (suc n)) ≡ d → as_integer x ≡ Some (pos (suc n))
    → (if b then Err (OutOfRange at) else (if d then Ok (suc n) else Err (UnknownName at))) ≡ Ok c
    → CodeMeans S u (Some (number x)) c
coded_by true d S u n c x at big named is h = cc
coded_by false false S u n c x at big named is h = cc
coded_by false true S u n c x at big named is h =
    let few : suc n ≤ 255 = grind (arith, nat_tests) in
    at_ok (CodeMeans S u (Some (number x))) (suc n) c h (is, few, named)

numbered_ok : (S : DeclaredSchema) (u c : ℕ) (x : Num) (at : Place) (o : Option ℤ) → as_integer x ≡ o
    → code_numbered S u at o ≡ Ok c → CodeMeans S u (Some (number x)) c
numbered_ok S u c x at (Some (pos zero)) is h = at_ok (CodeMeans S u (Some (number x))) 0 c h is
numbered_ok S u c x at (Some (pos (suc n))) is h =
    coded_by (nat_lt 255 (suc n)) (is_some (member_coded (body_at S u) (suc n))) S u n c x at refl refl is h
numbered_ok S u c x at _ is h = cc

told_ok : (S : DeclaredSchema) (u c : ℕ) (t : Data) (at : Place) → code_told S u t at ≡ Ok c → CodeMeans S u (Some t) c
unfolding code_told
told_ok S u c null at h = sym (ok_inj 0 c h)
told_ok S u c (number x) at h = numbered_ok S u c x at (as_integer x) refl h
told_ok S u c (string s) at h = or_ok (code_by_path S u s) (UnknownName at) c h
told_ok S u c _ at h = cc

code_in_ok : (L : LaidSchema) (unknown : Bool) (u c : ℕ) (at : Place) (o : Option Data)
    → code_in L.schema u at (option_map (with_meaning L unknown) o) ≡ Ok c → CodeMeans L.schema u o c
code_in_ok L unknown u c at None h = sym (ok_inj 0 c h)
code_in_ok L unknown u c at (Some t) h = told_ok L.schema u c t at h

pub code_ok : (L : LaidSchema) (unknown : Bool) (ms : Members) (f : DeclaredField) (at : Place) (before c : ℕ)
    (deprecated : Bool) (shape : Shape)
    → code_after L.schema (look L unknown ms) at before deprecated f.name shape ≡ Ok c
    → CodeAt L.schema ms f deprecated shape before c
unfolding code_after
code_ok L unknown ms f at before c false (One (Code u)) h =
    let P : Option (Data × Meaner) → Type 0 = λ o. code_in L.schema u.0 at o ≡ Ok c in
    code_in_ok L unknown u.0 c at (get_member f.name ms) (subst P (looked L unknown ms f.name) h)
code_ok L unknown ms f at before c true shape h = sym (ok_inj before c h)
code_ok L unknown ms f at before c false _ h = sym (ok_inj before c h)

-- ---- entries

abbrev pub SoundAt : LaidSchema → Bool → Data → Type 0
SoundAt L unknown t = (shape : Shape) (at : Place) (levels left : ℕ) (p : Datum × ℕ)
    → meant L unknown t shape at levels left ≡ Ok p → Good L unknown t shape levels left p

-- what a computed entry has
abbrev pub GoodEntry : LaidSchema → Bool → Slot → ℕ → Option Data → Shape → ℕ → ℕ → (Type 0) → Option Datum × ℕ → Type 0
GoodEntry L unknown s c o shape levels left Absent (None, rest) = Absent × (rest ≡ left)
GoodEntry L unknown s c o shape levels left Absent (Some d, rest) =
    PresentMeans s shape o d (λ t. MeansAs L unknown t shape d) (λ t u. MemberMeans L unknown t u c d)
    × (rest + cells d ≡ left) × (depth d ≤ levels)

pub present_is : (L : LaidSchema) (unknown : Bool) (o : Option Data)
    → present (option_map (with_meaning L unknown) o) ≡ option_map (meant L unknown) (unless_null o)
present_is L unknown None = refl
present_is L unknown (Some null) = refl
present_is L unknown (Some (boolean b)) = refl
present_is L unknown (Some (number x)) = refl
present_is L unknown (Some (string s)) = refl
present_is L unknown (Some (array ts)) = refl
present_is L unknown (Some (object ms)) = refl

module _ (L : LaidSchema) (unknown : Bool) where
  absent_ok : (s : Slot) (c : ℕ) (shape : Shape) (Absent : Type 0) (a : Option ℤ) (required : Bool) (at : Place)
      (levels left : ℕ) (e : Option Datum × ℕ) → s.if_absent ≡ a → (a ≡ None → required ≡ false → Absent)
      → as_absent a required at left ≡ Ok e → GoodEntry L unknown s c None shape levels left Absent e
  absent_ok s c shape Absent (Some n) required at levels left e is whole h =
      at_ok (GoodEntry L unknown s c None shape levels left Absent) (Some (a_number n), left) e h
      ((n, is, refl), omega arith, omega arith)
  absent_ok s c shape Absent None true at levels left e is whole h = cc
  absent_ok s c shape Absent None false at levels left e is whole h =
      at_ok (GoodEntry L unknown s c None shape levels left Absent) (None, left) e h (whole refl refl, refl)

  -- a shape under which a member is a value of its own
  plain_ok : (s : Slot) (c : ℕ) (shape : Shape) (o : Option Data) (Absent : Type 0) (at : Place) (levels left : ℕ)
      (e : Option Datum × ℕ)
      → ((d : Datum) (t : Data) → MeansAs L unknown t shape d
      → PresentAs shape (MeansAs L unknown t shape d) (λ u. MemberMeans L unknown t u c d))
      → (o ≡ None → s.if_absent ≡ None → s.required ≡ false → Absent) → ((t : Data) → o ≡ Some t → SoundAt L unknown t)
      → plain_meant s shape (option_map (meant L unknown) o) at levels left ≡ Ok e
      → GoodEntry L unknown s c o shape levels left Absent e
  unfolding plain_meant
  plain_ok s c shape None Absent at levels left e coded whole sound h =
      absent_ok s c shape Absent s.if_absent s.required at levels left e refl (λ a r. whole refl a r) h
  plain_ok s c shape (Some t) Absent at levels left e coded whole sound h =
      let got = bind_ok (meant L unknown t shape at levels left) _ e h in
      let good = sound t refl shape at levels left got.0 got.1 in
      at_ok (GoodEntry L unknown s c (Some t) shape levels left Absent) (Some got.0.0, got.0.1) e got.2
      (coded got.0.0 t good.0, good.1, good.2)

  member_ok : (s : Slot) (u c : ℕ) (shape : Shape) (t : Data) (Absent : Type 0) (at : Place) (levels left : ℕ)
      (e : Option Datum × ℕ) (table : Option ℕ) → member_by_code L u c ≡ table → shape ≡ One (Union (record { 0 = u }))
      → SoundAt L unknown t → as_member c table (meant L unknown t) at levels left ≡ Ok e
      → GoodEntry L unknown s c (Some t) (One (Union (record { 0 = u }))) levels left Absent e
  member_ok s u c shape t Absent at levels left e None is one sound h = cc
  member_ok s u c shape t Absent at levels left e (Some table) is one sound h =
      let got = bind_ok (meant L unknown t (One (Table (record { 0 = table }))) at levels left) _ e h in
      let good = sound (One (Table (record { 0 = table }))) at levels left got.0 got.1 in
      at_ok (GoodEntry L unknown s c (Some t) (One (Union (record { 0 = u }))) levels left Absent)
      (Some (a_member c got.0.0), got.0.1) e got.2 ((refl, (table, is, good.0)), good.1, good.2)

  union_ok : (f : DeclaredField) (u c : ℕ) (o : Option Data) (at : Place) (levels left : ℕ) (e : Option Datum × ℕ)
      → ((t : Data) → o ≡ Some t → SoundAt L unknown t)
      → union_meant L u (slot_of L.schema f) c (option_map (meant L unknown) o) at levels left ≡ Ok e
      → GoodEntry L unknown (slot_of L.schema f) c o (One (Union (record { 0 = u }))) levels left
      (AbsentMeans L f c o (One (Union (record { 0 = u })))) e
  unfolding union_meant
  union_ok f u zero None at levels left e sound h = absent_ok (slot_of L.schema f) 0 (One (Union (record { 0 = u })))
      (AbsentMeans L f 0 None (One (Union (record { 0 = u })))) (slot_of L.schema f).if_absent
      (slot_of L.schema f).required at levels left e refl (λ a r. (refl, refl, a, r)) h
  union_ok f u (suc c) None at levels left e sound h = cc
  union_ok f u zero (Some t) at levels left e sound h =
      member_ok (slot_of L.schema f) u 0 (One (Union (record { 0 = u }))) t _ at levels left e (member_by_code L u 0)
      refl refl (sound t refl) h
  union_ok f u (suc c) (Some t) at levels left e sound h =
      member_ok (slot_of L.schema f) u (suc c) (One (Union (record { 0 = u }))) t _ at levels left e
      (member_by_code L u (suc c)) refl refl (sound t refl) h

  pub used_ok : (f : DeclaredField) (c : ℕ) (o : Option Data) (at : Place) (levels left : ℕ) (shape : Shape)
      (e : Option Datum × ℕ) → ((t : Data) → o ≡ Some t → SoundAt L unknown t)
      → used_meant L f c (option_map (meant L unknown) o) at levels left shape ≡ Ok e
      → GoodEntry L unknown (slot_of L.schema f) c o shape levels left (AbsentMeans L f c o shape) e
  used_ok f c o at levels left (One (Code u)) e sound h =
      at_ok (GoodEntry L unknown (slot_of L.schema f) c o (One (Code u)) levels left
      (AbsentMeans L f c o (One (Code u)))) (None, left) e h (tt, refl)
  used_ok f c o at levels left (One (Union u)) e sound h = union_ok f u.0 c o at levels left e sound h
  used_ok f c o at levels left (One (Scalar b)) e sound h =
      plain_ok (slot_of L.schema f) c (One (Scalar b)) o _ at levels left e (λ d t m. m) (λ a b r. (a, b, r)) sound h
  used_ok f c o at levels left (One (Enum b)) e sound h = plain_ok (slot_of L.schema f) c (One (Enum b)) o _ at levels
      left e (λ d t m. m) (λ a b r. (a, b, r)) sound h
  used_ok f c o at levels left (One (Struct b)) e sound h =
      plain_ok (slot_of L.schema f) c (One (Struct b)) o _ at levels left e (λ d t m. m) (λ a b r. (a, b, r)) sound h
  used_ok f c o at levels left (One (Table b)) e sound h = plain_ok (slot_of L.schema f) c (One (Table b)) o _ at levels
      left e (λ d t m. m) (λ a b r. (a, b, r)) sound h
  used_ok f c o at levels left (One Text) e sound h = plain_ok (slot_of L.schema f) c (One Text) o _ at levels left e
      (λ d t m. m) (λ a b r. (a, b, r)) sound h
  used_ok f c o at levels left (Many b) e sound h = plain_ok (slot_of L.schema f) c (Many b) o _ at levels left e
      (λ d t m. m) (λ a b r. (a, b, r)) sound h
