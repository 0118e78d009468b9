-- What leaves and codes mean is computed.
use Rattle.std.proofs.Common.{◌≡◌, ℕ, zero, suc, ◌+◌, ◌-◌, ◌≤◌, ℤ, List, length, Bool, true, false, Option}
use Rattle.std.proofs.Common.{Some, None, option_map, Ok, nat_lt, refl, sym, ap, arith}
use Rattle.std.proofs.lemmas.Bool.Decides.{nat_tests}
use Rattle.serde_json.specs.Data.{Num, Data, null, boolean, number, string, array, object, Items, Members}
use Rattle.serde_json.specs.Find.{as_integer, get_member}
use Rattle.fb_schema.specs.declared.kinds.Base.{Base}
use Rattle.fb_schema.specs.declared.kinds.Base.TheVariants.{Bool as Boolean, I8, U8, I16, U16, I32, U32, I64, U64}
use Rattle.fb_schema.specs.declared.kinds.Kind.TheVariants.{Scalar, Enum, Struct, Table, Code, Text}
use Rattle.fb_schema.specs.declared.kinds.Shape.{Shape}
use Rattle.fb_schema.specs.declared.kinds.Shape.TheVariants.{One, Many}
use Rattle.fb_schema.specs.Schema.{DeclaredField, DeclaredSchema, body_at, base_in}
use Rattle.fb_schema.specs.WellDeclared.{InRange}
use Rattle.fb_schema.proofs.NumbersInRange.{holds_in_range}
use Rattle.fb_layout.specs.Laid.{LaidSchema}
use Rattle.fb_value.specs.Counts.{cells, depth}
use Rattle.fb_value.specs.Datum.{Datum, a_number, a_text, a_vector, a_struct, a_table}
use Rattle.fb_json.specs.declared.faults.Place.{Place}
use Rattle.fb_json.specs.Leaves.{in_range, boolean_in, scalar_meant, enum_meant, text_meant, leaf_meant, code_numbered}
use Rattle.fb_json.specs.Leaves.{code_told}
use Rattle.fb_json.specs.Meant.{code_in, code_after, meant, look}
use Rattle.fb_json.specs.Means.{ScalarMeans, EnumMeans, CodeMeans, CodeAt, MeansAs}
use Rattle.fb_json.proofs.laws.EachStepOfABindSucceeds.{spends}
use Rattle.fb_json.proofs.slots.MembersWithTheirMeaning.{looked}
use Rattle.fb_json.proofs.slots.MembersWithTheirMeaning.{with_meaning}

-- ---- leaves

pub in_range_full : (base : Base) (at : Place) (o : Option ℤ) (n : ℤ) → o ≡ Some n → InRange base n
    → in_range base at o ≡ Ok n
in_range_full base at o n is within = rw (is, holds_in_range base n within) refl

pub boolean_full : (base : Base) (b : Bool) (at : Place) (n : ℤ) → ScalarMeans base (boolean b) n
    → boolean_in base b at ≡ Ok n
boolean_full Boolean true at n h = ap (λ m. Ok m) (sym h)
boolean_full Boolean false at n h = ap (λ m. Ok m) (sym h)
boolean_full _ b at n h = absurd h

pub scalar_full : (base : Base) (t : Data) (at : Place) (n : ℤ) → ScalarMeans base t n → scalar_meant base t at ≡ Ok n
unfolding scalar_meant
scalar_full base (number x) at n h = in_range_full base at (as_integer x) n h.0 h.1
scalar_full base (boolean b) at n h = boolean_full base b at n h
scalar_full I8 _ at n h = absurd h
scalar_full U8 _ at n h = absurd h
scalar_full I16 _ at n h = absurd h
scalar_full U16 _ at n h = absurd h
scalar_full I32 _ at n h = absurd h
scalar_full U32 _ at n h = absurd h
scalar_full I64 _ at n h = absurd h
scalar_full U64 _ at n h = absurd h
scalar_full Boolean _ at n h = absurd h

pub enum_full : (S : DeclaredSchema) (e : ℕ) (t : Data) (at : Place) (n : ℤ) → EnumMeans S e t n
    → enum_meant S e t at ≡ Ok n
unfolding enum_meant
enum_full S e (number x) at n h = in_range_full (base_in (body_at S e)) at (as_integer x) n h.0 h.1
enum_full S e (string s) at n h = rw h refl
enum_full S e _ at n h = absurd h

abbrev pub CompleteAt : LaidSchema → Bool → Data → Type 0
CompleteAt L unknown t = (shape : Shape) (at : Place) (levels left : ℕ) (v : Datum) → MeansAs L unknown t shape v
    → depth v ≤ levels → cells v ≤ left → meant L unknown t shape at levels left ≡ Ok (v, left - cells v)

-- a tree without members and elements
abbrev pub IsLeaf : Data → Type 0
IsLeaf t = ((ms : Members) → t ≡ object ms → ⊥) × ((ts : Items) → t ≡ array ts → ⊥)

pub text_full : (t : Data) (s : List ℕ) (at : Place) (left : ℕ) → t ≡ string s → 1 + length s ≤ left
    → text_meant t at left ≡ Ok (a_text s, left - (1 + length s))
unfolding text_meant
text_full t s at left is enough = rw (is, spends (1 + length s) at left enough) refl

pub leaf_full : (L : LaidSchema) (unknown : Bool) (t : Data) (shape : Shape) (at : Place) (levels left : ℕ) (v : Datum)
    → IsLeaf t → MeansAs L unknown t shape v → cells v ≤ left
    → leaf_meant L.schema t shape at left ≡ Ok (v, left - cells v)
unfolding leaf_meant
leaf_full L unknown t (One (Scalar base)) at levels left (a_number n) leaf h enough =
    let all : left - 0 ≡ left = omega arith in
    rw (scalar_full base t at n h, all) refl
leaf_full L unknown t (One (Enum e)) at levels left (a_number n) leaf h enough =
    let all : left - 0 ≡ left = omega arith in
    rw (enum_full L.schema e.0 t at n h, all) refl
leaf_full L unknown t (One Text) at levels left (a_text s) leaf h enough = text_full t s at left h enough
leaf_full L unknown t (One (Struct s)) at levels left (a_struct ds) leaf h enough = absurd (leaf.0 h.0 h.1)
leaf_full L unknown t (One (Table id)) at levels left (a_table type es) leaf h enough = absurd (leaf.0 h.0 h.1)
leaf_full L unknown t (Many kind) at levels left (a_vector ds) leaf h enough = absurd (leaf.1 h.0 h.1)
leaf_full L unknown t _ at levels left _ leaf h enough = absurd h

-- ---- codes

pub numbered_full : (S : DeclaredSchema) (u c : ℕ) (x : Num) (at : Place) → CodeMeans S u (Some (number x)) c
    → code_numbered S u at (as_integer x) ≡ Ok c
numbered_full S u zero x at h = rw h refl
numbered_full S u (suc c) x at h =
    let few : nat_lt 255 (suc c) ≡ false = grind (arith, nat_tests, h.1) in
    rw (h.0, few, h.2) refl

pub told_full : (S : DeclaredSchema) (u c : ℕ) (t : Data) (at : Place) → CodeMeans S u (Some t) c
    → code_told S u t at ≡ Ok c
unfolding code_told
told_full S u c null at h = ap (λ n. Ok n) (sym h)
told_full S u c (number x) at h = numbered_full S u c x at h
told_full S u c (string s) at h = rw h refl
told_full S u c _ at h = absurd h

pub code_in_full : (L : LaidSchema) (unknown : Bool) (u c : ℕ) (at : Place) (o : Option Data) → CodeMeans L.schema u o c
    → code_in L.schema u at (option_map (with_meaning L unknown) o) ≡ Ok c
code_in_full L unknown u c at None h = ap (λ n. Ok n) (sym h)
code_in_full L unknown u c at (Some t) h = told_full L.schema u c t at h

pub code_full : (L : LaidSchema) (unknown : Bool) (ms : Members) (f : DeclaredField) (at : Place) (before c : ℕ)
    (deprecated : Bool) (shape : Shape) → CodeAt L.schema ms f deprecated shape before c
    → code_after L.schema (look L unknown ms) at before deprecated f.name shape ≡ Ok c
unfolding code_after
code_full L unknown ms f at before c false (One (Code u)) h =
    rw (looked L unknown ms f.name) (code_in_full L unknown u.0 c at (get_member f.name ms) h)
code_full L unknown ms f at before c true shape h = ap (λ n. Ok n) (sym h)
code_full L unknown ms f at before c false _ h = ap (λ n. Ok n) (sym h)
