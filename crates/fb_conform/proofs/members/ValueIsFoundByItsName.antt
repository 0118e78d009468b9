-- An enum's value is found by its name.
use Rattle.std.proofs.Common.{◌≡◌, ◌≢◌, ℕ, ◌<◌, ◌≤◌, ◌↔◌, Bool, true, false, nat_lt, List, length, get_or, AllPairs}
use Rattle.std.proofs.Common.{Contains, ℤ, Option, None, Some, slice_get, option_map, find, refl, sym, ap, ◌∙◌}
use Rattle.std.proofs.Common.{arith}
use Rattle.std.specs.List.{position_or_len}
use Rattle.std.specs.Str.{bytes_eq}
use Rattle.std.proofs.lemmas.Bool.{ltb-true}
use Rattle.std.proofs.lemmas.Bool.Decides.{nat_tests}
use Rattle.std.proofs.lemmas.Slice.Eq.{bytes_eq-Decides}
use Rattle.std.proofs.lemmas.List.Folds.{find_at}
use Rattle.std.proofs.lemmas.List.Sums.{position_or_len_is, passes_at_first}
use Rattle.std.proofs.lemmas.Option.{slice_get-get_or, slice_get_within, slice_get_past}
use Rattle.fb_schema.specs.Schema.{Name, DeclaredBody, enum_body}
use Rattle.fb_schema.specs.Schema.{DeclaredSchema, body_at, values_in}
use Rattle.fb_schema.specs.Found.{number_named}
use Rattle.fb_schema.specs.WellDeclared.{IsBody, IsDeclared}
use Rattle.fb_conform.proofs.laws.EachBodyIsDeclared.{is_body}
use Rattle.std.proofs.lemmas.Bool.{false_from_ne_true}

-- the names differ
names_differ : (S : DeclaredSchema) (t : ℕ) (body : DeclaredBody) → IsBody S t body
    → AllPairs (λ a b. a.0 ≢ b.0) (values_in body)
names_differ S t (enum_body base flags values) is = is.names
names_differ S t _ is = λ i j d before within. absurd (omega arith)

differ_at : (S : DeclaredSchema) → IsDeclared S → (t : ℕ) → AllPairs (λ a b. a.0 ≢ b.0) (values_in (body_at S t))
differ_at S declared t = by (nat_lt t (length S.types)) refl
  where
    by : (c : Bool) → nat_lt t (length S.types) ≡ c → AllPairs (λ a b. a.0 ≢ b.0) (values_in (body_at S t))
    by true test = names_differ S t (body_at S t) (is_body S declared t (ltb-true t (length S.types) test))
    by false test =
        let past : length S.types ≤ t = grind (arith, nat_tests, test) in
        rw (slice_get_past S.types t past) (λ i j d before within. absurd (omega arith))

same_value : (x y : Name × ℤ) → Some x ≡ Some y → x ≡ y
same_value x y e = cc

pair_is : (v : Name × ℤ) (name : Name) (n : ℤ) → v.0 ≡ name → v.1 ≡ n → v ≡ (name, n)
pair_is v name n text number = rw (← text, ← number) refl

-- what is found is there
found_there : (values : List (Name × ℤ)) (n : ℤ) (name : Name)
    → option_map (λ v. v.1) (find (λ v. bytes_eq name v.0) values) ≡ Some n → Contains values (name, n)
found_there values n name e = by (find (λ v. bytes_eq name v.0) values) refl e
  where
    by : (o : Option (Name × ℤ)) → find (λ v. bytes_eq name v.0) values ≡ o → option_map (λ v. v.1) o ≡ Some n
        → Contains values (name, n)
    by None is h = cc
    by (Some v) is h =
        let first = position_or_len (λ v. bytes_eq name v.0) values in
        let at : slice_get values first ≡ Some v = sym (find_at (λ v. bytes_eq name v.0) values) ∙ is in
        let within = slice_get_within values first v at in
        let there : get_or values first v ≡ v = same_value _ _ (sym (slice_get-get_or values first v within) ∙ at) in
        let passes : bytes_eq name (get_or values first v).0 ≡ true =
        passes_at_first (λ v. bytes_eq name v.0) values v within in
        let text : name ≡ v.0 = (bytes_eq-Decides name (get_or values first v).0).0 passes ∙ ap (λ x. x.0) there in
        let number : v.1 ≡ n = cc in
        rw (← pair_is v name n (sym text) number) (first, within, there)

-- what is there is found
there_found : (values : List (Name × ℤ)) → AllPairs (λ a b. a.0 ≢ b.0) values → (n : ℤ) (name : Name)
    → Contains values (name, n) → option_map (λ v. v.1) (find (λ v. bytes_eq name v.0) values) ≡ Some n
there_found values pairs n name there =
    let v : Name × ℤ = (name, n) in
    let k = there.0 in
    let at : get_or values k v ≡ v = there.2 in
    let here : bytes_eq name (get_or values k v).0 ≡ true =
    (bytes_eq-Decides name (get_or values k v).0).1 (sym (ap (λ x. x.0) at)) in
    let before : (j : ℕ) → j < k → bytes_eq name (get_or values j v).0 ≡ false =
    λ j less. false_from_ne_true (bytes_eq name (get_or values j v).0)
    (λ e. pairs j k v less there.1 (sym ((bytes_eq-Decides name (get_or values j v).0).0 e)
    ∙ sym (ap (λ x. x.0) at)))
    in
    let first : position_or_len (λ v. bytes_eq name v.0) values ≡ k =
    position_or_len_is (λ v. bytes_eq name v.0) values k v (omega (arith, there.1)) before (λ inside. here) in
    ap (option_map (λ v. v.1)) (find_at (λ v. bytes_eq name v.0) values ∙ ap (λ i. slice_get values i) first
    ∙ slice_get-get_or values k v there.1 ∙ ap Some at)

pub value_found : (S : DeclaredSchema) → IsDeclared S → (t : ℕ) (n : ℤ) (name : Name)
    → (number_named (body_at S t) name ≡ Some n) ↔ Contains (values_in (body_at S t)) (name, n)
value_found S declared t n name = (
  λ e. found_there (values_in (body_at S t)) n name e,
  λ there. there_found (values_in (body_at S t))
      (differ_at S declared t) n name there,
)
