-- Types found by their full names.
use Rattle.std.proofs.Common.{◌≡◌, ℕ, ◌<◌, Bool, true, false, cond, nat_lt, [], length, get_or, Option, None, Some}
use Rattle.std.proofs.Common.{option_and_then, slice_get, refl, sym, ap, ◌∙◌, arith}
use Rattle.std.specs.List.{position_or_len}
use Rattle.std.specs.Option.{option_map}
use Rattle.std.specs.Str.{bytes_eq}
use Rattle.std.proofs.lemmas.Bool.{ltb-true}
use Rattle.std.proofs.lemmas.List.Sums.{position_or_len_is, passes_at_first}
use Rattle.std.proofs.lemmas.Option.{slice_get-get_or, slice_get_within}
use Rattle.std.proofs.lemmas.Slice.Eq.{bytes_eq-Decides}
use Rattle.fb_schema.specs.Schema.{Name, table_body, DeclaredType, DeclaredSchema}
use Rattle.fb_schema.specs.Found.{type_named, name_at}
use Rattle.fb_schema.specs.WellDeclared.{IsDeclared}
use Rattle.fb_conform.specs.Twins.{SameName, twin, Twins}
use Rattle.std.proofs.lemmas.Bool.{false_from_ne_true}

pub blank : DeclaredType
blank = record { name = []; body = table_body [] }

if_some : (c : Bool) (m n : ℕ) → cond c (Some m) None ≡ Some n → (c ≡ true) × (m ≡ n)
if_some true m n e = (refl, cc)
if_some false m n e = cc

-- a type that is there has a name
name_there : (S : DeclaredSchema) (t : ℕ) → t < length S.types → name_at S t ≡ Some (get_or S.types t blank).name
name_there S t within = ap (option_map (λ x. x.name)) (slice_get-get_or S.types t blank within)

-- what is found is a type of that name
found_type : (S : DeclaredSchema) (name : Name) (u : ℕ) → type_named S name ≡ Some u
    → (u < length S.types) × (name_at S u ≡ Some name)
found_type S name u e =
    let test : DeclaredType → Bool = λ t. bytes_eq name t.name in
    let first = position_or_len test S.types in
    let both = if_some (nat_lt first (length S.types)) first u e in
    let within : first < length S.types = ltb-true first (length S.types) both.0 in
    let passes : bytes_eq name (get_or S.types first blank).name ≡ true = passes_at_first test S.types blank within in
    let same : (get_or S.types first blank).name ≡ name =
    sym ((bytes_eq-Decides name (get_or S.types first blank).name).0 passes) in (
      rw (← both.1) within,
      ap (λ z. name_at S z) (sym both.1) ∙ name_there S first within
          ∙ ap Some same,
    )

within_some : (m n : ℕ) → m < n → cond (nat_lt m n) (Some m) None ≡ Some m
within_some m n less = by (nat_lt m n) refl
  where
    by : (c : Bool) → nat_lt m n ≡ c → cond c (Some m) None ≡ Some m
    by true e = refl
    by false e = absurd (grind (arith, e, less))

-- each type is found by its name
name_finds : (S : DeclaredSchema) → IsDeclared S → (t : ℕ) → t < length S.types
    → type_named S (get_or S.types t blank).name ≡ Some t
name_finds S declared t within =
    let name = (get_or S.types t blank).name in
    let test : DeclaredType → Bool = λ x. bytes_eq name x.name in
    let here : test (get_or S.types t blank) ≡ true = (bytes_eq-Decides name name).1 refl in
    let before : (k : ℕ) → k < t → test (get_or S.types k blank) ≡ false =
    λ k less. false_from_ne_true (test (get_or S.types k blank))
    (λ e. declared.names k t blank less within (sym ((bytes_eq-Decides name (get_or S.types k blank).name).0 e)))
    in
    let first : position_or_len test S.types ≡ t = position_or_len_is test S.types t blank (omega arith) before
    (λ inside. here) in
    rw first (within_some t (length S.types) within)

-- a type that has an old type's name is its twin
pub named_twin : (S T : DeclaredSchema) → IsDeclared T → (t u : ℕ) → u < length T.types → SameName S T t u
    → Twins S T t u
named_twin S T declared t u within same =
    ap (option_and_then (λ name. type_named T name)) (same ∙ name_there T u within) ∙ name_finds T declared u within

-- how a twin is found
record Named (S T : DeclaredSchema) (t u : ℕ) : Type 0 where
  pub name : Name
  pub old : name_at S t ≡ Some name
  pub found : type_named T name ≡ Some u

named_by : (S T : DeclaredSchema) (t u : ℕ) → Twins S T t u → Named S T t u
named_by S T t u twins = by (name_at S t) refl twins
  where
    by : (o : Option Name) → name_at S t ≡ o → option_and_then (λ name. type_named T name) o ≡ Some u → Named S T t u
    by None at e = cc
    by (Some name) at e = record { name = name; old = at; found = e }

-- the new type has the old one's name
pub new_name : (S T : DeclaredSchema) (t u : ℕ) → Twins S T t u → name_at T u ≡ name_at S t
new_name S T t u twins = let by = named_by S T t u twins in (found_type T by.name u by.found).1 ∙ sym by.old

pub twin_within : (S T : DeclaredSchema) (t u : ℕ) → Twins S T t u → u < length T.types
twin_within S T t u twins = let by = named_by S T t u twins in (found_type T by.name u by.found).0

-- the old type is one of its schema
pub twin_declared : (S T : DeclaredSchema) (t u : ℕ) → Twins S T t u → t < length S.types
twin_declared S T t u twins = let by = named_by S T t u twins in from (slice_get S.types t) refl by.name by.old
  where
    from : (o : Option DeclaredType) → slice_get S.types t ≡ o → (name : Name) → option_map (λ x. x.name) o ≡ Some name
        → t < length S.types
    from None at name e = cc
    from (Some x) at name e = slice_get_within S.types t x at

-- a type has one twin at most
pub one_twin : (S T : DeclaredSchema) (t u w : ℕ) → Twins S T t u → Twins S T t w → u ≡ w
one_twin S T t u w first second = same u w (sym first ∙ second)
  where
    same : (m n : ℕ) → Some m ≡ Some n → m ≡ n
    same m n e = cc

-- the twin of a twin has the first one's name
pub twin_on : (S T R : DeclaredSchema) (t u : ℕ) → Twins S T t u → twin T R u ≡ twin S R t
twin_on S T R t u twins = ap (option_and_then (λ name. type_named R name)) (new_name S T t u twins)
