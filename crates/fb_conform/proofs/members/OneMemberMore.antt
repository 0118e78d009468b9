-- The values of enums, and the members of unions, one after another.
use Rattle.std.proofs.Common.{◌≡◌, ℕ, zero, suc, ◌+◌, ◌<◌, ◌≤◌, Bool, true, false, nat_lt, List, length, get_or, All}
use Rattle.std.proofs.Common.{Contains, ℤ, Option, None, Some, slice_get, option_map, refl, sym, ap, ◌∙◌, arith}
use Rattle.std.proofs.lemmas.Bool.{ltb-true}
use Rattle.std.proofs.lemmas.Bool.Decides.{nat_tests}
use Rattle.std.proofs.lemmas.Option.{slice_get-get_or, slice_get_within}
use Rattle.fb_schema.specs.Schema.{Name, DeclaredBody, union_body, DeclaredSchema}
use Rattle.fb_schema.specs.Found.{member_coded}
use Rattle.fb_conform.specs.Conforms.{CodeKept}
use Rattle.fb_conform.proofs.laws.SlotsNameTheSamePlaces.{same_number}

-- the values below a number are there
abbrev pub ValuesThere : List (Name × ℤ) → List (Name × ℤ) → ℕ → Type 0
ValuesThere others values n = (k : ℕ) (v : Name × ℤ) → k < n → slice_get values k ≡ Some v → Contains others v

same_value : (x y : Name × ℤ) → Some x ≡ Some y → x ≡ y
same_value x y e = cc

pub there_more : (others values : List (Name × ℤ)) (i : ℕ) (x : Name × ℤ) → slice_get values i ≡ Some x
    → Contains others x → ValuesThere others values i → ValuesThere others values (i + 1)
there_more others values i x at here before k v less e = by (nat_lt k i) refl
  where
    by : (c : Bool) → nat_lt k i ≡ c → Contains others v
    by true test = before k v (ltb-true k i test) e
    by false test =
        let last : k ≡ i = grind (arith, nat_tests, test, less) in
        let same : x ≡ v = same_value x v (sym at ∙ rw (← last) e) in
        rw (← same) here

pub there_all : (others values : List (Name × ℤ)) (n : ℕ) → length values ≤ n → ValuesThere others values n
    → All (Contains others) values
there_all others values n past there k d within =
    there k (get_or values k d) (omega arith) (slice_get-get_or values k d within)

pub there_each : (others values : List (Name × ℤ)) (i : ℕ) (x : Name × ℤ) → slice_get values i ≡ Some x
    → All (Contains others) values → Contains others x
there_each others values i x at all =
    let within = slice_get_within values i x at in
    rw (← same_value (get_or values i x) x (sym (slice_get-get_or values i x within) ∙ at)) (all i x within)

-- the codes up to a number keep their tables
abbrev pub CodesKept : DeclaredSchema → DeclaredSchema → List (Name × ℕ) → DeclaredBody → ℕ → Type 0
CodesKept S T members body n = (c t : ℕ) → c ≤ n → member_coded (union_body members) c ≡ Some t → CodeKept S T body c t

member_at : (members : List (Name × ℕ)) (i : ℕ) (m : Name × ℕ) → slice_get members i ≡ Some m
    → member_coded (union_body members) (i + 1) ≡ Some m.1
member_at members i m at =
    let next : suc i ≡ i + 1 = omega arith in
    rw (← next) (ap (option_map (λ x. x.1)) at)

pub kept_more : (S T : DeclaredSchema) (members : List (Name × ℕ)) (body : DeclaredBody) (i : ℕ) (m : Name × ℕ)
    → slice_get members i ≡ Some m → CodeKept S T body (i + 1) m.1 → CodesKept S T members body i
    → CodesKept S T members body (i + 1)
kept_more S T members body i m at here before c t few e = by (nat_lt i c) refl
  where
    by : (b : Bool) → nat_lt i c ≡ b → CodeKept S T body c t
    by false test = before c t (grind (arith, nat_tests, test)) e
    by true test =
        let last : c ≡ i + 1 = grind (arith, nat_tests, test, few) in
        let same : m.1 ≡ t =
        same_number m.1 t (sym (member_at members i m at)
        ∙ rw (← last) e) in
        rw last (rw (← same) here)

code_within : (members : List (Name × ℕ)) (c t : ℕ) → member_coded (union_body members) c ≡ Some t → c ≤ length members
code_within members zero t e = omega arith
code_within members (suc k) t e = by (slice_get members k) refl e
  where
    by : (o : Option (Name × ℕ)) → slice_get members k ≡ o → option_map (λ x. x.1) o ≡ Some t → suc k ≤ length members
    by None at h = cc
    by (Some m) at h = let within = slice_get_within members k m at in omega arith

pub kept_all : (S T : DeclaredSchema) (members : List (Name × ℕ)) (body : DeclaredBody) (n : ℕ) → length members ≤ n
    → CodesKept S T members body n → (c t : ℕ) → member_coded (union_body members) c ≡ Some t → CodeKept S T body c t
kept_all S T members body n past kept c t e = let within = code_within members c t e in kept c t (omega arith) e

pub kept_each : (S T : DeclaredSchema) (members : List (Name × ℕ)) (body : DeclaredBody) (i : ℕ) (m : Name × ℕ)
    → slice_get members i ≡ Some m → ((c t : ℕ) → member_coded (union_body members) c ≡ Some t → CodeKept S T body c t)
    → CodeKept S T body (i + 1) m.1
kept_each S T members body i m at kept = kept (i + 1) m.1 (member_at members i m at)
