-- A number that a text names in an enum is in the range of its underlying type.
use Rattle.std.proofs.Common.{◌≡◌, ℕ, suc, ◌<◌, ◌≤◌, ◌^◌, ◌*◌, Bool, true, false, List, [], ◌∷◌, Option, Some, None}
use Rattle.std.proofs.Common.{All, IsTrue, bytes_eq, ℤ, slice_get, bit_or, refl, ap, subst, arith, lit<}
use Rattle.std.specs.Prelude.{pos, find, if◌then◌else◌}
use Rattle.std.specs.Option.{option_map, option_and_then}
use Rattle.std.specs.Int.{int_bit_or, w128}
use Rattle.std.proofs.lemmas.Int.{ints, to_z_pos}
use Rattle.std.proofs.Math.Pow.{pow-lt}
use Rattle.std.proofs.Math.Nat.{pow-le-pow_right}
use Rattle.std.proofs.lemmas.Nat.{or_lt, pow_pos}
use Rattle.fb_schema.specs.declared.kinds.Base.{Base}
use Rattle.fb_schema.specs.declared.kinds.Base.TheVariants.{Bool as Boolean, I8, U8, I16, U16, I32, U32, I64, U64}
use Rattle.fb_schema.specs.Alignments.{base_size}
use Rattle.fb_schema.specs.Schema.{Name, DeclaredBody, table_body, enum_body, DeclaredType}
use Rattle.fb_schema.specs.Schema.{DeclaredSchema, body_in, body_at, base_in}
use Rattle.fb_schema.specs.WellDeclared.{InRange, IsFlag, is_unsigned, IsBody, IsDeclared}
use Rattle.fb_schema.specs.Found.{name_at, number_named}
use Rattle.fb_schema.specs.Paths.{name_in_path, number_by_path}
use Rattle.fb_json.specs.Flags.{has_flags, flags_named, words, number_told}

found_keeps : {X : Type 0} (P : X → Type 0) (p : X → Bool) (xs : List X) → All P xs → (v : X) → find p xs ≡ Some v → P v
found_keeps P p [] all v e = cc
found_keeps {X} P p (x ∷ xs) all v e = by (found_keeps P p xs (λ k d h. all (suc k) d (omega arith)) v) (p x) refl
  where
    by : (find p xs ≡ Some v → P v) → (b : Bool) → p x ≡ b → P v
    by behind true is =
        let here : find p (x ∷ xs) ≡ Some x = rw is refl in
        let same : x ≡ v = cc in
        subst P same (all 0 x (omega arith))
    by behind false is =
        let there : find p (x ∷ xs) ≡ find p xs = rw is refl in
        let later : find p xs ≡ Some v = cc in
        behind later

-- what holds of each number of an enum's values holds of one that is named
named_keeps : (P : ℤ → Type 0) (values : List (Name × ℤ)) → All (λ v. P v.1) values → (name : Name) (n : ℤ)
    → option_map (λ v. v.1) (find (λ v. bytes_eq name v.0) values) ≡ Some n → P n
named_keeps P values all name n e = by (find (λ v. bytes_eq name v.0) values) refl
  where
    by : (o : Option (Name × ℤ)) → find (λ v. bytes_eq name v.0) values ≡ o → P n
    by None is =
        let none : ◌≡◌ {A = Option ℤ} None (Some n) = rw is at e in
        cc
    by (Some v) is =
        let some : ◌≡◌ {A = Option ℤ} (Some v.1) (Some n) = rw is at e in
        let same : v.1 ≡ n = cc in
        subst P same (found_keeps (λ w. P w.1) (λ w. bytes_eq name w.0) values all v is)

and_then_some : {A B : Type 0} (f : A → Option B) (o : Option A) (y : B) → option_and_then f o ≡ Some y
    → (x : A) × (o ≡ Some x) × (f x ≡ Some y)
and_then_some f None y e = cc
and_then_some f (Some x) y e = (x, refl, e)

-- a path that names a number does so by a name
named_by_path : (S : DeclaredSchema) (e : ℕ) (path : Name) (n : ℤ) → number_by_path S e path ≡ Some n
    → (name : Name) × (number_named (body_at S e) name ≡ Some n)
named_by_path S e path n h =
    let full = and_then_some (λ full. option_and_then (number_named (body_at S e)) (name_in_path full path))
    (name_at S e) n h in
    let name = and_then_some (number_named (body_at S e)) (name_in_path full.0 path) n full.2 in
    (name.0, name.2)

body_in_range : (S : DeclaredSchema) (t : ℕ) (body : DeclaredBody) → IsBody S t body → (name : Name) (n : ℤ)
    → number_named body name ≡ Some n → InRange (base_in body) n
body_in_range S t (enum_body base flags values) is name n e = named_keeps (InRange base) values is.ranges name n e
body_in_range S t _ is name n e = cc

body_flags : (S : DeclaredSchema) (t : ℕ) (body : DeclaredBody) → IsBody S t body → has_flags body ≡ true
    → IsTrue (is_unsigned (base_in body))
    × ((name : Name) (n : ℤ) → number_named body name ≡ Some n → IsFlag (base_in body) n)
body_flags S t (enum_body base true values) is flagged =
    ((is.bits refl).0, λ name n e. named_keeps (IsFlag base) values (is.bits refl).1 name n e)
body_flags S t _ is flagged = cc

-- flags stay below the number of bits
flags_below : (bits : ℕ) (flag : Name → Option ℤ) → bits ≤ 64
    → ((name : Name) (n : ℤ) → flag name ≡ Some n → (k : ℕ) × (k < bits) × (n ≡ pos (2 ^ k)))
    → (ws : List Name) (so_far : ℕ) (n : ℤ) → so_far < 2 ^ bits → flags_named flag (pos so_far) ws ≡ Some n
    → (m : ℕ) × (n ≡ pos m) × (m < 2 ^ bits)
flags_below bits flag few one [] so_far n small e =
    let same : n ≡ pos so_far = cc in
    (so_far, same, small)
flags_below bits flag few one (w ∷ ws) so_far n small e =
    let taken = and_then_some (λ (x : ℤ). flags_named flag (int_bit_or w128 (pos so_far) x) ws) (flag w) n e in
    let bit = one w taken.0 taken.1 in
    let below : 2 ^ bit.0 < 2 ^ bits = pow-lt bit.1 in
    let joined = or_lt bits so_far (2 ^ bit.0) small below in
    let big : 2 ^ 64 < 2 ^ 127 = lit< tt in
    let low : bit_or so_far (2 ^ bit.0) < 2 ^ 127 =
    omega (arith, joined, pow-le-pow_right {n = 2} (omega arith) few, big) in
    let more : flags_named flag (pos (bit_or so_far (2 ^ bit.0))) ws ≡ Some n =
    rw (bit.2, to_z_pos w128 (bit_or so_far (2 ^ bit.0)) low) at taken.2 in
    flags_below bits flag few one ws (bit_or so_far (2 ^ bit.0)) n joined more

unsigned_range : (base : Base) (m : ℕ) → IsTrue (is_unsigned base) → m < 2 ^ (8 * base_size base) → InRange base (pos m)
unsigned_range U8 m is small = (grind (arith, ints), grind (arith, ints, small))
unsigned_range U16 m is small = (grind (arith, ints), grind (arith, ints, small))
unsigned_range U32 m is small = (grind (arith, ints), grind (arith, ints, small))
unsigned_range U64 m is small = (grind (arith, ints), grind (arith, ints, small))
unsigned_range _ m is small = cc

few_bits : (base : Base) → 8 * base_size base ≤ 64
few_bits Boolean = omega arith
few_bits I8 = omega arith
few_bits U8 = omega arith
few_bits I16 = omega arith
few_bits U16 = omega arith
few_bits I32 = omega arith
few_bits U32 = omega arith
few_bits I64 = omega arith
few_bits U64 = omega arith

module _ (S : DeclaredSchema) (e : ℕ) (text : List ℕ) (n : ℤ) where
  told_by : (flagged : Bool) (body : DeclaredBody) → body_at S e ≡ body → IsBody S e body → has_flags body ≡ flagged
      → (if flagged then flags_named (number_by_path S e) (pos 0) (words text) else number_by_path S e text) ≡ Some n
      → InRange (base_in body) n
  told_by false body is kept flagged h =
      let named = named_by_path S e text n h in
      body_in_range S e body kept named.0 n (rw is at named.1)
  told_by true body is kept flagged h =
      let facts = body_flags S e body kept flagged in
      let one : (name : Name) (x : ℤ) → number_by_path S e name ≡ Some x → IsFlag (base_in body) x = λ name x found.
      (let named = named_by_path S e name x found in
      facts.1 named.0 x (rw is at named.1)) in
      let zero_small : 0 < 2 ^ (8 * base_size (base_in body)) = pow_pos (8 * base_size (base_in body)) in
      let below = flags_below (8 * base_size (base_in body)) (number_by_path S e) (few_bits (base_in body)) one
      (words text) 0 n zero_small h in
      rw below.1 (unsigned_range (base_in body) below.0 facts.0 below.2)

  by_type : (o : Option DeclaredType) → IsDeclared S → slice_get S.types e ≡ o
      → (if has_flags (body_in o) then flags_named (number_by_path S e) (pos 0) (words text) else number_by_path S e
      text) ≡ Some n → InRange (base_in (body_in o)) n
  by_type None declared is h =
      let named = named_by_path S e text n h in
      let body : body_at S e ≡ table_body [] = ap body_in is in
      let none : number_named (table_body []) named.0 ≡ Some n = rw body at named.1 in
      cc
  by_type (Some type) declared is h =
      told_by (has_flags type.body) type.body (ap body_in is) (declared.bodies e type is) refl h

  pub told_in_range : IsDeclared S → number_told S e text ≡ Some n → InRange (base_in (body_at S e)) n
  unfolding number_told
  told_in_range declared h = by_type (slice_get S.types e) declared refl h
