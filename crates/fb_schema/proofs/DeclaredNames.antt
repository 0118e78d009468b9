-- In a declared schema no name and no number stands twice where an index lists it.
use Rattle.std.proofs.Common.{◌≢◌, ℕ, ◌<◌, List, [], ◌∷◌, length, map, get_or, All, AllPairs, arith}
use Rattle.std.proofs.lemmas.List.{get_or-map, length-map}
use Rattle.std.proofs.lemmas.Option.{slice_get-get_or}
use Rattle.fb_schema.specs.Schema.{DeclaredBody, table_body, struct_body, enum_body, union_body, DeclaredSchema}
use Rattle.fb_schema.specs.WellDeclared.{IsBody, IsDeclared}
use Rattle.fb_schema.specs.Indexed.{HasNoRepeats}

-- keys that differ pairwise are a list of different keys
pub keys_differ : {X K : Type 0} (key : X → K) (xs : List X) → AllPairs (λ a b. key a ≢ key b) xs
    → AllPairs (λ a b. a ≢ b) (map key xs)
keys_differ key [] pairs i j d before within = absurd (omega arith)
keys_differ key (x ∷ xs) pairs i j d before within =
    let inside : j < length (x ∷ xs) = omega (arith, length-map (x ∷ xs) key) in
    rw (get_or-map key (x ∷ xs) i x d (omega arith), get_or-map key (x ∷ xs) j x d inside) (pairs i j x before inside)

pub none_twice : {K : Type 0} → AllPairs {X = K} (λ a b. a ≢ b) []
none_twice i j d before within = absurd (omega arith)

pub no_repeats : (S : DeclaredSchema) (t : ℕ) (body : DeclaredBody) → IsBody S t body → HasNoRepeats body
no_repeats S t (table_body fs) is = record { names = is.names; numbers = none_twice }
no_repeats S t (struct_body fs align) is = record { names = is.names; numbers = none_twice }
no_repeats S t (enum_body base flags values) is =
    record { names = keys_differ (λ v. v.0) values is.names; numbers = keys_differ (λ v. v.1) values is.numbers }
no_repeats S t (union_body members) is = record
    { names = keys_differ (λ m. m.0) members is.names; numbers = none_twice }

pub without_repeats : (S : DeclaredSchema) → IsDeclared S → All (λ t. HasNoRepeats t.body) S.types
without_repeats S declared k d within =
    no_repeats S k (get_or S.types k d).body (declared.bodies k (get_or S.types k d)
    (slice_get-get_or S.types k d within))
