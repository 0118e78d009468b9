-- The first of all moved names is at the front of their list.
use Rattle.std.proofs.Common.{◌≡◌, ℕ, zero, suc, ◌<◌, inl, inr, ◌↔◌, List, [], ◌∷◌, length, get_or, AllPairs, Contains}
use Rattle.std.proofs.Common.{Some, None, slice_get, refl, arith}
use Rattle.fb_layout.specs.Laid.{LaidSchema}
use Rattle.fb_conform.specs.declared.names.MovedName.{MovedName}
use Rattle.fb_conform.specs.Names.{IsMoved, IsBefore, IsFirstMoved}

-- no name is before itself, and of two only one is before the other
not_both : (m n : MovedName) → IsBefore m n → IsBefore n m → ⊥
not_both m n one two = elim one [
  | inl less ↦ elim two [ inl more ↦ omega (arith, less, more) | inr both ↦ omega (arith, less, both.0) ]
  | inr here ↦ elim two [ inl more ↦ omega (arith, here.0, more) | inr both ↦ omega (arith, here.1, both.1) ]
]

module _ (A B : LaidSchema) where
  pub first_moved : (xs : List MovedName) (m : MovedName)
      → ((n : MovedName) → Contains xs n ↔ IsMoved A B n) → AllPairs IsBefore xs → slice_get xs 0 ≡ Some m
      → IsFirstMoved A B m
  first_moved [] m all order e = absurd cc
  first_moved (x ∷ xs) m all order e =
      let same : x ≡ m = cc in
      rw (← same) (record {
        moved = (all x).0 (0, omega arith, refl);
        first = λ n before moved. none n before
            ((all n).1 moved);
      })
    where
      none : (n : MovedName) → IsBefore n x → Contains (x ∷ xs) n → ⊥
      none n before there = by there.0 there.1 there.2
        where
          by : (k : ℕ) → k < length (x ∷ xs) → get_or (x ∷ xs) k n ≡ n → ⊥
          by zero within same =
              let here = rw same at before in not_both n n here here
          by (suc k) within same =
              not_both n x before
              (rw (← same) (order 0 (suc k) n (omega arith) within))

  pub none_moved : (xs : List MovedName) → ((n : MovedName) → Contains xs n ↔ IsMoved A B n)
      → slice_get xs 0 ≡ None → (m : MovedName) → IsMoved A B m → ⊥
  none_moved [] all e m moved = let there = (all m).1 moved in omega (arith, there.1)
  none_moved (x ∷ xs) all e m moved = cc
