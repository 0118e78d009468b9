-- Of two paths one comes before the other, unless they are the same.
use Rattle.std.proofs.Common.{◌≡◌, ◌<◌, ◌⊎◌, inl, inr, [], ◌∷◌, refl, sym}
use Rattle.std.proofs.lemmas.Bool.{cases_order}
use Rattle.fb_value.specs.Reached.{Path, ComesBefore}

pub same_path : (p q : Path) → (ComesBefore p q → ⊥) → (ComesBefore q p → ⊥) → p ≡ q
same_path [] [] n m = refl
same_path [] (k ∷ ks) n m = absurd (n tt)
same_path (j ∷ js) [] n m = absurd (m tt)
same_path (j ∷ js) (k ∷ ks) n m =
    by_case (cases_order j k) (λ same. same_path js ks (λ h. n (inr (same, h))) (λ h. m (inr (sym same, h))))
  where
    by_case : (j ≡ k) ⊎ ((j < k) ⊎ (k < j)) → (j ≡ k → js ≡ ks) → (j ∷ js) ≡ (k ∷ ks)
    by_case (inr (inl less)) rest = absurd (n (inl less))
    by_case (inr (inr more)) rest = absurd (m (inl more))
    by_case (inl same) rest = rw (same, rest same) refl
