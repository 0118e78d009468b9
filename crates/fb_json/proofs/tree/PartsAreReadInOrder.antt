-- Parts are read one after another, up to the first that is refused.
use Rattle.std.proofs.Common.{◌≡◌, ◌∙◌, ℕ, zero, suc, ◌+◌, List, [], ◌∷◌, take, Some}
use Rattle.std.proofs.Common.{slice_get, Result, Ok, Err, refl, ap, arith}
use Rattle.fb_json.specs.declared.faults.JsonFault.{JsonFault}
use Rattle.fb_json.specs.Outcome.{◌>>=◌}
use Rattle.fb_json.specs.FaultPaths.{read_all}

module _ {A S : Type 0} (reader : ℕ → A → S → Result S JsonFault) where
  step : (r : Result S JsonFault) (m : S) (go : S → Result S JsonFault) → r ≡ Ok m → (r >>= go) ≡ go m
  step (Ok x) m go e = let is : x ≡ m = cc in ap go is
  step (Err f) m go e = cc

  -- what was read first, of what was read in order
  first_read : (r : Result S JsonFault) (m : S) (go : S → Result S JsonFault) → (r >>= go) ≡ Ok m
      → (n : S) × (r ≡ Ok n) × (go n ≡ Ok m)
  first_read (Ok x) m go e = (x, refl, e)
  first_read (Err f) m go e = cc

  -- one part more
  more : (j k : ℕ) (xs : List A) (x : A) (s m n : S) → slice_get xs k ≡ Some x → read_all reader j (take k xs) s ≡ Ok m
      → reader (j + k) x m ≡ Ok n → read_all reader j (take (suc k) xs) s ≡ Ok n
  more j k [] x s m n there before here = cc
  more j zero (y ∷ xs) x s m n there before here =
      let is : y ≡ x = cc in
      let start : s ≡ m = cc in
      let at : j + 0 ≡ j = omega arith in
      step (reader j y s) n (λ next. Ok next) (rw (is, start) (rw at at here))
  more j (suc k) (y ∷ xs) x s m n there before here =
      let one = first_read (reader j y s) m (λ next. read_all reader (j + 1) (take k xs) next) before in
      let at : j + suc k ≡ (j + 1) + k = omega arith in
      step (reader j y s) one.0 (λ next. read_all reader (j + 1) (take (suc k) xs) next) one.1
      ∙ more (j + 1) k xs x one.0 m n there one.2 (rw at at here)

  pub read_next : (k : ℕ) (xs : List A) (x : A) (s m n : S) → slice_get xs k ≡ Some x
      → read_all reader 0 (take k xs) s ≡ Ok m → reader k x m ≡ Ok n → read_all reader 0 (take (k + 1) xs) s ≡ Ok n
  read_next k xs x s m n there before here =
      let at : 0 + k ≡ k = omega arith in
      let one : k + 1 ≡ suc k = omega arith in
      rw one (more 0 k xs x s m n there before (rw at here))
