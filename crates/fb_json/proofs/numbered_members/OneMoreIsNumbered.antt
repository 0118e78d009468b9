-- Where one more is found, the numbers of the others stand for what they stood for.
use Rattle.std.proofs.Common.{◌≡◌, ◌∙◌, ◌≤◌, ◌<◌, ◌++◌, ℕ, zero, suc, List, [], ◌∷◌, Some, None, All, length, map, set}
use Rattle.std.proofs.Common.{slice_get, replicate, arith, refl, ap}
use Rattle.std.proofs.lemmas.List.{map-set}
use Rattle.std.proofs.lemmas.List.Elements.{All-head, All-tail}
use Rattle.fb_json.specs.SlotMembers.{numbered}
use Rattle.fb_schema.proofs.LastEntry.{entry_last}

-- no number yet
pub none_numbered : {X : Type 0} (found : List X) (n : ℕ)
    → map (numbered found) (replicate n 0) ≡ replicate n None
none_numbered found zero = refl
none_numbered found (suc n) = ap (λ os. None ∷ os) (none_numbered found n)

others_there : {X : Type 0} (xs : List X) (x : X) (k : ℕ) → k < length xs
    → slice_get (xs ++ x ∷ []) k ≡ slice_get xs k
others_there [] x k within = absurd (omega (arith, within))
others_there (y ∷ ys) x zero within = refl
others_there (y ∷ ys) x (suc k) within = others_there ys x k (omega (arith, within))

module _ {X : Type 0} (found : List X) (x : X) where
  others_stay : (numbers : List ℕ) → All (λ n. n ≤ length found) numbers
      → map (numbered (found ++ x ∷ [])) numbers ≡ map (numbered found) numbers
  others_stay [] within = refl
  others_stay (n ∷ ns) within =
      ap (λ o. o ∷ map (numbered (found ++ x ∷ [])) ns) (one n (All-head (λ k. k ≤ length found) n ns within))
      ∙ ap (λ os. numbered found n ∷ os) (others_stay ns (All-tail (λ k. k ≤ length found) n ns within))
    where
      one : (k : ℕ) → k ≤ length found → numbered (found ++ x ∷ []) k ≡ numbered found k
      one zero is = refl
      one (suc k) is = others_there found x k is

  pub one_more : (numbers : List ℕ) → All (λ n. n ≤ length found) numbers → (k : ℕ)
      → map (numbered (found ++ x ∷ [])) (set numbers k (suc (length found)))
      ≡ set (map (numbered found) numbers) k (Some x)
  one_more numbers within k =
      map-set (numbered (found ++ x ∷ [])) numbers k (suc (length found))
      ∙ (ap (set (map (numbered (found ++ x ∷ [])) numbers) k) (entry_last found x)
      ∙ ap (λ os. set os k (Some x)) (others_stay numbers within))
