use Rattle.std.proofs.Common.{◌≡◌, ℕ, zero, suc, ◌+◌, [], ◌∷◌, ◌++◌, ap, sym, ◌∙◌, arith}
use Rattle.std.specs.List.{range_with_len}
use Rattle.fb_schema.proofs.number_index.places_of.Goals as goal

range_more : (a n j : ℕ) → a + n ≡ j → range_with_len a (suc n) ≡ range_with_len a n ++ j ∷ []
range_more a zero j e = let same : a ≡ j = omega (arith, e) in ap (λ k. k ∷ []) same
range_more a (suc n) j e = ap (λ ks. a ∷ ks) (range_more (a + 1) n j (omega (arith, e)))

pub loop-place-preserved : goal.loop-place-preserved
loop-place-preserved c =
    let next : c.loop-place.place + 1 ≡ suc c.loop-place.place = omega arith in
    c.in_ok-push.ensures.items ∙ (ap (λ ks. ks ++ c.loop-place.place ∷ []) c.loop-place.invariant
    ∙ (sym (range_more 0 c.loop-place.place c.loop-place.place (omega arith)) ∙ ap (range_with_len 0) (sym next)))
