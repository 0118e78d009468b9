use Rattle.std.proofs.Common.{rules, ◌≡◌, ℕ, String, Global, ℤ, List, map, get_or, pos, int_cmp, ap, subst, refl, ◌∙◌}
use Rattle.std.specs.Ordering.{is_lt}
use Rattle.std.specs.List.Sorted.{IsPermutation}
use Rattle.std.proofs.lemmas.Cmp.{int_cmp_total}
use Rattle.std.proofs.lemmas.Fn.{always_returns_same}
use Rattle.std.proofs.lemmas.List.{length-map}
use Rattle.std.proofs.lemmas.List.Sorted.{ranks_by}
use Rattle.fb_schema.proofs.number_index.places_in_order.Goals as goal

pub returns : goal.returns
returns c =
    let number = λ (v : String Global × ℤ). v.1 in
    let numbers : List ℤ = map number c.args.values.now in
    let key = λ (p : ℕ). get_or numbers p (pos 0) in
    record {
      all = subst (λ ps. IsPermutation ps c.sort_by.new.self.items)
          (c.in_ok-places.ensures ∙ rw (length-map c.args.values.now number) refl) c.sort_by.ensures.permutation;
      ascending = c.in_ok-sort_by.ensures.sorted (λ a b. is_lt (int_cmp (key a) (key b))) (ranks_by int_cmp_total key)
          (always_returns_same _ _ _ (λ a r q k. let is : r ≡ int_cmp (key a.0.now) (key a.1.0.now) = search rules in
          (ap is_lt is, search rules)));
    }
