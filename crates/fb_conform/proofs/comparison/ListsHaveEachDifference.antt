-- What a list has at the walk's end: each difference that is wanted, in order.
use Rattle.std.proofs.Common.{◌≡◌, ◌<◌, ◌↔◌, Bool, true, inl, inr, List, length, map, get_or, Contains, AllPairs}
use Rattle.std.proofs.Common.{sym, ap, ◌∙◌, arith}
use Rattle.std.proofs.lemmas.List.{length-map, get_or-map}
use Rattle.fb_layout.specs.Laid.{LaidSchema}
use Rattle.fb_conform.specs.declared.difference.Difference.{Difference}
use Rattle.fb_conform.specs.declared.difference.Difference.TheVariants.{Breach as Broken, Moved}
use Rattle.fb_conform.specs.Differences.{Differs, ComesBefore}
use Rattle.fb_conform.specs.Listed.{Same, Lists, IsAny}

module _ (A B : LaidSchema) (wants : Difference → Bool) where
  not_same : (d : Difference) → Differs A B d → Same A B d → ⊥
  not_same (Broken b) stands kept = stands kept
  not_same (Moved m) moved none = none moved

  pub each_listed : (xs : List Difference) → Lists A B wants IsAny xs → (d : Difference) → wants d ≡ true
      → Contains xs d ↔ Differs A B d
  each_listed xs listed d wanted = (
    listed.differs d,
    λ differs. elim (listed.all d tt) [
      | inl there ↦ there
      | inr miss ↦ absurd (not_same d differs (miss wanted))
    ],
  )

  -- a list of breaches alone, or of names
  module _ {X : Type 0} (f : X → Difference) (xs : List X) (listed : Lists A B wants IsAny (map f xs)) where
    pub all_listed : (x : X) → wants (f x) ≡ true → ((y : X) → f y ≡ f x → y ≡ x) → Contains xs x ↔ Differs A B (f x)
    all_listed x wanted one =
        let each = each_listed (map f xs) listed (f x) wanted in (
          λ there. each.0 (
            there.0,
            rw (length-map xs f) there.1,
            get_or-map f xs there.0 x (f x) there.1 ∙ ap f there.2,
          ),
          λ differs.
              let there = each.1 differs in
              let within : there.0 < length xs = rw (← length-map xs f) there.1 in (
                there.0,
                within,
                one (get_or xs there.0 x)
                    (sym (get_or-map f xs there.0 x (f x) within) ∙ there.2),
              ),
        )

    pub in_order : AllPairs (λ x y. ComesBefore (f x) (f y)) xs
    in_order i j d less within =
        let first = get_or-map f xs i d (f d) (omega (arith, less, within)) in
        let second = get_or-map f xs j d (f d) within in
        rw (first, second) at (listed.order i j (f d) less (rw (length-map xs f) within))
