use Rattle.std.proofs.Common.{◌≡◌, ◌∙◌, ℕ, get_or, sym, ap, subst, arith}
use Rattle.fb_resolve.specs.Maps.{value_in, IsMap}
use Rattle.fb_resolve.specs.NamedTypes.{type_at}
use Rattle.fb_resolve.proofs.namespaces.NamedTypesKept.{first-top}
use Rattle.fb_resolve.proofs.namespaces.named_types.NamedTypes.new.Goals as goal

pub returns-clause-room : goal.returns-clause-room
returns-clause-room c =
    let items = c.in_ok-tops.ensures.items_if_clones_equal (λ y h. h) in
    let top : (path : ℕ) → get_or c.in_ok-tops.tops.items path 0 ≡ 0 = λ path.
    ap (λ xs. get_or xs path 0) items ∙ first-top c.args.paths path in
    record {
      maps = record {
        maps = c.in_ok-maps.ensures.maps;
        tops = λ path. subst (IsMap c.in_ok-maps.maps) (sym (top path)) c.in_ok-maps.ensures.map;
      };
      path = omega (arith, c.in_ok-tops.tops.ok.0, c.in_ok-tops.ensures.len);
      name = c.in_ok-maps.ensures.room;
    }

pub returns-clause-empty : goal.returns-clause-empty
unfolding type_at
returns-clause-empty c = λ p n.
    let items = c.in_ok-tops.ensures.items_if_clones_equal (λ y h. h) in
    ap (λ xs. value_in c.in_ok-maps.maps (get_or xs p 0) n) items
    ∙ ap (λ m. value_in c.in_ok-maps.maps m n) (first-top c.args.paths p)
    ∙ c.in_ok-maps.ensures.empty n
