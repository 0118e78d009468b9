use Rattle.std.proofs.Common.{◌∙◌, ◌≡◌, ◌≢◌, ◌==◌, ◌&&◌, None, Some, get_or, if◌then◌else◌, sym, ap, rules}
use Rattle.std.proofs.lemmas.Bool.Decides.{Decides-and, Decides-eqb}
use Rattle.fb_resolve.specs.Maps.{value_in}
use Rattle.fb_resolve.specs.NamedTypes.{type_at}
use Rattle.fb_resolve.proofs.namespaces.NamedTypesKept.{map_read, top-read, other-top, newly-noted, noted-before}
use Rattle.fb_resolve.proofs.namespaces.named_types.NamedTypes.note.Goals as goal

pub get-requires : goal.get-requires
get-requires c = map_read c.args.self.now c.requires.maps c.args.path c.index-top.result.now c.requires.path
    c.index-top.ensures

pub insert-requires-clause-map : goal.insert-requires-clause-map
insert-requires-clause-map c = map_read c.args.self.now c.requires.maps c.args.path c.index-top.result.now c.requires.path
    c.index-top.ensures

pub returns-in_ok-self-clause-noted : goal.returns-in_ok-self-clause-noted
unfolding type_at
returns-in_ok-self-clause-noted c = λ p n.
    let t = c.args.self.now in
    let tops = t.tops.items in
    let path = c.args.path in
    let name = c.args.name in
    let number = c.args.number in
    let top = top-read tops path c.index-top.result.now c.requires.path c.index-top.ensures in
    let none : value_in t.maps c.index-top.result.now name ≡ None = sym c.get.ensures ∙ search rules in
    other-top t.maps c.insert.new.self tops path c.in_ok-self.field-0 c.requires.path c.in_ok-self.ensures.kept
    c.requires.maps.tops (λ k. if k == name then Some number else value_in t.maps c.index-top.result.now k)
    c.in_ok-self.ensures.entries p n
    ∙ newly-noted (value_in t.maps c.index-top.result.now n) (value_in t.maps (get_or tops p 0) n) (p == path)
    (n == name) number
    (λ h. ap (λ m. value_in t.maps m n) (top ∙ ap (λ q. get_or tops q 0) (sym ((Decides-eqb p path).0 h))))
    (λ h. ap (value_in t.maps c.index-top.result.now) ((Decides-eqb n name).0 h) ∙ none)

pub returns-else-is_none-clause-noted : goal.returns-else-is_none-clause-noted
unfolding type_at
returns-else-is_none-clause-noted c = λ p n.
    let t = c.args.self.now in
    let top = top-read t.tops.items c.args.path c.index-top.result.now c.requires.path
    c.index-top.ensures in
    let some : value_in t.maps c.index-top.result.now c.args.name ≢ None = λ none. search rules in
    noted-before (value_in t.maps (get_or t.tops.items p 0) n) (Some c.args.number)
    (p == c.args.path && n == c.args.name) (λ h none.
    let here = (Decides-and (p == c.args.path) (n == c.args.name) (Decides-eqb p c.args.path)
    (Decides-eqb n c.args.name)).0 h in
    some (ap (λ m. value_in t.maps m c.args.name) (top ∙ ap (λ q. get_or t.tops.items q 0) (sym here.0))
    ∙ ap (value_in t.maps (get_or t.tops.items p 0)) (sym here.1) ∙ none))
