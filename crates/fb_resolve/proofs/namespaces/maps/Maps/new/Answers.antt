use Rattle.std.proofs.Common.{ℕ, ◌≡◌, ◌≤◌, ◌<◌, ◌-◌, ◌^◌, ◌++◌, ◌∷◌, [], ◌∙◌, List, Some, slice_get, ap, arith}
use Rattle.std.proofs.lemmas.Nat.{leading_length}
use Rattle.std.specs.Int.Count.{count_leading_zeros}
use Rattle.fb_resolve.specs.declared.namespaces.maps.Fork.{Fork}
use Rattle.fb_resolve.specs.Maps.{empty_fork, value_of}
use Rattle.fb_resolve.proofs.namespaces.MapsKept.{empty-map, empty-leaf}
use Rattle.fb_resolve.proofs.namespaces.maps.Maps.new.Goals as goal

room : (keys last : ℕ) → last ≡ keys - 1 → last < 2 ^ 64 → keys ≤ 2 ^ (64 - count_leading_zeros 64 last)
room keys last e h =
    let length = leading_length 64 last h in
    let same : length.0 ≡ 64 - count_leading_zeros 64 last = omega (arith, length.1) in
    rw (← same) (omega (arith, length.2))

first : (before after : List Fork) → before ≡ []
    → after ≡ before ++ empty_fork ∷ [] → slice_get after 0 ≡ Some empty_fork
first before after none e = ap (λ xs. slice_get xs 0) (e ∙ ap (λ xs. xs ++ empty_fork ∷ []) none)

pub returns-clause-room : goal.returns-clause-room
returns-clause-room c = room c.args.keys c.saturating_sub.result c.saturating_sub.ensures c.saturating_sub.type_inv

pub returns-clause-map : goal.returns-clause-map
returns-clause-map c =
    let height = 64 - count_leading_zeros 64 c.saturating_sub.result in
    let forks = c.push.new.self.items in
    empty-map forks (first _ forks c.in_ok-forks.ensures.items c.in_ok-push.ensures.items) height

pub returns-clause-empty : goal.returns-clause-empty
returns-clause-empty c = λ key.
    let height = 64 - count_leading_zeros 64 c.saturating_sub.result in
    let forks = c.push.new.self.items in
    ap value_of (empty-leaf forks (first _ forks c.in_ok-forks.ensures.items c.in_ok-push.ensures.items) height key)
