use Rattle.std.proofs.Common.{rules, ◌≡◌, ◌≤◌, ◌-◌, ◌↔◌, true, false, IsTrue, Some, slice_get, List, map, ap, ◌∙◌, refl}
use Rattle.fb_index.specs.HashKeys.{digest_by}
use Rattle.fb_schema.specs.Schema.{Name}
use Rattle.fb_schema.proofs.FoundPlaces.{found_place, found_nowhere}
use Rattle.fb_schema.proofs.name_index.ScopeNames.position.Goals as goal

pub returns-in_err-place : goal.returns-in_err-place
returns-in_err-place g c =
    let names : List Name = map g.T.Named.name c.args.items.now in
    let name = c.args.name.now in
    let first = c.args.self.first in
    let digest : c.digest-digest.result ≡ digest_by c.args.self.key name =
    c.digest-digest.ensures ∙ ap (digest_by c.args.self.key) c.as_bytes.ensures.value in
    rw c.from_residual.ensures (found_nowhere names name first c.args.self.digests.now.keys c.args.self.key
    c.requires.indexed _
    (λ place no found.
    let named : IsTrue false ↔ ((first ≤ place) × (slice_get names (place - first) ≡ Some name)) = search rules in
    absurd (let no : false ≡ true = named.1 found in cc))
    (rw digest at c.in_err-place.ensures.absent))

pub returns : goal.returns
returns g c =
    let names : List Name = map g.T.Named.name c.args.items.now in
    let name = c.args.name.now in
    let first = c.args.self.first in
    let place = c.in_ok-place.place in
    let named : IsTrue true ↔ ((first ≤ place) × (slice_get names (place - first) ≡ Some name)) = search rules in
    found_place names name first c.requires.distinct place (named.0 refl)
