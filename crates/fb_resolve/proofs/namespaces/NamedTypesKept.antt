-- What is noted for names at paths as one path gets another map.
use Rattle.std.proofs.Common.{ℕ, ◌≡◌, ◌≢◌, ◌<◌, ◌==◌, ◌&&◌, ◌∙◌, List, Bool, true, false, Option, None, Some, length}
use Rattle.std.proofs.Common.{get_or, set, replicate, arith, refl, sym, subst, inl, inr, if◌then◌else◌}
use Rattle.std.specs.Option.{option_or}
use Rattle.std.proofs.lemmas.Bool.{cases_lt}
use Rattle.std.proofs.lemmas.Bool.Decides.{eqb_tells}
use Rattle.std.proofs.lemmas.Grind.{get_or_default_zero}
use Rattle.std.proofs.lemmas.List.{get_or-replicate, get_or_past, get_or-set_same, get_or-set_other, length-replicate}
use Rattle.fb_resolve.specs.declared.namespaces.maps.Maps.{Maps}
use Rattle.fb_resolve.specs.declared.namespaces.named_types.NamedTypes.{NamedTypes}
use Rattle.fb_resolve.specs.NamedTypes.{HasMaps}
use Rattle.fb_resolve.specs.Maps.{value_in, IsMap, KeepsMaps}

-- the map that was read for a path
pub top-read : (tops : List ℕ) (path top : ℕ) → path < length tops → top ≡ get_or tops path top
    → top ≡ get_or tops path 0
top-read tops path top h read = read ∙ get_or_default_zero tops path top h

-- and is a map
pub map_read : (t : NamedTypes) → HasMaps t → (path top : ℕ) → path < length t.tops.items
    → top ≡ get_or t.tops.items path top → IsMap t.maps top
map_read t noted path top h read = subst (IsMap t.maps) (sym (top-read t.tops.items path top h read)) (noted.tops path)

-- a path with another map has what that has, and each other path what it had
pub other-top : (old new : Maps) (tops : List ℕ) (path made : ℕ) → path < length tops → KeepsMaps old new
    → ((p : ℕ) → IsMap old (get_or tops p 0)) → (values : ℕ → Option ℕ)
    → ((k : ℕ) → value_in new made k ≡ values k) → (p n : ℕ)
    → value_in new (get_or (set tops path made) p 0) n
    ≡ (if p == path then values n else value_in old (get_or tops p 0) n)
other-top old new tops path made h kept maps values entries p n = elim (eqb_tells p path) [
  | inl t ↦ rw (t.0, t.1, get_or-set_same tops path made 0 h) (entries n)
  | inr t ↦ rw (t.0, get_or-set_other tops path p made 0 t.1) ((kept (get_or tops p 0) (maps p)).1 n)
]

-- where nothing is noted a number can be noted
pub newly-noted : (read noted : Option ℕ) (here named : Bool) (number : ℕ) → (here ≡ true → read ≡ noted)
    → (named ≡ true → read ≡ None)
    → (if here then (if named then Some number else read) else noted) ≡ option_or noted
    (if here && named then Some number else None)
newly-noted read noted true true number same none = rw (sym (same refl), none refl) refl
newly-noted read None true false number same none = same refl
newly-noted read (Some x) true false number same none = same refl
newly-noted read None false named number same none = refl
newly-noted read (Some x) false named number same none = refl

-- where one is noted it stands
pub noted-before : (o other : Option ℕ) (here : Bool) → (here ≡ true → o ≢ None)
    → o ≡ option_or o (if here then other else None)
noted-before (Some x) other here some = refl
noted-before None other false some = refl
noted-before None other true some = absurd (some refl refl)

-- at first each path has the empty map
pub first-top : (paths path : ℕ) → (let none : ℕ = 0 in get_or (replicate paths none) path none ≡ none)
first-top paths path = let none : ℕ = 0 in elim (cases_lt path paths) [
  | inl h ↦ get_or-replicate paths path none none h
  | inr h ↦ get_or_past (replicate paths none) path none (omega (arith, length-replicate paths none))
]
