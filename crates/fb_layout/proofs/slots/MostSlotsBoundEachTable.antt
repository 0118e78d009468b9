-- No table has more slots than the most that one has, and a layout's tables have few.
use Rattle.std.proofs.Common.{◌≡◌, ◌≤◌, ℕ, zero, suc, List, [], ◌∷◌, length, map, slice_get, arith}
use Rattle.std.proofs.lemmas.List.{length-map}
use Rattle.fb_schema.specs.Schema.{DeclaredType, body_in, slots_in}
use Rattle.fb_schema.specs.Alignments.{greatest_in}
use Rattle.fb_layout.specs.Laid.{LaidSchema, slot_of, slots_of}
use Rattle.fb_layout.specs.Widths.{most_slots}
use Rattle.fb_layout.specs.WellMade.{IsWellMade}

-- how many slots the type of a number has
abbrev slots_count : List DeclaredType → ℕ → ℕ
slots_count types t = length (slots_in (body_in (slice_get types t)))

abbrev most_in : List DeclaredType → ℕ
most_in types = greatest_in (map (λ type. length (slots_in type.body)) types)

within_most : (types : List DeclaredType) (t : ℕ) → slots_count types t ≤ most_in types
within_most [] t = omega arith
within_most (type ∷ types) zero = omega arith
within_most (type ∷ types) (suc t) = let behind = within_most types t in omega (arith, behind)

bounded_by : (types : List DeclaredType) (n : ℕ) → ((t : ℕ) → slots_count types t ≤ n) → most_in types ≤ n
bounded_by [] n each = omega arith
bounded_by (type ∷ types) n each =
    let first : length (slots_in type.body) ≤ n = each 0 in
    let behind = bounded_by types n (λ t. each (suc t)) in
    omega (arith, first, behind)

counted : (L : LaidSchema) (t : ℕ) → length (slots_of L t) ≡ slots_count L.schema.types t
counted L t = length-map (slots_in (body_in (slice_get L.schema.types t))) (slot_of L.schema)

pub slots_within : (L : LaidSchema) (t : ℕ) → length (slots_of L t) ≤ most_slots L.schema
slots_within L t = let own = within_most L.schema.types t in omega (arith, own, counted L t)

pub most_within : (L : LaidSchema) → IsWellMade L → most_slots L.schema ≤ 32765
most_within L made = bounded_by L.schema.types 32765
    (λ t. let few = (made.tables t).few in omega (arith, few, counted L t))
