-- What a list of old types' new numbers has.
use Rattle.std.specs.Prelude.{ℕ, ◌≡◌, List, slice_get, option_map, unwrap_or}
use Rattle.fb_schema.specs.declared.kinds.TypeId.{TypeId}
use Rattle.fb_layout.specs.Laid.{LaidSchema}
use Rattle.fb_conform.specs.Twins.{to_new}

-- the list has each old type's new number
abbrev pub ListsNewNumbers : LaidSchema → LaidSchema → List TypeId → Type 0
ListsNewNumbers A B numbers = (t : ℕ) → unwrap_or (option_map (λ u. u.0) (slice_get numbers t)) 0 ≡ to_new A B t
