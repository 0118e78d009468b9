-- What is noted for names at paths.
use Rattle.std.specs.Prelude.{ℕ, ◌≡◌, ◌≤◌, ◌^◌, Option, length, get_or}
use Rattle.fb_resolve.specs.Maps.{value_in, IsMap, AreMaps}
use Rattle.fb_resolve.specs.declared.namespaces.named_types.NamedTypes.{NamedTypes}

-- the type that is noted for a name at a path
unfoldable pub type_at : NamedTypes → ℕ → ℕ → Option ℕ
type_at t path name = value_in t.maps (get_or t.tops.items path 0) name

-- how many paths there are
abbrev pub path_count : NamedTypes → ℕ
path_count t = length t.tops.items

-- how many names have room
abbrev pub name_count : NamedTypes → ℕ
name_count t = 2 ^ t.maps.height

-- each path has a map among the maps
pub record HasMaps (t : NamedTypes) : Type 0 where
  pub maps : AreMaps t.maps
  pub tops : (path : ℕ) → IsMap t.maps (get_or t.tops.items path 0)

-- so many paths and names have room
pub record HasRoom (t : NamedTypes) (paths names : ℕ) : Type 0 where
  pub maps : HasMaps t
  pub path : path_count t ≡ paths
  pub name : names ≤ name_count t
