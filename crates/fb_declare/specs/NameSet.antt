-- Sets of names.
use Rattle.std.specs.Prelude.{◌≡◌, Bool, List}
use Rattle.std.specs.Str.{bytes_eq}
use Rattle.indexmap.specs.IndexSet.{contains_by}
use Rattle.fb_schema.specs.Schema.{Name}
use Rattle.fb_declare.specs.FaultRows.{is_among}
use Rattle.fb_declare.specs.declared.name_set.NameSet.{NameSet}

-- whether a name is in a set of names
abbrev pub is_met : NameSet → Name → Bool
is_met met name = contains_by (λ k. bytes_eq name k.now) met.names

-- a set has the names of a list, and no others
abbrev pub AreMet : NameSet → List Name → Type 0
AreMet met names = (name : Name) → is_met met name ≡ is_among name names
