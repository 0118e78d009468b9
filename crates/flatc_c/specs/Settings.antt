-- What C asks for. Where its struct ends before a field does, the field has its default.
use Rattle.std.specs.Prelude.{◌≡◌, ◌≤◌, ℕ, Bool, false, if◌then◌else◌, nat_lt}
use Rattle.fb_value.specs.Bounds.{Bounds, usual_limits}
use Rattle.flatc_c.specs.declared.options.Options.{Options}

abbrev pub cells_of : Options → ℕ
cells_of o = if nat_lt o.size 8 then usual_limits.cells else o.max_cells

abbrev pub depth_of : Options → ℕ
depth_of o = if nat_lt o.size 9 then usual_limits.depth else o.max_depth

abbrev pub unknown_of : Options → Bool
unknown_of o = if nat_lt o.size 10 then false else o.unknown_json

abbrev pub raw_of : Options → Bool
raw_of o = if nat_lt o.size 11 then false else o.raw_binary

abbrev pub defaults_of : Options → Bool
defaults_of o = if nat_lt o.size 12 then false else o.defaults_json

abbrev pub prefixed_of : Options → Bool
prefixed_of o = if nat_lt o.size 13 then false else o.size_prefixed

abbrev pub compact_of : Options → Bool
compact_of o = if nat_lt o.size 14 then false else o.compact

abbrev pub limits_of : Options → Bounds
limits_of o = record { depth = depth_of o; cells = cells_of o }

-- the size is one that the struct may have, and the depth one that limits may have
abbrev pub AreSet : Options → Type 0
AreSet o = (4 ≤ o.size) × (o.size ≤ 16) × (1 ≤ depth_of o) × (depth_of o ≤ 127)
