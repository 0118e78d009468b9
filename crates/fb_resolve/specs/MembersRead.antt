-- The members of a union as it is declared.
-- From the FlatBuffers documentation, "Writing a schema": Unions.
use Rattle.std.specs.Prelude.{ℕ, ◌==◌, map, Option, None, Some, if◌then◌else◌}
use Rattle.std.specs.Option.{unwrap_or}
use Rattle.fb_syntax.specs.Located.{Located}
use Rattle.fb_syntax.specs.Signs.{dot}
use Rattle.fb_syntax.specs.declared.declarations.UnionMember.{UnionMember}
use Rattle.fb_schema.specs.Schema.{Name}
use Rattle.fb_resolve.specs.ResolvedFields.{ResolvedMember}
use Rattle.fb_schema.specs.declared.kinds.Kind.TheVariants.{Table}
use Rattle.fb_resolve.specs.declared.meanings.Meaning.{Meaning}
use Rattle.fb_resolve.specs.declared.meanings.Meaning.TheVariants.{Known}

abbrev pub underscore_for_dot : ℕ → ℕ
underscore_for_dot c = if c == dot then 95 else c

-- a table's name as written, with underscores for dots
abbrev pub with_underscores : Name → Name
with_underscores name = map underscore_for_dot name

-- a member's name, and where it stands: its alias, or its table's name
abbrev pub member_name : UnionMember → Located
member_name m = unwrap_or m.alias (record { bytes = with_underscores m.table.bytes; at = m.table.at })

-- the table of a use
abbrev pub table_of : Meaning → Option ℕ
table_of (Known (Table t)) = Some t.0
table_of _ = None

-- a member's name and its table; a member at fault stands as type 0
abbrev pub member_read : ResolvedMember → Name × ℕ
member_read r = (r.name.bytes, unwrap_or (table_of r.meaning) 0)
