-- What the values of a kind are.
use Rattle.std.specs.Prelude.{ℕ, Bool, true, false, Option, None, Some}
use Rattle.fb_schema.specs.declared.kinds.Base.{Base}
use Rattle.fb_layout.specs.Laid.{StoredKind, scalar_kind, struct_kind, table_kind, text_kind}

abbrev pub base_wanted : StoredKind → Option Base
base_wanted (scalar_kind base) = Some base
base_wanted _ = None

abbrev pub structure_wanted : StoredKind → Option ℕ
structure_wanted (struct_kind s) = Some s
structure_wanted _ = None

abbrev pub table_wanted : StoredKind → Option ℕ
table_wanted (table_kind t) = Some t
table_wanted _ = None

abbrev pub is_text : StoredKind → Bool
is_text text_kind = true
is_text _ = false
