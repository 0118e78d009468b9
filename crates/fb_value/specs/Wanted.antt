-- What a shape wants.
use Rattle.std.specs.Prelude.{ℕ, Bool, true, false, Option, None, Some}
use Rattle.fb_layout.specs.Laid.{LaidSchema, StoredKind, scalar_kind, struct_kind, table_kind, union_kind, text_kind}
use Rattle.fb_layout.specs.Laid.{StoredShape, one_of, vector_of, member_by_code}

-- what the elements are, where it wants a vector
abbrev pub elements_wanted : StoredShape → Option StoredKind
elements_wanted (vector_of kind) = Some kind
elements_wanted _ = None

abbrev pub struct_wanted : StoredShape → Option ℕ
struct_wanted (one_of (struct_kind s)) = Some s
struct_wanted _ = None

abbrev pub table_wanted : StoredShape → Option ℕ
table_wanted (one_of (table_kind t)) = Some t
table_wanted _ = None

abbrev pub union_wanted : StoredShape → Option ℕ
union_wanted (one_of (union_kind u)) = Some u
union_wanted _ = None

abbrev pub is_text : StoredShape → Bool
is_text (one_of text_kind) = true
is_text _ = false

abbrev pub is_scalar : StoredShape → Bool
is_scalar (one_of (scalar_kind base)) = true
is_scalar _ = false

-- the table that a code names, in a union if there is one
abbrev pub member_wanted : LaidSchema → Option ℕ → ℕ → Option ℕ
member_wanted L None c = None
member_wanted L (Some u) c = member_by_code L u c

-- the table that a code names in the union that a shape is
abbrev pub member_in : LaidSchema → StoredShape → ℕ → Option ℕ
member_in L shape c = member_wanted L (union_wanted shape) c
