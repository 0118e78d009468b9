-- What is laid outside of a table or vector, behind its references.
-- From the FlatBuffers documentation, "FlatBuffer Internals": Strings and vectors, Unions.
use Rattle.std.specs.Prelude.{List, [], ◌∷◌, ◌++◌, Option, None, Some, filter_map}
use Rattle.fb_layout.specs.Laid.{Slot, StoredKind, StoredShape, one_of, vector_of, text_kind, table_kind, union_kind}
use Rattle.fb_value.specs.Datum.{Datum, a_table, a_member}
use Rattle.fb_value.specs.Places.{Target, table_part, text_part, vector_part}

-- what is laid outside of a table for a slot, or of a vector for an element: a value, and what it is
pub record NamedPart : Type 0 where
  pub target : Target
  pub value : Datum

-- that of a value, a union's member as its table; a number or a struct has none
abbrev pub apart_of : StoredShape → Datum → Option NamedPart
apart_of (vector_of kind) d = Some (record { target = vector_part kind; value = d })
apart_of (one_of text_kind) d = Some (record { target = text_part; value = d })
apart_of (one_of (table_kind t)) d = Some (record { target = table_part t; value = d })
apart_of (one_of (union_kind u)) (a_member c (a_table t es)) =
    Some (record { target = table_part t; value = a_table t es })
apart_of _ d = None

-- those of a vector's elements
abbrev pub elements_apart : StoredKind → List Datum → List NamedPart
elements_apart kind ds = filter_map (apart_of (one_of kind)) ds

abbrev pub as_list : Option NamedPart → List NamedPart
as_list None = []
as_list (Some x) = x ∷ []

abbrev pub entry_apart : Slot → Option Datum → Option NamedPart
entry_apart f None = None
entry_apart f (Some d) = apart_of f.shape d

-- those of a table's entries, in the order of slots
abbrev pub entries_apart : List Slot → List (Option Datum) → List NamedPart
entries_apart (f ∷ fs) (x ∷ xs) = as_list (entry_apart f x) ++ entries_apart fs xs
entries_apart _ _ = []
