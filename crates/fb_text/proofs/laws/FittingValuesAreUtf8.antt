-- The texts in a value that fits are UTF-8.
use Rattle.std.proofs.Common.{List, [], ◌∷◌, Option, None, Some, slice_get}
use Rattle.fb_layout.specs.Laid.{LaidSchema, Slot, StoredKind, scalar_kind, struct_kind, table_kind, union_kind}
use Rattle.fb_layout.specs.Laid.{text_kind, StoredShape, one_of, vector_of, slots_of, parts_of}
use Rattle.fb_value.specs.Datum.{Datum, a_number, a_text, a_vector, a_struct, a_table, a_member, an_unknown, Parts}
use Rattle.fb_value.specs.Datum.{no_parts, more_parts, SlotEntries, no_entries, absent_entry, present_entry}
use Rattle.fb_json.proofs.texts.ValueTextsAreUtf8.{HasUtf8, HaveUtf8, EntriesHaveUtf8}
use Rattle.fb_value.specs.Fits.{Fits, PartsFit, EachFits, EntriesFit, FitsKind, FitsRoot, kind_of_type}

module _ (L : LaidSchema) where
  mutual
    pub spells : (shape : StoredShape) (d : Datum) → Fits L shape d → HasUtf8 d
    spells (one_of (scalar_kind base)) (a_number n) h = tt
    spells (one_of (struct_kind s)) (a_struct ds) h = parts_spell (parts_of L s) ds h
    spells (one_of text_kind) (a_text bytes) h = h
    spells (one_of (table_kind t)) (a_table type es) h = entries_spell (slots_of L t) es h.1
    spells (one_of (union_kind u)) (a_member c d) h = spells (one_of (table_kind h.0)) d h.2
    spells (one_of (union_kind u)) (an_unknown c) h = tt
    spells (vector_of kind) (a_vector ds) h = each_spells kind ds h
    spells _ _ h = absurd h

    parts_spell : (kinds : List StoredKind) (ds : Parts) → PartsFit L kinds ds → HaveUtf8 ds
    parts_spell [] no_parts h = tt
    parts_spell (k ∷ ks) (more_parts d ds) h = (spells (one_of k) d h.0, parts_spell ks ds h.1)
    parts_spell [] (more_parts d ds) h = absurd h
    parts_spell (k ∷ ks) no_parts h = absurd h

    each_spells : (kind : StoredKind) (ds : Parts) → EachFits L kind ds → HaveUtf8 ds
    each_spells kind no_parts h = tt
    each_spells kind (more_parts d ds) h = (spells (one_of kind) d h.0, each_spells kind ds h.1)

    entries_spell : (slots : List Slot) (es : SlotEntries) → EntriesFit L slots es → EntriesHaveUtf8 es
    entries_spell [] no_entries h = tt
    entries_spell (f ∷ fs) (absent_entry es) h = entries_spell fs es h.1
    entries_spell (f ∷ fs) (present_entry d es) h = (spells f.shape d h.1, entries_spell fs es h.2)
    entries_spell [] _ h = absurd h
    entries_spell (f ∷ fs) no_entries h = absurd h

  kind_spells : (kind : Option StoredKind) (d : Datum) → FitsKind L kind d → HasUtf8 d
  kind_spells None d h = absurd h
  kind_spells (Some kind) d h = spells (one_of kind) d h

  pub root_spells : (d : Datum) → FitsRoot L d → HasUtf8 d
  root_spells d h = kind_spells (kind_of_type L.schema.root (slice_get L.schema.types L.schema.root)) d h
