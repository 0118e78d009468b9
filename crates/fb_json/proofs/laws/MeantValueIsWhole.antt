-- What a tree means has no union's code that the schema doesn't know.
use Rattle.std.proofs.Common.{◌≡◌, ℕ, Bool, true, List, [], ◌∷◌, Option, Some, None, refl}
use Rattle.std.specs.Cmp.Derive.{both_true}
use Rattle.serde_json.specs.Data.{Data, Items, no_items, item, Members}
use Rattle.fb_schema.specs.declared.kinds.Kind.{Kind}
use Rattle.fb_schema.specs.declared.kinds.Kind.TheVariants.{Scalar, Enum, Struct, Table, Union, Code, Text}
use Rattle.fb_schema.specs.declared.kinds.Shape.{Shape}
use Rattle.fb_schema.specs.declared.kinds.Shape.TheVariants.{One, Many}
use Rattle.fb_schema.specs.Schema.{DeclaredField, body_at, slots_in, parts_in}
use Rattle.fb_layout.specs.Laid.{LaidSchema, Slot, slot_of}
use Rattle.fb_value.specs.Bounds.{Bounds}
use Rattle.fb_value.specs.Counts.{is_whole, parts_whole, entries_whole}
use Rattle.fb_value.specs.Datum.{Datum, a_number, a_text, a_vector, a_struct, a_table, a_member, Parts, no_parts}
use Rattle.fb_value.specs.Datum.{more_parts, SlotEntries, no_entries, absent_entry, present_entry}
use Rattle.fb_json.specs.Means.{PresentAs, PresentMeans, member_called, MeansAs, MemberMeans, PartsMean, EachMeans}
use Rattle.fb_json.specs.Means.{SlotsMean, Means}

module _ (d : Datum) (own : Data → Type 0) (member : Data → ℕ → Type 0) (own_whole : (t : Data) → own t
    → is_whole d ≡ true) (member_whole : (t : Data) (u : ℕ) → member t u → is_whole d ≡ true) where
  whole_present_as : (t : Data) (shape : Shape) → PresentAs shape (own t) (member t) → is_whole d ≡ true
  whole_present_as t (One (Code u)) h = absurd h
  whole_present_as t (One (Union u)) h = member_whole t u.0 h
  whole_present_as t _ h = own_whole t h

  pub whole_present : (s : Slot) (shape : Shape) (o : Option Data) → PresentMeans s shape o d own member
      → is_whole d ≡ true
  whole_present s shape (Some t) h = whole_present_as t shape h
  whole_present s shape None h = rw h.2 refl

module _ (L : LaidSchema) (unknown : Bool) where
  mutual
    pub whole_as : (t : Data) (shape : Shape) (d : Datum) → MeansAs L unknown t shape d → is_whole d ≡ true
    whole_as t (One (Scalar base)) (a_number n) h = refl
    whole_as t (One (Enum e)) (a_number n) h = refl
    whole_as t (One Text) (a_text bytes) h = refl
    whole_as t (One (Struct s)) (a_struct ds) h = whole_parts h.0 (parts_in (body_at L.schema s.0)) ds h.3
    whole_as t (One (Table id)) (a_table type es) h = whole_slots h.0 0 (slots_in (body_at L.schema type)) es h.4
    whole_as t (Many kind) (a_vector ds) h = whole_each h.0 kind ds h.2
    whole_as t _ _ h = absurd h

    pub whole_member : (t : Data) (u c : ℕ) (d : Datum) → MemberMeans L unknown t u c d → is_whole d ≡ true
    whole_member t u c (a_member k d) h = let named = h.1 in whole_as t (One (Table (record { 0 = named.0 }))) d named.2
    whole_member t u c _ h = absurd h

    whole_parts : (ms : Members) (fs : List DeclaredField) (ds : Parts) → PartsMean L unknown ms fs ds
        → parts_whole ds ≡ true
    whole_parts ms [] no_parts h = refl
    whole_parts ms (f ∷ fs) (more_parts d ds) h = both_true {s = is_whole d} {t = parts_whole ds} (whole_as h.0 f.shape d h.2)
        (whole_parts ms fs ds h.3)
    whole_parts ms _ _ h = absurd h

    whole_each : (ts : Items) (kind : Kind) (ds : Parts) → EachMeans L unknown ts kind ds → parts_whole ds ≡ true
    whole_each no_items kind no_parts h = refl
    whole_each (item t ts) kind (more_parts d ds) h = both_true {s = is_whole d} {t = parts_whole ds} (whole_as t (One kind) d h.0)
        (whole_each ts kind ds h.1)
    whole_each _ kind _ h = absurd h

    whole_slots : (ms : Members) (before : ℕ) (fs : List DeclaredField) (es : SlotEntries)
        → SlotsMean L unknown ms before fs es → entries_whole es ≡ true
    whole_slots ms before [] no_entries h = refl
    whole_slots ms before (f ∷ fs) (absent_entry es) h = whole_slots ms h.0 fs es h.3
    whole_slots ms before (f ∷ fs) (present_entry d es) h =
        both_true {s = is_whole d} {t = entries_whole es}
        (whole_present d (λ t. MeansAs L unknown t f.shape d) (λ t u. MemberMeans L unknown t u h.0 d)
        (λ t m. whole_as t f.shape d m) (λ t u m. whole_member t u h.0 d m) (slot_of L.schema f) f.shape
        (member_called f.name ms) h.3)
        (whole_slots ms h.0 fs es h.4)
    whole_slots ms before _ _ h = absurd h

-- what a tree means as the root's value has none
pub meant_whole : (L : LaidSchema) (most : Bounds) (unknown : Bool) (t : Data) (d : Datum) → Means L most unknown t d
    → is_whole d ≡ true
meant_whole L most unknown t d h = whole_as L unknown t (One (Table (record { 0 = L.schema.root }))) d h.0
