-- A whole value that fits the old root is carried to one that fits the new root and is whole.
use Rattle.std.proofs.Common.{◌≡◌, ℕ, suc, ◌<◌, length, get_or, ◌&&◌, ◌||◌, not, Bool, true, false, IsTrue, List, []}
use Rattle.std.proofs.Common.{◌∷◌, map, Option, None, Some, slice_get, ℤ, refl, sym, ap, ◌∙◌}
use Rattle.std.proofs.lemmas.Bool.{and_parts}
use Rattle.std.proofs.lemmas.Option.{slice_get-get_or}
use Rattle.fb_schema.specs.declared.kinds.Kind.TheVariants.{Scalar, Enum, Struct as Fixed}
use Rattle.fb_schema.specs.declared.kinds.Shape.{Shape}
use Rattle.fb_schema.specs.declared.kinds.Shape.TheVariants.{One}
use Rattle.fb_schema.specs.Schema.{Name, DeclaredField, DeclaredBody, table_body, struct_body, enum_body, union_body}
use Rattle.fb_schema.specs.Schema.{DeclaredType, body_in, body_at, slots_in, parts_in, is_table}
use Rattle.fb_schema.specs.WellDeclared.{MarksFit, IsPart, IsBody}
use Rattle.fb_layout.specs.Laid.{LaidSchema, Slot, StoredKind, scalar_kind, struct_kind, table_kind, union_kind}
use Rattle.fb_layout.specs.Laid.{text_kind, StoredShape, one_of, vector_of, stored_shape, default_of, slot_of, slots_of}
use Rattle.fb_layout.specs.Laid.{kind_in, parts_of}
use Rattle.fb_layout.specs.WellMade.{IsWellMade}
use Rattle.fb_value.specs.Counts.{is_whole, parts_whole, entries_whole}
use Rattle.fb_value.specs.Datum.{Datum, a_number, a_text, a_vector, a_struct, a_table, a_member, an_unknown, Parts}
use Rattle.fb_value.specs.Datum.{no_parts, more_parts, SlotEntries, no_entries, absent_entry, present_entry}
use Rattle.fb_value.specs.Fits.{MayBeAbsent, Fits, PartsFit, EachFits, EntriesFit, kind_of_type, FitsKind}
use Rattle.fb_value.specs.Reads.{default_entry}
use Rattle.fb_conform.specs.Carry.{carry, carry_items, carry_slots, new_slots}
use Rattle.fb_conform.specs.Movement.{unless_gone}
use Rattle.fb_conform.specs.Laws.{CarriedFits}
use Rattle.fb_conform.specs.Twins.{to_new}
use Rattle.fb_conform.proofs.laws.ConformingLayoutsAgree.{twins, agrees}
use Rattle.fb_conform.proofs.laws.LayoutsAgree.{SlotStays, Grown, types_in, Agrees}
use Rattle.fb_conform.proofs.laws.VersionsFollowEachOther.{type_fits}
use Rattle.fb_conform.proofs.laws.EachBodyIsDeclared.{is_body, AllParts, parts_known}
use Rattle.fb_conform.proofs.twins.TypesAreFoundByTheirNames.{blank, twin_within}
use Rattle.fb_conform.proofs.laws.OldTypesByTheirNewNumbers.{moved_kind, moved_shape, KnownKind, KnownKinds, KnownShape}
use Rattle.fb_conform.proofs.laws.WholeValuesHaveNoUnknownCode.{IsWhole, AreWhole, SlotsWhole, all_whole}

-- ---- what stays whole

default_whole : (o : Option ℤ) (ss : SlotEntries) → entries_whole ss ≡ true → entries_whole (default_entry o ss) ≡ true
default_whole None ss e = e
default_whole (Some n) ss e = e

new_whole : (gs : List Slot) → entries_whole (new_slots gs) ≡ true
new_whole [] = refl
new_whole (g ∷ gs) = default_whole g.if_absent (new_slots gs) (new_whole gs)

unless_whole : (gone : Bool) (d : Datum) (ss : SlotEntries) → is_whole d ≡ true → entries_whole ss ≡ true
    → entries_whole (unless_gone gone d ss) ≡ true
unless_whole true d ss here rest = rest
unless_whole false d ss here rest = rw (here, rest) refl

module _ (A B : LaidSchema) where
  mutual
    stays_whole : (d : Datum) → is_whole d ≡ true → is_whole (carry A B d) ≡ true
    stays_whole (a_vector ds) e = parts_stay ds e
    stays_whole (a_struct ds) e = e
    stays_whole (a_table t ss) e = slots_stay (slots_of B (to_new A B t)) ss e
    stays_whole (a_member c d) e = stays_whole d e
    stays_whole (an_unknown c) e = cc
    stays_whole _ e = refl

    parts_stay : (ds : Parts) → parts_whole ds ≡ true → parts_whole (carry_items A B ds) ≡ true
    parts_stay no_parts e = refl
    parts_stay (more_parts d ds) e = let both = and_parts (is_whole d) (parts_whole ds) e in
        rw (stays_whole d both.0, parts_stay ds both.1) refl

    slots_stay : (gs : List Slot) (ss : SlotEntries) → entries_whole ss ≡ true
        → entries_whole (carry_slots A B gs ss) ≡ true
    slots_stay gs no_entries e = new_whole gs
    slots_stay [] _ e = refl
    slots_stay (g ∷ gs) (absent_entry ss) e = slots_stay gs ss e
    slots_stay (g ∷ gs) (present_entry d ss) e =
        let both = and_parts (is_whole d) (entries_whole ss) e in
        unless_whole g.deprecated (carry A B d) (carry_slots A B gs ss) (stays_whole d both.0)
        (slots_stay gs ss both.1)

-- ---- what is known of declared slots and fields

-- A slot's default is one of its values, and a deprecated slot isn't required.
record SlotMade (L : LaidSchema) (g : Slot) : Type 0 where
  pub default : (n : ℤ) → g.if_absent ≡ Some n → (g.deprecated ≡ false) × Fits L g.shape (a_number n)
  pub idle : g.deprecated ≡ true → g.required ≡ false

abbrev SlotsMade : LaidSchema → List Slot → Type 0
SlotsMade L [] = Unit {0}
SlotsMade L (g ∷ gs) = SlotMade L g × SlotsMade L gs

same_default : (m n : ℤ) → Some m ≡ Some n → m ≡ n
same_default m n e = cc

default_fits : (L : LaidSchema) (f : DeclaredField) (s : Shape) (gone given : Bool) → MarksFit L.schema f s → (n : ℤ)
    → default_of (gone || given) f.default (stored_shape L.schema s) ≡ Some n
    → (gone ≡ false) × Fits L (stored_shape L.schema s) (a_number n)
default_fits L f (One (Scalar b)) false false marks n e =
    (refl, rw (← same_default _ _ e) marks.0)
default_fits L f (One (Enum t)) false false marks n e =
    (refl, rw (← same_default _ _ e) marks.0)
default_fits L f _ false false marks n e = cc
default_fits L f _ false true marks n e = cc
default_fits L f _ true given marks n e = cc

idle_slot : (required gone : Bool) → gone ≡ true → (required && not gone) ≡ false
idle_slot true true e = refl
idle_slot false true e = refl
idle_slot required false e = cc

slots_from : (L : LaidSchema) (fs : List DeclaredField)
    → ((k : ℕ) (f : DeclaredField) → slice_get fs k ≡ Some f → MarksFit L.schema f f.shape)
    → SlotsMade L (map (slot_of L.schema) fs)
slots_from L [] each = tt
slots_from L (f ∷ fs) each = (
  record {
    default = λ n e. default_fits L f f.shape f.deprecated f.optional (each 0 f refl) n e;
    idle = λ e. idle_slot f.required f.deprecated e;
  },
  slots_from L fs (λ k g e. each (suc k) g e),
)

slots_made : (L : LaidSchema) (t : ℕ) (body : DeclaredBody) → IsBody L.schema t body
    → SlotsMade L (map (slot_of L.schema) (slots_in body))
slots_made L t (table_body fs) is = slots_from L fs (λ k f e. (is.shapes k f e).1)
slots_made L t _ is = tt

-- a struct's fields are numbers and structs
abbrev AreInline : List StoredKind → Type 0
AreInline [] = Unit {0}
AreInline (scalar_kind base ∷ ks) = AreInline ks
AreInline (struct_kind s ∷ ks) = AreInline ks
AreInline _ = ⊥

inline_from : (A : LaidSchema) (s : ℕ) (fs : List DeclaredField) → AllParts A.schema s fs
    → AreInline (map (λ f. kind_in (stored_shape A.schema f.shape)) fs)
inline_from A s [] known = tt
inline_from A s (f ∷ fs) known = by f.shape known.0 (inline_from A s fs known.1)
  where
    by : (z : Shape) → IsPart A.schema s z → AreInline (map (λ f. kind_in (stored_shape A.schema f.shape)) fs)
        → AreInline (kind_in (stored_shape A.schema z) ∷ map (λ f. kind_in (stored_shape A.schema f.shape)) fs)
    by (One (Scalar b)) k rest = rest
    by (One (Enum t)) k rest = rest
    by (One (Fixed t)) k rest = rest
    by _ k rest = absurd k

-- ---- what fits

module _ (A B : LaidSchema) (old : IsWellMade A) (new : IsWellMade B) (fit : Agrees A B)
    (within : (t : ℕ) → t < types_in A → to_new A B t < types_in B) where
  inline_parts : (s : ℕ) → s < types_in A → AreInline (parts_of A s)
  inline_parts s known =
      inline_from A s (parts_in (body_at A.schema s))
      (parts_known A.schema s (body_at A.schema s) (is_body A.schema old.declared s known))

  slots_known : (t : ℕ) → t < types_in A → SlotsMade B (slots_of B (to_new A B t))
  slots_known t known = slots_made B (to_new A B t) (body_at B.schema (to_new A B t))
      (is_body B.schema new.declared (to_new A B t) (within t known))

  -- a struct's fields are the same in both
  parts_fit : (ks : List StoredKind) (ds : Parts) → AreInline ks → KnownKinds (types_in A) ks → PartsFit A ks ds
      → PartsFit B (map (moved_kind (to_new A B)) ks) ds
  parts_fit [] no_parts inline known fits = tt
  parts_fit (scalar_kind base ∷ ks) (more_parts (a_number n) ds) inline known fits =
      (fits.0, parts_fit ks ds inline known.1 fits.1)
  parts_fit (struct_kind s ∷ ks) (more_parts (a_struct es) ds) inline known fits =
      let stays = fit.structs s known.0 in (
        rw (← stays.kinds) at (parts_fit (parts_of A s) es (inline_parts s known.0) stays.known fits.0),
        parts_fit ks ds inline known.1 fits.1,
      )
  parts_fit [] (more_parts d ds) inline known fits = absurd fits
  parts_fit (k ∷ ks) no_parts inline known fits = absurd fits
  parts_fit (scalar_kind base ∷ ks) (more_parts _ ds) inline known fits = absurd fits.0
  parts_fit (struct_kind s ∷ ks) (more_parts _ ds) inline known fits = absurd fits.0
  parts_fit (_ ∷ ks) (more_parts d ds) inline known fits = absurd inline

  new_fit : (n : ℕ) (gs : List Slot) → Grown (to_new A B) n [] gs → SlotsMade B gs → EntriesFit B gs (new_slots gs)
  new_fit n [] grown made = tt
  new_fit n (g ∷ gs) grown made = by g.if_absent refl (new_fit n gs grown.1 made.1)
    where
      by : (o : Option ℤ) → g.if_absent ≡ o → EntriesFit B gs (new_slots gs)
          → EntriesFit B (g ∷ gs) (default_entry o (new_slots gs))
      by None is rest = ((grown.0, is), rest)
      by (Some m) is rest = let default = made.0.default m is in (default.0, default.1, rest)

  absent_fits : (n : ℕ) (f g : Slot) → SlotStays (to_new A B) n f g → MayBeAbsent f → MayBeAbsent g
  absent_fits n f g stays may = (stays.required ∙ may.0, by g.deprecated refl)
    where
      by : (gone : Bool) → g.deprecated ≡ gone → g.if_absent ≡ None
      by true is = stays.gone is
      by false is = stays.absent is ∙ may.1

  present_fits : (g : Slot) (gs : List Slot) (gone : Bool) (d : Datum) (ss : SlotEntries) → g.deprecated ≡ gone
      → SlotMade B g → (g.deprecated ≡ true → g.if_absent ≡ None) → Fits B g.shape d → EntriesFit B gs ss
      → EntriesFit B (g ∷ gs) (unless_gone gone d ss)
  present_fits g gs true d ss is made left here rest = ((made.idle is, left is), rest)
  present_fits g gs false d ss is made left here rest = (is, here, rest)

  mutual
    fits_on : (s : StoredShape) (d : Datum) → KnownShape (types_in A) s → IsWhole d → Fits A s d
        → Fits B (moved_shape (to_new A B) s) (carry A B d)
    fits_on (one_of (scalar_kind base)) (a_number n) known whole fits = fits
    fits_on (one_of (struct_kind s)) (a_struct ds) known whole fits =
        let stays = fit.structs s known in
        rw (← stays.kinds) at (parts_fit (parts_of A s) ds (inline_parts s known) stays.known fits)
    fits_on (one_of text_kind) (a_text bytes) known whole fits = fits
    fits_on (one_of (table_kind t)) (a_table type ss) known whole fits =
        let slots : EntriesFit B (slots_of B (to_new A B t)) (carry_slots A B (slots_of B (to_new A B t)) ss) =
        slots_fit (slots_of A t) (slots_of B (to_new A B t)) ss (fit.slots t known) (slots_known t known) whole fits.1
        in (
          ap (to_new A B) fits.0,
          rw fits.0 slots,
        )
    fits_on (one_of (union_kind u)) (a_member c d) known whole fits =
        let moved = fit.members u c fits.0 known fits.1 in
        (to_new A B fits.0, moved.1, fits_on (one_of (table_kind fits.0)) d moved.0 whole fits.2)
    fits_on (one_of (union_kind u)) (an_unknown c) known whole fits = absurd whole
    fits_on (vector_of kind) (a_vector ds) known whole fits = items_fit kind ds known whole fits
    fits_on _ _ known whole fits = absurd fits

    items_fit : (kind : StoredKind) (ds : Parts) → KnownKind (types_in A) kind → AreWhole ds → EachFits A kind ds
        → EachFits B (moved_kind (to_new A B) kind) (carry_items A B ds)
    items_fit kind no_parts known whole fits = tt
    items_fit kind (more_parts d ds) known whole fits =
        (fits_on (one_of kind) d known whole.0 fits.0, items_fit kind ds known whole.1 fits.1)

    slots_fit : (fs gs : List Slot) (ss : SlotEntries) → Grown (to_new A B) (types_in A) fs gs → SlotsMade B gs
        → SlotsWhole ss → EntriesFit A fs ss → EntriesFit B gs (carry_slots A B gs ss)
    slots_fit [] gs no_entries grown made whole fits = new_fit (types_in A) gs grown made
    slots_fit (f ∷ fs) (g ∷ gs) (absent_entry ss) grown made whole fits =
        (absent_fits (types_in A) f g grown.0 fits.0, slots_fit fs gs ss grown.1 made.1 whole fits.1)
    slots_fit (f ∷ fs) (g ∷ gs) (present_entry d ss) grown made whole fits =
        present_fits g gs g.deprecated (carry A B d) (carry_slots A B gs ss) refl made.0 grown.0.gone
        (rw grown.0.shape (fits_on f.shape d grown.0.known whole.0 fits.1))
        (slots_fit fs gs ss grown.1 made.1 whole.1 fits.2)
    slots_fit (f ∷ fs) [] ss grown made whole fits = absurd grown
    slots_fit [] gs _ grown made whole fits = absurd fits
    slots_fit (f ∷ fs) (g ∷ gs) no_entries grown made whole fits = absurd fits

-- the new root's value is one of its table
fits_type : (L : LaidSchema) (t : ℕ) (d : Datum) (o : Option DeclaredType) → IsTrue (is_table (body_in o))
    → slice_get L.schema.types t ≡ o → t < types_in L → Fits L (one_of (table_kind t)) d
    → FitsKind L (kind_of_type t o) d
fits_type L t d None is at known fits = absurd (none_there L.schema.types t at known)
  where
    none_there : (xs : List DeclaredType) (i : ℕ) → slice_get xs i ≡ None → i < length xs → ⊥
    none_there xs i e less = let there = slice_get-get_or xs i blank less in let bad : None ≡ Some (get_or xs i blank) =
        sym e ∙ there in cc
fits_type L t d (Some type) is at known fits = table_fits type.name type.body is
  where
    table_fits : (name : Name) (body : DeclaredBody) → IsTrue (is_table body)
        → FitsKind L (kind_of_type t (Some (record { name = name; body = body }))) d
    table_fits name (table_body fs) is = fits
    table_fits name (struct_body fs m) is = cc
    table_fits name (enum_body b flags values) is = cc
    table_fits name (union_body ms) is = cc

pub carried_fits : CarriedFits
carried_fits A B v old new conforms fits whole =
    let fit = agrees A B old new conforms in
    let inside : (t : ℕ) → t < types_in A → to_new A B t < types_in B =
    λ t known. twin_within A.schema B.schema t (to_new A B t) (twins A B old new conforms t known) in
    let root : Fits B (one_of (table_kind (to_new A B A.schema.root))) (carry A B v) =
    fits_on A B old new fit inside (one_of (table_kind A.schema.root)) v fit.root_known (all_whole v whole)
    (type_fits A A.schema.root v (slice_get A.schema.types A.schema.root) old.declared.root.1 fits)
    in (
      fits_type B B.schema.root (carry A B v) (slice_get B.schema.types B.schema.root) new.declared.root.1 refl
          new.declared.root.0 (rw (← fit.root) at root),
      stays_whole A B v whole,
    )
