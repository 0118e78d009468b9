-- Unions' slots in a declared schema, and what a table's slots store.
use Rattle.std.specs.Prelude.{ℤ}
use Rattle.std.proofs.Common.{◌≡◌, ◌≢◌, ℕ, zero, suc, ◌<◌, ◌≤◌, true, ◌≤ℤ◌, pos, List, [], ◌∷◌, length, map, drop}
use Rattle.std.proofs.Common.{slice_get, Option, None, Some, option_map, refl, ap, sym, ◌∙◌, arith}
use Rattle.std.proofs.lemmas.Int.{ints}
use Rattle.fb_schema.specs.declared.kinds.Base.TheVariants.{U8}
use Rattle.fb_schema.specs.declared.kinds.TypeId.{TypeId}
use Rattle.fb_schema.specs.declared.kinds.Kind.TheVariants.{Union, Code}
use Rattle.fb_schema.specs.declared.kinds.Shape.{Shape}
use Rattle.fb_schema.specs.declared.kinds.Shape.TheVariants.{One}
use Rattle.fb_schema.specs.Schema.{DeclaredField, DeclaredBody, table_body, struct_body, enum_body, union_body}
use Rattle.fb_schema.specs.Schema.{DeclaredType, DeclaredSchema, body_in, body_at, slots_in}
use Rattle.fb_schema.specs.Found.{member_coded}
use Rattle.fb_schema.specs.WellDeclared.{InRange, UnionsPaired, IsBody, IsDeclared}
use Rattle.fb_layout.specs.Laid.{LaidSchema, Slot, slot_of, slots_of, stored_shape, kind_in, align_of, StoredShape}
use Rattle.fb_layout.specs.Laid.{scalar_kind, struct_kind, table_kind, union_kind, code_kind, text_kind, one_of}
use Rattle.fb_layout.specs.Laid.{vector_of, member_by_code}
use Rattle.fb_layout.specs.Widths.{greatest}
use Rattle.fb_value.specs.Datum.{Datum, a_member, an_unknown}
use Rattle.fb_value.specs.Counts.{is_whole}
use Rattle.fb_value.specs.Entries.{EntryFits}
use Rattle.fb_value.specs.Fits.{Fits}
use Rattle.fb_build.specs.Fields.{IsSimple, SlotFits, StoredFits, HasDefault, AreKnown, stored_here, stored_in, coded}
use Rattle.fb_build.specs.Fields.{code_in, next_code}
use Rattle.fb_build.specs.Paired.{ArePaired}
use Rattle.fb_build.specs.Parts.{EntryWhole}
use Rattle.fb_build.proofs.fields.SlotStoresItsEntry.{same_some}
use Rattle.fb_build.proofs.tables.CodeSlotHasNoEntry.{stored_get, next_is}
use Rattle.std.proofs.lemmas.Option.{slice_get_within}
use Rattle.fb_tape.proofs.stored.SizesOfWhatIsStored.{got}

-- ---- the pairs

no_pairs : UnionsPaired []
no_pairs = record { followed = λ k f u a b. cc; led = λ k g u a b. cc }

table_paired : (S : DeclaredSchema) → IsDeclared S → (t : ℕ) → UnionsPaired (slots_in (body_at S t))
table_paired S declared t = by_type (slice_get S.types t) refl
  where
    by_body : (b : DeclaredBody) → IsBody S t b → UnionsPaired (slots_in b)
    by_body (table_body fs) h = h.unions
    by_body (struct_body fs a) h = no_pairs
    by_body (enum_body b f vs) h = no_pairs
    by_body (union_body ms) h = no_pairs

    by_type : (o : Option DeclaredType) → slice_get S.types t ≡ o → UnionsPaired (slots_in (body_in o))
    by_type None is = no_pairs
    by_type (Some type) is = by_body type.body (declared.bodies t type is)

code_shape : (S : DeclaredSchema) (sh : Shape) (u : ℕ) → stored_shape S sh ≡ one_of (code_kind u)
    → (w : TypeId) × (sh ≡ One (Code w)) × (w.0 ≡ u)
code_shape S (One (Code w)) u e = let same : w.0 ≡ u = cc in (w, refl, same)
code_shape S _ u e = cc

union_shape : (S : DeclaredSchema) (sh : Shape) (u : ℕ) → stored_shape S sh ≡ one_of (union_kind u)
    → (w : TypeId) × (sh ≡ One (Union w)) × (w.0 ≡ u)
union_shape S (One (Union w)) u e = let same : w.0 ≡ u = cc in (w, refl, same)
union_shape S _ u e = cc

pub unmapped : {A B : Type 0} (h : A → B) (xs : List A) (k : ℕ) (y : B) → slice_get (map h xs) k ≡ Some y
    → (x : A) × (slice_get xs k ≡ Some x) × (h x ≡ y)
unmapped h [] k y e = cc
unmapped h (x ∷ xs) zero y e = let same : h x ≡ y = cc in (x, refl, same)
unmapped h (x ∷ xs) (suc k) y e = unmapped h xs k y e

mapped_at : {A B : Type 0} (h : A → B) (xs : List A) (k : ℕ) (x : A) → slice_get xs k ≡ Some x
    → slice_get (map h xs) k ≡ Some (h x)
mapped_at h [] k x e = cc
mapped_at h (y ∷ xs) zero x e = let same : y ≡ x = cc in ap (λ z. Some (h z)) same
mapped_at h (y ∷ xs) (suc k) x e = mapped_at h xs k x e

pub slots_paired : (L : LaidSchema) → IsDeclared L.schema → (t : ℕ) → ArePaired (slots_of L t)
slots_paired L declared t = record {
  followed = λ k f u fk is. (
      let own = unmapped (slot_of L.schema) fs k f fk in
      let shape = code_shape L.schema own.0.shape u (ap (λ z. z.shape) own.2 ∙ is) in
      let pair = pairs.followed k own.0 shape.0 own.1 shape.1 in
      let value : stored_shape L.schema pair.0.shape ≡ one_of (union_kind u) =
      ap (stored_shape L.schema) pair.2.value ∙ ap (λ n. one_of (union_kind n)) shape.2 in (
        slot_of L.schema pair.0,
        mapped_at (slot_of L.schema) fs (suc k) pair.0 pair.1,
        value,
        ap (λ z. z.deprecated) (sym own.2) ∙ pair.2.marks,
      ));
  led = λ k g u gk is. (
      let own = unmapped (slot_of L.schema) fs k g gk in
      let shape = union_shape L.schema own.0.shape u (ap (λ z. z.shape) own.2 ∙ is) in
      let pair = pairs.led k own.0 shape.0 own.1 shape.1 in
      let code : stored_shape L.schema pair.1.shape ≡ one_of (code_kind u) =
      ap (stored_shape L.schema) pair.4.code ∙ ap (λ n. one_of (code_kind n)) shape.2 in
      (pair.0, slot_of L.schema pair.1, pair.2, mapped_at (slot_of L.schema) fs pair.0 pair.1 pair.3, code));
}
  where
    fs : List DeclaredField
    fs = slots_in (body_at L.schema t)

    pairs : UnionsPaired (slots_in (body_at L.schema t))
    pairs = table_paired L.schema declared t

-- ---- a member's code fits a byte

under_mapped : {A B : Type 0} (h : A → B) (xs : List A) (k : ℕ) (y : B) → option_map h (slice_get xs k) ≡ Some y
    → k < length xs
under_mapped h [] k y e = cc
under_mapped h (x ∷ xs) zero y e = omega arith
under_mapped h (x ∷ xs) (suc k) y e = omega (arith, under_mapped h xs k y e)

pub code_small : (L : LaidSchema) → IsDeclared L.schema → (u n t : ℕ) → member_by_code L u n ≡ Some t → n ≤ 255
code_small L declared u zero t e = omega arith
code_small L declared u (suc n) t e = by_type (slice_get L.schema.types u) refl e
  where
    by_body : (b : DeclaredBody) → IsBody L.schema u b → member_coded b (suc n) ≡ Some t → suc n ≤ 255
    by_body (table_body fs) h e = cc
    by_body (struct_body fs a) h e = cc
    by_body (enum_body b f vs) h e = cc
    by_body (union_body ms) h e = omega (arith, h.few, under_mapped (λ m. m.1) ms n t e)

    by_type : (o : Option DeclaredType) → slice_get L.schema.types u ≡ o → member_coded (body_in o) (suc n) ≡ Some t
        → suc n ≤ 255
    by_type None is e = cc
    by_type (Some type) is e = by_body type.body (declared.bodies u type is) e

-- no member's code is 0
code_some : (L : LaidSchema) (u n t : ℕ) → member_by_code L u n ≡ Some t → pos n ≢ pos 0
code_some L u zero t e same = cc
code_some L u (suc n) t e same = cc

-- ---- what is stored fits

stored_long : (fs : List Slot) (xs : List (Option Datum)) → length fs ≡ length xs → length fs ≡ length (stored_in fs xs)
stored_long [] xs e = refl
stored_long (f ∷ fs) [] e = absurd (omega (arith, e))
stored_long (f ∷ fs) (x ∷ xs) e = ap suc (stored_long fs xs (omega (arith, e)))

value_stored : (L : LaidSchema) (u : ℕ) (d : Datum) → is_whole d ≡ true → Fits L (one_of (union_kind u)) d
    → SlotFits L (one_of (union_kind u)) d
value_stored L u (an_unknown c) whole h = cc
value_stored L u _ whole h = h

module _ (L : LaidSchema) (declared : IsDeclared L.schema) (fs : List Slot) (xs : List (Option Datum))
    (long : length fs ≡ length xs) (paired : ArePaired fs)
    (fits : (k : ℕ) (f : Slot) (x : Option Datum) → slice_get fs k ≡ Some f → slice_get xs k ≡ Some x
    → EntryFits L f x) (whole : (k : ℕ) (x : Option Datum) → slice_get xs k ≡ Some x → EntryWhole x) where
  code_fits : (f g : Slot) (u : ℕ) (y : Option Datum) → f.shape ≡ one_of (code_kind u) → g.shape ≡ one_of (union_kind u)
      → f.deprecated ≡ g.deprecated → EntryFits L g y → StoredFits L f (coded (code_in y))
  code_fits f g u (Some (a_member n d)) is value marks h =
      let own = rw value at h.1 in
      let small = code_small L declared u n own.0 own.1 in
      let low : pos 0 ≤ℤ pos n = omega (arith, ints) in
      let high : pos n ≤ℤ pos 255 = omega (arith, ints, small) in
      let range : InRange U8 (pos n) = (low, high) in
      (marks ∙ h.0, rw is (range, code_some L u n own.0 own.1))
  code_fits f g u _ is value marks h = tt

  each_fits : (k : ℕ) (f : Slot) (y : Option Datum) → slice_get fs k ≡ Some f → slice_get (stored_in fs xs) k ≡ Some y
      → StoredFits L f y
  each_fits k f y fk yk =
      let x = got xs k (omega (arith, slice_get_within fs k f fk, long)) in
      let is : y ≡ stored_here f.shape (next_code (drop (suc k) xs)) x.0 =
      same_some (slice_get (stored_in fs xs) k) y _ yk (stored_get fs xs k f x.0 fk x.1) in
      rw is (by_shape f.shape refl x.0 x.1)
    where
      plain : (shape : StoredShape) → f.shape ≡ shape
          → ((d : Datum) → is_whole d ≡ true → Fits L shape d → SlotFits L shape d) → (x : Option Datum)
          → slice_get xs k ≡ Some x → StoredFits L f x
      plain shape is same None xk = tt
      plain shape is same (Some d) xk =
          let h = fits k f (Some d) fk xk in
          let own : Fits L shape d = rw is at h.1 in
          (h.0, rw is (same d (whole k (Some d) xk) own))

      by_shape : (shape : StoredShape) → f.shape ≡ shape → (x : Option Datum) → slice_get xs k ≡ Some x
          → StoredFits L f (stored_here shape (next_code (drop (suc k) xs)) x)
      by_shape (one_of (scalar_kind b)) is x xk = plain (one_of (scalar_kind b)) is (λ d w h. h) x xk
      by_shape (one_of (struct_kind t)) is x xk = plain (one_of (struct_kind t)) is (λ d w h. h) x xk
      by_shape (one_of (table_kind t)) is x xk = plain (one_of (table_kind t)) is (λ d w h. h) x xk
      by_shape (one_of (union_kind u)) is x xk = plain (one_of (union_kind u)) is (λ d w h. value_stored L u d w h) x xk
      by_shape (one_of (code_kind u)) is x xk =
          let pair = paired.followed k f u fk is in
          let behind = got xs (suc k) (omega (arith, slice_get_within fs (suc k) pair.0 pair.1, long)) in
          rw (next_is xs (suc k) behind.0 behind.1)
          (code_fits f pair.0 u behind.0 is pair.2 pair.3 (fits (suc k) pair.0 behind.0 pair.1 behind.1))
      by_shape (one_of text_kind) is x xk = plain (one_of text_kind) is (λ d w h. h) x xk
      by_shape (vector_of kind) is x xk = plain (vector_of kind) is (λ d w h. h) x xk

  pub stored_known : ((k : ℕ) (f : Slot) → slice_get fs k ≡ Some f → IsSimple L f.shape)
      → ((k : ℕ) (f : Slot) → slice_get fs k ≡ Some f → align_of L (kind_in f.shape) ≤ greatest L)
      → ((k : ℕ) (f : Slot) (n : ℤ) → slice_get fs k ≡ Some f → f.if_absent ≡ Some n → HasDefault f)
      → AreKnown L fs (stored_in fs xs)
  stored_known simple low defaults = record {
    long = stored_long fs xs long;
    each = λ k f y fk yk. (simple k f fk, each_fits k f y fk yk);
    low = low;
    defaults = defaults;
  }
