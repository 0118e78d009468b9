-- What lies in bytes fits its type, where each byte is below 256.
use Rattle.std.proofs.Common.{◌≡◌, ◌≢◌, ℕ, zero, suc, ◌+◌, ◌-◌, ◌<◌, ◌≤◌, Bool, true, false, not, ◌&&◌, ◌||◌, ◌==◌}
use Rattle.std.proofs.Common.{cond, List, [], ◌∷◌, drop, slice_get, All, Option, None, Some, is_none, ℤ, refl, sym}
use Rattle.std.proofs.Common.{◌∙◌, arith}
use Rattle.std.specs.Cmp.Derive.{both_true}
use Rattle.std.proofs.lemmas.Bool.{and_parts}
use Rattle.std.proofs.lemmas.Bool.Decides.{nat_tests}
use Rattle.fb_schema.specs.declared.kinds.Kind.TheVariants.{Scalar, Enum, Struct, Table, Union, Code, Text}
use Rattle.fb_schema.specs.declared.kinds.Shape.{Shape}
use Rattle.fb_schema.specs.declared.kinds.Shape.TheVariants.{One, Many}
use Rattle.fb_schema.specs.Schema.{DeclaredField, DeclaredSchema, body_at, base_in}
use Rattle.fb_schema.specs.WellDeclared.{InRange, MarksFit}
use Rattle.fb_layout.specs.Laid.{LaidSchema, Slot, StoredKind, scalar_kind, struct_kind, table_kind, union_kind}
use Rattle.fb_layout.specs.Laid.{code_kind, text_kind, StoredShape, one_of, vector_of, stored_kind, stored_shape}
use Rattle.fb_layout.specs.Laid.{default_of, slot_of, slots_of, member_by_code}
use Rattle.fb_value.specs.Datum.{Datum, a_member}
use Rattle.fb_value.specs.Num.{Bytes, num}
use Rattle.fb_value.specs.Places.{Target, table_part, member_part, text_part, vector_part, Sort, ref_place, part_place}
use Rattle.fb_value.specs.Places.{inline_place, code_place, unknown_place, Place, named_slot, named_union, is_present}
use Rattle.fb_value.specs.Places.{code_at, slot_number, next_required}
use Rattle.fb_value.specs.Rules.{Keeps, fault_by, first_missing, is_missing}
use Rattle.fb_value.specs.Lies.{Lies}
use Rattle.fb_value.specs.Fits.{Fits}
use Rattle.fb_value.specs.Entries.{EntryFits}
use Rattle.fb_value.specs.Nth.{LiesInSlot}
use Rattle.fb_value.proofs.rules.RulesHoldOneByOne.{rule_held}
use Rattle.fb_value.proofs.held.NumbersAreInTheirRange.{byte_small}

-- what lies at a place is what the place is for
abbrev pub SortFits : LaidSchema → Sort → Datum → Type 0
SortFits L (part_place (table_part t)) d = Fits L (one_of (table_kind t)) d
SortFits L (part_place (member_part c t)) d = (e : Datum) × (d ≡ a_member c e) × Fits L (one_of (table_kind t)) e
SortFits L (part_place text_part) d = Fits L (one_of text_kind) d
SortFits L (part_place (vector_part kind)) d = Fits L (vector_of kind) d
SortFits L (inline_place kind) d = Fits L (one_of kind) d
SortFits L _ d = Unit {0}

-- an entry's datum is what each place is for at which it lies
abbrev pub KnownFit : LaidSchema → Bytes → Datum → Type 0
KnownFit L b d = (s : Sort) (q : ℕ) → Lies L b s q d → SortFits L s d

-- ---- what a declared slot says of its marks

-- the marks of a slot of each shape
abbrev pub MarksOf : Slot → StoredShape → Type 0
MarksOf f (one_of (scalar_kind base)) = (f.required ≡ false) × ((n : ℤ) → f.if_absent ≡ Some n → InRange base n)
MarksOf f (one_of (code_kind u)) = (f.required ≡ false) × (f.if_absent ≡ None)
MarksOf f _ = f.if_absent ≡ None

-- of an optional one, of a deprecated one
number_default : (base : _) (n m : ℤ) (gone : Bool) → InRange base n
    → default_of gone n (one_of (scalar_kind base)) ≡ Some m → InRange base m
number_default base n m true range e = cc
number_default base n m false range e = let is : n ≡ m = cc in rw (← is) range

no_number : (gone : Bool) (n : ℤ) (kind : StoredKind) → ((base : _) → kind ≡ scalar_kind base → ⊥)
    → default_of gone n (one_of kind) ≡ None
no_number true n kind other = refl
no_number false n (scalar_kind base) other = absurd (other base refl)
no_number false n _ other = refl

no_numbers : (gone : Bool) (n : ℤ) (kind : StoredKind) → default_of gone n (vector_of kind) ≡ None
no_numbers true n kind = refl
no_numbers false n kind = refl

never_required : (required deprecated : Bool) → required ≡ false → (required && not deprecated) ≡ false
never_required false deprecated e = refl
never_required true deprecated e = cc

-- the marks of a declared field, as those of its slot
pub marks_of : (S : DeclaredSchema) (df : DeclaredField) (shape : Shape) → df.shape ≡ shape → MarksFit S df shape
    → MarksOf (slot_of S df) (stored_shape S shape)
marks_of S df (One (Scalar base)) is fit =
    rw is (
      never_required df.required df.deprecated fit.2,
      λ n e. number_default base df.default n (df.deprecated || df.optional) fit.0 e,
    )
marks_of S df (One (Enum e)) is fit =
    rw is (
      never_required df.required df.deprecated fit.2,
      λ n h. number_default (base_in (body_at S e.0)) df.default n
          (df.deprecated || df.optional) fit.0 h,
    )
marks_of S df (One (Code u)) is fit =
    rw is (
      never_required df.required df.deprecated fit.1,
      no_number (df.deprecated || df.optional) df.default
          (code_kind u.0) (λ base e. cc),
    )
marks_of S df (One (Struct s)) is fit =
    rw is (no_number (df.deprecated || df.optional) df.default (struct_kind s.0) (λ base e. cc))
marks_of S df (One (Table t)) is fit =
    rw is (no_number (df.deprecated || df.optional) df.default (table_kind t.0) (λ base e. cc))
marks_of S df (One (Union u)) is fit =
    rw is (no_number (df.deprecated || df.optional) df.default (union_kind u.0) (λ base e. cc))
marks_of S df (One Text) is fit = rw is (no_number (df.deprecated || df.optional) df.default text_kind (λ base e. cc))
marks_of S df (Many kind) is fit = rw is (no_numbers (df.deprecated || df.optional) df.default (stored_kind S kind))

-- a deprecated slot is never required and has no default
pub gone_marks : (S : DeclaredSchema) (df : DeclaredField) → df.deprecated ≡ true
    → ((slot_of S df).required ≡ false) × ((slot_of S df).if_absent ≡ None)
gone_marks S df gone = (by_required df.required, rw gone (by_shape (stored_shape S df.shape)))
  where
    by_required : (required : Bool) → (required && not df.deprecated) ≡ false
    by_required true = rw gone refl
    by_required false = refl

    by_shape : (shape : StoredShape) → default_of true df.default shape ≡ None
    by_shape (one_of (scalar_kind base)) = refl
    by_shape (one_of _) = refl
    by_shape (vector_of kind) = refl

-- ---- one slot

-- a slot without an entry
pub none_place : (L : LaidSchema) (b : Bytes) (f : Slot) (o : Option Datum) → f.if_absent ≡ None → f.required ≡ false
    → LiesInSlot L b f None o → EntryFits L f o
none_place L b f None none free lies = (free, none)
none_place L b f (Some d) none free lies = absurd (let clash : Some lies.0 ≡ None = sym lies.1 ∙ none in cc)

-- a slot that names a reference
ref_entry : (L : LaidSchema) (b : Bytes) (f : Slot) (X : Target) (q : ℕ) (o : Option Datum) → f.deprecated ≡ false
    → ((d : Datum) → o ≡ Some d → KnownFit L b d) → ((d : Datum) → SortFits L (part_place X) d → Fits L f.shape d)
    → LiesInSlot L b f (Some (record { sort = ref_place X; at = q })) o → EntryFits L f o
ref_entry L b f X q None live known to lies = absurd lies
ref_entry L b f X q (Some d) live known to lies = (live, to d (known d refl (part_place X) (q + num b q 4) lies.1))

-- a slot that names a number or struct
inline_entry : (L : LaidSchema) (b : Bytes) (f : Slot) (kind : StoredKind) (q : ℕ) (o : Option Datum)
    → f.deprecated ≡ false → ((d : Datum) → o ≡ Some d → KnownFit L b d) → f.shape ≡ one_of kind
    → LiesInSlot L b f (Some (record { sort = inline_place kind; at = q })) o → EntryFits L f o
inline_entry L b f kind q None live known is lies = absurd lies
inline_entry L b f kind q (Some d) live known is lies = (live, rw is (known d refl (inline_place kind) q lies))

-- what isn't required where it is absent
free : (required : Bool) → (required ≡ true → false ≡ true) → required ≡ false
free true h = absurd (let clash : false ≡ true = h refl in cc)
free false h = refl

-- a slot that names a place where a test holds
if_named : (L : LaidSchema) (b : Bytes) (f : Slot) (o : Option Datum) (c : Bool) (x : Place) → f.if_absent ≡ None
    → (f.required ≡ true → c ≡ true) → (c ≡ true → LiesInSlot L b f (Some x) o → EntryFits L f o)
    → LiesInSlot L b f (cond c (Some x) None) o → EntryFits L f o
if_named L b f o true x none needs to lies = to refl lies
if_named L b f o false x none needs to lies = none_place L b f o none (free f.required needs) lies

-- a number's slot
scalar_entry : (L : LaidSchema) (b : Bytes) (f : Slot) (base : _) (q : ℕ) (o : Option Datum) (c : Bool)
    → f.deprecated ≡ false → f.shape ≡ one_of (scalar_kind base) → MarksOf f (one_of (scalar_kind base))
    → ((d : Datum) → o ≡ Some d → KnownFit L b d)
    → LiesInSlot L b f (cond c (Some (record { sort = inline_place (scalar_kind base); at = q })) None) o
    → EntryFits L f o
scalar_entry L b f base q o true live is marks known lies = inline_entry L b f (scalar_kind base) q o live known is lies
scalar_entry L b f base q None false live is marks known lies = (marks.0, lies)
scalar_entry L b f base q (Some d) false live is marks known lies = (live, rw (is, lies.2) (marks.1 lies.0 lies.1))

-- the slot of a union's code
code_entry : (L : LaidSchema) (b : Bytes) (f : Slot) (u k : ℕ) (needed here : Bool) (q : ℕ) (o : Option Datum)
    → MarksOf f (one_of (code_kind u))
    → LiesInSlot L b f (Some (record { sort = code_place u k needed here; at = q })) o → EntryFits L f o
code_entry L b f u k needed here q None marks lies = (marks.0, marks.1)
code_entry L b f u k needed here q (Some d) marks lies = absurd lies

-- a code that no member has
unknown_entry : (L : LaidSchema) (b : Bytes) (f : Slot) (u c q : ℕ) (o : Option Datum) → f.deprecated ≡ false
    → f.shape ≡ one_of (union_kind u) → member_by_code L u c ≡ None → c ≢ 0 → c ≤ 255
    → LiesInSlot L b f (Some (record { sort = unknown_place c; at = q })) o → EntryFits L f o
unknown_entry L b f u c q None live is none other small lies = absurd lies
unknown_entry L b f u c q (Some d) live is none other small lies = (live, rw (is, lies) (other, small, none))

-- a union's slot, by its code's member
union_entry : (L : LaidSchema) (b : Bytes) (f : Slot) (u c p k : ℕ) (o : Option Datum) (m : Option ℕ)
    → member_by_code L u c ≡ m → f.deprecated ≡ false → f.shape ≡ one_of (union_kind u) → f.if_absent ≡ None → c ≤ 255
    → (f.required ≡ true → (is_present b p k ≡ true) × (not (c == 0) ≡ true))
    → ((d : Datum) → o ≡ Some d → KnownFit L b d) → LiesInSlot L b f (named_union b p k c m) o → EntryFits L f o
union_entry L b f u c p k o None none live is absent small needs known lies =
    if_named L b f o (not (c == 0) && is_present b p k) (record { sort = unknown_place c; at = p + slot_number b p k })
    absent (λ e. both_true {s = not (c == 0)} {t = is_present b p k} (needs e).1 (needs e).0)
    (λ e there. let other : not (c == 0) ≡ true = (and_parts (not (c == 0)) (is_present b p k) e).0 in
    unknown_entry L b f u c (p + slot_number b p k) o live is none (grind (arith, nat_tests)) small there) lies
union_entry L b f u c p k o (Some t) some live is absent small needs known lies =
    if_named L b f o (is_present b p k) (record { sort = ref_place (member_part c t); at = p + slot_number b p k })
    absent (λ e. (needs e).0)
    (λ e there. ref_entry L b f (member_part c t) (p + slot_number b p k) o live known
    (λ d fit. rw (is, fit.1) (t, some, fit.2)) there) lies

-- what a required slot has
abbrev pub Needs : Bytes → ℕ → ℕ → Slot → StoredShape → Type 0
Needs b p k f (one_of (union_kind u)) = f.required ≡ true → (is_present b p k ≡ true)
    × (not (code_at b p (k - 1) == 0) ≡ true)
Needs b p k f _ = f.required ≡ true → is_present b p k ≡ true

-- a code is one byte
code_small : (b : Bytes) → All (λ x. x < 256) b → (p k : ℕ) → code_at b p k ≤ 255
code_small b small p k = by_case (is_present b p k)
  where
    by_case : (c : Bool) → cond c (num b (p + slot_number b p k) 1) 0 ≤ 255
    by_case true = byte_small b small (p + slot_number b p k)
    by_case false = omega arith

-- a slot in use
pub live_entry : (L : LaidSchema) (b : Bytes) → All (λ x. x < 256) b
    → (p k : ℕ) (rest : List Slot) (f : Slot) (o : Option Datum) (shape : StoredShape) → f.deprecated ≡ false
    → f.shape ≡ shape → MarksOf f shape → Needs b p k f shape → ((d : Datum) → o ≡ Some d → KnownFit L b d)
    → LiesInSlot L b f (named_slot L b p k rest shape) o → EntryFits L f o
live_entry L b small p k rest f o (one_of (scalar_kind base)) live is marks needs known lies =
    scalar_entry L b f base (p + slot_number b p k) o (is_present b p k) live is marks known lies
live_entry L b small p k rest f o (one_of (struct_kind s)) live is marks needs known lies =
    if_named L b f o (is_present b p k) (record { sort = inline_place (struct_kind s); at = p + slot_number b p k })
    marks needs (λ e there. inline_entry L b f (struct_kind s) (p + slot_number b p k) o live known is there) lies
live_entry L b small p k rest f o (one_of (table_kind t)) live is marks needs known lies =
    if_named L b f o (is_present b p k) (record { sort = ref_place (table_part t); at = p + slot_number b p k }) marks
    needs (λ e there. ref_entry L b f (table_part t) (p + slot_number b p k) o live known (λ d fit. rw is fit)
    there) lies
live_entry L b small p k rest f o (one_of (union_kind u)) live is marks needs known lies =
    union_entry L b f u (code_at b p (k - 1)) p k o (member_by_code L u (code_at b p (k - 1))) refl live is marks
    (code_small b small p (k - 1)) needs known lies
live_entry L b small p k rest f o (one_of (code_kind u)) live is marks needs known lies =
    if_named L b f o (is_present b p k)
    (record {
      sort = code_place u (suc k) (next_required rest) (is_present b p (suc k));
      at = p + slot_number b p k;
    }) marks.1 needs
    (λ e there. code_entry L b f u (suc k) (next_required rest) (is_present b p (suc k)) (p + slot_number b p k) o
    marks there) lies
live_entry L b small p k rest f o (one_of text_kind) live is marks needs known lies =
    if_named L b f o (is_present b p k) (record { sort = ref_place text_part; at = p + slot_number b p k }) marks needs
    (λ e there. ref_entry L b f text_part (p + slot_number b p k) o live known (λ d fit. rw is fit) there) lies
live_entry L b small p k rest f o (vector_of kind) live is marks needs known lies =
    if_named L b f o (is_present b p k) (record { sort = ref_place (vector_part kind); at = p + slot_number b p k })
    marks needs (λ e there. ref_entry L b f (vector_part kind) (p + slot_number b p k) o live known
    (λ d fit. rw is fit) there) lies

-- ---- the slots of a table

-- where none is missing, each isn't
pub missing_none : (b : Bytes) (p j : ℕ) (fs : List Slot) → first_missing b p j fs ≡ None → (k : ℕ) (f : Slot)
    → slice_get fs k ≡ Some f → is_missing b p (j + k) f ≡ false
missing_none b p j [] e k f at = cc
missing_none b p j (g ∷ fs) e k f at =
    by_case (is_missing b p j g) refl e k at (λ none i there. missing_none b p (suc j) fs none i f there)
  where
    by_case : (c : Bool) → is_missing b p j g ≡ c → cond c (Some j) (first_missing b p (suc j) fs) ≡ None → (k : ℕ)
        → slice_get (g ∷ fs) k ≡ Some f
        → (first_missing b p (suc j) fs ≡ None → (i : ℕ) → slice_get fs i ≡ Some f → is_missing b p (suc j + i) f
        ≡ false) → is_missing b p (j + k) f ≡ false
    by_case true is e k at more = cc
    by_case false is e zero at more =
        let same : g ≡ f = cc in
        let here : j + 0 ≡ j = omega arith in
        rw (here, ← same) is
    by_case false is e (suc k) at more =
        let there : j + suc k ≡ suc j + k = omega arith in
        rw there (more e k at)

is_none_true : (o : Option ℕ) → is_none o ≡ true → o ≡ None
is_none_true None e = refl
is_none_true (Some n) e = cc

-- a table that keeps its rules lacks no required slot
pub table_whole : (L : LaidSchema) (b : Bytes) (t p : ℕ) → Keeps L b (part_place (table_part t)) p
    → first_missing b p 0 (slots_of L t) ≡ None
unfolding fault_by
table_whole L b t p e = is_none_true _ (rule_held _ _ _ (rule_held _ _ _ (rule_held _ _ _ (rule_held _ _ _ e).1).1).1).0

-- a required slot that isn't missing is present, and so is a union's code
pub present_where_needed : (required c d e : Bool) → (required && (not c || (d && not e))) ≡ false → required ≡ true
    → (c ≡ true) × (d ≡ true → e ≡ true)
present_where_needed true true true true h r = (refl, λ x. refl)
present_where_needed true true true false h r = cc
present_where_needed true true false e h r = (refl, λ x. cc)
present_where_needed true false d e h r = cc
present_where_needed false c d e h r = cc

-- a code that is needed isn't 0
pub code_needed : (L : LaidSchema) (b : Bytes) (u k : ℕ) (here : Bool) (q : ℕ) → Keeps L b (code_place u k true here) q
    → not (num b q 1 == 0) ≡ true
unfolding fault_by
code_needed L b u k here q e = (rule_held _ _ _ (rule_held _ _ _ e).1).0

-- what lies at a code keeps its rules
pub code_keeps : (L : LaidSchema) (b : Bytes) (f : Slot) (u k : ℕ) (needed here : Bool) (q : ℕ) (o : Option Datum)
    → LiesInSlot L b f (Some (record { sort = code_place u k needed here; at = q })) o
    → Keeps L b (code_place u k needed here) q
code_keeps L b f u k needed here q None lies = lies
code_keeps L b f u k needed here q (Some d) lies = absurd lies

-- the slot behind others
pub next_there : (fs : List Slot) (j : ℕ) (f : Slot) → slice_get fs (suc j) ≡ Some f
    → next_required (drop (suc j) fs) ≡ f.required
next_there (g ∷ h ∷ fs) zero f e = let is : h ≡ f = cc in rw is refl
next_there (g ∷ h ∷ fs) (suc j) f e = next_there (h ∷ fs) j f e
next_there _ j f e = cc
