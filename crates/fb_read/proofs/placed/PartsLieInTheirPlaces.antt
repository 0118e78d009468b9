-- What the fields of a struct and the elements of a vector are.
use Rattle.std.proofs.Common.{◌≡◌, ℕ, zero, suc, ◌+◌, ◌*◌, ◌<◌, ◌≤◌, true, false, List, [], ◌∷◌, length, map, slice_get}
use Rattle.std.proofs.Common.{slice_index, slice_index_or, Option, None, Some, IsTrue, refl, sym, ap, mul_comm}
use Rattle.std.proofs.Common.{arith}
use Rattle.std.proofs.lemmas.Bool.{leb-true}
use Rattle.fb_schema.specs.declared.kinds.Base.{Base}
use Rattle.fb_schema.specs.declared.types.FieldInfo.{FieldInfo}
use Rattle.fb_schema.specs.Seen.{field_seen}
use Rattle.fb_schema.specs.Alignments.{base_size}
use Rattle.fb_schema.specs.Schema.{DeclaredBody, struct_body, body_at, parts_in, is_struct}
use Rattle.fb_layout.specs.Laid.{LaidSchema, StoredKind, scalar_kind, struct_kind, table_kind, union_kind, code_kind}
use Rattle.fb_layout.specs.Laid.{text_kind, parts_of, struct_at, stored_shape, kind_in, size_of}
use Rattle.fb_layout.specs.WellMade.{StandInOrder, IsWellMade}
use Rattle.fb_value.specs.Datum.{Datum, a_number, a_struct, Parts, no_parts, more_parts, count}
use Rattle.fb_value.specs.Num.{Bytes, num, scalar_of}
use Rattle.fb_value.specs.Places.{table_part, text_part, ref_place, part_place, target_of}
use Rattle.fb_value.specs.Lies.{LiesInline, LiesParts, Element, Lies, LiesItems}
use Rattle.fb_value.specs.Nth.{nth_part}
use Rattle.fb_value.proofs.held.EachPartLiesInItsPlace.{element_lies_shown, part_lies_shown}
use Rattle.fb_value.specs.Rules.{Keeps}
use Rattle.std.proofs.Math.Nat.{mul-le-mul_left}
use Rattle.fb_read.proofs.view.ViewHasAVtable.{sure_of}
use Rattle.fb_read.proofs.view.AccessorsReadTheEntry.{text_here, table_from}
use Rattle.fb_read.proofs.view.EachSortHasItsClass.{number_class, struct_class, text_class, table_class, number_else}
use Rattle.fb_read.proofs.view.EachSortHasItsClass.{text_else, table_else, struct_else}
use Rattle.fb_read.proofs.view.ViewsAreWithinTheBuffer.{ref_within, there_too, text_behind_sure}
use Rattle.fb_read.specs.Kinds.{base_wanted, structure_wanted, table_wanted, is_text}
use Rattle.fb_read.specs.Stored.{text_behind, IsTextBehind}
use Rattle.fb_read.specs.Views.{number_in, text_in, table_in, struct_in}
use Rattle.fb_layout.proofs.sizes.FieldsStandInOrder.{order_rises}

-- ---- numbers and structs in their place

-- a number, where the kind has numbers
inline_number : (L : LaidSchema) (b : Bytes) (kind : StoredKind) (base : Base) (q : ℕ) (d : Datum)
    → base_wanted kind ≡ Some base → LiesInline L b kind q d
    → number_in (Some d) ≡ Some (scalar_of base (num b q (base_size base)))
inline_number L b (scalar_kind x) base q (a_number n) e lies = let is : x ≡ base = cc in rw (← is) (ap Some lies)
inline_number L b (scalar_kind x) base q _ e lies = absurd lies
inline_number L b _ base q d e lies = cc

-- and none where it has none
inline_no_number : (L : LaidSchema) (b : Bytes) (kind : StoredKind) (q : ℕ) (d : Datum) → base_wanted kind ≡ None
    → LiesInline L b kind q d → number_in (Some d) ≡ None
inline_no_number L b (scalar_kind x) q d e lies = cc
inline_no_number L b (struct_kind s) q (a_struct ds) e lies = refl
inline_no_number L b _ q _ e lies = absurd lies

-- the fields of a struct that lies there
inline_struct : (L : LaidSchema) (b : Bytes) (kind : StoredKind) (s q : ℕ) (d : Datum) → structure_wanted kind ≡ Some s
    → LiesInline L b kind q d → (ds : Parts) × (struct_in (Some d) ≡ Some ds)
    × LiesParts L b (parts_of L s) (struct_at L s).offsets q ds
inline_struct L b (struct_kind x) s q (a_struct ds) e lies = let is : x ≡ s = cc in (ds, refl, rw (← is) lies)
inline_struct L b (struct_kind x) s q _ e lies = absurd lies
inline_struct L b _ s q d e lies = cc

inline_no_struct : (L : LaidSchema) (b : Bytes) (kind : StoredKind) (q : ℕ) (d : Datum) → structure_wanted kind ≡ None
    → LiesInline L b kind q d → struct_in (Some d) ≡ None
inline_no_struct L b (struct_kind x) q d e lies = cc
inline_no_struct L b (scalar_kind x) q (a_number n) e lies = refl
inline_no_struct L b _ q _ e lies = absurd lies

-- the size of a kind with numbers, and of a struct
pub base_fits : (L : LaidSchema) (kind : StoredKind) (base : Base) → base_wanted kind ≡ Some base
    → base_size base ≡ size_of L kind
base_fits L (scalar_kind x) base e = let is : x ≡ base = cc in rw is refl
base_fits L _ base e = cc

pub structure_fits : (L : LaidSchema) (kind : StoredKind) (s : ℕ) → structure_wanted kind ≡ Some s
    → (struct_at L s).size ≡ size_of L kind
structure_fits L (struct_kind x) s e = let is : x ≡ s = cc in rw is refl
structure_fits L _ s e = cc

-- a struct's fields, of what is known to be there
struct_from : (L : LaidSchema) (b : Bytes) (kind : StoredKind) (s q : ℕ) (o : Option Datum) (d : Datum) → o ≡ Some d
    → structure_wanted kind ≡ Some s → LiesInline L b kind q d
    → (ds : Parts) × (struct_in o ≡ Some ds) × LiesParts L b (parts_of L s) (struct_at L s).offsets q ds
struct_from L b kind s q o d e wanted lies = let found = inline_struct L b kind s q d wanted lies in
    (found.0, rw e found.1, found.2)

-- ---- the fields of a struct

-- the kind of a field, as the layout has it
abbrev pub field_kind : LaidSchema → FieldInfo → StoredKind
field_kind L x = kind_in (stored_shape L.schema x.shape)

kinds_there : (L : LaidSchema) (xs : List FieldInfo) (k : ℕ) (x : FieldInfo) → k < length xs → x ≡ slice_index_or xs k x
    → slice_get (map (λ f. kind_in (stored_shape L.schema f.shape)) (map field_seen xs)) k ≡ Some (field_kind L x)
kinds_there L [] k x less is = absurd (omega arith)
kinds_there L (y ∷ xs) zero x less is = rw is refl
kinds_there L (y ∷ xs) (suc k) x less is = kinds_there L xs k x (omega arith) is

pub kinds_long : (L : LaidSchema) (xs : List FieldInfo)
    → length (map (λ f. kind_in (stored_shape L.schema f.shape)) (map field_seen xs)) ≡ length xs
kinds_long L [] = refl
kinds_long L (x ∷ xs) = rw (kinds_long L xs) refl

-- a field's offset, and that the field ends before the struct does
offset_there : (L : LaidSchema) (p : ℕ) (ks : List StoredKind) (os : List ℕ) (end k : ℕ) (kind : StoredKind)
    → StandInOrder L p ks os end → slice_get ks k ≡ Some kind
    → (slice_get os k ≡ Some (slice_index os k)) × (slice_index os k + size_of L kind ≤ end) × (p ≤ end)
offset_there L p [] [] end k kind stand e = cc
offset_there L p (x ∷ ks) (o ∷ os) end zero kind stand e =
    let is : x ≡ kind = cc in
    let rest = order_rises L (o + size_of L x) ks os end stand.1 in (
      refl,
      rw is at rest,
      let low = stand.0.above in
          omega (arith, low, rest),
    )
offset_there L p (x ∷ ks) (o ∷ os) end (suc k) kind stand e =
    let rest = offset_there L (o + size_of L x) ks os end k kind stand.1 e in
    (rest.0, rest.1, let low = stand.0.above in omega (arith, low, rest.2))
offset_there L p _ _ end k kind stand e = absurd stand

parts_past : (L : LaidSchema) (b : Bytes) (ks : List StoredKind) (os : List ℕ) (p : ℕ) (ds : Parts) (k : ℕ)
    → LiesParts L b ks os p ds → length ks ≤ k → nth_part ds k ≡ None
parts_past L b [] os p no_parts k lies past = refl
parts_past L b (x ∷ ks) (o ∷ os) p (more_parts d ds) zero lies past = absurd (omega arith)
parts_past L b (x ∷ ks) (o ∷ os) p (more_parts d ds) (suc k) lies past =
    parts_past L b ks os p ds k lies.1 (omega arith)
parts_past L b _ _ p _ k lies past = absurd lies

times_le : (m n k : ℕ) → m ≤ n → m * k ≤ n * k
times_le m n k h = let le = mul-le-mul_left k h in rw (mul_comm m k, mul_comm n k) le

-- a type with fields in their place is a struct
with_fields : (body : DeclaredBody) (xs : List FieldInfo) (k : ℕ) → map field_seen xs ≡ parts_in body → k < length xs
    → IsTrue (is_struct body)
with_fields (struct_body fs align) xs k seen less = refl
with_fields _ [] k seen less = absurd (omega arith)
with_fields _ (x ∷ xs) k seen less = cc

module _ (L : LaidSchema) (s : ℕ) (xs : List FieldInfo) (seen : map field_seen xs ≡ parts_in (body_at L.schema s)) where
  pub kind_there : (k : ℕ) (x : FieldInfo) → k < length xs → x ≡ slice_index_or xs k x
      → slice_get (parts_of L s) k ≡ Some (field_kind L x)
  kind_there k x less is = rw (← seen) (kinds_there L xs k x less is)

  field_offset : IsWellMade L → (k : ℕ) (x : FieldInfo) → k < length xs → x ≡ slice_index_or xs k x
      → (slice_get (struct_at L s).offsets k ≡ Some (slice_index (struct_at L s).offsets k))
      × (slice_index (struct_at L s).offsets k + size_of L (field_kind L x) ≤ (struct_at L s).size)
  field_offset made k x less is =
      let laid = made.sized.structs s (with_fields (body_at L.schema s) xs k seen less) in
      let found = offset_there L 0 (parts_of L s) (struct_at L s).offsets laid.end k (field_kind L x) laid.fields
      (kind_there k x less is) in
      (found.0, let big = laid.sized.above in omega (arith, big, found.1))

  -- A field ends before its struct does.
  pub field_within : IsWellMade L → (p most k : ℕ) (x : FieldInfo) → k < length xs → x ≡ slice_index_or xs k x
      → p + (struct_at L s).size ≤ most → (p + slice_index (struct_at L s).offsets k) + size_of L (field_kind L x)
      ≤ most
  field_within made p most k x less is within = let found = field_offset made k x less is in
      omega (arith, within, found.1)

  -- what a field has
  pub field_there : IsWellMade L → (b : Bytes) (p : ℕ) (ds : Parts) (k : ℕ) (x : FieldInfo) → k < length xs
      → x ≡ slice_index_or xs k x → LiesParts L b (parts_of L s) (struct_at L s).offsets p ds
      → (d : Datum) × (nth_part ds k ≡ Some d) × LiesInline L b (field_kind L x) (p
      + slice_index (struct_at L s).offsets k) d
  field_there made b p ds k x less is lies =
      part_lies_shown L b (parts_of L s) (struct_at L s).offsets p ds k (field_kind L x)
      (slice_index (struct_at L s).offsets k) lies (kind_there k x less is) (field_offset made k x less is).0

  pub field_number : IsWellMade L → (b : Bytes) (p : ℕ) (ds : Parts) (k : ℕ) (x : FieldInfo) (base : Base)
      → k < length xs → x ≡ slice_index_or xs k x → base_wanted (field_kind L x) ≡ Some base
      → LiesParts L b (parts_of L s) (struct_at L s).offsets p ds
      → Some (scalar_of base (num b (p + slice_index (struct_at L s).offsets k) (base_size base)))
      ≡ number_in (nth_part ds k)
  field_number made b p ds k x base less is wanted lies =
      let found = field_there made b p ds k x less is lies in
      rw found.1 (sym (inline_number L b (field_kind L x) base (p + slice_index (struct_at L s).offsets k) found.0
      wanted found.2))

  pub field_no_number : IsWellMade L → (b : Bytes) (p : ℕ) (ds : Parts) (k : ℕ) (x : FieldInfo) → k < length xs
      → x ≡ slice_index_or xs k x → base_wanted (field_kind L x) ≡ None
      → LiesParts L b (parts_of L s) (struct_at L s).offsets p ds → None ≡ number_in (nth_part ds k)
  field_no_number made b p ds k x less is wanted lies =
      let found = field_there made b p ds k x less is lies in
      rw found.1 (sym (inline_no_number L b (field_kind L x) (p + slice_index (struct_at L s).offsets k) found.0 wanted
      found.2))

  pub field_struct : IsWellMade L → (b : Bytes) (p : ℕ) (ds : Parts) (k : ℕ) (x : FieldInfo) (t : ℕ) → k < length xs
      → x ≡ slice_index_or xs k x → structure_wanted (field_kind L x) ≡ Some t
      → LiesParts L b (parts_of L s) (struct_at L s).offsets p ds
      → (es : Parts) × (struct_in (nth_part ds k) ≡ Some es)
      × LiesParts L b (parts_of L t) (struct_at L t).offsets (p + slice_index (struct_at L s).offsets k) es
  field_struct made b p ds k x t less is wanted lies =
      let found = field_there made b p ds k x less is lies in
      struct_from L b (field_kind L x) t (p + slice_index (struct_at L s).offsets k) (nth_part ds k) found.0 found.1
      wanted found.2

  pub field_no_struct : IsWellMade L → (b : Bytes) (p : ℕ) (ds : Parts) (k : ℕ) (x : FieldInfo) → k < length xs
      → x ≡ slice_index_or xs k x → structure_wanted (field_kind L x) ≡ None
      → LiesParts L b (parts_of L s) (struct_at L s).offsets p ds → struct_in (nth_part ds k) ≡ None
  field_no_struct made b p ds k x less is wanted lies =
      let found = field_there made b p ds k x less is lies in
      rw found.1 (inline_no_struct L b (field_kind L x) (p + slice_index (struct_at L s).offsets k) found.0 wanted
      found.2)

  -- past the fields there is none
  pub field_past : (b : Bytes) (p : ℕ) (ds : Parts) (k : ℕ) → length xs ≤ k
      → LiesParts L b (parts_of L s) (struct_at L s).offsets p ds → nth_part ds k ≡ None
  field_past b p ds k past lies = parts_past L b (parts_of L s) (struct_at L s).offsets p ds k lies
      (rw (← seen, kinds_long L xs) past)

-- ---- the elements of a vector

-- An element ends before the vector does.
pub item_within : (p n size most i : ℕ) → i < n → p + n * size ≤ most → (p + i * size) + size ≤ most
item_within p n size most i less within =
    let more : suc i * size ≤ n * size = times_le (suc i) n size (omega arith) in
    let one : suc i * size ≡ i * size + size = grind arith in
    omega (arith, more, one, within)

-- an element at its place
abbrev pub IsElementAt : LaidSchema → Bytes → StoredKind → ℕ → Datum → Type 0
IsElementAt L b kind q d = Element L b kind q (target_of kind) d (λ sort r. Lies L b sort r d)

pub no_union : (L : LaidSchema) (b : Bytes) (u q : ℕ) (d : Datum) → LiesInline L b (union_kind u) q d → ⊥
no_union L b u q _ lies = lies

pub no_code : (L : LaidSchema) (b : Bytes) (u q : ℕ) (d : Datum) → LiesInline L b (code_kind u) q d → ⊥
no_code L b u q _ lies = lies

element_number : (L : LaidSchema) (b : Bytes) (kind : StoredKind) (base : Base) (q : ℕ) (d : Datum)
    → base_wanted kind ≡ Some base → IsElementAt L b kind q d
    → number_in (Some d) ≡ Some (scalar_of base (num b q (base_size base)))
element_number L b (scalar_kind x) base q d e lies = inline_number L b (scalar_kind x) base q d e lies
element_number L b _ base q d e lies = cc

element_no_number : (L : LaidSchema) (b : Bytes) (kind : StoredKind) (q : ℕ) (d : Datum) → base_wanted kind ≡ None
    → IsElementAt L b kind q d → number_in (Some d) ≡ None
element_no_number L b (scalar_kind x) q d e lies = cc
element_no_number L b text_kind q d e lies = number_else (Some d) 1 (text_class L b (q + num b q 4) d lies.1)
    (λ h. omega arith)
element_no_number L b (table_kind t) q d e lies = number_else (Some d) 4 (table_class L b t (q + num b q 4) d lies.1)
    (λ h. omega arith)
element_no_number L b (struct_kind s) q d e lies = inline_no_number L b (struct_kind s) q d e lies
element_no_number L b (union_kind u) q d e lies = inline_no_number L b (union_kind u) q d e lies
element_no_number L b (code_kind u) q d e lies = inline_no_number L b (code_kind u) q d e lies

element_text : (L : LaidSchema) (b : Bytes) (kind : StoredKind) (q : ℕ) (d : Datum) → is_text kind ≡ true
    → IsElementAt L b kind q d → Keeps L b (ref_place text_part) q × Lies L b (part_place text_part) (q + num b q 4) d
element_text L b text_kind q d e lies = lies
element_text L b _ q d e lies = cc

element_no_text : (L : LaidSchema) (b : Bytes) (kind : StoredKind) (q : ℕ) (d : Datum) → is_text kind ≡ false
    → IsElementAt L b kind q d → text_in (Some d) ≡ None
element_no_text L b text_kind q d e lies = cc
element_no_text L b (table_kind t) q d e lies = text_else (Some d) 4 (table_class L b t (q + num b q 4) d lies.1)
    (λ h. omega arith)
element_no_text L b (scalar_kind x) q d e lies = text_else (Some d) 0 (number_class L b x q d lies) (λ h. omega arith)
element_no_text L b (struct_kind s) q d e lies = text_else (Some d) 3 (struct_class L b s q d lies) (λ h. omega arith)
element_no_text L b (union_kind u) q d e lies = absurd (no_union L b u q d lies)
element_no_text L b (code_kind u) q d e lies = absurd (no_code L b u q d lies)

element_table : (L : LaidSchema) (b : Bytes) (kind : StoredKind) (t q : ℕ) (d : Datum) → table_wanted kind ≡ Some t
    → IsElementAt L b kind q d → Keeps L b (ref_place (table_part t)) q
    × Lies L b (part_place (table_part t)) (q + num b q 4) d
element_table L b (table_kind x) t q d e lies = let is : x ≡ t = cc in rw (← is) lies
element_table L b _ t q d e lies = cc

element_no_table : (L : LaidSchema) (b : Bytes) (kind : StoredKind) (q : ℕ) (d : Datum) → table_wanted kind ≡ None
    → IsElementAt L b kind q d → table_in (Some d) ≡ None
element_no_table L b (table_kind t) q d e lies = cc
element_no_table L b text_kind q d e lies = table_else (Some d) 1 (text_class L b (q + num b q 4) d lies.1)
    (λ h. omega arith)
element_no_table L b (scalar_kind x) q d e lies = table_else (Some d) 0 (number_class L b x q d lies) (λ h. omega arith)
element_no_table L b (struct_kind s) q d e lies = table_else (Some d) 3 (struct_class L b s q d lies) (λ h. omega arith)
element_no_table L b (union_kind u) q d e lies = absurd (no_union L b u q d lies)
element_no_table L b (code_kind u) q d e lies = absurd (no_code L b u q d lies)

element_struct : (L : LaidSchema) (b : Bytes) (kind : StoredKind) (s q : ℕ) (d : Datum) → structure_wanted kind ≡ Some s
    → IsElementAt L b kind q d → LiesInline L b kind q d
element_struct L b (struct_kind x) s q d e lies = lies
element_struct L b _ s q d e lies = cc

element_no_struct : (L : LaidSchema) (b : Bytes) (kind : StoredKind) (q : ℕ) (d : Datum) → structure_wanted kind ≡ None
    → IsElementAt L b kind q d → struct_in (Some d) ≡ None
element_no_struct L b (struct_kind s) q d e lies = cc
element_no_struct L b text_kind q d e lies = struct_else (Some d) 1 (text_class L b (q + num b q 4) d lies.1)
    (λ h. omega arith)
element_no_struct L b (table_kind t) q d e lies = struct_else (Some d) 4 (table_class L b t (q + num b q 4) d lies.1)
    (λ h. omega arith)
element_no_struct L b (scalar_kind x) q d e lies = struct_else (Some d) 0 (number_class L b x q d lies)
    (λ h. omega arith)
element_no_struct L b (union_kind u) q d e lies = absurd (no_union L b u q d lies)
element_no_struct L b (code_kind u) q d e lies = absurd (no_code L b u q d lies)

module _ (L : LaidSchema) (b : Bytes) (kind : StoredKind) (p n i : ℕ) (less : i < n) where
  -- what element i is
  pub item_there : (ds : Parts) → (count ds ≡ n) × LiesItems L b kind p ds
      → (d : Datum) × (nth_part ds i ≡ Some d) × IsElementAt L b kind (p + i * size_of L kind) d
  item_there ds shows = element_lies_shown L b kind p ds i shows.1 (omega (arith, less, shows.0))

  pub item_number : (ds : Parts) (base : Base) → (count ds ≡ n) × LiesItems L b kind p ds → base_wanted kind ≡ Some base
      → Some (scalar_of base (num b (p + i * size_of L kind) (base_size base))) ≡ number_in (nth_part ds i)
  item_number ds base shows wanted = let found = item_there ds shows in
      rw found.1 (sym (element_number L b kind base (p + i * size_of L kind) found.0 wanted found.2))

  pub item_no_number : (ds : Parts) → (count ds ≡ n) × LiesItems L b kind p ds → base_wanted kind ≡ None
      → None ≡ number_in (nth_part ds i)
  item_no_number ds shows wanted = let found = item_there ds shows in
      rw found.1 (sym (element_no_number L b kind (p + i * size_of L kind) found.0 wanted found.2))

  pub item_text : (ds : Parts) → (count ds ≡ n) × LiesItems L b kind p ds → is_text kind ≡ true
      → Some (text_behind b (p + i * size_of L kind)) ≡ text_in (nth_part ds i)
  item_text ds shows wanted =
      let found = item_there ds shows in
      let q = p + i * size_of L kind in
      rw found.1 (sym (text_here L b (q + num b q 4) found.0 (element_text L b kind q found.0 wanted found.2).1))

  pub item_no_text : (ds : Parts) → (count ds ≡ n) × LiesItems L b kind p ds → is_text kind ≡ false
      → None ≡ text_in (nth_part ds i)
  item_no_text ds shows wanted = let found = item_there ds shows in
      rw found.1 (sym (element_no_text L b kind (p + i * size_of L kind) found.0 wanted found.2))

  pub item_table : (ds : Parts) (t : ℕ) → (count ds ≡ n) × LiesItems L b kind p ds → table_wanted kind ≡ Some t
      → (d : Datum) × (table_in (nth_part ds i) ≡ Some d)
      × Lies L b (part_place (table_part t)) ((p + i * size_of L kind) + num b (p + i * size_of L kind) 4) d
  item_table ds t shows wanted =
      let found = item_there ds shows in
      let q = p + i * size_of L kind in
      table_from L b t (q + num b q 4) (nth_part ds i) found.0 found.1
      (element_table L b kind t q found.0 wanted found.2).1

  pub item_no_table : (ds : Parts) → (count ds ≡ n) × LiesItems L b kind p ds → table_wanted kind ≡ None
      → table_in (nth_part ds i) ≡ None
  item_no_table ds shows wanted = let found = item_there ds shows in
      rw found.1 (element_no_table L b kind (p + i * size_of L kind) found.0 wanted found.2)

  pub item_struct : (ds : Parts) (s : ℕ) → (count ds ≡ n) × LiesItems L b kind p ds → structure_wanted kind ≡ Some s
      → (es : Parts) × (struct_in (nth_part ds i) ≡ Some es)
      × LiesParts L b (parts_of L s) (struct_at L s).offsets (p + i * size_of L kind) es
  item_struct ds s shows wanted =
      let found = item_there ds shows in
      struct_from L b kind s (p + i * size_of L kind) (nth_part ds i) found.0 found.1 wanted
      (element_struct L b kind s (p + i * size_of L kind) found.0 wanted found.2)

  pub item_no_struct : (ds : Parts) → (count ds ≡ n) × LiesItems L b kind p ds → structure_wanted kind ≡ None
      → struct_in (nth_part ds i) ≡ None
  item_no_struct ds shows wanted = let found = item_there ds shows in
      rw found.1 (element_no_struct L b kind (p + i * size_of L kind) found.0 wanted found.2)

  -- what is sure of an element
  module _ (there : ∥ ((ds : Parts) × (count ds ≡ n) × LiesItems L b kind p ds) ∥₁) where
    pub item_text_sure : is_text kind ≡ true → IsTextBehind b (p + i * size_of L kind)
    item_text_sure wanted = text_behind_sure L b (p + i * size_of L kind) (there_too there (λ found. let item =
        item_there found.0 (found.1, found.2) in let text =
        element_text L b kind (p + i * size_of L kind) item.0 wanted item.2 in (item.0, text.0, text.1)))

    pub item_table_sure : (t : ℕ) → table_wanted kind ≡ Some t → (p + i * size_of L kind) + 4 ≤ length b
    item_table_sure t wanted = leb-true _ _ (sure_of _ there (λ found. let item =
        item_there found.0 (found.1, found.2) in ref_within L b (table_part t) (p + i * size_of L kind)
        (element_table L b kind t (p + i * size_of L kind) item.0 wanted item.2).0))

    pub item_table_lies : (t : ℕ) → table_wanted kind ≡ Some t
        → ∥ ((d : Datum) × Lies L b (part_place (table_part t)) ((p + i * size_of L kind)
        + num b (p + i * size_of L kind) 4) d) ∥₁
    item_table_lies t wanted = there_too there (λ found. let item = item_table found.0 t (found.1, found.2) wanted in
        (item.0, item.2))
