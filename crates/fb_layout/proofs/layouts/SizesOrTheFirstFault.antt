-- What is computed type by type is the first rule that fails, or the sizes of all tables.
use Rattle.std.proofs.Common.{◌≡◌, ◌<◌, ◌≤◌, ◌+◌, ℕ, zero, suc, sum_by, inl, inr, max, Bool, true, false, List, [], ◌∷◌}
use Rattle.std.proofs.Common.{length, map, Option, None, Some, Result, Ok, Err, slice_get, slice_index_or, nat_lt}
use Rattle.std.proofs.Common.{nat_le, refl, sym, ap, ◌∙◌, subst, arith, if◌then◌else◌}
use Rattle.std.specs.Option.{option_map_or, ok_or}
use Rattle.std.proofs.lemmas.Bool.Decides.{nat_tests}
use Rattle.std.proofs.lemmas.List.{length-map}
use Rattle.fb_schema.specs.Schema.{DeclaredField, DeclaredBody, table_body, struct_body, enum_body, union_body}
use Rattle.fb_schema.specs.Schema.{DeclaredType, DeclaredSchema, body_in, body_at, slots_in, is_struct}
use Rattle.fb_layout.specs.declared.faults.LayoutFault.{LayoutFault}
use Rattle.fb_layout.specs.declared.faults.LayoutFault.TheVariants.{StructTooBig, TableTooWide, Memory}
use Rattle.fb_layout.specs.declared.tables.TableSizes.{TableSizes}
use Rattle.fb_schema.specs.Alignments.{greatest_in}
use Rattle.fb_layout.specs.Sizes.{ceil4}
use Rattle.fb_layout.specs.Laid.{LaidSchema, StructLayout, no_struct, struct_at, Slot, slot_of, slots_of}
use Rattle.fb_layout.specs.Widths.{widest, table_align}
use Rattle.fb_layout.specs.WellMade.{IsSized}
use Rattle.fb_layout.specs.Refused.{Fails, type_number}
use Rattle.fb_layout.specs.Known.{no_table, type_sizes, if_sized, tables_from}
use Rattle.fb_layout.proofs.structs.KindsTakeTheirExactSizes.{with_structs, if_small, struct_small, small-told}
use Rattle.fb_layout.proofs.structs.KindsTakeTheirExactSizes.{large-told}
use Rattle.fb_layout.proofs.tables.OneTypeMore.{tables_from-nil, tables_from-cons}
use Rattle.fb_layout.proofs.slots.NarrowTablesAreKnown.{slot_size, slot_align, table_taken, table_small}

-- the sizes of a type as a table
abbrev pub table_at : LaidSchema → ℕ → TableSizes
table_at L t = record { widest = widest L t; align = table_align L t }

-- what is told of one type: its sizes, and that it fails no rule; or the rule that it fails
abbrev OfType : LaidSchema → ℕ → Result TableSizes LayoutFault → Type 0
OfType L t (Ok sizes) = (sizes ≡ table_at L t) × ((f : LayoutFault) → Fails L f → type_number f ≡ t → ⊥)
OfType L t (Err f) = Fails L f × (type_number f ≡ t)

-- what is told of the n types from t on
abbrev pub OfTypes : LaidSchema → ℕ → ℕ → Result (List TableSizes) LayoutFault → Type 0
OfTypes L t n (Ok sizes) = (length sizes ≡ n) × ((k : ℕ) → k < n → slice_index_or sizes k no_table ≡ table_at L (t + k))
    × ((f : LayoutFault) → Fails L f → t ≤ type_number f → type_number f < t + n → ⊥)
OfTypes L t n (Err f) = Fails L f × (t ≤ type_number f)
    × ((g : LayoutFault) → Fails L g → t ≤ type_number g → type_number f ≤ type_number g)

-- ---- one type

-- a type that takes nothing as a struct and has few narrow slots fails no rule
no-fault : (L : LaidSchema) (t : ℕ) → (struct_at L t).size ≤ 65535 → widest L t ≤ 65535 → length (slots_of L t) ≤ 32765
    → (f : LayoutFault) → Fails L f → type_number f ≡ t → ⊥
no-fault L t small narrow few (StructTooBig s) fails is =
    let big : 65535 < (struct_at L t).size = rw (← is) fails in
    omega (arith, big, small)
no-fault L t small narrow few (TableTooWide u) (inl wide) is =
    let over : 65535 < widest L t = rw (← is) wide in
    omega (arith, over, narrow)
no-fault L t small narrow few (TableTooWide u) (inr many) is =
    let over : 32765 < length (slots_of L t) = rw (← is) many in
    omega (arith, over, few)
no-fault L t small narrow few Memory fails is = fails

-- of a type that is no table
pub no-slots : (L : LaidSchema) (t : ℕ) (body : DeclaredBody) → body_at L.schema t ≡ body → slots_in body ≡ []
    → slots_of L t ≡ []
no-slots L t body e none = ap (map (slot_of L.schema)) (ap slots_in e ∙ none)

-- the sizes of a table of these slots
abbrev of_slots : LaidSchema → List Slot → TableSizes
of_slots L fs = record {
  widest = 4 + ceil4 (sum_by (slot_size L) fs);
  align = max 4 (greatest_in (map (slot_align L) fs));
}

pub no-table-at : (L : LaidSchema) (t : ℕ) → slots_of L t ≡ [] → no_table ≡ table_at L t
no-table-at L t none = sym (ap (of_slots L) none)

pub few-slots : (L : LaidSchema) (t : ℕ) → slots_of L t ≡ [] → (widest L t ≤ 65535) × (length (slots_of L t) ≤ 32765)
few-slots L t none =
    let wide : widest L t ≡ 4 = ap (λ fs. (of_slots L fs).widest) none in
    let count : length (slots_of L t) ≡ 0 = ap length none in
    (omega (arith, wide), omega (arith, count))

-- a type that is neither
plain-type : (L : LaidSchema) → IsSized L → (t : ℕ) (body : DeclaredBody) → body_at L.schema t ≡ body
    → slots_in body ≡ [] → is_struct body ≡ false → OfType L t (Ok no_table)
plain-type L sized t body e none other =
    let slots = no-slots L t body e none in
    let few = few-slots L t slots in
    let entry : struct_at L t ≡ no_struct = sized.others t (ap is_struct e ∙ other) in
    let small : (struct_at L t).size ≤ 65535 = rw entry (omega arith) in
    (no-table-at L t slots, no-fault L t small few.0 few.1)

-- a struct, and whether it is small
struct-type : (S : DeclaredSchema) (structs : List StructLayout) (t : ℕ) (fs : List DeclaredField) (force : Option ℕ)
    → body_at S t ≡ struct_body fs force → (b : Bool) → nat_lt (struct_at (with_structs S structs) t).size 65536 ≡ b
    → OfType (with_structs S structs) t
    (option_map_or (λ s. Ok no_table) (if b then Some (struct_at (with_structs S structs) t) else None)
    (Err (StructTooBig (record { 0 = t }))))
struct-type S structs t fs force e true h =
    let L = with_structs S structs in
    let slots = no-slots L t (struct_body fs force) e refl in
    let few = few-slots L t slots in
    let less = small-told (struct_at L t).size h in
    (no-table-at L t slots, no-fault L t (omega (arith, less)) few.0 few.1)
struct-type S structs t fs force e false h = (large-told (struct_at (with_structs S structs) t).size h, refl)

few-told : (n : ℕ) → nat_le n 32765 ≡ true → n ≤ 32765
few-told n e = grind (arith, nat_tests)

many-told : (n : ℕ) → nat_le n 32765 ≡ false → 32765 < n
many-told n e = grind (arith, nat_tests)

-- a table, whether it has few slots, and whether it is narrow
table-type : (S : DeclaredSchema) (structs : List StructLayout) → IsSized (with_structs S structs)
    → (t : ℕ) (fs : List DeclaredField) → body_at S t ≡ table_body fs → (few : Bool) → nat_le (length fs) 32765 ≡ few
    → (narrow : Bool) → nat_lt (table_taken (with_structs S structs) fs).widest 65536 ≡ narrow
    → OfType (with_structs S structs) t
    (ok_or (if few then (if narrow then Some (table_taken (with_structs S structs) fs) else None) else None)
    (TableTooWide (record { 0 = t })))
table-type S structs sized t fs e few fewness narrow narrowness = by few fewness narrow narrowness
  where
    L : LaidSchema
    L = with_structs S structs

    taken : table_taken L fs ≡ table_at L t
    taken = sym (ap (λ b. table_taken L (slots_in b)) e)

    count : length (slots_of L t) ≡ length fs
    count = ap (λ b. length (map (slot_of S) (slots_in b))) e ∙ length-map fs (slot_of S)

    by : (few : Bool) → nat_le (length fs) 32765 ≡ few → (narrow : Bool)
        → nat_lt (table_taken L fs).widest 65536 ≡ narrow
        → OfType L t (ok_or (if few then (if narrow then Some (table_taken L fs) else None) else None)
        (TableTooWide (record { 0 = t })))
    by true f true w =
        let entry : struct_at L t ≡ no_struct = sized.others t (ap is_struct e) in
        let small : (struct_at L t).size ≤ 65535 =
        rw entry (omega arith) in
        let less : widest L t < 65536 =
        subst (λ (s : TableSizes). s.widest < 65536) taken (small-told (table_taken L fs).widest w) in
        let slots = few-told (length fs) f in
        (taken, no-fault L t small (omega (arith, less)) (omega (arith, slots, count)))
    by true f false w = (
      inl
          (subst (λ (s : TableSizes). 65535 < s.widest) taken (large-told (table_taken L fs).widest w)),
      refl,
    )
    by false f narrow w = (inr (let many = many-told (length fs) f in omega (arith, many, count)), refl)

one-type : (S : DeclaredSchema) (structs : List StructLayout) → IsSized (with_structs S structs)
    → (t : ℕ) (body : DeclaredBody) → body_at S t ≡ body
    → OfType (with_structs S structs) t (type_sizes S (map if_small structs) t body)
one-type S structs sized t (table_body fs) e =
    let L = with_structs S structs in
    rw (table_small S structs fs) (table-type S structs sized t fs e (nat_le (length fs) 32765) refl
    (nat_lt (table_taken L fs).widest 65536) refl)
one-type S structs sized t (struct_body fs force) e =
    let L = with_structs S structs in
    rw (struct_small structs t) (struct-type S structs t fs force e (nat_lt (struct_at L t).size 65536) refl)
one-type S structs sized t (enum_body base flags values) e =
    plain-type (with_structs S structs) sized t (enum_body base flags values) e refl refl
one-type S structs sized t (union_body members) e = plain-type (with_structs S structs) sized t (union_body members) e
    refl refl

-- ---- all types

-- a number that isn't t is behind it
past : (t n : ℕ) → t ≤ n → (n ≡ t → ⊥) → t + 1 ≤ n
past t n h differ = by (nat_le (t + 1) n) refl
  where
    by : (b : Bool) → nat_le (t + 1) n ≡ b → t + 1 ≤ n
    by true e = grind (arith, nat_tests)
    by false e = absurd (differ (grind (arith, nat_tests)))

-- the first type and those behind it
joined : (L : LaidSchema) (t n : ℕ) (one : Result TableSizes LayoutFault) (rest : Result (List TableSizes) LayoutFault)
    → OfType L t one → OfTypes L (t + 1) n rest → OfTypes L t (suc n) (if_sized one rest)
joined L t n (Err f) rest own behind = (own.0, omega (arith, own.1), λ g fails above. omega (arith, own.1, above))
joined L t n (Ok sizes) (Err f) own behind = (
  behind.0,
  omega (arith, behind.1),
  λ g fails above. behind.2 g fails (past t (type_number g) above (own.1 g fails)),
)
joined L t n (Ok sizes) (Ok more) own behind = (
  omega (arith, behind.0),
  at,
  λ f fails above less. behind.2 f fails (past t (type_number f) above (own.1 f fails)) (omega (arith, less)),
)
  where
    at : (k : ℕ) → k < suc n → slice_index_or (sizes ∷ more) k no_table ≡ table_at L (t + k)
    at zero less = own.0 ∙ ap (table_at L) (let sum : t ≡ t + 0 = omega arith in sum)
    at (suc k) less = behind.1 k (omega (arith, less))
        ∙ ap (table_at L) (let sum : (t + 1) + k ≡ t + suc k = omega arith in sum)

types-from : (S : DeclaredSchema) (structs : List StructLayout) → IsSized (with_structs S structs)
    → (t : ℕ) (types : List DeclaredType)
    → ((k : ℕ) (type : DeclaredType) → slice_get types k ≡ Some type → body_at S (t + k) ≡ type.body)
    → OfTypes (with_structs S structs) t (length types) (tables_from S (map if_small structs) t types)
types-from S structs sized t [] bodies =
    rw (tables_from-nil S (map if_small structs) t)
    (refl, λ k less. absurd (omega (arith, less)), λ f fails above less. omega (arith, above, less))
types-from S structs sized t (type ∷ types) bodies =
    let L = with_structs S structs in
    let own = one-type S structs sized t type.body (ap (body_at S) (let sum : t ≡ t + 0 = omega arith in sum)
    ∙ bodies 0 type refl) in
    let behind = types-from S structs sized (t + 1) types
    (λ k x e. ap (body_at S) (let sum : (t + 1) + k ≡ t + suc k = omega arith in sum) ∙ bodies (suc k) x e) in
    rw (tables_from-cons S (map if_small structs) t type types)
    (joined L t (length types) (type_sizes S (map if_small structs) t type.body)
    (tables_from S (map if_small structs) (t + 1) types) own behind)

pub all_types : (S : DeclaredSchema) (structs : List StructLayout) → IsSized (with_structs S structs)
    → OfTypes (with_structs S structs) 0 (length S.types) (tables_from S (map if_small structs) 0 S.types)
all_types S structs sized =
    types-from S structs sized 0 S.types (λ k type e. ap (body_at S) (let sum : 0 + k ≡ k = omega arith in sum)
    ∙ ap body_in e)
