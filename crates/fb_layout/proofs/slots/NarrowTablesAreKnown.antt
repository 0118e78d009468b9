-- What is known of a table is what it takes, where that is small.
use Rattle.std.proofs.Common.{◌≡◌, ◌<◌, ◌≤◌, ◌+◌, ℕ, max, Bool, true, false, List, [], ◌∷◌, length, map, sum_by, Option}
use Rattle.std.proofs.Common.{None, Some, nat_lt, nat_le, refl, sym, ap, ◌∙◌, arith, if◌then◌else◌}
use Rattle.std.specs.Int.{next_multiple_of}
use Rattle.std.specs.Option.{option_map, option_and_then}
use Rattle.std.proofs.lemmas.List.Sums.{sum_by-cons}
use Rattle.fb_schema.specs.Schema.{DeclaredField, DeclaredSchema}
use Rattle.fb_schema.specs.Alignments.{greatest_in}
use Rattle.fb_layout.specs.declared.extents.Extent.{Extent}
use Rattle.fb_layout.specs.declared.tables.TableSizes.{TableSizes}
use Rattle.fb_layout.specs.Sizes.{ceil4}
use Rattle.fb_layout.specs.Laid.{LaidSchema, StructLayout, StoredShape, one_of, vector_of, Slot, stored_shape, slot_of}
use Rattle.fb_layout.specs.Widths.{inline_size, inline_align}
use Rattle.fb_layout.specs.Known.{Known, small, slot_extent, each_added, slot_added, no_slots, whole_table, known_table}
use Rattle.fb_layout.proofs.structs.OneStepMore.{each_added-nil, each_added-cons}
use Rattle.fb_layout.proofs.structs.KindsTakeTheirExactSizes.{with_structs, if_small, small_extent, extent_small}
use Rattle.fb_layout.proofs.structs.KindsTakeTheirExactSizes.{small-yes}
use Rattle.fb_layout.proofs.structs.KindsTakeTheirExactSizes.{small-told, large-told}

-- ---- one slot

abbrev pub slot_size : LaidSchema → Slot → ℕ
slot_size L f = if f.deprecated then 0 else inline_size L f.shape

abbrev pub slot_align : LaidSchema → Slot → ℕ
slot_align L f = if f.deprecated then 4 else inline_align L f.shape

abbrev pub slots_size : LaidSchema → List DeclaredField → ℕ
slots_size L fs = sum_by (slot_size L) (map (slot_of L.schema) fs)

abbrev pub slots_aligned : LaidSchema → List DeclaredField → ℕ
slots_aligned L fs = greatest_in (map (slot_align L) (map (slot_of L.schema) fs))

abbrev pub if_narrow : TableSizes → Option TableSizes
if_narrow s = if nat_lt s.widest 65536 then Some s else None

shape-small : (S : DeclaredSchema) (structs : List StructLayout) (shape : StoredShape)
    → slot_extent (map if_small structs) shape ≡ small_extent (inline_size (with_structs S structs) shape)
    (inline_align (with_structs S structs) shape)
shape-small S structs (one_of kind) = extent_small S structs kind
shape-small S structs (vector_of kind) = refl

-- the sizes with one more slot
abbrev one_more : LaidSchema → TableSizes → DeclaredField → TableSizes
one_more L sizes f =
    record {
      widest = sizes.widest + slot_size L (slot_of L.schema f);
      align = max sizes.align (slot_align L (slot_of L.schema f));
    }

if_narrow-yes : (s : TableSizes) → s.widest < 65536 → if_narrow s ≡ Some s
if_narrow-yes s h = ap (λ b. if b then Some s else None) (small-yes s.widest h)

narrow-no : (s : TableSizes) → 65536 ≤ s.widest → if_narrow s ≡ None
narrow-no s h = by (nat_lt s.widest 65536) refl
  where
    by : (b : Bool) → nat_lt s.widest 65536 ≡ b → if_narrow s ≡ None
    by true e = absurd (let less = small-told s.widest e in omega (arith, less, h))
    by false e = ap (λ c. if c then Some s else None) e

-- a slot of a size and an alignment
sized-slot : (sizes : TableSizes) (size align : ℕ)
    → option_and_then (λ (slot : Extent). option_map
    (λ sum. record { widest = sum; align = max sizes.align slot.align }) (small (sizes.widest + slot.size)))
    (small_extent size align) ≡ if_narrow (record { widest = sizes.widest + size; align = max sizes.align align })
sized-slot sizes size align = by (nat_lt size 65536) refl
  where
    slot : Extent
    slot = record { size = size; align = align }

    put : ℕ → TableSizes
    put sum = record { widest = sum; align = max sizes.align align }

    step : Extent → Option TableSizes
    step s = option_map (λ sum. record { widest = sum; align = max sizes.align s.align })
        (small (sizes.widest + s.size))

    summed : (b : Bool) → nat_lt (sizes.widest + size) 65536 ≡ b
        → option_map put (small (sizes.widest + size)) ≡ if_narrow (put (sizes.widest + size))
    summed true e = ap (λ c. option_map put (if c then Some (sizes.widest + size) else None)) e
        ∙ sym (ap (λ c. if c then Some (put (sizes.widest + size)) else None) e)
    summed false e = ap (λ c. option_map put (if c then Some (sizes.widest + size) else None)) e
        ∙ sym (ap (λ c. if c then Some (put (sizes.widest + size)) else None) e)

    by : (b : Bool) → nat_lt size 65536 ≡ b
        → option_and_then step (small_extent size align) ≡ if_narrow (put (sizes.widest + size))
    by true e = ap (λ c. option_and_then step (if c then Some slot else None)) e
        ∙ summed (nat_lt (sizes.widest + size) 65536) refl
    by false e = ap (λ c. option_and_then step (if c then Some slot else None)) e
        ∙ sym (narrow-no (put (sizes.widest + size)) (let large = large-told size e in omega (arith, large)))

slot-small : (S : DeclaredSchema) (structs : List StructLayout) (sizes : TableSizes) → sizes.widest < 65536
    → 4 ≤ sizes.align → (f : DeclaredField)
    → slot_added S (map if_small structs) sizes f ≡ if_narrow (one_more (with_structs S structs) sizes f)
slot-small S structs sizes h a f = by f.deprecated refl
  where
    L : LaidSchema
    L = with_structs S structs

    known : Known
    known = map if_small structs

    shape : StoredShape
    shape = stored_shape S f.shape

    stored : Option TableSizes
    stored = option_and_then (λ slot. option_map (λ sum. record { widest = sum; align = max sizes.align slot.align })
        (small (sizes.widest + slot.size))) (slot_extent known shape)

    same : sizes ≡ record { widest = sizes.widest + 0; align = max sizes.align 4 }
    same = ap (λ w. record { widest = w; align = sizes.align })
        (let sum : sizes.widest ≡ sizes.widest + 0 = omega arith in sum)
        ∙ ap (λ n. record { widest = sizes.widest + 0; align = n })
        (let most : sizes.align ≡ max sizes.align 4 = omega (arith, a) in most)

    by : (b : Bool) → f.deprecated ≡ b → slot_added S known sizes f ≡ if_narrow (one_more L sizes f)
    by true e =
        ap (λ (c : Bool). if c then Some sizes else stored) e ∙ sym (if_narrow-yes sizes h) ∙ ap if_narrow same
        ∙ sym (ap (λ (c : Bool). if_narrow
        (record {
          widest = sizes.widest + (if c then 0 else inline_size L shape);
          align = max sizes.align (if c then 4 else inline_align L shape);
        })) e)
    by false e =
        ap (λ (c : Bool). if c then Some sizes else stored) e
        ∙ ap (option_and_then
        (λ (slot : Extent). option_map (λ sum. record { widest = sum; align = max sizes.align slot.align })
        (small (sizes.widest + slot.size)))) (shape-small S structs shape)
        ∙ sized-slot sizes (inline_size L shape) (inline_align L shape)
        ∙ sym (ap (λ (c : Bool). if_narrow
        (record {
          widest = sizes.widest + (if c then 0 else inline_size L shape);
          align = max sizes.align (if c then 4 else inline_align L shape);
        })) e)

-- ---- all slots

abbrev all_more : LaidSchema → TableSizes → List DeclaredField → TableSizes
all_more L sizes fs = record { widest = sizes.widest + slots_size L fs; align = max sizes.align (slots_aligned L fs) }

none-more : (L : LaidSchema) (sizes : TableSizes) → sizes ≡ all_more L sizes []
none-more L sizes = ap (λ w. record { widest = w; align = sizes.align })
    (let sum : sizes.widest ≡ sizes.widest + 0 = omega arith in sum)
    ∙ ap (λ n. record { widest = sizes.widest + 0; align = n })
    (let most : sizes.align ≡ max sizes.align 0 = omega arith in most)

first-more : (L : LaidSchema) (sizes : TableSizes) (f : DeclaredField) (fs : List DeclaredField)
    → all_more L (one_more L sizes f) fs ≡ all_more L sizes (f ∷ fs)
first-more L sizes f fs =
    let slot = slot_of L.schema f in
    let rest = map (slot_of L.schema) fs in
    let cons : sum_by (slot_size L) (slot ∷ rest) ≡ slot_size L slot + sum_by (slot_size L) rest =
    sum_by-cons (slot_size L) slot rest in
    let sum : (sizes.widest + slot_size L slot) + sum_by (slot_size L) rest ≡ sizes.widest + sum_by (slot_size L)
    (slot ∷ rest) = omega (arith, cons) in
    let most : max (max sizes.align (slot_align L slot)) (slots_aligned L fs)
    ≡ max sizes.align (max (slot_align L slot) (slots_aligned L fs)) = omega arith in
    ap (λ w. record { widest = w; align = max (max sizes.align (slot_align L slot)) (slots_aligned L fs) }) sum
    ∙ ap (λ n. record { widest = sizes.widest + slots_size L (f ∷ fs); align = n }) most

slots-small : (S : DeclaredSchema) (structs : List StructLayout) (sizes : TableSizes) → sizes.widest < 65536
    → 4 ≤ sizes.align → (fs : List DeclaredField)
    → each_added (slot_added S (map if_small structs)) sizes fs ≡ if_narrow (all_more (with_structs S structs) sizes fs)
slots-small S structs sizes h a [] = each_added-nil (slot_added S (map if_small structs)) sizes
    ∙ sym (if_narrow-yes sizes h) ∙ ap if_narrow (none-more (with_structs S structs) sizes)
slots-small S structs sizes h a (f ∷ fs) =
    each_added-cons step sizes f fs ∙ ap (option_and_then (λ more. each_added step more fs))
    (slot-small S structs sizes h a f)
    ∙ by (nat_lt next.widest 65536) refl (λ below. slots-small S structs next below (omega (arith, a)) fs)
  where
    L : LaidSchema
    L = with_structs S structs

    step : TableSizes → DeclaredField → Option TableSizes
    step = slot_added S (map if_small structs)

    next : TableSizes
    next = one_more L sizes f

    by : (b : Bool) → nat_lt next.widest 65536 ≡ b
        → (next.widest < 65536 → each_added step next fs ≡ if_narrow (all_more L next fs))
        → option_and_then (λ more. each_added step more fs) (if_narrow next) ≡ if_narrow (all_more L sizes (f ∷ fs))
    by true e rest = ap (λ c. option_and_then (λ more. each_added step more fs) (if c then Some next else None)) e
        ∙ rest (small-told next.widest e) ∙ ap if_narrow (first-more L sizes f fs)
    by false e rest = ap (λ c. option_and_then (λ more. each_added step more fs) (if c then Some next else None)) e
        ∙ sym (narrow-no (all_more L next fs) (let large = large-told next.widest e in omega (arith, large)))
        ∙ ap if_narrow (first-more L sizes f fs)

-- ---- whole tables

pub ceil-is : (n : ℕ) → next_multiple_of n 4 ≡ ceil4 n
ceil-is n = omega arith

-- the greatest inline size and the alignment of a table of these slots
abbrev pub table_taken : LaidSchema → List DeclaredField → TableSizes
table_taken L fs = record { widest = 4 + ceil4 (slots_size L fs); align = max 4 (slots_aligned L fs) }

whole-small : (sizes : TableSizes)
    → option_and_then whole_table (if_narrow sizes)
    ≡ if_narrow (record { widest = 4 + ceil4 sizes.widest; align = sizes.align })
whole-small sizes = by (nat_lt sizes.widest 65536) refl
  where
    w : ℕ
    w = next_multiple_of sizes.widest 4

    put : ℕ → TableSizes
    put widest = record { widest = widest; align = sizes.align }

    behind : Option ℕ → Option TableSizes
    behind o = option_and_then (λ sum. option_map put (small (4 + sum))) o

    summed : (b : Bool) → nat_lt (4 + w) 65536 ≡ b → option_map put (small (4 + w)) ≡ if_narrow (put (4 + w))
    summed true e = ap (λ c. option_map put (if c then Some (4 + w) else None)) e
        ∙ sym (ap (λ c. if c then Some (put (4 + w)) else None) e)
    summed false e = ap (λ c. option_map put (if c then Some (4 + w) else None)) e
        ∙ sym (ap (λ c. if c then Some (put (4 + w)) else None) e)

    aligned : (b : Bool) → nat_lt w 65536 ≡ b → behind (small w) ≡ if_narrow (put (4 + w))
    aligned true e = ap (λ c. behind (if c then Some w else None)) e ∙ summed (nat_lt (4 + w) 65536) refl
    aligned false e = ap (λ c. behind (if c then Some w else None)) e
        ∙ sym (narrow-no (put (4 + w)) (let large = large-told w e in omega (arith, large)))

    by : (b : Bool) → nat_lt sizes.widest 65536 ≡ b
        → option_and_then whole_table (if_narrow sizes) ≡ if_narrow (put (4 + ceil4 sizes.widest))
    by true e = ap (λ c. option_and_then whole_table (if c then Some sizes else None)) e ∙ aligned (nat_lt w 65536) refl
        ∙ ap (λ n. if_narrow (put (4 + n))) (ceil-is sizes.widest)
    by false e = ap (λ c. option_and_then whole_table (if c then Some sizes else None)) e
        ∙ sym (narrow-no (put (4 + ceil4 sizes.widest)) (let large = large-told sizes.widest e in omega (arith, large)))

pub table_small : (S : DeclaredSchema) (structs : List StructLayout) (fs : List DeclaredField)
    → known_table S (map if_small structs) fs
    ≡ (if nat_le (length fs) 32765 then if_narrow (table_taken (with_structs S structs) fs) else None)
table_small S structs fs =
    let L = with_structs S structs in
    let narrow : option_and_then whole_table (each_added (slot_added S (map if_small structs)) no_slots fs)
    ≡ if_narrow (table_taken L fs) =
    ap (option_and_then whole_table) (slots-small S structs no_slots (omega arith) (omega arith) fs)
    ∙ whole-small (all_more L no_slots fs)
    ∙ ap (λ n. if_narrow (record { widest = 4 + ceil4 n; align = max 4 (slots_aligned L fs) }))
    (let sum : 0 + slots_size L fs ≡ slots_size L fs = omega arith in sum) in
    ap (λ t. if nat_le (length fs) 32765 then t else None) narrow
