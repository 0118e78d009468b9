-- What is computed for a schema is its layout, or the first rule that a type fails.
use Rattle.std.proofs.Common.{◌≡◌, ◌<◌, ◌≤◌, ◌+◌, ℕ, zero, suc, inl, inr, Bool, true, false, List, [], ◌∷◌, length, map}
use Rattle.std.proofs.Common.{None, Ok, Err, slice_get, slice_index_or, nat_lt, nat_le, refl, sym, ap, ◌∙◌}
use Rattle.std.proofs.Common.{subst, arith}
use Rattle.std.specs.Option.{unwrap_or}
use Rattle.std.proofs.lemmas.Bool.Decides.{nat_tests}
use Rattle.fb_schema.specs.Schema.{DeclaredType, DeclaredSchema, body_in, slots_in}
use Rattle.fb_schema.specs.WellDeclared.{IsDeclared}
use Rattle.fb_layout.specs.declared.faults.LayoutFault.{LayoutFault}
use Rattle.fb_layout.specs.declared.faults.LayoutFault.TheVariants.{StructTooBig, TableTooWide}
use Rattle.fb_layout.specs.declared.tables.TableSizes.{TableSizes}
use Rattle.fb_layout.specs.Laid.{LaidSchema, StructLayout, no_struct, struct_at, slot_of, slots_of}
use Rattle.fb_layout.specs.Widths.{widest}
use Rattle.fb_layout.specs.WellMade.{IsNarrow, IsWellMade}
use Rattle.fb_layout.specs.Refused.{Fails, type_number, Refuses}
use Rattle.fb_layout.specs.Known.{Known, no_table, known_from, tables_from, layout_known}
use Rattle.fb_layout.proofs.structs.KindsTakeTheirExactSizes.{with_structs, if_small, if_small-yes, exact}
use Rattle.fb_layout.proofs.structs.SmallStructsAreKnown.{known-exact}
use Rattle.fb_layout.proofs.structs.StructNeedsOnlyLowerOnes.{exact-length}
use Rattle.fb_layout.proofs.structs.FieldsStandAtLeastMultiples.{sizable, exact_sized, no-entry}
use Rattle.fb_layout.proofs.layouts.SizesOrTheFirstFault.{table_at, OfTypes, no-table-at, few-slots, all_types}
use Rattle.fb_layout.proofs.laws.NextMultipleIsTheLeast.{le-told}

-- what is known of a schema's structs
abbrev known_of : DeclaredSchema → Known
known_of S = known_from S [] S.types

known-is : (S : DeclaredSchema) → IsDeclared S → known_of S ≡ map if_small (exact S).structs
known-is S declared = known-exact S [] S.types tt (sizable S declared)

outcome : (S : DeclaredSchema) → IsDeclared S
    → OfTypes (exact S) 0 (length S.types) (tables_from S (known_of S) 0 S.types)
outcome S declared = rw (known-is S declared) (all_types S (exact S).structs (exact_sized S declared))

pub refused_for : (S : DeclaredSchema) → IsDeclared S → (f : LayoutFault) → tables_from S (known_of S) 0 S.types ≡ Err f
    → Refuses S f
refused_for S declared f e =
    let told : OfTypes (exact S) 0 (length S.types) (Err f) =
    rw e at (outcome S declared) in
    record {
      layout = exact S;
      schema = refl;
      sized = exact_sized S declared;
      fails = told.0;
      first = λ g fails. told.2 g fails (omega arith);
    }

-- ---- where no type fails a rule

gt-told : (n m : ℕ) → nat_le n m ≡ false → m < n
gt-told n m e = grind (arith, nat_tests)

unwrapped : (structs : List StructLayout) → ((s : ℕ) → (slice_index_or structs s no_struct).size ≤ 65535)
    → map (λ s. unwrap_or s no_struct) (map if_small structs) ≡ structs
unwrapped [] small = refl
unwrapped (r ∷ rs) small =
    ap (λ o. unwrap_or o no_struct ∷ map (λ s. unwrap_or s no_struct) (map if_small rs))
    (if_small-yes r (let few : r.size ≤ 65535 = small 0 in omega (arith, few)))
    ∙ ap (λ q. r ∷ q) (unwrapped rs (λ s. small (suc s)))

past-end : (types : List DeclaredType) (t : ℕ) → length types ≤ t → slice_get types t ≡ None
past-end [] t h = refl
past-end (x ∷ xs) zero h = absurd (omega (arith, h))
past-end (x ∷ xs) (suc t) h = past-end xs t (omega (arith, h))

-- no type stands past the last
no-more-slots : (S : DeclaredSchema) (t : ℕ) → length S.types ≤ t → slots_of (exact S) t ≡ []
no-more-slots S t h = ap (λ o. map (slot_of S) (slots_in (body_in o))) (past-end S.types t h)

struct-small-at : (S : DeclaredSchema)
    → ((f : LayoutFault) → Fails (exact S) f → 0 ≤ type_number f → type_number f < 0 + length S.types → ⊥) → (s : ℕ)
    → (struct_at (exact S) s).size ≤ 65535
struct-small-at S none s = by (nat_le (struct_at (exact S) s).size 65535) refl (nat_lt s (length S.types)) refl
  where
    long : length (exact S).structs ≡ 0 + length S.types
    long = exact-length S [] S.types

    within : (n m : ℕ) → nat_lt n m ≡ true → n < m
    within n m e = grind (arith, nat_tests)

    without : (n m : ℕ) → nat_lt n m ≡ false → m ≤ n
    without n m e = grind (arith, nat_tests)

    by : (few : Bool) → nat_le (struct_at (exact S) s).size 65535 ≡ few → (there : Bool)
        → nat_lt s (length S.types) ≡ there → (struct_at (exact S) s).size ≤ 65535
    by true e there t = le-told (struct_at (exact S) s).size 65535 e
    by false e true t = absurd (none (StructTooBig (record { 0 = s })) (gt-told (struct_at (exact S) s).size 65535 e)
        (omega arith) (let less = within s (length S.types) t in omega (arith, less)))
    by false e false t =
        let past = without s (length S.types) t in
        let entry = no-entry (exact S).structs s (omega (arith, long, past)) in
        rw entry (omega arith)

table-narrow-at : (S : DeclaredSchema)
    → ((f : LayoutFault) → Fails (exact S) f → 0 ≤ type_number f → type_number f < 0 + length S.types → ⊥) → (t : ℕ)
    → IsNarrow (exact S) t
table-narrow-at S none t = by (nat_lt t (length S.types)) refl
  where
    L : LaidSchema
    L = exact S

    within : (n m : ℕ) → nat_lt n m ≡ true → n < m
    within n m e = grind (arith, nat_tests)

    without : (n m : ℕ) → nat_lt n m ≡ false → m ≤ n
    without n m e = grind (arith, nat_tests)

    wide : t < length S.types → (b : Bool) → nat_le (widest L t) 65535 ≡ b → widest L t ≤ 65535
    wide less true e = le-told (widest L t) 65535 e
    wide less false e = absurd (none (TableTooWide (record { 0 = t })) (inl (gt-told (widest L t) 65535 e))
        (omega arith) (omega (arith, less)))

    few : t < length S.types → (b : Bool) → nat_le (length (slots_of L t)) 32765 ≡ b → length (slots_of L t) ≤ 32765
    few less true e = le-told (length (slots_of L t)) 32765 e
    few less false e = absurd (none (TableTooWide (record { 0 = t })) (inr (gt-told (length (slots_of L t)) 32765 e))
        (omega arith) (omega (arith, less)))

    by : (b : Bool) → nat_lt t (length S.types) ≡ b → IsNarrow L t
    by true e = let less = within t (length S.types) e in
        record {
          wide = wide less (nat_le (widest L t) 65535) refl;
          few = few less (nat_le (length (slots_of L t)) 32765) refl;
        }
    by false e = let both = few-slots L t (no-more-slots S t (without t (length S.types) e)) in
        record { wide = both.0; few = both.1 }

no-sizes : (tables : List TableSizes) (t : ℕ) → length tables ≤ t → slice_index_or tables t no_table ≡ no_table
no-sizes [] t h = refl
no-sizes (x ∷ xs) zero h = absurd (omega (arith, h))
no-sizes (x ∷ xs) (suc t) h = no-sizes xs t (omega (arith, h))

table-sizes-at : (S : DeclaredSchema) (tables : List TableSizes) → length tables ≡ length S.types
    → ((k : ℕ) → k < length S.types → slice_index_or tables k no_table ≡ table_at (exact S) (0 + k)) → (t : ℕ)
    → slice_index_or tables t no_table ≡ table_at (exact S) t
table-sizes-at S tables long each t = by (nat_lt t (length S.types)) refl
  where
    within : (n m : ℕ) → nat_lt n m ≡ true → n < m
    within n m e = grind (arith, nat_tests)

    without : (n m : ℕ) → nat_lt n m ≡ false → m ≤ n
    without n m e = grind (arith, nat_tests)

    by : (b : Bool) → nat_lt t (length S.types) ≡ b → slice_index_or tables t no_table ≡ table_at (exact S) t
    by true e = each t (within t (length S.types) e) ∙ ap (table_at (exact S)) (let sum : 0 + t ≡ t = omega arith in
        sum)
    by false e = let past = without t (length S.types) e in no-sizes tables t (omega (arith, long, past))
        ∙ no-table-at (exact S) t (no-more-slots S t past)

-- the layout that is made
pub record IsMade (S : DeclaredSchema) (sizes : List TableSizes) : Type 0 where
  pub made : IsWellMade (layout_known S (known_from S [] S.types))
  pub tables : (t : ℕ) → slice_index_or sizes t no_table ≡ table_at (layout_known S (known_from S [] S.types)) t

pub made_for : (S : DeclaredSchema) → IsDeclared S → (tables : List TableSizes)
    → tables_from S (known_of S) 0 S.types ≡ Ok tables → IsMade S tables
made_for S declared tables e =
    let told : OfTypes (exact S) 0 (length S.types) (Ok tables) =
    rw e at (outcome S declared) in
    let small = struct-small-at S told.2 in
    let same : exact S ≡ layout_known S (known_of S) =
    ap (with_structs S) (sym (ap (map (λ s. unwrap_or s no_struct)) (known-is S declared)
    ∙ unwrapped (exact S).structs small)) in
    let made : IsWellMade (exact S) =
    record { declared = declared; sized = exact_sized S declared; small = small; tables = table-narrow-at S told.2 }
    in
    record {
      made = subst IsWellMade same made;
      tables = rw (← same) (table-sizes-at S tables told.0 told.1);
    }
