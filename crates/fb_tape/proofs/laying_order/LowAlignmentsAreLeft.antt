-- Fields are left whose alignment is below one that was noted, half of it at most.
use Rattle.std.proofs.Common.{◌≡◌, ◌≤◌, ◌<◌, ◌+◌, ◌-◌, ◌^◌, ◌/◌, ◌++◌, ◌⊎◌, inl, inr, ℕ, zero, suc, List}
use Rattle.std.proofs.Common.{[], ◌∷◌, length}
use Rattle.std.proofs.Common.{length-append, map, flat_map, max, refl, sym, ap, arith}
use Rattle.std.proofs.Math.Pow.{pow-lt, pow_mono}
use Rattle.std.proofs.lemmas.List.{length-map}
use Rattle.std.proofs.lemmas.List.Elements.{All-head, All-tail}
use Rattle.std.specs.List.{All}
use Rattle.fb_schema.specs.Alignments.{greatest_in}
use Rattle.fb_layout.specs.Sizes.{IsAlignment}
use Rattle.fb_value.specs.Num.{Bytes}
use Rattle.fb_tape.specs.OpenFields.{OpenField}
use Rattle.fb_tape.specs.StoredTables.{taken, at_align, in_order, notes_of, bytes_of, told}
use Rattle.fb_tape.specs.declared.ops.NotedField.{NotedField}
use Rattle.fb_tape.proofs.stored_tables.FieldsInTurn.{Noting, begun, none_above, none_left, all_noted, several_noted}

-- the alignments below 2^e, falling; those of `falling_alignments` are below 2^9
abbrev pub below : ℕ → List ℕ
below zero = []
below (suc e) = 2 ^ e ∷ below e

abbrev pub fields_below : ℕ → List OpenField → List OpenField
fields_below e xs = flat_map (λ a. at_align a xs) (below e)

-- the greatest of them; 0 where there is none
abbrev pub half_power : ℕ → ℕ
half_power zero = 0
half_power (suc e) = 2 ^ e

pub halved : (e : ℕ) → 2 ^ e / 2 ≡ half_power e
halved zero = refl
halved (suc e) = let twice : 2 ^ suc e ≡ 2 ^ e + 2 ^ e = omega arith in omega (arith, twice)

pub falls : (e : ℕ) → 2 ^ e / 2 < 2 ^ e
falls e =
    let low : 0 ≤ e = omega arith in
    let some : 2 ^ 0 ≤ 2 ^ e = pow_mono low in omega (arith, some)

none_from : (d k : ℕ) (xs : List OpenField) → greatest_in (map (λ x. x.align) xs) ≤ 2 ^ d
    → fields_below (k + suc d) xs ≡ fields_below (suc d) xs
none_from d zero xs low = let same : 0 + suc d ≡ suc d = omega arith in rw same refl
none_from d (suc k) xs low =
    let next : suc k + suc d ≡ suc (k + suc d) = omega arith in
    let less : d < k + suc d = omega arith in
    let more : 2 ^ d < 2 ^ (k + suc d) = pow-lt less in
    let none = none_above (2 ^ (k + suc d)) (2 ^ d) xs low more in
    rw (next, none) (none_from d k xs low)

-- No field is aligned to more than the greatest.
pub all_below : (g : ℕ) (own : IsAlignment g) (xs : List OpenField) → greatest_in (map (λ x. x.align) xs) ≤ g
    → fields_below (suc own.exponent) xs ≡ in_order xs
all_below g own xs low =
    let same : (8 - own.exponent) + suc own.exponent ≡ 9 = omega (arith, own.few) in
    let all = none_from own.exponent (8 - own.exponent) xs (omega (arith, low, own.is)) in
    sym (rw same at all)

module _ (align size : ℕ) (opens : List OpenField) (notes notes_before : List NotedField)
    (bytes bytes_before : Bytes) (laid laid_before : ℕ) (vtable vtable_before : Bytes)
  where
    -- the fields of this alignment and of lower ones are left
    pub record Falling : Type 0 where
      pub exponent : ℕ
      pub align_is : align ≡ half_power exponent
      pub noting : Noting size (fields_below exponent opens) (in_order opens) notes notes_before bytes bytes_before laid
          laid_before vtable vtable_before

    -- and there are some
    pub record FallingOn : Type 0 where
      pub exponent : ℕ
      pub align_is : align ≡ 2 ^ exponent
      pub noting : Noting size (at_align align opens ++ fields_below exponent opens) (in_order opens) notes notes_before
          bytes bytes_before laid laid_before vtable vtable_before

module _ {align size : ℕ} {opens : List OpenField} {notes notes_before : List NotedField}
    {bytes bytes_before : Bytes} {laid laid_before : ℕ} {vtable vtable_before : Bytes}
  where
    by_exponent : (e : ℕ) → align ≡ half_power e
        → Noting size (fields_below e opens) (in_order opens) notes notes_before bytes bytes_before laid laid_before
        vtable vtable_before → length notes < length notes_before + length (in_order opens)
        → FallingOn align size opens notes notes_before bytes bytes_before laid laid_before vtable vtable_before
    by_exponent zero is h few =
        let all = all_noted h refl in
        absurd (omega (
          arith,
          few,
          ap length all.0,
          length-append notes_before (notes_of (in_order opens)),
          length-map (in_order opens) (λ x. x.note),
        ))
    by_exponent (suc e) is h few = record { exponent = e; align_is = is; noting = rw is h }

    pub falls_on : Falling align size opens notes notes_before bytes bytes_before laid laid_before vtable vtable_before
        → length notes < length notes_before + length (in_order opens)
        → FallingOn align size opens notes notes_before bytes bytes_before laid laid_before vtable vtable_before
    falls_on h few = by_exponent h.exponent h.align_is h.noting few

    pub none_falls : Falling align size opens notes notes_before bytes bytes_before laid laid_before vtable
        vtable_before → length notes_before + length (in_order opens) ≤ length notes
        → (notes ≡ notes_before ++ notes_of (in_order opens)) × (bytes ≡ bytes_before ++ bytes_of (in_order opens))
        × (laid ≡ laid_before + taken (in_order opens))
        × (vtable ≡ told size laid_before (in_order opens) vtable_before)
    none_falls h many = all_noted h.noting (none_left h.noting many)

module _ {align size : ℕ} {opens : List OpenField} {notes new_notes notes_before : List NotedField}
    {bytes new_bytes bytes_before : Bytes} {laid new_laid laid_before : ℕ} {vtable new_vtable vtable_before : Bytes}
  where
    pub falls_next : FallingOn align size opens notes notes_before bytes bytes_before laid laid_before vtable
        vtable_before
        → new_notes ≡ notes ++ notes_of (at_align align opens) → new_bytes ≡ bytes ++ bytes_of (at_align align opens)
        → new_laid ≡ laid + taken (at_align align opens) → new_vtable ≡ told size laid (at_align align opens) vtable
        → length new_vtable ≡ length vtable
        → Falling (align / 2) size opens new_notes notes_before new_bytes bytes_before new_laid laid_before new_vtable
        vtable_before
    falls_next h notes_are bytes_are laid_are vtable_is long = record {
      exponent = h.exponent;
      align_is = rw h.align_is (halved h.exponent);
      noting = several_noted (at_align align opens) (fields_below h.exponent opens) notes_are bytes_are laid_are
          vtable_is long h.noting;
    }

pub begins : (g : ℕ) (own : IsAlignment g) (opens : List OpenField) → greatest_in (map (λ x. x.align) opens) ≤ g
    → (size : ℕ) (notes : List NotedField) (bytes : Bytes) (laid : ℕ) (vtable : Bytes)
    → Falling g size opens notes notes bytes bytes laid laid vtable vtable
begins g own opens low size notes bytes laid vtable = record {
  exponent = suc own.exponent;
  align_is = own.is;
  noting = rw (all_below g own opens low) (begun size (in_order opens) notes bytes laid vtable);
}

one_of : (a b : ℕ) → (max a b ≡ a) ⊎ (max a b ≡ b)
one_of zero b = inr (omega arith)
one_of (suc a) zero = inl (omega arith)
one_of (suc a) (suc b) = one_more (one_of a b)
  where
    one_more : (max a b ≡ a) ⊎ (max a b ≡ b) → (max (suc a) (suc b) ≡ suc a) ⊎ (max (suc a) (suc b) ≡ suc b)
    one_more (inl is) = inl (omega (arith, is))
    one_more (inr is) = inr (omega (arith, is))

greater_aligned : (a b : ℕ) → IsAlignment a → IsAlignment b → (max a b ≡ a) ⊎ (max a b ≡ b) → IsAlignment (max a b)
greater_aligned a b ha hb (inl is) = rw is ha
greater_aligned a b ha hb (inr is) = rw is hb

-- The greatest alignment is one.
pub greatest_aligned : (n : ℕ) → IsAlignment n → (xs : List OpenField) → All (λ x. IsAlignment x.align) xs
    → IsAlignment (max n (greatest_in (map (λ x. x.align) xs)))
greatest_aligned n own [] aligned = let same : max n 0 ≡ n = omega arith in rw same own
greatest_aligned n own (x ∷ xs) aligned =
    let g = greatest_in (map (λ (y : OpenField). y.align) xs) in
    let first = All-head (λ (y : OpenField). IsAlignment y.align) x xs aligned in
    let rest = greatest_aligned n own xs (All-tail (λ (y : OpenField). IsAlignment y.align) x xs aligned) in
    let same : max n (max x.align g) ≡ max x.align (max n g) = omega arith in
    rw same (greater_aligned x.align (max n g) first rest (one_of x.align (max n g)))
