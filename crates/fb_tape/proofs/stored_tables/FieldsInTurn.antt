-- One field after the other is noted.
use Rattle.std.proofs.Common.{◌≡◌, ◌≤◌, ◌+◌, ◌-◌, ◌++◌, ◌==◌, ◌∙◌, ℕ, zero, suc, true, false, List, [], ◌∷◌}
use Rattle.std.proofs.Common.{Some, slice_get, slice_set, length, length-append, drop, map, max, refl, sym, ap, arith}
use Rattle.std.proofs.Common.{◌<◌, ◌*◌}
use Rattle.std.proofs.lemmas.Bool.{ne_eqb}
use Rattle.std.proofs.lemmas.List.{append_assoc, append-nil, length-map, length-set}
use Rattle.fb_schema.specs.Alignments.{greatest_in}
use Rattle.std.proofs.lemmas.Grind.{flat_map-append}
use Rattle.std.proofs.lemmas.List.Sums.{sum_by-cons}
use Rattle.fb_value.specs.Num.{Bytes}
use Rattle.fb_tape.specs.OpenFields.{OpenField}
use Rattle.fb_tape.specs.StoredTables.{taken_by, taken, at_align, notes_of, bytes_of, placed, put_number, told}
use Rattle.fb_tape.specs.declared.ops.NotedField.{NotedField}

pub drop_next : {A : Type 0} (xs : List A) (i : ℕ) (x : A) → slice_get xs i ≡ Some x → drop i xs ≡ x ∷ drop (i + 1) xs
drop_next [] i x h = cc
drop_next (y ∷ xs) zero x h = let same : y ≡ x = cc in rw same refl
drop_next (y ∷ xs) (suc i) x h = let more : suc i + 1 ≡ suc (i + 1) = omega arith in rw more (drop_next xs i x h)

-- What is noted once all fields are, told by what is noted so far and by the fields that are left.
pub record Noting (size : ℕ) (left all : List OpenField) (notes notes_before : List NotedField)
    (bytes bytes_before : Bytes) (laid laid_before : ℕ) (slots slots_before : List ℕ) : Type 0 where
  pub notes_are : notes ++ notes_of left ≡ notes_before ++ notes_of all
  pub bytes_are : bytes ++ bytes_of left ≡ bytes_before ++ bytes_of all
  pub laid_are : laid + taken left ≡ laid_before + taken all
  pub told_are : told size laid left slots ≡ told size laid_before all slots_before
  pub slots_long : length slots ≡ length slots_before

pub put_long : (bytes : Bytes) (at n : ℕ) → length (put_number bytes at n) ≡ length bytes
put_long bytes at n = simp length-set

pub begun : (size : ℕ) (all : List OpenField) (notes : List NotedField) (bytes : Bytes) (laid : ℕ) (slots : List ℕ)
    → Noting size all all notes notes bytes bytes laid laid slots slots
begun size all notes bytes laid slots = record {
  notes_are = refl;
  bytes_are = refl;
  laid_are = refl;
  told_are = refl;
  slots_long = refl;
}

pub at_align_more : (a : ℕ) (x : OpenField) (rest : List OpenField) → (x.align == a) ≡ true
    → at_align a (x ∷ rest) ≡ x ∷ at_align a rest
at_align_more a x rest is = rw is refl

pub at_align_other : (a : ℕ) (x : OpenField) (rest : List OpenField) → (x.align == a) ≡ false
    → at_align a (x ∷ rest) ≡ at_align a rest
at_align_other a x rest is = rw is refl

module _ {size : ℕ} {x : OpenField} {rest all : List OpenField} {notes notes_before : List NotedField}
    {bytes bytes_before : Bytes} {laid laid_before : ℕ} {slots slots_before : List ℕ}
    (h : Noting size (x ∷ rest) all notes notes_before bytes bytes_before laid laid_before slots slots_before)
  where
    pub noted : Noting size rest all (notes ++ (x.note ∷ [])) notes_before (bytes ++ x.bytes) bytes_before
        (laid + taken_by x.note) laid_before
        (put_number slots (4 + 2 * x.slot) (size - (laid + taken_by x.note))) slots_before
    noted = record {
      notes_are = append_assoc notes (x.note ∷ []) (notes_of rest) ∙ h.notes_are;
      bytes_are = append_assoc bytes x.bytes (bytes_of rest) ∙ h.bytes_are;
      laid_are = omega (arith, h.laid_are, sum_by-cons (λ (y : OpenField). taken_by y.note) x rest);
      told_are = h.told_are;
      slots_long = put_long slots (4 + 2 * x.slot) (size - (laid + taken_by x.note)) ∙ h.slots_long;
    }

    pub room_here : laid + taken_by x.note ≤ laid_before + taken all
    room_here = omega (arith, h.laid_are, sum_by-cons (λ (y : OpenField). taken_by y.note) x rest)

no_field : (xs : List OpenField) → length xs ≡ 0 → xs ≡ []
no_field [] none = refl
no_field (x ∷ xs) none = absurd (omega (arith, none))

module _ {size : ℕ} {left all : List OpenField} {notes notes_before : List NotedField}
    {bytes bytes_before : Bytes} {laid laid_before : ℕ} {slots slots_before : List ℕ}
    (h : Noting size left all notes notes_before bytes bytes_before laid laid_before slots slots_before)
  where
    -- Once none is left all are noted.
    pub all_noted : left ≡ []
        → (notes ≡ notes_before ++ notes_of all) × (bytes ≡ bytes_before ++ bytes_of all)
        × (laid ≡ laid_before + taken all) × (slots ≡ told size laid_before all slots_before)
    all_noted none = (
      sym (append-nil notes) ∙ rw none at h.notes_are,
      sym (append-nil bytes) ∙ rw none at h.bytes_are,
      omega (arith, rw none at h.laid_are),
      rw none at h.told_are,
    )

    -- Once as many are noted as there are, none is left.
    pub none_left : length notes_before + length all ≤ length notes → left ≡ []
    none_left many =
        no_field left (omega (
          arith,
          many,
          ap length h.notes_are,
          length-append notes (notes_of left),
          length-append notes_before (notes_of all),
          length-map left (λ x. x.note),
          length-map all (λ x. x.note),
        ))

-- ---- several fields at once

pub taken_both : (xs ys : List OpenField) → taken (xs ++ ys) ≡ taken xs + taken ys
taken_both [] ys = omega arith
taken_both (x ∷ xs) ys =
    let both = sum_by-cons (λ (y : OpenField). taken_by y.note) x (xs ++ ys) in
    let one = sum_by-cons (λ (y : OpenField). taken_by y.note) x xs in
    omega (arith, both, one, taken_both xs ys)

pub notes_both : (xs ys : List OpenField) → notes_of (xs ++ ys) ≡ notes_of xs ++ notes_of ys
notes_both [] ys = refl
notes_both (x ∷ xs) ys = ap (λ ns. x.note ∷ ns) (notes_both xs ys)

pub bytes_both : (xs ys : List OpenField) → bytes_of (xs ++ ys) ≡ bytes_of xs ++ bytes_of ys
bytes_both xs ys = flat_map-append (λ (x : OpenField). x.bytes) xs ys

pub placed_both : (size laid : ℕ) (xs ys : List OpenField) (slots : List ℕ)
    → placed size laid (xs ++ ys) slots ≡ placed size (laid + taken xs) ys (placed size laid xs slots)
placed_both size laid [] ys slots = let same : laid + 0 ≡ laid = omega arith in rw same refl
placed_both size laid (x ∷ xs) ys slots =
    let one = sum_by-cons (λ (y : OpenField). taken_by y.note) x xs in
    let same : laid + taken (x ∷ xs) ≡ (laid + taken_by x.note) + taken xs = omega (arith, one) in
    rw same (placed_both size (laid + taken_by x.note) xs ys
    (slice_set slots x.slot (size - (laid + taken_by x.note))))

pub told_both : (size laid : ℕ) (xs ys : List OpenField) (vtable : Bytes)
    → told size laid (xs ++ ys) vtable ≡ told size (laid + taken xs) ys (told size laid xs vtable)
told_both size laid [] ys vtable = let same : laid + 0 ≡ laid = omega arith in rw same refl
told_both size laid (x ∷ xs) ys vtable =
    let one = sum_by-cons (λ (y : OpenField). taken_by y.note) x xs in
    let same : laid + taken (x ∷ xs) ≡ (laid + taken_by x.note) + taken xs = omega (arith, one) in
    rw same (told_both size (laid + taken_by x.note) xs ys
    (put_number vtable (4 + 2 * x.slot) (size - (laid + taken_by x.note))))

pub placed_long : (size laid : ℕ) (xs : List OpenField) (slots : List ℕ)
    → length (placed size laid xs slots) ≡ length slots
placed_long size laid [] slots = refl
placed_long size laid (x ∷ xs) slots =
    placed_long size (laid + taken_by x.note) xs (slice_set slots x.slot (size - (laid + taken_by x.note)))
    ∙ length-set slots x.slot (size - (laid + taken_by x.note))

module _ {size : ℕ} (some rest : List OpenField) {all : List OpenField}
    {notes new_notes notes_before : List NotedField} {bytes new_bytes bytes_before : Bytes}
    {laid new_laid laid_before : ℕ} {slots new_slots slots_before : List ℕ}
  where
    pub several_noted : new_notes ≡ notes ++ notes_of some → new_bytes ≡ bytes ++ bytes_of some
        → new_laid ≡ laid + taken some → new_slots ≡ told size laid some slots → length new_slots ≡ length slots
        → Noting size (some ++ rest) all notes notes_before bytes bytes_before laid laid_before slots slots_before
        → Noting size rest all new_notes notes_before new_bytes bytes_before new_laid laid_before new_slots slots_before
    several_noted notes_are bytes_are laid_are slots_are long h = record {
      notes_are = rw notes_are (append_assoc notes (notes_of some) (notes_of rest)
          ∙ rw (notes_both some rest) at h.notes_are);
      bytes_are = rw bytes_are (append_assoc bytes (bytes_of some) (bytes_of rest)
          ∙ rw (bytes_both some rest) at h.bytes_are);
      laid_are = omega (arith, laid_are, taken_both some rest, h.laid_are);
      told_are = rw (laid_are, slots_are) (sym (told_both size laid some rest slots) ∙ h.told_are);
      slots_long = long ∙ h.slots_long;
    }

-- ---- alignments that no field has

pub none_above : (a g : ℕ) (xs : List OpenField) → greatest_in (map (λ x. x.align) xs) ≤ g → g < a
    → at_align a xs ≡ []
none_above a g [] low over = refl
none_above a g (x ∷ xs) low over =
    at_align_other a x xs (ne_eqb x.align a (λ same. omega (arith, same, low, over)))
    ∙ none_above a g xs (omega (arith, low)) over

-- ---- sums over the fields in the order of slots

pub max_again : (a b c m : ℕ) → max a (max b c) ≡ m → max (max a b) c ≡ m
max_again a b c m h = omega (arith, h)

pub taken_more : (x : OpenField) (xs : List OpenField) → taken (x ∷ xs) ≡ taken_by x.note + taken xs
taken_more x xs = sum_by-cons (λ (y : OpenField). taken_by y.note) x xs
