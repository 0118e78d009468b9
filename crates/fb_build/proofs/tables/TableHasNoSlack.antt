-- A table that was laid has no slack.
use Rattle.std.proofs.Common.{◌≡◌, ◌≢◌, ℕ, zero, suc, ◌+◌, ◌-◌, ◌*◌, ◌^◌, ◌<◌, ◌≤◌, ◌⊎◌, inl, inr, ◌++◌, true}
use Rattle.std.proofs.Common.{false, not, ◌&&◌, nat_lt, List, length, replicate, slice_get, slice_index, Option}
use Rattle.std.proofs.Common.{None, Some, pos, refl, ap, sym, ◌∙◌, subst, arith, length-append}
use Rattle.std.specs.Prelude.{ℤ}
use Rattle.std.specs.Ordering.{int_eq}
use Rattle.std.proofs.lemmas.Bool.{false≢true, and_from, or_parts, le-leb, lt-ltb, ltb-false}
use Rattle.std.proofs.lemmas.Bool.Decides.{Decides-int_eq}
use Rattle.std.proofs.lemmas.List.{get_or-append_right}
use Rattle.fb_schema.specs.declared.kinds.Base.{Base}
use Rattle.fb_schema.specs.declared.kinds.Base.TheVariants.{U8}
use Rattle.fb_schema.specs.Alignments.{base_size}
use Rattle.fb_layout.specs.Laid.{LaidSchema, Slot, scalar_kind, struct_kind, table_kind, union_kind, code_kind}
use Rattle.fb_layout.specs.Laid.{text_kind, StoredShape, one_of, vector_of, slots_of}
use Rattle.fb_layout.specs.Sizes.{ceil4}
use Rattle.fb_layout.specs.Widths.{inline_size}
use Rattle.fb_value.specs.Datum.{Datum, a_number}
use Rattle.fb_value.specs.Lies.{LiesInline, LiesAtBy}
use Rattle.fb_value.specs.Num.{Bytes, num, scalar_of}
use Rattle.fb_value.specs.Places.{table_part, vtable, slot_number, is_present}
use Rattle.fb_value.specs.Tails.{from_end}
use Rattle.fb_build.specs.CoveredTails.{IsTightInTail}
use Rattle.fb_build.specs.Fields.{is_stored, fields_size, stored_align, sort_for, SlotFits, StoredFits, StoredEnd}
use Rattle.fb_build.specs.Fields.{EntriesEnd, AreKnown, HasDefault}
use Rattle.fb_build.specs.Pieces.{part_size, part_align}
use Rattle.fb_build.specs.Filled.{IsLaidSlot, AreFilled}
use Rattle.fb_tape.specs.InlineBytes.{IsTightInline, EachInlineAt}
use Rattle.fb_build.specs.Stored.{HoldsBit, CodesItsMembers, stored_of, is_in_field, absent_number}
use Rattle.fb_build.specs.Stored.{stored_number, EndsWithAField, PadsTableWithZeros}
use Rattle.fb_build.specs.TableBytes.{offset_from}
use Rattle.fb_build.specs.Tails.{TailSeen, Grows}
use Rattle.fb_tape.specs.Taken.{is_within}
use Rattle.fb_build.proofs.vtables.VtableHasTheStoredFields.{TellsStored, stored_size, stored_greatest, in_stored}
use Rattle.fb_build.proofs.vtables.VtableHasTheStoredFields.{IsNoDefault, none_default, StandsInside, TheyStandApart}
use Rattle.fb_build.proofs.vtables.VtableHasTheStoredFields.{all_apart, all_bits, number_at, tells_stored}
use Rattle.fb_build.proofs.structs.StructPaddingIsZero.{zeros_read}
use Rattle.fb_build.proofs.tail.PaddingIsZero.{zeros_long}
use Rattle.std.proofs.lemmas.Option.{slice_get_within}
use Rattle.fb_layout.proofs.sizes.AlignmentsArePowersOfTwo.{lower}
use Rattle.fb_tape.proofs.stored.SizesOfWhatIsStored.{got}

-- what is read of the table at p and of its vtable, where its slots have these end-counts
pub record TableRead (b : Bytes) (p c size u : ℕ) (ends : List ℕ) : Type 0 where
  pub inside : (nat_lt (num b p 4) (2 ^ 31) && nat_lt p (num b p 4)) ≡ false
  pub first : num b (vtable b p) 2 ≡ 4 + 2 * u
  pub second : num b (vtable b p + 2) 2 ≡ size
  pub each : (k : ℕ) → k < u → num b (vtable b p + (4 + 2 * k)) 2 ≡ offset_from c (slice_index ends k)
  pub slots : (k : ℕ) → slot_number b p k ≡ offset_from c (slice_index ends k)

-- how many bytes the table takes, and what it is aligned to
pub laid_size : (L : LaidSchema) (b : Bytes) (t p c size u : ℕ) (ends : List ℕ) → TableRead b p c size u ends
    → part_size L b (table_part t) p ≡ size
laid_size L b t p c size u ends read = read.second

pub laid_align : (L : LaidSchema) (low m c : ℕ) (s b : Bytes) (t p size u : ℕ) (xs : List (Option Datum))
    (ends : List ℕ) → length (slots_of L t) ≡ length xs → EntriesEnd L low m s (λ k f. true) (slots_of L t) xs ends
    → ((k : ℕ) → slice_index ends k < c)
    → TableRead b p c size u ends → part_align L b (table_part t) p ≡ stored_align L (slots_of L t) xs
laid_align L low m c s b t p size u xs ends long state under read =
    stored_greatest L b p 0 (slots_of L t) xs long
    (tells_stored L low m c s b p (slots_of L t) xs ends state under read.slots)

-- zeros that were laid, in bytes that have grown
pub zeros_stay : (a b : TailSeen) (o : Bytes) (r e : ℕ) → a.bytes ≡ replicate r 0 ++ o → Grows a b → length o < e
    → e ≤ length a.bytes → slice_index b.bytes (length b.bytes - e) ≡ 0
zeros_stay a b o r e zeros g over within =
    let whole = ap length g.grown in
    let parts = length-append g.front a.bytes in
    let long : length a.bytes ≡ r + length o = ap length zeros ∙ length-append (replicate r 0) o
    ∙ ap (λ n. n + length o) (zeros_long r) in
    let back : (length b.bytes - e) - length g.front ≡ length a.bytes - e = omega (arith, whole, parts, within) in
    let rest : slice_index (replicate r 0 ++ o) (length a.bytes - e) ≡ 0 =
    zeros_read r o (length a.bytes - e) (λ le. absurd (omega (arith, le, long, over))) in
    ap (λ x. slice_index x (length b.bytes - e)) g.grown
    ∙ get_or-append_right g.front a.bytes (length g.front) (length b.bytes - e) 0 refl
    (omega (arith, whole, parts, within))
    ∙ ap (λ i. slice_index a.bytes i) back ∙ ap (λ x. slice_index x (length a.bytes - e)) zeros ∙ rest

-- ---- numbers that are stored

-- a number that is stored isn't its slot's default
no_default : (f : Slot) (v n : ℤ) → f.required ≡ false → f.if_absent ≡ Some n → is_stored f (Some (a_number v)) ≡ true
    → v ≢ n
no_default f v n free absent is same =
    let test : not (int_eq n v) ≡ true = rw (free, absent) at is in
    let yes : int_eq n v ≡ true = (Decides-int_eq n v).1 (sym same) in
    let bad : not true ≡ true = rw yes at test in
    cc

scalar_kept : (L : LaidSchema) (s : Bytes) (f : Slot) (base : Base) (d : Datum) (q : ℕ) (n : ℤ) → f.required ≡ false
    → is_stored f (Some d) ≡ true → LiesInline L s (scalar_kind base) q d → f.if_absent ≡ Some n
    → scalar_of base (num s q (base_size base)) ≢ n
scalar_kept L s f base (a_number v) q n free is lies absent same = no_default f v n free absent is (lies ∙ same)
scalar_kept L s f base _ q n free is lies absent same = absurd lies

code_kept : (L : LaidSchema) (s : Bytes) (u : ℕ) (d : Datum) (q : ℕ) → SlotFits L (one_of (code_kind u)) d
    → LiesInline L s (scalar_kind U8) q d → pos (num s q 1) ≢ pos 0
code_kept L s u (a_number v) q fits lies same = fits.1 (lies ∙ same)
code_kept L s u _ q fits lies same = absurd lies

-- a shape that no default goes with
no_scalar : (f : Slot) (shape : StoredShape) (n : ℤ) → f.shape ≡ shape
    → ((base : Base) → shape ≡ one_of (scalar_kind base) → ⊥) → HasDefault f → ⊥
no_scalar f shape n is not_one h = not_one h.base (sym is ∙ h.scalar)

module _ (L : LaidSchema) (t low m c size u count : ℕ) (s : Bytes) (xs : List (Option Datum)) (ends : List ℕ)
    (within : c ≤ length s) (read : TableRead s (length s - c) c size u ends) (known : AreKnown L (slots_of L t) xs)
    (state : EntriesEnd L low m s (λ k f. true) (slots_of L t) xs ends) (under : (k : ℕ)
    → slice_index ends k < c) (last : (k : ℕ) → k + 1 ≡ u
    → 0 < slice_index ends k) (sized : size ≡ 4 + ceil4 (fields_size L (slots_of L t) xs)) (whole : size + low ≡ c)
    (filled : AreFilled L low count (λ k f. true) (slots_of L t) xs ends) (few : count + 4 ≤ c) (zeros : (e : ℕ)
    → count < e → e + 4 ≤ c → slice_index s (length s - e) ≡ 0) where
  tells : TellsStored s (length s - c) 0 (slots_of L t) xs
  tells = tells_stored L low m c s s (length s - c) (slots_of L t) xs ends state under read.slots

  trimmed : EndsWithAField s (length s - c)
  trimmed = by_used u refl
    where
      by_used : (n : ℕ) → u ≡ n → EndsWithAField s (length s - c)
      by_used zero is = inl (omega (arith, read.first, is))
      by_used (suc k) is =
          let q = vtable s (length s - c) in
          let some = last k (omega (arith, is)) in
          let at : q + (num s q 2 - 2) ≡ q + (4 + 2 * k) = omega (arith, read.first, is) in
          let number = read.each k (omega (arith, is)) in
          inr (rw at (omega (arith, number, number_at c (slice_index ends k) some, under k)))

  -- what is known of a slot that is told
  there_at : (k : ℕ) (f : Slot) (x : Option Datum) → slice_get (slots_of L t) k ≡ Some f → slice_get xs k ≡ Some x
      → is_present s (length s - c) k ≡ is_stored f x
  there_at k f x fk xk = let none : 0 + k ≡ k = omega arith in
      rw (← none) (tells k f x fk xk)

  some_end : (k : ℕ) (f : Slot) (x : Option Datum) → slice_get (slots_of L t) k ≡ Some f → slice_get xs k ≡ Some x
      → is_stored f x ≡ true → 0 < slice_index ends k
  some_end k f x fk xk is = by_entry x ((state k f x fk xk).stored is)
    where
      by_entry : (y : Option Datum) → StoredEnd L low m s true f y (slice_index ends k) → 0 < slice_index ends k
      by_entry None h = absurd h
      by_entry (Some d) h = omega (arith, h.0)

  padded : PadsTableWithZeros L s t (length s - c)
  padded i low_i free = by_case (lower (c - i) count)
    where
      p : ℕ
      p = length s - c

      parts : (nat_lt i 4 ≡ false) × (is_in_field L (stored_of L s t (length s - c)) i ≡ false)
      parts = or_parts _ _ free

      below : i < size
      below = omega (arith, read.second, low_i)

      by_case : (c - i ≤ count) ⊎ (count < c - i) → slice_index s ((length s - c) + i) ≡ 0
      by_case (inl old) =
          let w = filled.each (c - i) (omega (arith, below, whole)) old in
          let some = some_end w.slot w.field w.entry w.there.is w.there.has w.there.stored in
          let number = read.slots w.slot ∙ number_at c (slice_index ends w.slot) some in
          let from : slot_number s (length s - c) w.slot ≤ i =
          omega (arith, number, w.before, under w.slot, below, whole) in
          let until : i < slot_number s (length s - c) w.slot + inline_size L w.field.shape =
          omega (arith, number, w.behind, under w.slot, below, whole) in
          let near : is_within (slot_number s (length s - c) w.slot) (inline_size L w.field.shape) i ≡ true =
          and_from _ _ (le-leb _ _ from) (lt-ltb _ _ until) in
          let none : 0 + w.slot ≡ w.slot = omega arith in
          let taken = in_stored L s (length s - c) 0 (slots_of L t) w.slot w.field i w.there.is
          (rw none (there_at w.slot w.field w.entry w.there.is w.there.has ∙ w.there.stored)) (rw none near) in
          absurd (false≢true (sym parts.1 ∙ taken))
      by_case (inr new) =
          let at : (length s - c) + i ≡ length s - (c - i) = omega (arith, within, below, whole) in
          ap (λ j. slice_index s j) at ∙ zeros (c - i) new (omega (arith, ltb-false i 4 parts.0, below, whole))

  -- the number of a field that is told
  own_number : (k : ℕ) (f : Slot) (d : Datum) → slice_get (slots_of L t) k ≡ Some f → slice_get xs k ≡ Some (Some d)
      → is_stored f (Some d) ≡ true → IsNoDefault s (length s - c) f (slot_number s (length s - c) k)
  own_number k f d fk xk is = by_shape f.shape refl
    where
      q : ℕ
      q = (length s - c) + slot_number s (length s - c) k

      fits : StoredFits L f (Some d)
      fits = (known.each k f (Some d) fk xk).1

      lies : LiesAtBy (from_end s m) L s (sort_for f.shape d) ((length s - c) + slot_number s (length s - c) k) d
      lies =
          let laid = (state k f (Some d) fk xk).stored is in
          let number = read.slots k ∙ number_at c (slice_index ends k) (some_end k f (Some d) fk xk is) in
          let at : length s - slice_index ends k ≡ (length s - c) + slot_number s (length s - c) k =
          omega (arith, number, under k, within) in
          rw (← at) laid.1.lies.lies

      by_number : (shape : StoredShape) → f.shape ≡ shape
          → ((n : ℤ) → absent_number f shape ≡ Some n
          → stored_number s ((length s - c) + slot_number s (length s - c) k) shape ≢ n)
          → IsNoDefault s (length s - c) f (slot_number s (length s - c) k)
      by_number shape is h = rw is h

      without : (shape : StoredShape) → f.shape ≡ shape → ((base : Base) → shape ≡ one_of (scalar_kind base) → ⊥)
          → (n : ℤ) → f.if_absent ≡ Some n → ⊥
      without shape is none n absent = no_scalar f shape n is none (known.defaults k f n fk absent)

      by_shape : (shape : StoredShape) → f.shape ≡ shape
          → IsNoDefault s (length s - c) f (slot_number s (length s - c) k)
      by_shape (one_of (scalar_kind base)) shape =
          by_number _ shape (λ n absent. scalar_kept L s f base d _ n (known.defaults k f n fk absent).free is
          (rw shape at lies).1 absent)
      by_shape (one_of (code_kind w)) shape = by_number _ shape (λ n absent same. (
          let none : Some (pos 0) ≡ Some n = rw fits.0 at absent in
          let n_is : pos 0 ≡ n = cc in
          code_kept L s w d _ (rw (← shape) fits.1)
          (rw shape at lies).1 (same ∙ sym n_is)))
      by_shape (one_of (struct_kind w)) shape =
          by_number _ shape (λ n absent same. without _ shape (λ base e. cc) n absent)
      by_shape (one_of (table_kind w)) shape =
          by_number _ shape (λ n absent same. without _ shape (λ base e. cc) n absent)
      by_shape (one_of (union_kind w)) shape =
          by_number _ shape (λ n absent same. without _ shape (λ base e. cc) n absent)
      by_shape _ shape = by_number _ shape (λ n absent same. without _ shape (λ base e. cc) n absent)

  told_bit : (k : ℕ) (f : Slot) → slice_get (slots_of L t) k ≡ Some f → is_present s (length s - c) k ≡ true
      → HoldsBit s ((length s - c) + slot_number s (length s - c) k) f.shape
  told_bit k f fk there = by_entry (got xs k (omega (arith, slice_get_within (slots_of L t) k f fk, known.long)))
    where
      by_shape : (shape : StoredShape) (d : Datum)
          → EachInlineAt L s (IsTightInline L s) (sort_for shape d) (length s - slice_index ends k) d
          → length s - slice_index ends k ≡ (length s - c) + slot_number s (length s - c) k
          → HoldsBit s ((length s - c) + slot_number s (length s - c) k) shape
      by_shape (one_of (scalar_kind base)) d h at = rw (← at) h
      by_shape (one_of (code_kind w)) d h at = tt
      by_shape (one_of (struct_kind w)) d h at = tt
      by_shape (one_of (table_kind w)) d h at = tt
      by_shape (one_of (union_kind w)) d h at = tt
      by_shape (one_of text_kind) d h at = tt
      by_shape (vector_of kind) d h at = tt

      by_entry : (x : Option Datum) × (slice_get xs k ≡ Some x)
          → HoldsBit s ((length s - c) + slot_number s (length s - c) k) f.shape
      by_entry (None, xk) = absurd (false≢true (sym (there_at k f None fk xk) ∙ there))
      by_entry (Some d, xk) =
          let is : is_stored f (Some d) ≡ true = sym (there_at k f (Some d) fk xk) ∙ there in
          let laid = (state k f (Some d) fk xk).stored is in
          let number = read.slots k ∙ number_at c (slice_index ends k) (some_end k f (Some d) fk xk is) in
          by_shape f.shape d laid.1.inline (omega (arith, number, under k, within))

  told_number : (k : ℕ) (f : Slot) → slice_get (slots_of L t) k ≡ Some f → is_present s (length s - c) k ≡ true
      → IsNoDefault s (length s - c) f (slot_number s (length s - c) k)
  told_number k f fk there = by_entry (got xs k (omega (arith, slice_get_within (slots_of L t) k f fk, known.long)))
    where
      by_entry : (x : Option Datum) × (slice_get xs k ≡ Some x)
          → IsNoDefault s (length s - c) f (slot_number s (length s - c) k)
      by_entry (None, xk) = absurd (false≢true (sym (there_at k f None fk xk) ∙ there))
      by_entry (Some d, xk) = own_number k f d fk xk (sym (there_at k f (Some d) fk xk) ∙ there)

  -- ---- bytes of their own

  -- a slot that is told is laid, and ends before the table
  record TheLaid (k : ℕ) (f : Slot) : Type 0 where
    entry : Option Datum
    slot : IsLaidSlot (λ k f. true) (slots_of L t) xs k f entry
    number : slot_number s (length s - c) k ≡ c - slice_index ends k

  the_laid : (k : ℕ) (f : Slot) → slice_get (slots_of L t) k ≡ Some f → is_present s (length s - c) k ≡ true
      → TheLaid k f
  the_laid k f fk there =
      let x = got xs k (omega (arith, slice_get_within (slots_of L t) k f fk, known.long)) in
      let is = sym (there_at k f x.0 fk x.1) ∙ there in
      record {
        entry = x.0;
        slot = record { is = fk; has = x.1; stored = is; laid = refl };
        number = read.slots k ∙ number_at c (slice_index ends k) (some_end k f x.0 fk x.1 is);
      }

  stands_inside : (k : ℕ) (f : Slot) → slice_get (slots_of L t) k ≡ Some f → StandsInside L s (length s - c) size f k
  stands_inside k f fk there =
      let w = the_laid k f fk there in
      let own = filled.between k f w.entry w.slot in
      (omega (arith, w.number, own.1, few), omega (arith, w.number, own.0, under k, whole))

  they_stand_apart : (j k : ℕ) (f g : Slot) → j < k → slice_get (slots_of L t) j ≡ Some f
      → slice_get (slots_of L t) k ≡ Some g → TheyStandApart L s (length s - c) f g j k
  they_stand_apart j k f g low fj gk there also =
      let v = the_laid j f fj there in
      let w = the_laid k g gk also in
      by_side (filled.apart j k f g v.entry w.entry v.slot w.slot (λ same. omega (arith, low, same)))
    where
      by_side : (slice_index ends j + inline_size L g.shape ≤ slice_index ends k)
          ⊎ (slice_index ends k + inline_size L f.shape ≤ slice_index ends j)
          → (slot_number s (length s - c) j + inline_size L f.shape ≤ slot_number s (length s - c) k)
          ⊎ (slot_number s (length s - c) k + inline_size L g.shape ≤ slot_number s (length s - c) j)
      by_side (inl h) = let v = the_laid j f fj there in let w = the_laid k g gk also in
          inr (omega (arith, h, v.number, w.number, under j, under k))
      by_side (inr h) = let v = the_laid j f fj there in let w = the_laid k g gk also in
          inl (omega (arith, h, v.number, w.number, under j, under k))

  pub table_tight : CodesItsMembers L s t (length s - c) → IsTightInTail L s t (length s - c)
  table_tight coded = record {
    tight = record {
      size = read.second ∙ sized ∙ ap (λ n. 4 + ceil4 n)
          (sym (stored_size L s (length s - c) 0 (slots_of L t) xs known.long tells));
      trimmed = trimmed;
      padded = padded;
      coded = coded;
      bits = all_bits s (length s - c) 0 (slots_of L t)
          (λ k f fk there. (let none : 0 + k ≡ k = omega arith in
          rw none (told_bit k f fk (rw (← none) there))));
      own = rw read.second (all_apart L s (length s - c) size 0 (slots_of L t)
          (λ k f fk. (let none : 0 + k ≡ k = omega arith in
          subst (StandsInside L s (length s - c) size f) (sym none) (stands_inside k f fk)))
          (λ j k f g low fj gk. (let none : (i : ℕ) → 0 + i ≡ i = λ i. omega arith in
          rw (none j) (subst (TheyStandApart L s (length s - c) f g j) (sym (none k))
          (they_stand_apart j k f g low fj gk)))));
      defaults = none_default s (length s - c) 0 (slots_of L t)
          (λ k f fk there. (let none : 0 + k ≡ k = omega arith in
          rw none (told_number k f fk (rw (← none) there))));
    };
    inside = read.inside;
  }
