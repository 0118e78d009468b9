-- A table that has no slack has none where the same bytes stand further on.
use Rattle.std.proofs.Common.{◌≡◌, ℕ, suc, ◌+◌, ◌-◌, ◌^◌, ◌++◌, true, nat_lt, List, [], ◌∷◌, length, slice_index, refl}
use Rattle.std.proofs.Common.{ap, sym, ◌∙◌, subst, arith, length-append}
use Rattle.std.specs.Prelude.{pos}
use Rattle.std.proofs.lemmas.List.{get_or-append-add}
use Rattle.fb_schema.specs.Alignments.{base_size}
use Rattle.fb_layout.specs.Laid.{LaidSchema, Slot, scalar_kind, code_kind}
use Rattle.fb_layout.specs.Laid.{StoredShape, one_of, slots_of}
use Rattle.fb_value.specs.Num.{Bytes, num, scalar_of}
use Rattle.fb_value.specs.Places.{vtable, slot_number, code_at}
use Rattle.fb_value.specs.Tails.{from_end}
use Rattle.fb_value.proofs.tails.SameBytesHoldTheSameFurtherOn.{each_at_moved}
use Rattle.fb_build.specs.Stored.{StoredSlot, stored_from, stored_of, stored_number, NoneIsDefault, IsBit, HoldsBit}
use Rattle.fb_build.specs.Stored.{AllHoldBits, CodesItsMembers, IsTightTable}
use Rattle.fb_value.proofs.tails.SameBytesReadTheSameFurtherOn.{still_inside, number_moved, number_from, vtable_moved}
use Rattle.fb_build.specs.CoveredTails.{IsTightInTail, TightKeptInFront}

module _ (L : LaidSchema) (b c : Bytes) (k : ℕ) (bytes : (i : ℕ) → slice_index c (k + i) ≡ slice_index b i) where
  module _ (p : ℕ) (slots : (j : ℕ) → slot_number c (k + p) j ≡ slot_number b p j) where
    pub stored_moved : (j : ℕ) (fs : List Slot) → stored_from c (k + p) j fs ≡ stored_from b p j fs
    unfolding stored_from
    stored_moved j [] = refl
    stored_moved j (f ∷ fs) = rw (slots j, stored_moved (suc j) fs) refl

    shape_moved : (at : ℕ) (shape : StoredShape) → stored_number c ((k + p) + at) shape ≡ stored_number b (p + at) shape
    shape_moved at (one_of (scalar_kind base)) =
        ap (scalar_of base) (number_from b c k bytes ((k + p) + at) (p + at) (base_size base) (omega arith))
    shape_moved at (one_of (code_kind u)) = ap pos (number_from b c k bytes ((k + p) + at) (p + at) 1 (omega arith))
    shape_moved at _ = refl

    defaults_moved : (xs : List StoredSlot) → NoneIsDefault b p xs → NoneIsDefault c (k + p) xs
    defaults_moved [] h = tt
    defaults_moved (x ∷ xs) h = ((λ n is e. h.0 n is (sym (shape_moved x.at x.slot.shape) ∙ e)), defaults_moved xs h.1)

    bit_moved : (at : ℕ) (shape : StoredShape) → HoldsBit b (p + at) shape → HoldsBit c ((k + p) + at) shape
    bit_moved at (one_of (scalar_kind base)) h =
        subst (IsBit base) (sym (number_from b c k bytes ((k + p) + at) (p + at) 1 (omega arith))) h
    bit_moved at _ h = tt

    bits_moved : (xs : List StoredSlot) → AllHoldBits b p xs → AllHoldBits c (k + p) xs
    bits_moved [] h = tt
    bits_moved (x ∷ xs) h = (bit_moved x.at x.slot.shape h.0, bits_moved xs h.1)

    code_moved : (j : ℕ) → code_at c (k + p) j ≡ code_at b p j
    code_moved j =
        rw (slots j, number_from b c k bytes ((k + p) + slot_number b p j) (p + slot_number b p j) 1 (omega arith)) refl

    coded_moved : (t : ℕ) → CodesItsMembers L b t p → CodesItsMembers L c t (k + p)
    coded_moved t h j f u fj is there none = h j f u fj is (rw (slots j) at there) (sym (code_moved (j - 1)) ∙ none)

    tight_moved : (t : ℕ) → vtable c (k + p) ≡ k + vtable b p → IsTightTable L b t p → IsTightTable L c t (k + p)
    tight_moved t at h =
        let q = vtable b p in
        let stored : stored_of L c t (k + p) ≡ stored_of L b t p = stored_moved 0 (slots_of L t) in
        let first : num c (vtable c (k + p)) 2 ≡ num b q 2 = number_from b c k bytes (vtable c (k + p)) q 2 at in
        let second : num c (vtable c (k + p) + 2) 2 ≡ num b (q + 2) 2 =
        number_from b c k bytes (vtable c (k + p) + 2) (q + 2) 2 (omega (arith, at)) in
        let last : num c (vtable c (k + p) + (num b q 2 - 2)) 2 ≡ num b (q + (num b q 2 - 2)) 2 =
        number_from b c k bytes (vtable c (k + p) + (num b q 2 - 2)) (q + (num b q 2 - 2)) 2 (omega (arith, at)) in
        record {
          size = rw (second, stored) h.size;
          trimmed = rw (first, last) h.trimmed;
          padded = rw (second, stored) (λ i low free. ap (λ j. slice_index c j) (omega arith) ∙ bytes (p + i)
              ∙ h.padded i low free);
          own = rw (second, stored) h.own;
          bits = rw stored (bits_moved (stored_of L b t p) h.bits);
          coded = coded_moved t h.coded;
          defaults = rw stored (defaults_moved (stored_of L b t p) h.defaults);
        }

  pub tight_further_on : (t p : ℕ) → ((j : ℕ) → slot_number c (k + p) j ≡ slot_number b p j) → IsTightInTail L b t p
      → IsTightInTail L c t (k + p)
  tight_further_on t p slots h =
      let s = num b p 4 in
      let same : num c (k + p) 4 ≡ s = number_moved b c k bytes p 4 in
      let at : vtable c (k + p) ≡ k + vtable b p = vtable_moved b c k bytes p h.inside in
      record {
        tight = tight_moved p slots t at h.tight;
        inside = rw same (still_inside (nat_lt s (2 ^ 31)) s p k h.inside);
      }

pub tight_front_shown : TightKeptInFront
tight_front_shown L m front s sort e d h tight =
    let whole : length (front ++ s) ≡ length front + length s = length-append front s in
    let at : length front + (length s - e) ≡ length (front ++ s) - e = omega (arith, h.within, whole) in
    let moved : (i : ℕ) → slice_index (front ++ s) (length front + i) ≡ slice_index s i =
    λ i. get_or-append-add front s i 0 in
    rw (← at) (each_at_moved L (from_end s m) (λ a p. true) s (front ++ s) (length front) (omega (arith, whole)) moved
    (λ a p low is. refl)
    (λ t p. IsTightInTail L s t p) (λ t p. IsTightInTail L (front ++ s) t p)
    (λ t p slots known. tight_further_on L s (front ++ s) (length front) moved t p slots known) sort (length s - e)
    d h.lies tight)
