-- What bytes tell of a table is the same where the same bytes stand further on.
use Rattle.std.proofs.Common.{◌≡◌, ℕ, zero, suc, ◌+◌, ◌-◌, ◌*◌, ◌^◌, Bool, true, false, cond, not, ◌&&◌, ◌==◌, nat_lt}
use Rattle.std.proofs.Common.{List, [], ◌∷◌, map, slice_index, Option, None, Some, option_map, refl, ap, ◌∙◌, arith}
use Rattle.std.proofs.lemmas.Bool.{ltb-false, le-ltb}
use Rattle.fb_layout.specs.Laid.{LaidSchema, Slot, scalar_kind, struct_kind, table_kind, union_kind, code_kind}
use Rattle.fb_layout.specs.Laid.{text_kind, StoredShape, one_of, vector_of, member_by_code}
use Rattle.fb_value.specs.Num.{Bytes, num}
use Rattle.fb_value.specs.Places.{table_part, member_part, text_part, vector_part, Sort, ref_place, inline_place}
use Rattle.fb_value.specs.Places.{unknown_place, Place, vtable, slot_number, is_present, code_at, named_slots}
use Rattle.fb_value.specs.Places.{named_slot, named_union, sort_of}
use Rattle.fb_value.specs.Rules.{first_missing}

way_moved : (t : Bool) (s p k n : ℕ) → (t && nat_lt p s) ≡ false
    → cond t ((k + p) - s) ((k + p) + (n - s)) ≡ k + cond t (p - s) (p + (n - s))
way_moved true s p k n e = omega (arith, ltb-false p s e)
way_moved false s p k n e = omega arith

pub still_inside : (t : Bool) (s p k : ℕ) → (t && nat_lt p s) ≡ false → (t && nat_lt (k + p) s) ≡ false
still_inside true s p k e = le-ltb (k + p) s (omega (arith, ltb-false p s e))
still_inside false s p k e = refl

-- a place further on
abbrev pub moved : ℕ → Place → Place
moved k x = record { sort = x.sort; at = k + x.at }

module _ (b c : Bytes) (k : ℕ) (bytes : (i : ℕ) → slice_index c (k + i) ≡ slice_index b i) where
  pub number_moved : (p n : ℕ) → num c (k + p) n ≡ num b p n
  unfolding num
  number_moved p zero = refl
  number_moved p (suc n) =
      let at : slice_index c ((k + p) + n) ≡ slice_index b (p + n) =
      ap (λ i. slice_index c i) (omega arith) ∙ bytes (p + n) in
      rw (number_moved p n, at) refl

  pub number_from : (q p n : ℕ) → q ≡ k + p → num c q n ≡ num b p n
  number_from q p n e = rw e (number_moved p n)

  -- p is a table whose vtable isn't before the bytes
  pub vtable_moved : (p : ℕ) → (nat_lt (num b p 4) (2 ^ 31) && nat_lt p (num b p 4)) ≡ false
      → vtable c (k + p) ≡ k + vtable b p
  vtable_moved p inside = rw (number_moved p 4)
      (way_moved (nat_lt (num b p 4) (2 ^ 31)) (num b p 4) p k (2 ^ 32) inside)

  pub slot_moved : (p j : ℕ) → vtable c (k + p) ≡ k + vtable b p → slot_number c (k + p) j ≡ slot_number b p j
  unfolding slot_number
  slot_moved p j e =
      let size = number_from (vtable c (k + p)) (vtable b p) 2 e in
      let entry = number_from (vtable c (k + p) + (4 + 2 * j)) (vtable b p + (4 + 2 * j)) 2 (omega (arith, e)) in
      rw (size, entry) refl

  module _ (L : LaidSchema) (p : ℕ) (slots : (j : ℕ) → slot_number c (k + p) j ≡ slot_number b p j) where
    pub missing_moved : (j : ℕ) (fs : List Slot) → first_missing c (k + p) j fs ≡ first_missing b p j fs
    missing_moved j [] = refl
    missing_moved j (f ∷ fs) = rw (slots j, slots (j - 1), missing_moved (suc j) fs) refl

    code_moved : (j : ℕ) → code_at c (k + p) j ≡ code_at b p j
    code_moved j = rw (slots j, number_from ((k + p) + slot_number b p j) (p + slot_number b p j) 1 (omega arith)) refl

    there_moved : (t : Bool) (s : Sort) (n : ℕ)
        → cond t (Some (record { sort = s; at = (k + p) + n })) None
        ≡ option_map (moved k) (cond t (Some (record { sort = s; at = p + n })) None)
    there_moved true s n = ap (λ (i : ℕ). Some (record { sort = s; at = i })) (omega arith)
    there_moved false s n = refl

    union_moved : (j d : ℕ) (o : Option ℕ) → named_union c (k + p) j d o ≡ option_map (moved k) (named_union b p j d o)
    union_moved j d None =
        rw (slots j) (there_moved (not (d == 0) && is_present b p j) (unknown_place d) (slot_number b p j))
    union_moved j d (Some t) =
        rw (slots j) (there_moved (is_present b p j) (ref_place (member_part d t)) (slot_number b p j))

    one_named : (j : ℕ) (fs : List Slot) (s : StoredShape)
        → named_slot L c (k + p) j fs s ≡ option_map (moved k) (named_slot L b p j fs s)
    one_named j fs (one_of (union_kind u)) =
        rw (code_moved (j - 1)) (union_moved j (code_at b p (j - 1)) (member_by_code L u (code_at b p (j - 1))))
    one_named j fs (one_of (code_kind u)) =
        rw (slots j, slots (suc j)) (there_moved (is_present b p j) (sort_of b p j fs (one_of (code_kind u)))
        (slot_number b p j))
    one_named j fs (one_of (scalar_kind base)) =
        rw (slots j) (there_moved (is_present b p j) (inline_place (scalar_kind base)) (slot_number b p j))
    one_named j fs (one_of (struct_kind s)) =
        rw (slots j) (there_moved (is_present b p j) (inline_place (struct_kind s)) (slot_number b p j))
    one_named j fs (one_of (table_kind t)) =
        rw (slots j) (there_moved (is_present b p j) (ref_place (table_part t)) (slot_number b p j))
    one_named j fs (one_of text_kind) =
        rw (slots j) (there_moved (is_present b p j) (ref_place text_part) (slot_number b p j))
    one_named j fs (vector_of kind) =
        rw (slots j) (there_moved (is_present b p j) (ref_place (vector_part kind)) (slot_number b p j))

    unless_deprecated : (t : Bool) (x y : Option Place) → x ≡ option_map (moved k) y
        → cond t None x ≡ option_map (moved k) (cond t None y)
    unless_deprecated true x y e = refl
    unless_deprecated false x y e = e

    pub all_named : (j : ℕ) (fs : List Slot)
        → named_slots L c (k + p) j fs ≡ map (option_map (moved k)) (named_slots L b p j fs)
    unfolding named_slots
    all_named j [] = refl
    all_named j (f ∷ fs) = rw (unless_deprecated f.deprecated _ _ (one_named j fs f.shape), all_named (suc j) fs) refl
