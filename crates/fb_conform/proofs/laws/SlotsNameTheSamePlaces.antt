-- The places of slots and unions, under the old schema and under the new one.
use Rattle.std.proofs.Common.{◌≡◌, ℕ, ◌+◌, ◌==◌, ◌&&◌, not, Bool, true, false, cond, List, [], ◌∷◌, Option, None}
use Rattle.std.proofs.Common.{Some, ℤ, refl}
use Rattle.std.proofs.lemmas.Bool.Decides.{Decides-eqb}
use Rattle.fb_value.specs.Datum.{Datum, a_number}
use Rattle.fb_value.specs.Num.{Bytes}
use Rattle.fb_layout.specs.Laid.{LaidSchema, Slot, union_kind, code_kind}
use Rattle.fb_layout.specs.Laid.{StoredShape, one_of, member_by_code}
use Rattle.fb_value.specs.Places.{member_part, Sort, ref_place, unknown_place, Place, named_slot, named_union}
use Rattle.fb_value.specs.Places.{next_required, is_present, slot_number}
use Rattle.fb_value.specs.Rules.{is_union}
use Rattle.fb_value.proofs.reached.StepsLeadForward.{if_there}
use Rattle.fb_conform.proofs.laws.OldTypesByTheirNewNumbers.{moved_shape, moved_sort, moved_place, KnownShape}
use Rattle.fb_conform.proofs.laws.OldTypesByTheirNewNumbers.{KnownSort}
use Rattle.fb_conform.proofs.laws.LayoutsAgree.{Grown, types_in}

-- a slot's place, moved
abbrev pub MovedPlace : (ℕ → ℕ) → Option Place → Option Place
MovedPlace to None = None
MovedPlace to (Some x) = Some (moved_place to x)

pub there_moved : (to : ℕ → ℕ) (c : Bool) (s : Sort) (q : ℕ)
    → cond c (Some (record { sort = moved_sort to s; at = q })) None
    ≡ MovedPlace to (cond c (Some (record { sort = s; at = q })) None)
there_moved to true s q = refl
there_moved to false s q = refl

pub next_same : (to : ℕ → ℕ) (n : ℕ) (fs gs : List Slot) → Grown to n fs gs → next_required gs ≡ next_required fs
next_same to n [] [] grown = refl
next_same to n [] (g ∷ gs) grown = grown.0
next_same to n (f ∷ fs) (g ∷ gs) grown = grown.0.required
next_same to n (f ∷ fs) [] grown = absurd grown

abbrev pub UnionAt : Bool → ℕ → ℕ → Bool → Option ℕ → Option Place
UnionAt zero_code c q here None = cond (not zero_code && here) (Some (record { sort = unknown_place c; at = q })) None
UnionAt zero_code c q here (Some t) = cond here (Some (record { sort = ref_place (member_part c t); at = q })) None

abbrev pub Numbered : Option ℤ → Datum → Type 0
Numbered o d = (n : ℤ) × (o ≡ Some n) × (d ≡ a_number n)

pub same_number : (m n : ℕ) → Some m ≡ Some n → m ≡ n
same_number m n e = cc

pub zero_test : (c : ℕ) → (c == 0) ≡ true → c ≡ 0
zero_test c e = (Decides-eqb c 0).0 e

pub empty_union : (zero_code : Bool) (c q : ℕ) (o : Option ℕ) → UnionAt zero_code c q false o ≡ None
empty_union true c q None = refl
empty_union false c q None = refl
empty_union zero_code c q (Some t) = refl

-- a slot that is no union's value names the same place, whatever layout it is of
pub slot_moved : (A V : LaidSchema) (b : Bytes) (to : ℕ → ℕ) (p k : ℕ) (fs gs : List Slot) (s : StoredShape)
    → is_union s ≡ false → next_required gs ≡ next_required fs
    → named_slot V b p k gs (moved_shape to s) ≡ MovedPlace to (named_slot A b p k fs s)
slot_moved A V b to p k fs gs (one_of (union_kind u)) plain next = cc
slot_moved A V b to p k fs gs (one_of (code_kind u)) plain next = rw next (there_moved _ (is_present b p k) _ _)
slot_moved A V b to p k fs gs _ plain next = there_moved _ (is_present b p k) _ _

pub place_known : (A : LaidSchema) (b : Bytes) (p k : ℕ) (fs : List Slot) (s : StoredShape) (y : Place)
    → is_union s ≡ false → KnownShape (types_in A) s → named_slot A b p k fs s ≡ Some y → KnownSort (types_in A) y.sort
place_known A b p k fs (one_of (union_kind u)) y plain known e = cc
place_known A b p k fs _ y plain known e = rw (← (if_there _ _ y e).1) known

-- no member has code 0
pub no_code : (V : LaidSchema) (u c w : ℕ) → c ≡ 0 → member_by_code V u c ≡ Some w → ⊥
no_code V u c w e is = let h : member_by_code V u 0 ≡ Some w = rw e at is in cc

pub union_is : (b : Bytes) (p k c : ℕ) (o : Option ℕ)
    → named_union b p k c o ≡ UnionAt (c == 0) c (p + slot_number b p k) (is_present b p k) o
union_is b p k c None = refl
union_is b p k c (Some t) = refl
