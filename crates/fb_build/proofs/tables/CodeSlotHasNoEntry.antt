-- What the slots of a table have, one by one: a union's code has no entry of its own.
use Rattle.std.proofs.Common.{◌≡◌, ℕ, zero, suc, ◌+◌, ◌<◌, ◌≤◌, ◌==◌, Bool, true, false, not, ◌&&◌}
use Rattle.std.proofs.Common.{List, [], ◌∷◌, length, drop, slice_get, Option, None, Some, pos, refl, ap, arith}
use Rattle.std.proofs.lemmas.Bool.{le-leb}
use Rattle.std.proofs.lemmas.Bool.Decides.{nat_tests}
use Rattle.fb_layout.specs.Laid.{LaidSchema, Slot, scalar_kind, struct_kind, table_kind, union_kind, code_kind}
use Rattle.fb_layout.specs.Laid.{text_kind, StoredShape, one_of, vector_of, member_by_code}
use Rattle.fb_value.specs.Datum.{Datum, a_number, a_text, a_vector, a_struct, a_table, a_member, an_unknown}
use Rattle.fb_value.specs.Fits.{Fits}
use Rattle.fb_value.specs.Num.{Bytes, num}
use Rattle.fb_value.specs.Places.{Sort, ref_place, part_place, inline_place, code_place, Place}
use Rattle.fb_value.specs.Rules.{Aligned, KeepsBy, fault_by, is_union}
use Rattle.fb_value.specs.Lies.{BehindBy, EntryBy, AbsentEntryBy, PresentEntryBy, LiesBy}
use Rattle.fb_value.specs.EachTable.{EachTable, EachNamed, IsOldTable}
use Rattle.fb_value.specs.Tails.{from_end}
use Rattle.fb_build.specs.Fields.{stored_here, stored_in, code_in, next_code, is_stored}
use Rattle.fb_build.specs.CoveredTails.{IsTightInTail}
use Rattle.fb_tape.specs.InlineBytes.{IsTightInline, EachInline, EachInlineNamed}
use Rattle.fb_value.proofs.rules.RulesHoldOneByOne.{hold, no_rules}
use Rattle.std.proofs.Math.Bool.{or-true}

pub entry_from : (al : Aligned) (L : LaidSchema) (b : Bytes) (sort : Sort) (p : ℕ) (d : Datum)
    (lies : Sort → ℕ → Type 0) → BehindBy al L b sort p lies → EntryBy al L b sort p d lies
entry_from al L b (ref_place X) p d lies h = h
entry_from al L b (part_place X) p d lies h = h
entry_from al L b (inline_place kind) p d lies h = h
entry_from al L b _ p d lies h = absurd h

-- what a slot has, whose tables have nothing in slots that aren't in use, and they, its structs and its numbers have
-- no slack
unfoldable pub EntryLies : Aligned → LaidSchema → Bytes → Slot → Option Place → Option Datum → Type 0
EntryLies al L b f place None = AbsentEntryBy al L b f place
EntryLies al L b f place (Some d) = PresentEntryBy al L b f place d (λ sort q. LiesBy al L b sort q d)
    × EachNamed b place (λ sort q. EachTable L b (λ t r. IsOldTable L b t r) sort q d)
    × EachNamed b place (λ sort q. EachTable L b (λ t r. IsTightInTail L b t r) sort q d)
    × EachInlineNamed L b (IsTightInline L b) place d (λ X q. EachInline L b (IsTightInline L b) X q d)

pub stored_get : (fs : List Slot) (xs : List (Option Datum)) (k : ℕ) (f : Slot) (x : Option Datum)
    → slice_get fs k ≡ Some f → slice_get xs k ≡ Some x
    → slice_get (stored_in fs xs) k ≡ Some (stored_here f.shape (next_code (drop (suc k) xs)) x)
stored_get [] xs k f x a b = cc
stored_get (g ∷ fs) [] k f x a b = cc
stored_get (g ∷ fs) (y ∷ xs) zero f x a b = let f_is : g ≡ f = cc in let x_is : y ≡ x = cc in rw (f_is, x_is) refl
stored_get (g ∷ fs) (y ∷ xs) (suc k) f x a b = stored_get fs xs k f x a b

pub next_is : (xs : List (Option Datum)) (k : ℕ) (x : Option Datum) → slice_get xs k ≡ Some x
    → next_code (drop k xs) ≡ code_in x
next_is [] k x e = cc
next_is (y ∷ xs) zero x e = let is : y ≡ x = cc in ap code_in is
next_is (y ∷ xs) (suc k) x e = next_is xs k x e

-- a code slot has no entry
pub no_code_entry : (L : LaidSchema) (u : ℕ) (d : Datum) → Fits L (one_of (code_kind u)) d → ⊥
no_code_entry L u (a_number n) h = h
no_code_entry L u (a_text b) h = h
no_code_entry L u (a_vector ds) h = h
no_code_entry L u (a_struct ds) h = h
no_code_entry L u (a_table t es) h = h
no_code_entry L u (a_member c d) h = h
no_code_entry L u (an_unknown c) h = h

-- a slot of its own: no union's code, nor its value
unfoldable pub IsOwn : StoredShape → Type 0
IsOwn (one_of (code_kind u)) = ⊥
IsOwn (one_of (union_kind u)) = ⊥
IsOwn shape = Unit {0}

pub no_union : (shape : StoredShape) → IsOwn shape → is_union shape ≡ false
unfolding IsOwn
no_union (one_of (scalar_kind b)) h = refl
no_union (one_of (struct_kind t)) h = refl
no_union (one_of (table_kind t)) h = refl
no_union (one_of text_kind) h = refl
no_union (vector_of kind) h = refl
no_union _ h = absurd h

pub code_stored : (f : Slot) (n : ℕ) → f.if_absent ≡ None → is_stored f (Some (a_number (pos n))) ≡ true
code_stored f n e = rw e (or-true f.required)

pub code_some : (L : LaidSchema) (u n t : ℕ) → member_by_code L u n ≡ Some t → 0 < n
code_some L u zero t e = cc
code_some L u (suc n) t e = omega arith

pub not_both : (r : Bool) → not (r && false) ≡ true
not_both true = refl
not_both false = refl

pub required_kept : (r : Bool) (n : ℕ) → 0 < n → not (r && (n == 0)) ≡ true
required_kept r n some = let test : (n == 0) ≡ false = grind (arith, nat_tests) in rw test (not_both r)

pub code_keeps : (L : LaidSchema) (m : ℕ) (s : Bytes) (u k : ℕ) (required here : Bool) (q : ℕ) → q + 1 ≤ length s
    → 0 < num s q 1 → here ≡ true → KeepsBy (from_end s m) L s (code_place u k required here) q
unfolding fault_by
code_keeps L m s u k required here q inside some is =
    hold _ _ _ (le-leb _ _ inside) (hold _ _ _ (required_kept required (num s q 1) some)
    (hold _ _ _ (rw is (or-true (num s q 1 == 0))) no_rules))
