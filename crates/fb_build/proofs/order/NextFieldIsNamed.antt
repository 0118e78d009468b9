-- The slot that a link names is stored, and all that is laid stands before it.
use Rattle.std.proofs.Common.{◌≡◌, ℕ, zero, suc, ◌+◌, ◌≤◌, inl, inr, Bool, true, false, cond, nat_lt, nat_le, List}
use Rattle.std.proofs.Common.{slice_get, Option, Some, refl, sym, ap, ◌∙◌, take, arith, [], ◌∷◌}
use Rattle.std.proofs.Common.{if◌then◌else◌}
use Rattle.std.proofs.lemmas.Bool.Decides.{nat_tests}
use Rattle.fb_layout.specs.Laid.{LaidSchema, Slot}
use Rattle.fb_layout.specs.Widths.{inline_size, inline_align}
use Rattle.fb_value.specs.Datum.{Datum}
use Rattle.fb_build.specs.Fields.{is_stored, size_at, size_above, fields_size, stored_align, above, from}
use Rattle.fb_build.specs.FieldEnds.{stored_end}
use Rattle.fb_build.specs.FieldOrder.{before, SameOfStored, LinksNext}
use Rattle.fb_build.proofs.fields.SlotStoresItsEntry.{same_some}
use Rattle.fb_build.proofs.fields.FieldEndsBehindThoseBefore.{own_end}
use Rattle.fb_build.proofs.order.LaidFieldsTakeTheirSizes.{size_retested, size_before, size_part}
use Rattle.fb_build.proofs.order.LaidFieldsTakeTheirSizes.{size_from}
use Rattle.fb_build.proofs.fields.FieldsFillTheTable.{not_itself}

pub record IsNamed (L : LaidSchema) (laid : ℕ → Slot → Bool) (fs : List Slot) (xs : List (Option Datum)) (k : ℕ)
    (f : Slot) (x : Option Datum) : Type 0 where
  pub stored : is_stored f x ≡ true
  pub behind : SameOfStored laid (before L (inline_align L f.shape) k) fs xs

pub named : (L : LaidSchema) (laid : ℕ → Slot → Bool) (fs : List Slot) (xs : List (Option Datum)) (link k : ℕ)
    (f : Slot) (x : Option Datum) → LinksNext L laid fs xs link → link ≡ k + 1 → slice_get fs k ≡ Some f
    → slice_get xs k ≡ Some x → IsNamed L laid fs xs k f x
named L laid fs xs link k f x (inl none) e fk xk = absurd (omega (arith, none.0, e))
named L laid fs xs link k f x (inr next) e fk xk =
    let at : next.slot ≡ k = omega (arith, next.is, e) in
    let field = rw at at next.there.is in
    let entry = rw at at next.there.has in
    let f_is : next.there.field ≡ f = same_some (slice_get fs k) next.there.field f field fk in
    let x_is : next.there.entry ≡ x = same_some (slice_get xs k) next.there.entry x entry xk in
    let align : next.align ≡ inline_align L f.shape =
    sym next.there.at ∙ ap (λ (g : Slot). inline_align L g.shape) f_is in
    record {
      stored = rw (f_is, x_is) at next.there.stored;
      behind = rw (← align) (rw (← at) next.behind);
    }

-- itself it isn't laid yet
pub waits : (L : LaidSchema) (k : ℕ) (f : Slot) → before L (inline_align L f.shape) k k f ≡ false
waits L k f = rw (not_itself k) (not_itself (inline_align L f.shape))

pub still_waits : (L : LaidSchema) (laid : ℕ → Slot → Bool) (fs : List Slot) (xs : List (Option Datum)) (k : ℕ)
    (f : Slot) (x : Option Datum) → slice_get fs k ≡ Some f → slice_get xs k ≡ Some x
    → IsNamed L laid fs xs k f x → laid k f ≡ false
still_waits L laid fs xs k f x fk xk n = n.behind k f x fk xk n.stored ∙ waits L k f

-- What stands before it and itself fills up to its end.
pub end_of_next : (L : LaidSchema) (laid : ℕ → Slot → Bool) (fs : List Slot) (xs : List (Option Datum)) (k : ℕ)
    (f : Slot) (x : Option Datum) → slice_get fs k ≡ Some f → slice_get xs k ≡ Some x
    → IsNamed L laid fs xs k f x → stored_end L fs xs k f ≡ size_from L laid 0 fs xs + inline_size L f.shape
end_of_next L laid fs xs k f x fk xk n =
    let a = inline_align L f.shape in
    omega (
      arith,
      own_end L a k fs xs f x fk xk n.stored refl,
      size_retested L laid (before L a k) fs xs n.behind,
      size_before L a k fs xs,
    )

-- and is what is laid then
pub size_of_next : (L : LaidSchema) (laid : ℕ → Slot → Bool) (fs : List Slot) (xs : List (Option Datum)) (k : ℕ)
    (f : Slot) (x : Option Datum) → slice_get fs k ≡ Some f → slice_get xs k ≡ Some x
    → IsNamed L laid fs xs k f x
    → size_from L (before L (inline_align L f.shape) (k + 1)) 0 fs xs
    ≡ size_from L laid 0 fs xs + inline_size L f.shape
size_of_next L laid fs xs k f x fk xk n =
    let a = inline_align L f.shape in
    let end = end_of_next L laid fs xs k f x fk xk n in
    let own = own_end L a k fs xs f x fk xk n.stored refl in
    let one : suc k ≡ k + 1 = omega arith in
    let whole : stored_end L fs xs k f ≡ size_above L a fs xs + size_at L a (take (k + 1) fs) (take (k + 1) xs) =
    rw (← one) refl in
    omega (arith, end, whole, size_before L a (k + 1) fs xs)

-- it has room among all fields
pub room_of_next : (L : LaidSchema) (laid : ℕ → Slot → Bool) (fs : List Slot) (xs : List (Option Datum)) (k : ℕ)
    (f : Slot) (x : Option Datum) → slice_get fs k ≡ Some f → slice_get xs k ≡ Some x
    → IsNamed L laid fs xs k f x → size_from L laid 0 fs xs + inline_size L f.shape ≤ fields_size L fs xs
room_of_next L laid fs xs k f x fk xk n =
    let a = inline_align L f.shape in
    omega (arith, size_of_next L laid fs xs k f x fk xk n, size_part L (before L a (k + 1)) 0 fs xs)

-- What isn't laid behind it is aligned no higher.
pub lower_behind : (L : LaidSchema) (a k j : ℕ) (g : Slot) → before L a k j g ≡ false → inline_align L g.shape ≤ a
lower_behind L a k j g out = by_test (nat_lt j k) out
  where
    no_le : (a n : ℕ) → nat_le a n ≡ false → n ≤ a
    no_le a n e = grind (arith, nat_tests)

    no_lt : (a n : ℕ) → nat_lt a n ≡ false → n ≤ a
    no_lt a n e = grind (arith, nat_tests)

    by_test : (t : Bool) → cond t (from L a g) (above L a g) ≡ false → inline_align L g.shape ≤ a
    by_test true e = no_le a (inline_align L g.shape) e
    by_test false e = no_lt a (inline_align L g.shape) e

-- ---- the first of all

pub align_least : (L : LaidSchema) (k : ℕ) (fs : List Slot) (xs : List (Option Datum)) (f : Slot) (x : Option Datum)
    → slice_get fs k ≡ Some f → slice_get xs k ≡ Some x → is_stored f x ≡ true
    → inline_align L f.shape ≤ stored_align L fs xs
align_least L k [] xs f x fk xk is = cc
align_least L k (g ∷ fs) [] f x fk xk is = cc
align_least L zero (g ∷ fs) (y ∷ xs) f x fk xk is =
    let f_is : g ≡ f = cc in
    let x_is : y ≡ x = cc in
    let own : (if is_stored g y then inline_align L g.shape else 0) ≡ inline_align L f.shape =
    rw (f_is, x_is, is) refl in
    omega (arith, own)
align_least L (suc k) (g ∷ fs) (y ∷ xs) f x fk xk is = omega (arith, align_least L k fs xs f x fk xk is)
