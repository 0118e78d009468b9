-- A field that was laid.
use Rattle.std.proofs.Common.{◌≡◌, ℕ, ◌+◌, ◌-◌, ◌*◌, ◌^◌, ◌%◌, ◌<◌, ◌≤◌, ◌++◌, Bool, true, false, not, nat_le, List}
use Rattle.std.proofs.Common.{length, slice_get, slice_index, Option, None, Some, ℤ, refl, ap, sym, ◌∙◌, subst, arith}
use Rattle.std.proofs.lemmas.Bool.{le-leb, lt-ltb, eq-eqb, and_from, eqb-true, both_ways}
use Rattle.std.proofs.Math.Nat.{add-mul-mod_self_left}
use Rattle.std.proofs.lemmas.Bool.Decides.{Decides-int_eq}
use Rattle.std.specs.Ordering.{int_eq}
use Rattle.byteorder.specs.Endian.{little_bytes}
use Rattle.fb_layout.specs.Laid.{LaidSchema, Slot, table_kind, union_kind}
use Rattle.fb_layout.specs.Laid.{text_kind, StoredShape, one_of, vector_of}
use Rattle.fb_layout.specs.Widths.{inline_align}
use Rattle.fb_value.specs.Wanted.{struct_wanted}
use Rattle.fb_value.specs.Datum.{Datum, a_number, a_text, a_vector, a_struct, a_table, a_member, an_unknown}
use Rattle.fb_value.specs.Num.{Bytes, num, divides}
use Rattle.fb_value.specs.Places.{Target, ref_place, part_place}
use Rattle.fb_value.specs.Rules.{fault_by, KeepsBy}
use Rattle.fb_value.specs.Tails.{from_end, LiesInTail, OldInTail}
use Rattle.fb_build.specs.Tails.{TailSeen, Grows, LaidInTail}
use Rattle.fb_build.specs.Fields.{SlotFits, member_target, scalar_in, from, is_stored, differs}
use Rattle.fb_build.specs.Fields.{TargetEnd, StoredEnd, EntryEnd, EntriesEnd, sort_for, target_for}
use Rattle.fb_value.proofs.rules.RulesHoldOneByOne.{hold, no_rules}
use Rattle.fb_value.proofs.tails.TailsAreKeptInFront.{front_shown, old_shown}
use Rattle.fb_build.specs.CoveredTails.{TightInTail, InlineInTail}
use Rattle.fb_tape.specs.InlineBytes.{IsTightInline, EachInline}
use Rattle.fb_build.proofs.covered.TightStructStaysTightFurtherOn.{inline_front_shown}
use Rattle.fb_build.proofs.covered.TightTableStaysTightFurtherOn.{tight_front_shown}
use Rattle.fb_build.proofs.tail.WhatIsLaidStaysLaid.{laid_grown}
use Rattle.fb_value.proofs.numbers.BytesSumToTheirNumber.{num_first}

-- a number that isn't stored
abbrev pub IsDefault : Slot → Datum → Type 0
IsDefault f d = (f.required ≡ false) × (n : ℤ) × (f.if_absent ≡ Some n) × (d ≡ a_number n)

-- a reference that was laid last
pub reference_end : (L : LaidSchema) (m : ℕ) (X : Target) (e : ℕ) (d : Datum) (s rest : Bytes)
    → s ≡ little_bytes 4 ((length rest + 4) - e) ++ rest → length s ≡ 4 + length rest → length rest + 4 < 256 ^ 4
    → divides 4 (length s) ≡ true → divides 4 m ≡ true → LaidInTail L m rest (part_place X) e d
    → LaidInTail L m s (ref_place X) (length s) d
unfolding fault_by
reference_end L m X e d s rest is long short whole most h =
    let x = (length rest + 4) - e in
    let first : length s - length s ≡ 0 = omega arith in
    let all : length s - 0 ≡ length s = omega arith in
    let aligned : from_end s m 4 0 ≡ true = and_from _ _ (rw all whole) most in
    let number : num s 0 4 ≡ x = ap (λ b. num b 0 4) is ∙ num_first 4 x rest (omega (arith, short)) in
    let inside : 0 + 4 ≤ length s = omega (arith, long) in
    let some : 0 < num s 0 4 = omega (arith, number, h.lies.within) in
    let keeps : KeepsBy (from_end s m) L s (ref_place X) 0 =
    hold _ _ _ aligned (hold _ _ _ (le-leb _ _ inside) (hold _ _ _ (lt-ltb _ _ some) no_rules)) in
    let now : LiesInTail L m s (part_place X) e d =
    rw is (front_shown L m (little_bytes 4 x) rest (part_place X) e d h.lies) in
    let old = subst (λ (b : Bytes). OldInTail L b (part_place X) e d) (sym is)
    (old_shown L m (little_bytes 4 x) rest (part_place X) e d h.lies h.old) in
    let tight = subst (λ (b : Bytes). TightInTail L b (part_place X) e d) (sym is)
    (tight_front_shown L m (little_bytes 4 x) rest (part_place X) e d h.lies h.tight) in
    let inline = subst (λ (b : Bytes). InlineInTail L b (part_place X) e d) (sym is)
    (inline_front_shown L m (little_bytes 4 x) rest (part_place X) e d h.lies h.inline) in
    let place : length s - e ≡ 0 + num s 0 4 = omega (arith, number, long, h.lies.within) in
    record {
      lies = record {
        within = omega arith;
        lies = rw first (keeps, rw place at now.lies);
      };
      old = rw first (rw place at old);
      tight = rw first (rw place at tight);
      inline = rw first (subst (λ (q : ℕ). EachInline L s (IsTightInline L s) X q d) place inline);
    }

-- what isn't stored is a default
pub default_known : (f : Slot) (d : Datum) → is_stored f (Some d) ≡ false → IsDefault f d
default_known f (a_number n) e = by_case f.required refl
  where
    by_absent : (o : Option ℤ) → f.if_absent ≡ o → differs o n ≡ false
        → (k : ℤ) × (f.if_absent ≡ Some k) × (a_number n ≡ a_number k)
    by_absent None is h = cc
    by_absent (Some k) is h = by_eq (int_eq k n) refl
      where
        by_eq : (t : Bool) → int_eq k n ≡ t → (k : ℤ) × (f.if_absent ≡ Some k) × (a_number n ≡ a_number k)
        by_eq true same = (k, is, ap a_number (sym ((Decides-int_eq k n).0 same)))
        by_eq false same = let bad : not (int_eq k n) ≡ true = rw same refl in cc

    by_case : (r : Bool) → f.required ≡ r → IsDefault f (a_number n)
    by_case true is = let bad : is_stored f (Some (a_number n)) ≡ true = rw is refl in cc
    by_case false is = let rest : differs f.if_absent n ≡ false = rw is at e in
        let known = by_absent f.if_absent refl rest in (is, known.0, known.1, known.2)
default_known f (a_text bytes) e = cc
default_known f (a_vector ds) e = cc
default_known f (a_struct ds) e = cc
default_known f (a_table t es) e = cc
default_known f (a_member c d) e = cc
default_known f (an_unknown c) e = cc

-- ---- growing

pub target_grown : (L : LaidSchema) (a b : TailSeen) (X : Option Target) (e : ℕ) (d : Datum) → Grows a b
    → TargetEnd L a.most a.bytes X e d → TargetEnd L b.most b.bytes X e d
target_grown L a b None e d g h = h
target_grown L a b (Some X) e d g h = laid_grown L a b (part_place X) e d g h

stored_grown : (L : LaidSchema) (low : ℕ) (a b : TailSeen) (laid : Bool) (f : Slot) (x : Option Datum) (e : ℕ)
    → Grows a b → StoredEnd L low a.most a.bytes laid f x e → StoredEnd L low b.most b.bytes laid f x e
stored_grown L low a b laid f None e g h = absurd h
stored_grown L low a b true f (Some d) e g h = (h.0, laid_grown L a b (sort_for f.shape d) e d g h.1)
stored_grown L low a b false f (Some d) e g h = target_grown L a b (target_for f.shape d) e d g h

pub entry_grown : (L : LaidSchema) (low : ℕ) (a b : TailSeen) (laid : Bool) (f : Slot) (x : Option Datum) (e : ℕ)
    → Grows a b → EntryEnd L low a.most a.bytes laid f x e → EntryEnd L low b.most b.bytes laid f x e
entry_grown L low a b laid f x e g h = record {
  stored = λ is. stored_grown L low a b laid f x e g (h.stored is);
  absent = h.absent;
}

-- ---- one field

-- a slot of a reference
pub record IsReference (L : LaidSchema) (shape : StoredShape) (d : Datum) : Type 0 where
  pub target : Target
  pub named : target_for shape d ≡ Some target
  pub sort : sort_for shape d ≡ ref_place target
  pub align : inline_align L shape ≡ 4

-- a member is a table under its code
pub member_known : (L : LaidSchema) (u : ℕ) (d : Datum) → SlotFits L (one_of (union_kind u)) d
    → (X : Target) × (member_target d ≡ Some X)
member_known L u (a_member c (a_number n)) h = absurd h.2
member_known L u (a_member c (a_text bytes)) h = absurd h.2
member_known L u (a_member c (a_vector ds)) h = absurd h.2
member_known L u (a_member c (a_struct ds)) h = absurd h.2
member_known L u (a_member c (a_table t es)) h = (Rattle.fb_value.specs.Places.member_part c t, refl)
member_known L u (a_member c (a_member k d)) h = absurd h.2
member_known L u (a_member c (an_unknown k)) h = absurd h.2
member_known L u _ h = absurd h

pub reference_known : (L : LaidSchema) (shape : StoredShape) (d : Datum) → struct_wanted shape ≡ None
    → scalar_in shape ≡ None → SlotFits L shape d → IsReference L shape d
reference_known L (one_of (table_kind t)) d h e fits =
    record { target = Rattle.fb_value.specs.Places.table_part t; named = refl; sort = refl; align = refl }
reference_known L (one_of (union_kind u)) d h e fits =
    let known = member_known L u d fits in
    record { target = known.0; named = known.1; sort = rw known.1 refl; align = refl }
reference_known L (one_of text_kind) d h e fits =
    record { target = Rattle.fb_value.specs.Places.text_part; named = refl; sort = refl; align = refl }
reference_known L (vector_of kind) d h e fits =
    record { target = Rattle.fb_value.specs.Places.vector_part kind; named = refl; sort = refl; align = refl }
reference_known L _ d h e fits = cc

pub now_laid : (L : LaidSchema) (low : ℕ) (m : ℕ) (s : Bytes) (a : ℕ) (f : Slot) (x : Option Datum) (e : ℕ)
    → inline_align L f.shape ≡ a → is_stored f x ≡ true → StoredEnd L low m s true f x e
    → EntryEnd L low m s (from L a f) f x e
now_laid L low m s a f x e at is lies =
    let yes : nat_le a (inline_align L f.shape) ≡ true = rw at (le-leb _ _ (omega arith)) in
    record {
      stored = λ _. rw yes lies;
      absent = λ out. absurd (both_ways (is_stored f x) out is);
    }

pub more_divides : (a n k : ℕ) → divides a n ≡ true → k ≡ n + a → divides a k ≡ true
more_divides a n k h e =
    let one : n + a ≡ n + a * 1 = omega arith in
    eq-eqb _ _ (ap (λ x. x % a) (e ∙ one) ∙ add-mul-mod_self_left n a 1 ∙ eqb-true _ _ h)

pub entries_grown : (L : LaidSchema) (low : ℕ) (a b : TailSeen)
    (t : ℕ → Slot → Bool) (fs : List Slot) (xs : List (Option Datum)) (ends : List ℕ) → Grows a b
    → EntriesEnd L low a.most a.bytes t fs xs ends → EntriesEnd L low b.most b.bytes t fs xs ends
entries_grown L low a b t fs xs ends g h k f x at there =
    entry_grown L low a b (t k f) f x (slice_index ends k) g (h k f x at there)

-- before anything is laid the lowest place doesn't count
pub entries_before : (L : LaidSchema) (low low2 m : ℕ) (s : Bytes) (fs : List Slot) (xs : List (Option Datum))
    (ends : List ℕ) → EntriesEnd L low m s (λ k f. false) fs xs ends → EntriesEnd L low2 m s (λ k f. false) fs xs ends
entries_before L low low2 m s fs xs ends h k f x fk xk =
    record {
      stored = λ is. any_low x (slice_index ends k) ((h k f x fk xk).stored is);
      absent = (h k f x fk xk).absent;
    }
  where
    any_low : (x : Option Datum) (e : ℕ) → StoredEnd L low m s false f x e → StoredEnd L low2 m s false f x e
    any_low None e h = absurd h
    any_low (Some d) e h = h

pub entry_under : (L : LaidSchema) (low m : ℕ) (s : Bytes) (f : Slot) (x : Option Datum) (e : ℕ)
    → EntryEnd L low m s true f x e → e ≤ length s
entry_under L low m s f x e h = by_stored (is_stored f x) refl
  where
    by_entry : (x : Option Datum) → StoredEnd L low m s true f x e → e ≤ length s
    by_entry None h = absurd h
    by_entry (Some d) h = h.1.lies.within

    by_stored : (t : Bool) → is_stored f x ≡ t → e ≤ length s
    by_stored true is = by_entry x (h.stored is)
    by_stored false out = omega (arith, h.absent out)

-- behind the lowest place
pub entry_high : (L : LaidSchema) (low m : ℕ) (s : Bytes) (f : Slot) (x : Option Datum) (e : ℕ)
    → EntryEnd L low m s true f x e → 0 < e → low < e
entry_high L low m s f x e h some = by_stored (is_stored f x) refl
  where
    by_entry : (x : Option Datum) → StoredEnd L low m s true f x e → low < e
    by_entry None h = absurd h
    by_entry (Some d) h = h.0

    by_stored : (t : Bool) → is_stored f x ≡ t → low < e
    by_stored true is = by_entry x (h.stored is)
    by_stored false out = absurd (omega (arith, h.absent out, some))

pub entries_retested : (L : LaidSchema) (low m : ℕ) (s : Bytes)
    (t u : ℕ → Slot → Bool) (fs : List Slot) (xs : List (Option Datum)) (ends : List ℕ)
    → ((k : ℕ) (f : Slot) (x : Option Datum) → slice_get fs k ≡ Some f → slice_get xs k ≡ Some x → is_stored f x ≡ true
    → t k f ≡ u k f)
    → EntriesEnd L low m s t fs xs ends → EntriesEnd L low m s u fs xs ends
entries_retested L low m s t u fs xs ends same h k f x fk xk = record {
  stored = λ is. rw (← (same k f x fk xk is)) ((h k f x fk xk).stored is);
  absent = (h k f x fk xk).absent;
}
