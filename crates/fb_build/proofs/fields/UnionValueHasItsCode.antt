-- A union's value that was laid stands behind its code.
use Rattle.std.proofs.Common.{◌≡◌, ◌≢◌, ℕ, suc, ◌-◌, ◌≤◌, true, List, length, slice_get, slice_index, Option, None}
use Rattle.std.proofs.Common.{Some, pos, refl, ap, sym, ◌∙◌, subst, arith}
use Rattle.std.proofs.lemmas.Bool.{false≢true}
use Rattle.fb_layout.specs.Laid.{LaidSchema, Slot, union_kind, code_kind, one_of}
use Rattle.fb_value.specs.Datum.{Datum, a_member, an_unknown}
use Rattle.fb_value.specs.Entries.{EntryFits}
use Rattle.fb_value.specs.Fits.{MayBeAbsent}
use Rattle.fb_value.specs.Num.{Bytes}
use Rattle.fb_value.specs.Places.{is_present, code_at}
use Rattle.fb_build.specs.Fields.{coded, code_in, stored_in}
use Rattle.fb_build.specs.Paired.{ArePaired}
use Rattle.fb_build.proofs.tables.TableHasItsFields.{p, SlotKnown, empty, code_there, code_known, value_known}
use Rattle.fb_build.proofs.tables.CodeSlotHasNoEntry.{no_code_entry}
use Rattle.std.proofs.lemmas.Option.{slice_get_within}
use Rattle.fb_tape.proofs.stored.SizesOfWhatIsStored.{got}

module _ (L : LaidSchema) (low m : ℕ) (s : Bytes) (c : ℕ) (within : c ≤ length s) where
  -- where the table stands
  q : ℕ
  q = p L low m s c within

  behind_code : (j : ℕ) (f g : Slot) (u : ℕ) (x : Option Datum) (e e2 : ℕ) → f.shape ≡ one_of (code_kind u)
      → g.shape ≡ one_of (union_kind u) → MayBeAbsent f → EntryFits L g x
      → SlotKnown L low m s c within j f (coded (code_in x)) e → SlotKnown L low m s c within (suc j) g x e2
      → is_present s q (suc j) ≡ true → code_at s q j ≢ 0
  unfolding q
  behind_code j f g u None e e2 shape value may fits h h2 there none =
      absurd (false≢true (rw (empty L low m s c within (suc j) g None e2 h2 refl) at there))
  behind_code j f g u (Some (an_unknown n)) e e2 shape value may fits h h2 there none = absurd (rw value at h2.fits.1)
  behind_code j f g u (Some (a_member n d)) e e2 shape value may fits h h2 there none =
      let code = code_there L low m s c within j f u n e shape may.1 h in
      let reads : code_at s q j ≡ n = rw code.present code.reads in
      (rw shape at h.fits.1).1 (ap pos (sym reads ∙ none))
  behind_code j f g u _ e e2 shape value may fits h h2 there none = absurd (rw value at fits.1)

  module _ (fs : List Slot) (xs : List (Option Datum)) (ends : List ℕ) (long : length fs ≡ length xs)
      (paired : ArePaired fs) (fits : (k : ℕ) (f : Slot) (x : Option Datum) → slice_get fs k ≡ Some f
      → slice_get xs k ≡ Some x → EntryFits L f x)
      (known : (k : ℕ) (f : Slot) (y : Option Datum) → slice_get fs k ≡ Some f → slice_get (stored_in fs xs) k ≡ Some y
      → SlotKnown L low m s c within k f y (slice_index ends k)) where
    at_pair : (j : ℕ) (f g : Slot) (x y : Option Datum) (u : ℕ) → f.shape ≡ one_of (code_kind u)
        → g.shape ≡ one_of (union_kind u) → slice_get fs j ≡ Some f → slice_get fs (suc j) ≡ Some g
        → slice_get xs j ≡ Some x → slice_get xs (suc j) ≡ Some y
        → EntryFits L f x → is_present s q (suc j) ≡ true → code_at s q j ≢ 0
    at_pair j f g None y u is value fk gk xk yk may =
        behind_code j f g u y (slice_index ends j) (slice_index ends (suc j)) is value may (fits (suc j) g y gk yk)
        (code_known L low m s c within fs xs ends long paired fits known j f None y u is fk xk yk)
        (value_known L low m s c within fs xs ends long paired fits known (suc j) g y u value gk yk)
    at_pair j f g (Some d) y u is value fk gk xk yk bad = absurd (no_code_entry L u d (rw is at bad.1))

    pub members_coded : (k : ℕ) (g : Slot) (u : ℕ) → slice_get fs k ≡ Some g → g.shape ≡ one_of (union_kind u)
        → is_present s (p L low m s c within) k ≡ true → code_at s (p L low m s c within) (k - 1) ≢ 0
    unfolding q
    members_coded k g u gk is there =
        let led = paired.led k g u gk is in
        let x = got xs led.0 (omega (arith, slice_get_within fs led.0 led.1 led.3, long)) in
        let y = got xs k (omega (arith, slice_get_within fs k g gk, long)) in
        let back : suc led.0 - 1 ≡ led.0 = omega arith in
        subst (λ (i : ℕ). slice_get fs i ≡ Some g → slice_get xs i ≡ Some y.0
        → is_present s (p L low m s c within) i ≡ true → code_at s (p L low m s c within) (i - 1) ≢ 0) (sym led.2)
        (λ a b h. rw back (at_pair led.0 led.1 g x.0 y.0 u led.4 is led.3 a x.1 b (fits led.0 led.1 x.0 led.3 x.1) h))
        gk y.1 there
