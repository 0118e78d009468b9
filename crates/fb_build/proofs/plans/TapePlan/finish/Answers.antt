use Rattle.std.proofs.Common.{◌≡◌, ◌∙◌, ap, ℕ, List, [], ◌∷◌, Option, length, slice_index, slice_index_or, refl}
use Rattle.std.proofs.Common.{◌+◌, ◌≤◌, append-nil, arith, length-append, sym}
use Rattle.std.proofs.lemmas.Grind.{get_or_default_zero}
use Rattle.fb_layout.specs.Laid.{LaidSchema}
use Rattle.fb_value.specs.Datum.{Datum, a_table}
use Rattle.fb_value.specs.Holds.{front_of}
use Rattle.fb_value.specs.Num.{Bytes}
use Rattle.fb_value.specs.Places.{table_part}
use Rattle.fb_value.specs.View.{entries_in}
use Rattle.fb_tape.specs.Tapes.{MeansRoot}
use Rattle.fb_build.specs.CoveredTails.{parts_in_tail}
use Rattle.fb_build.specs.Lengths.{header_end}
use Rattle.fb_build.specs.Roots.{IsRoot}
use Rattle.fb_build.specs.Tails.{TailSeen, Grows}
use Rattle.fb_build.specs.Waiting.{AreWaiting}
use Rattle.fb_build.proofs.taped.StepsOfALaying.{ends_inside}
use Rattle.fb_build.proofs.taped.VtablesComeInTurn.{come_different}
use Rattle.fb_build.proofs.plans.TapePlan.finish.Goals as goal

root_waits : (L : LaidSchema) (vtables : List Bytes) (ends places : List ℕ) (o : TailSeen) (d : Datum)
    → AreWaiting L vtables (record { target = table_part L.schema.root; value = d } ∷ []) ends places o
    → IsRoot L o places (slice_index ends 0) d
root_waits L vtables ends places o d h = record {
  lies = h.lie 0 _ refl;
  made = rw (append-nil (parts_in_tail L o.bytes (table_part L.schema.root) (slice_index ends 0) d)) at h.made;
}

place_is : (L : LaidSchema) (vtables : List Bytes) (ends places : List ℕ) (o : TailSeen) (d : Datum) (place : ℕ)
    → AreWaiting L vtables (record { target = table_part L.schema.root; value = d } ∷ []) ends places o
    → place ≡ slice_index_or ends 0 place → place ≡ slice_index ends 0
place_is L vtables ends places o d place h is =
    is ∙ get_or_default_zero ends 0 place (omega (arith, h.each))

root_in : (L M : LaidSchema) (vtables : List Bytes) (ends places : List ℕ) (o : TailSeen) (xs : List (Option Datum))
    (place : ℕ) → L ≡ M → AreWaiting L vtables (record {
      target = table_part L.schema.root;
      value = a_table L.schema.root (entries_in xs);
    } ∷ []) ends places o → place ≡ slice_index_or ends 0 place
    → IsRoot M o places place (a_table M.schema.root (entries_in xs))
root_in L M vtables ends places o xs place same h is =
    let at = place_is L vtables ends places o _ place h is in
    rw (← same) (rw at (root_waits L vtables ends places o _ h))

header_is : (front : ℕ) (identifier : Option (List ℕ)) (a b : TailSeen) (most end : ℕ) → b.most ≡ most
    → length b.bytes ≡ end → a.free ≡ header_end front identifier most end
    → header_end front identifier b.most (length b.bytes) ≡ a.free
header_is front identifier a b most end wide long exact = rw (wide, long) (sym exact)

no_longer : (front : ℕ) (identifier : Option (List ℕ)) (a b : TailSeen) (most end long most_long : ℕ) → b.most ≡ most
    → length b.bytes ≡ end → a.free ≡ header_end front identifier most end
    → long ≡ header_end front identifier b.most (length b.bytes) → a.free ≤ most_long → long ≤ most_long
no_longer front identifier a b most end long most_long wide ends exact is bound =
    let same = header_is front identifier a b most end wide ends exact in
    omega (arith, is, same, bound)

pub close_tail-requires-clause-inside : goal.close_tail-requires-clause-inside
close_tail-requires-clause-inside c =
    let inv = c.self.invariant in
    let w = c.lay_tape.ensures.waits _ (inv.means.means (omega (arith, inv.small))) in
    let at = place_is _ _ _ _ _ _ _ w c.index-place.ensures in
    rw at (ends_inside _ _ _ _ _ _ w 0)

pub returns-clause-laid : goal.returns-clause-laid
returns-clause-laid c =
    let inv = c.self.invariant in
    let w = c.lay_tape.ensures.waits _ (inv.means.means (omega (arith, inv.small))) in
    let root = root_in _ _ _ _ _ _ inv.means.entries _ inv.layout w c.index-place.ensures in
    let both = c.close_tail.ensures.covered _ _ _ w.shared
    (come_different c.self.inside.tape.vtables (length c.lay_tape.new.laying.places.items) inv.different) root in
    record {
      holds = λ xs most raw means deep small.
          let given : MeansRoot c.self.inside.tape xs = rw (ap (λ p. p.tape) c.self.view_is) means in
          let waits = c.lay_tape.ensures.waits _ (given (omega (arith, inv.small))) in
          let lies = root_in _ _ _ _ _ _ xs _ inv.layout waits c.index-place.ensures in
          rw (← c.self.view_is) (rw c.into_bytes.ensures (c.close_tail.ensures.holds _ _ most raw lies deep small));
      old_slots = rw (← c.self.view_is) (rw c.into_bytes.ensures (c.close_tail.ensures.old_slots _ _ root));
      covered = rw (← c.self.view_is) (rw c.into_bytes.ensures both.0);
      aligned = rw (← c.self.view_is) (rw c.into_bytes.ensures both.1);
      short = rw (← c.self.view_is) (rw c.into_bytes.ensures (no_longer (front_of c.self.inside.prefixed)
          c.self.inside.layout.now.schema.identifier c.self.inside.laying.tail c.lay_tape.new.laying.tail _ _ _ _
          c.lay_tape.ensures.most c.lay_tape.ensures.long inv.exact c.close_tail.ensures.long inv.bound));
    }

pub returns-clause-holds : goal.returns-clause-holds
returns-clause-holds c xs most raw means deep small =
    let inv = c.self.invariant in
    let given : MeansRoot c.self.inside.tape xs =
    rw (ap (λ p. p.tape) c.self.view_is) means in
    let w = c.lay_tape.ensures.waits _ (given (omega (arith, inv.small))) in
    let root = root_in _ _ _ _ _ _ xs _ inv.layout w c.index-place.ensures in
    rw (← c.self.view_is) (rw c.into_bytes.ensures (c.close_tail.ensures.holds _ _ most raw root deep small))

pub returns-clause-old_slots : goal.returns-clause-old_slots
returns-clause-old_slots c =
    let inv = c.self.invariant in
    let w = c.lay_tape.ensures.waits _ (inv.means.means (omega (arith, inv.small))) in
    let root = root_in _ _ _ _ _ _ inv.means.entries _ inv.layout w c.index-place.ensures in
    rw (← c.self.view_is) (rw c.into_bytes.ensures (c.close_tail.ensures.old_slots _ _ root))

pub returns-clause-covered : goal.returns-clause-covered
returns-clause-covered c =
    let inv = c.self.invariant in
    let w = c.lay_tape.ensures.waits _ (inv.means.means (omega (arith, inv.small))) in
    let root = root_in _ _ _ _ _ _ inv.means.entries _ inv.layout w c.index-place.ensures in
    let both = c.close_tail.ensures.covered _ _ _ w.shared
    (come_different c.self.inside.tape.vtables (length c.lay_tape.new.laying.places.items) inv.different) root in
    rw (← c.self.view_is) (rw c.into_bytes.ensures both.0)

pub returns-clause-aligned : goal.returns-clause-aligned
returns-clause-aligned c =
    let inv = c.self.invariant in
    let w = c.lay_tape.ensures.waits _ (inv.means.means (omega (arith, inv.small))) in
    let root = root_in _ _ _ _ _ _ inv.means.entries _ inv.layout w c.index-place.ensures in
    let both = c.close_tail.ensures.covered _ _ _ w.shared
    (come_different c.self.inside.tape.vtables (length c.lay_tape.new.laying.places.items) inv.different) root in
    rw (← c.self.view_is) (rw c.into_bytes.ensures both.1)

-- ---- the room that was made for all

end_fits : (a b : TailSeen) (end : ℕ) → a.free ≡ end → Grows a b → end ≤ length b.bytes + b.free
end_fits a b end is grows =
    omega (arith, is, ap length grows.grown, length-append grows.front a.bytes, grows.spent)

header_fits : (front : ℕ) (identifier : Option (List ℕ)) (a b : TailSeen) (most end : ℕ) → b.most ≡ most
    → length b.bytes ≡ end → a.free ≡ header_end front identifier most end → Grows a b
    → header_end front identifier b.most (length b.bytes) ≤ length b.bytes + b.free
header_fits front identifier a b most end wide long exact grows =
    let same = header_is front identifier a b most end wide long exact in
    end_fits a b (header_end front identifier b.most (length b.bytes)) (sym same) grows

pub close_tail-requires-clause-room : goal.close_tail-requires-clause-room
close_tail-requires-clause-room c =
    let inv = c.self.invariant in
    header_fits (front_of c.self.inside.prefixed) c.self.inside.layout.now.schema.identifier
    c.self.inside.laying.tail c.lay_tape.new.laying.tail _ _ c.lay_tape.ensures.most c.lay_tape.ensures.long
    inv.exact c.lay_tape.ensures.grows
