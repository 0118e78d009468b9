use Rattle.std.proofs.Common.{◌≡◌, ◌<◌, length, ap, arith}
use Rattle.std.proofs.lemmas.Bool.{false≢true}
use Rattle.std.proofs.lemmas.Bool.Decides.{nat_tests}
use Rattle.fb_value.specs.Datum.{a_table}
use Rattle.fb_value.proofs.types.EachVariantHasItsView.{view-Fields}
use Rattle.fb_owned.proofs.equality.EqualViewsHaveEqualParts.{parts_alike, entries_alike, parts_long, entries_long}
use Rattle.fb_owned.proofs.equality.+same.Goals as goal

pub same_in-returns-then-eq : goal.same_in-returns-then-eq
same_in-returns-then-eq t c =
    let both = c.in-Fields-Fields in
    let same : both.s.0 ≡ both.t.0 = grind (arith, nat_tests, c.if-eq.ensures) in
    rw (both.is-0, both.is-1, view-Fields both.s both.a, view-Fields both.t both.b) (
      (λ yes. let e = c.same_entries.ensures.0 yes in
          rw (same, ← c.deref-then-eq.ensures.value, ← c.deref-then-eq-2.ensures.value)
          (ap (λ es. a_table both.t.0 es) e)),
      λ e. c.same_entries.ensures.1 cc,
    )

pub same_parts-returns-then-first-second : goal.same_parts-returns-then-first-second
same_parts-returns-then-first-second t c = (
  (λ bad. absurd (false≢true bad)),
  λ e. absurd (omega (arith, parts_long c.args.first.now c.args.second.now e)),
)

pub same_entries-returns-then-first-second : goal.same_entries-returns-then-first-second
same_entries-returns-then-first-second t c = (
  (λ bad. absurd (false≢true bad)),
  λ e. absurd (omega (arith, entries_long c.args.first.now c.args.second.now e)),
)

pub same_parts-returns-then-not-same_in : goal.same_parts-returns-then-not-same_in
same_parts-returns-then-not-same_in t c =
    let xs = c.args.first.now in
    let ys = c.args.second.now in
    let h : c.loop-i.i < length xs = omega arith in
    let k : c.loop-i.i < length ys = omega arith in (
      (λ bad. absurd (false≢true bad)),
      λ e. let alike = parts_alike xs ys c.loop-i.i c.index-first-i.result
          c.index-second-i.result e h k in
          grind (arith, alike, c.same_in.ensures, c.index-first-i.is, c.index-second-i.is, c.if-not-same_in.true),
    )

pub same_entries-returns-then-not-same_entry : goal.same_entries-returns-then-not-same_entry
same_entries-returns-then-not-same_entry t c =
    let xs = c.args.first.now in
    let ys = c.args.second.now in
    let h : c.loop-i.i < length xs = omega arith in
    let k : c.loop-i.i < length ys = omega arith in (
      (λ bad. absurd (false≢true bad)),
      λ e. let alike = entries_alike xs ys c.loop-i.i c.index-first-i.result
          c.index-second-i.result e h k in
          grind (
            arith,
            alike,
            c.same_entry.ensures,
            c.index-first-i.is,
            c.index-second-i.is,
            c.if-not-same_entry.true,
          ),
    )
