use Rattle.std.proofs.Common.{◌≡◌, ℕ, suc, true, ◌+◌, ◌-◌, ◌<◌, ◌≤◌, Some, refl, sym, ◌∙◌, add-one, arith}
use Rattle.std.proofs.Common.{◌++◌, List, slice_index}
use Rattle.fb_layout.specs.Laid.{struct_at}
use Rattle.fb_value.specs.Datum.{a_struct}
use Rattle.fb_text.specs.Nested.{fields_text}
use Rattle.fb_text.proofs.nested.FieldHasItsBytes.{has_byte, is_filled}
use Rattle.fb_text.proofs.nested.StructStandsInItsParent.{way_begins, way_goes_on, way_ends}
use Rattle.fb_text.proofs.nested.parent_of.Goals as goal

le_through : (a b c : ℕ) → a ≤ b → b ≤ c → a ≤ c
le_through a b c low high = omega arith

le_itself : (n : ℕ) → n ≤ n
le_itself n = omega arith

all_left : (n : ℕ) → n - 0 ≡ n
all_left n = omega arith

one_less : (i n : ℕ) → i < n - 1 → n - i ≡ suc (n - suc i)
one_less i n low = omega arith

one_left : (i n : ℕ) → i ≡ n - 1 → 0 < n → n - i ≡ 1
one_left i n last some = omega arith

at_end : (i n : ℕ) → i ≤ n → n ≤ i → i ≡ n
at_end i n low high = omega arith

from_there : (byte at offset : ℕ) → byte ≡ at + offset → offset + 0 ≡ byte - at
from_there byte at offset begin = omega arith

one_more : (k field : ℕ) → field ≡ k → suc k ≡ field + 1
one_more k field is = omega arith

up_a_level : (behind : List ℕ) (own : ℕ → ℕ → List ℕ) (rest : List ℕ) (d e k j : ℕ) → behind ≡ own d k ++ rest → d ≡ e
    → k ≡ j → behind ≡ own e j ++ rest
up_a_level behind own rest d e k j whole level same = rw (← level, ← same) whole

pub loop-level-init : goal.loop-level-init
loop-level-init g c = rw c.outermost-here.ensures (record {
  heavy = c.requires.heavy;
  light = le_itself _;
  way = λ defaults indent ds es behind shows stands.
      let all = all_left c.args.inner.depth in
      way_begins c.args.layout.now defaults indent c.args.structure ds c.args.inner.at c.args.inner.structure es behind
      (λ ms. g.S.Shown.shows c.args.shown c.args.layout.now (Some (a_struct ms))) 0 (c.args.inner.depth - 0) shows refl
      (rw all stands);
})

pub loop-level-preserved : goal.loop-level-preserved
loop-level-preserved g c =
    let L = c.args.layout.now in
    let i = c.loop-level._level in
    let n = c.args.inner.depth in
    let here = c.loop-level.here in
    let next = c.inner_at-here.result in
    let left = one_less i n c.loop-level-test.true in
    record {
      heavy = c.inner_at-here.ensures.heavy;
      light = le_through _ _ _ c.inner_at-here.ensures.light c.loop-level.invariant.light;
      way = λ defaults indent ds es behind shows stands.
          let on = c.loop-level.invariant.way defaults indent ds es behind shows stands in
          let now = rw left at on in
          rw add-one (way_goes_on L defaults indent c.args.structure ds c.args.inner.at c.args.inner.structure
          es behind c.layout_is_well_made.ensures
          (λ ms. g.S.Shown.shows here.shown L (Some (a_struct ms)))
          (λ ms. g.S.Shown.shows next.shown L (Some (a_struct ms)))
          i here.at here.structure (n - suc i) next.at next.structure now
          (λ k x ms more child less begin. let got = c.inner_at-here.ensures.inner now.parts k x ms more now.shown child
          less begin in (got.structure, got.shown, got.begin)));
    }

pub returns-clause-parent : goal.returns-clause-parent
returns-clause-parent g c defaults indent ds es behind shows stands =
    let L = c.args.layout.now in
    let i = c.loop-level._level in
    let n = c.args.inner.depth in
    let here = c.loop-level.here in
    let byte = c.args.inner.at in
    let field = c.field_at-field.result in
    let made = c.layout_is_well_made.ensures in
    let level = at_end i (n - 1) c.loop-level.auto._level-end c.loop-level-test.false in
    let left = one_left i n level c.requires.nested in
    let on = c.loop-level.invariant.way defaults indent ds es behind shows stands in
    let now = rw left at on in
    let (k, child, begin, whole) =
    way_ends L defaults indent c.args.structure ds byte c.args.inner.structure es behind made
    (λ ms. g.S.Shown.shows here.shown L (Some (a_struct ms))) i here.at here.structure now in
    let filled = is_filled L made here.structure now.parts k c.args.inner.structure es child in
    let at = from_there byte here.at (slice_index (struct_at L here.structure.0).offsets k) begin in
    let has = rw (at ∙ sym c.saturating_sub.ensures) at
    (has_byte L made here.structure now.parts k c.args.inner.structure es child 0 filled) in
    let same = one_more k field (c.field_at-field.ensures.found k child.field child.there has) in
    let own = λ (d j : ℕ). fields_text L defaults indent here.structure now.parts d j true in (
      now.parts,
      now.rest,
      (
        now.shown,
        rw (← level) now.above,
      ),
      up_a_level behind own now.rest i (n - 1) (suc k) (field + 1) whole level same,
    )
