use Rattle.std.proofs.Common.{◌≡◌, ◌+◌, ◌-◌, ◌*◌, List, true, max, refl, length, arith}
use Rattle.std.proofs.lemmas.Bool.{eq-eqb}
use Rattle.fb_layout.specs.Laid.{LaidSchema, StoredKind, align_of}
use Rattle.fb_layout.proofs.sizes.AlignmentsArePowersOfTwo.{four_aligned}
use Rattle.fb_value.specs.Datum.{Datum}
use Rattle.fb_value.specs.Num.{divides}
use Rattle.fb_build.specs.Referred.{AreReferred}
use Rattle.fb_build.proofs.fields.FieldHasItsValue.{target_grown}
use Rattle.fb_build.proofs.references.ReferencesOfElements.{reference_size, reference_align}
use Rattle.fb_build.proofs.tail.WhatIsLaidStaysLaid.{then_grows, grown_long}
use Rattle.fb_build.proofs.vectors.ClosedVectorHasItsElements.{IsClosed, closed_lies, closed_adds, closed_leads}
use Rattle.fb_build.proofs.vectors.VectorHasItsElements.{without_items}
use Rattle.fb_build.proofs.taped_references.lay_references.Goals as goal

pub fit-requires-clause-power : goal.fit-requires-clause-power
fit-requires-clause-power c = four_aligned

pub lay_elements-requires-clause-inside : goal.lay_elements-requires-clause-inside
lay_elements-requires-clause-inside c i =
    omega (arith, c.requires.inside i, grown_long _ _ c.fit.ensures.grows, c.fit.ensures.free)

pub lay_elements-requires-clause-whole : goal.lay_elements-requires-clause-whole
lay_elements-requires-clause-whole c =
    without_items 4 4 (length c.args.ends.now) (length c.fit.new.self.bytes) refl (eq-eqb _ _ c.fit.ensures.multiple)

pub returns-clause-grows : goal.returns-clause-grows
returns-clause-grows c = then_grows _ _ _ c.fit.ensures.grows
    (then_grows _ _ _ c.lay_elements.ensures.grows c.lay_u32.ensures.grows)

referred : (c : goal.After-lay_u32) (L : LaidSchema) (kind : StoredKind) (ds : List Datum)
    → AreReferred L kind ds c.args.out.now c.args.ends.now → AreReferred L kind ds c.fit.new.self c.args.ends.now
referred c L kind ds is = record {
  references = is.references;
  each = is.each;
  known = is.known;
  targets = λ k d at. target_grown L c.args.out.now c.fit.new.self _ _ d c.fit.ensures.grows (is.targets k d at);
}

closed : (c : goal.After-lay_u32) (L : LaidSchema) (kind : StoredKind) (ds : List Datum)
    → AreReferred L kind ds c.args.out.now c.args.ends.now → IsClosed L kind ds c.args.out.now c.fit.new.self
    c.lay_elements.new.out c.lay_u32.new.self c.fit.result
closed c L kind ds is =
    let size = reference_size L kind is.references in
    let align : max 4 (align_of L kind) ≡ 4 = omega (arith, reference_align L kind is.references) in
    let grown = grown_long c.fit.new.self c.lay_elements.new.out c.lay_elements.ensures.grows in
    let all : divides 4 (length c.fit.new.self.bytes + length c.args.ends.now * 4) ≡ true =
    eq-eqb _ _ c.fit.ensures.multiple in
    let long : length c.lay_elements.new.out.bytes ≡ length c.fit.new.self.bytes + length c.args.ends.now * 4 =
    omega (arith, grown, c.lay_elements.ensures.free) in
    record {
      element = is.known.element;
      padded = c.fit.ensures.bytes;
      under = rw align c.fit.ensures.under;
      widened = rw align c.fit.ensures.most;
      whole = rw (align, size, ← is.each) all;
      wide = rw align c.fit.ensures.wide;
      elements = c.lay_elements.ensures.grows;
      long = rw (size, ← is.each) long;
      as_wide = c.lay_elements.ensures.most;
      items = c.lay_elements.ensures.lies L kind ds (referred c L kind ds is);
      counted = c.lay_u32.ensures.grows;
      number = rw (← is.each) c.lay_u32.ensures.bytes;
      most = c.lay_u32.ensures.most;
      short = rw (← is.each) (omega (arith, c.requires.room, c.laid_is_short.ensures));
    }

pub returns-clause-lies : goal.returns-clause-lies
returns-clause-lies c L kind ds is = closed_lies (closed c L kind ds is)

pub returns-clause-adds : goal.returns-clause-adds
returns-clause-adds c L kind ds places is = closed_adds (closed c L kind ds is) places

pub returns-clause-leads : goal.returns-clause-leads
returns-clause-leads c L kind ds is =
    closed_leads (closed c L kind ds is) c.args.ends.now
    (c.lay_elements.ensures.leads L kind ds (referred c L kind ds is))

pub returns-clause-long : goal.returns-clause-long
returns-clause-long c =
    let padded = grown_long _ _ c.fit.ensures.grows in
    let middle = grown_long _ _ c.lay_elements.ensures.grows in
    let laid = grown_long _ _ c.lay_u32.ensures.grows in
    let zeros = c.fit.ensures.exact in
    let four : ((4 + length c.args.ends.now * 4) - 4) ≡ length c.args.ends.now * 4 = omega arith in
    rw four (omega (
      arith,
      padded,
      middle,
      laid,
      c.fit.ensures.free,
      c.lay_elements.ensures.free,
      c.lay_u32.ensures.free,
      zeros,
    ))
