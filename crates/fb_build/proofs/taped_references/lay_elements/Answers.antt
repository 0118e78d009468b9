use Rattle.std.proofs.Common.{◌≡◌, ◌+◌, ◌-◌, ◌*◌, ◌∙◌, refl, length, drop, slice_index, arith}
use Rattle.std.proofs.lemmas.Option.{slice_get_within}
use Rattle.fb_layout.specs.Laid.{one_of, size_of}
use Rattle.fb_value.specs.Datum.{no_parts}
use Rattle.fb_value.specs.Places.{part_place}
use Rattle.fb_value.specs.View.{parts_in}
use Rattle.fb_build.specs.Fields.{target_for}
use Rattle.fb_build.specs.Tails.{LaidInTail}
use Rattle.fb_build.proofs.fields.ReferencesLeadInside.{leads_any, reference_there}
use Rattle.fb_build.proofs.fields.FieldHasItsValue.{more_divides, target_grown}
use Rattle.fb_build.proofs.references.ReferencesOfElements.{reference_size, element_at}
use Rattle.fb_build.proofs.tail.WhatIsLaidStaysLaid.{same_grows, then_grows, grown_long}
use Rattle.fb_build.proofs.vectors.ElementLeadsToItsTarget.{LeadFrom, lead_none, lead_one}
use Rattle.fb_build.proofs.vectors.VectorHasItsElements.{one_more, parts_back, parts_none}
use Rattle.fb_build.proofs.taped_references.lay_elements.Goals as goal

pub loop-k-init : goal.loop-k-init
loop-k-init c =
    let n = length c.args.ends.now in
    record {
      items = λ L kind ds is. (let none : parts_in (drop (n - 0) ds) ≡ no_parts =
          parts_none ds (n - 0) (omega (arith, is.each)) in
          rw none (record { lie = tt; old = tt; tight = tt; inline = tt }));
      leads = λ L kind ds is. lead_none L c.args.out.now.bytes (length c.args.out.now.bytes) (n - 0)
          kind ds c.args.ends.now (λ k d at. omega (arith, slice_get_within ds k d at, is.each));
      free = omega arith;
      whole = c.requires.whole;
      most = refl;
      grows = same_grows _;
    }

pub lay_reference-requires-clause-inside : goal.lay_reference-requires-clause-inside
lay_reference-requires-clause-inside c =
    let inside = c.requires.inside (length c.args.ends.now - 1 - c.loop-k.k) in
    omega (arith, inside, grown_long _ _ c.loop-k.invariant.grows)

pub loop-k-preserved : goal.loop-k-preserved
loop-k-preserved c =
    let ends = c.args.ends.now in
    let n = length ends in
    let k = c.loop-k.k in
    let i = n - 1 - k in
    let inv = c.loop-k.invariant in
    let now = c.lay_reference.ensures in
    let o = c.loop-k.out in
    let b = c.lay_reference.new.out in
    record {
      items = λ L kind ds is. (let d = element_at ds n i is.each (omega (arith, c.loop-k-test.true)) in
          let known = reference_there L (one_of kind) d.0 is.references (is.known.each i d.0 d.1) in
          let target = target_grown L c.args.out.now o (target_for (one_of kind) d.0) _ d.0 inv.grows
          (is.targets i d.0 d.1) in
          let there : LaidInTail L o.most o.bytes (part_place known.target) (slice_index ends i) d.0 =
          rw known.named at target in
          let lies = rw (← known.sort) at (now.lies L known.target d.0 there) in
          let size = reference_size L kind is.references in
          let long : length b.bytes ≡ length o.bytes + size_of L kind = omega (arith, now.long, size) in
          let e = parts_back ds n k d.0 c.loop-k-test.true d.1 in
          rw e (one_more L o b kind d.0 (parts_in (drop (n - k) ds)) is.known.element now.grows long lies
          (inv.items L kind ds is)));
      leads = λ L kind ds is. (let d = element_at ds n i is.each (omega (arith, c.loop-k-test.true)) in
          let size = reference_size L kind is.references in
          let more : n - k ≡ i + 1 = omega (arith, c.loop-k-test.true) in
          let here : n - (k + 1) ≡ i = omega arith in
          let grown = grown_long c.args.out.now o inv.grows in
          let left : length ds - i ≡ k + 1 = omega (arith, is.each, c.loop-k-test.true) in
          let all : length b.bytes ≡ length c.args.out.now.bytes + (length ds - i) * size_of L kind =
          rw (left, size) (omega (arith, grown, inv.free, now.long)) in
          let before : LeadFrom L o.bytes (length c.args.out.now.bytes) (i + 1) kind ds ends =
          rw (← more) (inv.leads L kind ds is) in
          rw here (lead_one L o b (length c.args.out.now.bytes) i kind ds ends d.0 now.grows d.1 all
          (leads_any b.bytes (target_for (one_of kind) d.0) (length b.bytes) _ now.leads)
          before));
      free = omega (arith, now.free, inv.free);
      whole = more_divides 4 (length o.bytes) (length b.bytes) inv.whole now.long;
      most = now.most ∙ inv.most;
      grows = then_grows _ _ _ inv.grows now.grows;
    }

pub returns-clause-lies : goal.returns-clause-lies
returns-clause-lies c L kind ds is =
    let none : length c.args.ends.now - c.loop-k.k ≡ 0 = omega (arith, c.loop-k-test.false) in
    rw none at (c.loop-k.invariant.items L kind ds is)

pub returns-clause-leads : goal.returns-clause-leads
returns-clause-leads c L kind ds is k d at =
    let none : length c.args.ends.now - c.loop-k.k ≡ 0 = omega (arith, c.loop-k-test.false) in
    c.loop-k.invariant.leads L kind ds is k d (omega (arith, none)) at
