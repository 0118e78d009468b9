use Rattle.std.proofs.Common.{◌≡◌, ◌+◌, ◌-◌, ◌%◌, ◌<◌, ◌∙◌, ℕ, suc, true, List, ◌∷◌, length, drop, slice_index_or, refl}
use Rattle.std.proofs.Common.{ap, arith, false}
use Rattle.std.proofs.lemmas.Bool.{eq-eqb, eqb-true}
use Rattle.std.proofs.lemmas.List.Sums.{sum_by-cons}
use Rattle.std.proofs.Math.Seq.{drop-cons}
use Rattle.std.proofs.lemmas.List.{drop_all}
use Rattle.fb_layout.specs.Sizes.{IsAlignment}
use Rattle.fb_layout.proofs.sizes.AlignmentsArePowersOfTwo.{four_aligned}
use Rattle.fb_value.specs.Num.{divides}
use Rattle.fb_value.proofs.tails.TailsAreKeptInFront.{through}
use Rattle.fb_tape.specs.declared.ops.NotedField.{NotedField}
use Rattle.fb_tape.specs.declared.ops.NotedField.TheVariants.{Reference}
use Rattle.fb_build.specs.Lengths.{zeros_to}
use Rattle.fb_build.specs.NotesLaid.{noted_size, notes_size}
use Rattle.fb_build.proofs.fields.FieldsAreLaidInOrder.{none_laid_before, slots_laid, size_laid, leads_laid}
use Rattle.fb_build.proofs.tail.WhatIsLaidStaysLaid.{same_grows, then_grows, grown_long, power_divides}
use Rattle.fb_build.proofs.taped.NotedFieldsAreLaidInTurn.{to_be_aligned, fields_wide, note_may, note_laid}
use Rattle.fb_build.proofs.taped.NotedFieldsAreLaidInTurn.{none_noted, relinked}
use Rattle.fb_build.proofs.taped.SlotsAreInLayingOrder.{links_next, slots_ordered, first_link}
use Rattle.fb_tape.specs.LayingOrder.{laying_order}
use Rattle.fb_build.proofs.taped_fields.lay_fields.Goals as goal

note_behind : (notes : List NotedField) (i : ℕ) → i < length notes
    → drop i notes ≡ slice_index_or notes i Reference ∷ drop (i + 1) notes
note_behind notes i low =
    let one : suc i ≡ i + 1 = omega arith in
    rw (← one) (drop-cons notes i Reference low)

zeros_are : (align n count : ℕ) → count ≡ (align - (n + 0) % align) % align → count ≡ zeros_to align n
zeros_are align n count is = let all : n + 0 ≡ n = omega arith in rw all at is

pub fit-requires-clause-power : goal.fit-requires-clause-power
fit-requires-clause-power c =
    let w = c.requires.ready in
    to_be_aligned w.layout w.slots w.stored w.targets c.args.align _ _ _ _ w.are

pub loop-i-init : goal.loop-i-init
loop-i-init c =
    let all : length c.fit.new.self.bytes + 0 ≡ length c.fit.new.self.bytes = omega arith in
    let multiple : divides c.args.align (length c.fit.new.self.bytes) ≡ true =
    eq-eqb _ _ (rw all at c.fit.ensures.multiple) in
    record {
      laid = λ L fs xs targets is. (let ordered = slots_ordered L fs xs is.known in
          let upto = none_laid_before L c.args.out.now c.fit.new.self c.count-start.result c.args.align fs xs targets
          (first_link (laying_order L fs xs)) is.known
          (links_next L fs xs (λ k f. false) (laying_order L fs xs) ordered) c.fit.ensures.grows is.each
          c.count-start.ensures.exact
          (to_be_aligned L fs xs targets c.args.align _ _ _ _ is) (omega (arith, is.align_is)) multiple is.state in
          record {
            slot_ends = targets;
            left = laying_order L fs xs;
            upto = upto;
            next = relinked L fs xs upto.laid (λ k f. false) (laying_order L fs xs) upto.next ordered;
            noted = is.noted;
            references = is.references;
          });
      long = omega (arith, c.count-start.ensures.exact);
      most = refl;
      grows = same_grows _;
    }

pub lay_note-left-requires : goal.lay_note-left-requires
lay_note-left-requires c =
    let w = c.requires.ready in
    let inv = c.loop-i.invariant in
    let notes = c.args.notes.now in
    let cons = note_behind notes c.loop-i.i c.loop-i-test.true in
    let so_far = rw cons at (inv.laid w.layout w.slots w.stored w.targets w.are) in
    record {
      ready = (note_may w.layout w.slots w.stored w.targets c.args.align c.fit.result c.count-start.result _ _ _
          c.args.out.now c.fit.new.self c.loop-i.out w.are c.fit.ensures.free (zeros_are _ _ _ c.fit.ensures.exact)
          c.fit.ensures.wide
          c.count-start.ensures.exact inv.grows inv.most _ _ _ _ so_far);
    }

pub loop-i-preserved : goal.loop-i-preserved
loop-i-preserved c =
    let inv = c.loop-i.invariant in
    let notes = c.args.notes.now in
    let i = c.loop-i.i in
    let a = c.loop-i.out in
    let b = c.lay_note-left.new.out in
    let now = c.lay_note-left.ensures in
    let note = slice_index_or notes i Reference in
    let cons = note_behind notes i c.loop-i-test.true in
    let most = now.most ∙ inv.most in
    let grows = then_grows _ _ _ inv.grows now.grows in
    record {
      laid = λ L fs xs targets is. rw (now.bytes, now.ends)
          (note_laid L fs xs is.known targets c.count-start.result a b note (drop (i + 1) notes)
          c.loop-i.bytes_left.now c.loop-i.ends_left.now now.grows now.free
          (fields_wide L fs xs targets c.args.align c.fit.result c.count-start.result _ _ _ c.args.out.now
          c.fit.new.self b is c.fit.ensures.free (zeros_are _ _ _ c.fit.ensures.exact) c.fit.ensures.wide
          c.count-start.ensures.exact
          grows most) now.laid (rw cons at (inv.laid L fs xs targets is)));
      long = (let grown = grown_long a b now.grows in
          let step : notes_size (drop i notes) ≡ noted_size note + notes_size (drop (i + 1) notes) =
          ap notes_size cons ∙ sum_by-cons noted_size note (drop (i + 1) notes) in
          omega (arith, grown, step, now.free, inv.long));
      most = most;
      grows = grows;
    }

pub returns-clause-laid : goal.returns-clause-laid
returns-clause-laid c L fs xs targets is =
    let o = c.loop-i.out in
    let inv = c.loop-i.invariant in
    let start = c.count-start.result in
    let none = drop_all c.loop-i.i c.args.notes.now c.loop-i-test.false in
    let h = rw none at (inv.laid L fs xs targets is) in
    let last = none_noted L fs xs h.left _ h.noted in
    let link = first_link h.left in
    let power : IsAlignment c.args.align =
    to_be_aligned L fs xs targets c.args.align _ _ _ _ is in
    let four : divides 4 c.args.align ≡ true =
    power_divides 4 c.args.align four_aligned power (omega (arith, is.align_is)) in
    let all : length c.fit.new.self.bytes + 0 ≡ length c.fit.new.self.bytes = omega arith in
    let multiple : divides c.args.align (length c.fit.new.self.bytes) ≡ true =
    eq-eqb _ _ (rw all at c.fit.ensures.multiple) in
    record {
      ends = h.slot_ends;
      laid = record {
        slots = slots_laid L o start link fs xs targets h.slot_ends h.upto last;
        wide = rw inv.most (through 4 c.args.align c.fit.new.self.most four c.fit.ensures.wide);
        within = omega (arith, h.upto.size);
        whole = rw c.count-start.ensures.exact
            (eqb-true _ _ (through 4 c.args.align (length c.fit.new.self.bytes) four multiple));
        size = size_laid L o start link fs xs targets h.slot_ends h.upto last;
      };
      leads = leads_laid L o start link fs xs targets h.slot_ends h.upto last;
    }

pub returns-clause-size : goal.returns-clause-size
returns-clause-size c L fs xs targets is =
    let inv = c.loop-i.invariant in
    let none = drop_all c.loop-i.i c.args.notes.now c.loop-i-test.false in
    let h = rw none at (inv.laid L fs xs targets is) in
    let last = none_noted L fs xs h.left _ h.noted in
    let size = size_laid L c.loop-i.out c.count-start.result (first_link h.left) fs xs targets h.slot_ends h.upto
    last in
    let long = rw none at inv.long in
    omega (arith, size, long)

pub returns-clause-long : goal.returns-clause-long
returns-clause-long c =
    let inv = c.loop-i.invariant in
    let none = drop_all c.loop-i.i c.args.notes.now c.loop-i-test.false in
    let long = rw none at inv.long in
    let padded = grown_long _ _ c.fit.ensures.grows in
    let all : length c.args.out.now.bytes + 0 ≡ length c.args.out.now.bytes = omega arith in
    let zeros = rw all at c.fit.ensures.exact in
    omega (arith, long, padded, zeros, c.fit.ensures.free, c.count-start.ensures.exact)

pub returns-clause-grows : goal.returns-clause-grows
returns-clause-grows c = then_grows _ _ _ c.fit.ensures.grows c.loop-i.invariant.grows

pub fit-requires-clause-room : goal.fit-requires-clause-room
fit-requires-clause-room c =
    let w = c.requires.ready in
    let all : length c.args.out.now.bytes + 0 ≡ length c.args.out.now.bytes = omega arith in
    rw all (omega (arith, w.are.room))
