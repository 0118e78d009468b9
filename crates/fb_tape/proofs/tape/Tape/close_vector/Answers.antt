use Rattle.std.proofs.Common.{ℕ, ◌≡◌, ◌≤◌, List, [], ◌∷◌, zero, suc, length, take, drop, max, arith, ap, refl, ◌∙◌, subst}
use Rattle.std.proofs.lemmas.List.{length-take-le}
use Rattle.std.proofs.lemmas.Result.{on_ok_weaker}
use Rattle.fb_layout.specs.Laid.{align_of}
use Rattle.fb_layout.specs.Seen.{kind_seen}
use Rattle.fb_value.specs.Room.{vector_room}
use Rattle.fb_value.specs.UpTo.{at_most_usize}
use Rattle.fb_tape.specs.Tapes.{Taped}
use Rattle.fb_tape.proofs.tape.AlignmentsFit.{align_fits}
use Rattle.fb_tape.proofs.tape.DataIsLaid.{vector_closed}
use Rattle.fb_tape.proofs.tape.RoomsAreSummedUp.{room_capped, over_fits}
use Rattle.fb_tape.proofs.tape.Tape.close_vector.Goals as goal

pub overflow_cast-align : goal.overflow_cast-align
overflow_cast-align c =
    let low = align_fits c.self.inside.layout.now c.layout_is_well_made.ensures
    (kind_seen c.self.inside.layout.now c.args.kind) in
    omega (arith, low, c.align_of.ensures, c.max-align.ensures)

pub of-requires-clause-few : goal.of-requires-clause-few
of-requires-clause-few c =
    let low = align_fits c.self.inside.layout.now c.layout_is_well_made.ensures
    (kind_seen c.self.inside.layout.now c.args.kind) in
    omega (arith, low, c.align_of.ensures, c.max-align.ensures)

pub returns-clause-waits : goal.returns-clause-waits
returns-clause-waits c =
    let own = subst (λ (t : Taped). c.vector_room.result
    ≡ at_most_usize (vector_room t.layout (kind_seen t.layout c.args.kind) c.args.count)) c.self.view_is
    c.vector_room.ensures in
    let align = subst (λ (t : Taped). c.align_of.result ≡ align_of t.layout (kind_seen t.layout c.args.kind))
    c.self.view_is c.align_of.ensures in
    on_ok_weaker c.finish_data.result (λ done ps ds many known begun waits.
    vector_closed c.args.self.now c.add_room.new.self c.finish_data.new.self
    (kind_seen c.args.self.now.layout c.args.kind) c.of.result c.args.count c.vector_room.result ds ps
    c.add_room.ensures.adds own
    c.if-is_over.ensures.exact done (c.of.ensures ∙ c.max-align.ensures ∙ ap (λ n. max n 4) align) c.requires.inline
    c.requires.low
    many known begun waits) c.finish_data.ensures.adds

pub returns-then-is_over-clause-waits : goal.returns-then-is_over-clause-waits
returns-then-is_over-clause-waits c ps ds many known begun waits fits =
    over_fits c.add_room.new.self.room c.self-2.inside.room c.if-is_over.ensures.exact
    (ap (λ (t : Taped). t.room) c.self-2.view_is) fits

pub returns-then-is_over-clause-room : goal.returns-then-is_over-clause-room
returns-then-is_over-clause-room c =
    let own = subst (λ (t : Taped). c.vector_room.result
    ≡ at_most_usize (vector_room t.layout (kind_seen t.layout c.args.kind) c.args.count)) c.self.view_is
    c.vector_room.ensures in
    room_capped c.args.self.now.room _ _ _
    (ap (λ (t : Taped). t.room) (c.self-2.view_is ∙ c.add_room.ensures.adds)) own

pub returns-then-is_over-clause-layout : goal.returns-then-is_over-clause-layout
returns-then-is_over-clause-layout c = ap (λ (t : Taped). t.layout) (c.self-2.view_is ∙ c.add_room.ensures.adds)

four_some : (align most : ℕ) → most ≡ max align 4 → 1 ≤ most
four_some align most is = omega (arith, is)

pub of-requires-clause-some : goal.of-requires-clause-some
of-requires-clause-some c = four_some _ _ c.max-align.ensures

pub returns-clause-room : goal.returns-clause-room
returns-clause-room c =
    let own = subst (λ (t : Taped). c.vector_room.result
    ≡ at_most_usize (vector_room t.layout (kind_seen t.layout c.args.kind) c.args.count)) c.self.view_is
    c.vector_room.ensures in
    on_ok_weaker c.finish_data.result (λ done. ap (λ (t : Taped). t.room) done ∙ room_capped c.args.self.now.room _ _ _
    (ap (λ (t : Taped). t.room) c.add_room.ensures.adds) own) c.finish_data.ensures.adds

pub returns-clause-whole : goal.returns-clause-whole
returns-clause-whole c =
    on_ok_weaker c.finish_data.result (λ done. ap (λ (t : Taped). t.unfinished) done) c.finish_data.ensures.adds

pub returns-clause-layout : goal.returns-clause-layout
returns-clause-layout c = c.finish_data.ensures.layout ∙ ap (λ (t : Taped). t.layout) c.add_room.ensures.adds

none_behind : (n : ℕ) (xs : List ℕ) → drop n (take n xs) ≡ []
none_behind zero xs = refl
none_behind (suc n) [] = refl
none_behind (suc n) (x ∷ xs) = none_behind n xs

pub returns-then-is_over-clause-whole : goal.returns-then-is_over-clause-whole
returns-then-is_over-clause-whole c =
    ap (drop c.self-2.inside.finished) c.truncate.ensures.items
    ∙ none_behind c.self-2.inside.finished c.self-2.inside.bytes.items

taken_within : (n : ℕ) (xs ys : List ℕ) → n ≤ length xs → ys ≡ take n xs → n ≤ length ys
taken_within n xs ys within is = omega (arith, length-take-le n xs within, ap length is)

pub invariant_of-self : goal.invariant_of-self
invariant_of-self c = record {
  within = taken_within c.self-2.inside.finished c.self-2.inside.bytes.items _ c.self-2.invariant.within
      c.truncate.ensures.items;
}
