use Rattle.std.proofs.Common.{◌-◌, [], ◌∷◌, refl, sym, ap, length, take, drop, arith, append-nil}
use Rattle.std.proofs.Common.{length-append}
use Rattle.std.proofs.lemmas.List.{length-take-le}
use Rattle.fb_tape.specs.Alignments.{aligned_to}
use Rattle.fb_tape.specs.Tapes.{IsData}
use Rattle.fb_build.proofs.taped.StepsOfALaying.{data_aligned, data_now, least_most, stepped}
use Rattle.fb_build.proofs.laying.lay_data.Goals as goal

pub lay_data-requires-clause-power : goal.lay_data-requires-clause-power
lay_data-requires-clause-power c =
    let w = c.requires.ready in
    let d = w.may.lays.1 in
    let least = least_most w.layout w.vtables w.before _ _ _ w.may.waiting in
    rw c.bytes.ensures (data_aligned w.layout d.part (aligned_to c.args.align) c.args.bytes.now d.is least.1).0

pub returns-clause-laid : goal.returns-clause-laid
returns-clause-laid c =
    let ends = c.args.laying.now.waiting.items in
    let places = c.args.laying.now.places.items in
    let a = c.args.laying.now.tail in
    let b = c.lay_data.new.out in
    let now = c.lay_data.ensures in
    record {
      waits = λ L vtables room ps qs m. (let d = m.lays.1 in
          let is : IsData L d.part c.bytes.result c.args.bytes.now = rw c.bytes.ensures d.is in
          let laid = data_now L vtables ps d.part c.bytes.result c.args.bytes.now ends places a b m.waiting is now.grows
          now.most (now.lies L d.part is) (now.adds L d.part places is) (drop (length ends - 0) ends) in
          rw (d.leaves, c.wait.ensures.items, c.count-end.ensures.exact)
          (stepped L vtables ps ps [] d.part 0 ends places places (length b.bytes) a b m.waiting (sym (append-nil ps))
          refl laid));
      come = refl;
      most_waiting = omega (
        arith,
        ap length c.wait.ensures.items,
        length-append (take (length ends - 0) ends) (c.count-end.result ∷ []),
        length-take-le (length ends - 0) ends (omega arith),
      );
      reserved_waiting = c.wait.ensures.reserved;
      reserved_places = refl;
      grows = now.grows;
    }
