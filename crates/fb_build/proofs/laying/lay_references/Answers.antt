use Rattle.std.proofs.Common.{ℕ, List, ◌≡◌, ◌-◌, ◌≤◌, ◌∙◌, [], ◌∷◌, refl, ap, length, take, drop, arith}
use Rattle.std.proofs.Common.{length-append, length-drop}
use Rattle.std.proofs.lemmas.List.{length-take-le, take_rest}
use Rattle.fb_build.specs.Referred.{AreReferred}
use Rattle.fb_build.proofs.taped.StepsOfALaying.{count_within, are_referred, references_now, ends_inside, drop_inside}
use Rattle.fb_build.proofs.laying.lay_references.Goals as goal

few : (c : goal.After-len) → c.args.count ≤ length c.args.laying.now.waiting.items
few c =
    let w = c.requires.ready in
    count_within w.layout w.vtables c.args.count w.own_room w.before w.behind _ _ _ w.may.waiting w.may.lays.2

slice_is : (ends seen : List ℕ) (n len count : ℕ) → seen ≡ ends → len ≡ length ends
    → take (length seen - (len - count)) (drop (len - count) seen) ≡ drop (length ends - count) ends
slice_is ends seen n len count value long = rw (value, long) (take_rest ends (length ends - count))

pub overflow_sub-first : goal.overflow_sub-first
overflow_sub-first c = omega (arith, few c, c.len.ensures)

pub lay_references-requires-clause-inside : goal.lay_references-requires-clause-inside
lay_references-requires-clause-inside c =
    let w = c.requires.ready in
    let ends = c.args.laying.now.waiting.items in
    rw (slice_is ends c.deref.result.now 0 c.len.result c.args.count c.deref.ensures.value (omega (
      arith,
      c.len.ensures,
    )))
    (drop_inside (length ends - c.args.count) ends _ (ends_inside w.layout w.vtables w.before _ _ _ w.may.waiting))

pub wait-requires-clause-within : goal.wait-requires-clause-within
wait-requires-clause-within c =
    let w = c.requires.ready in
    count_within w.layout w.vtables c.args.count w.own_room w.before w.behind _ _ _ w.may.waiting w.may.lays.2

pub returns-clause-laid : goal.returns-clause-laid
returns-clause-laid c =
    let ends = c.args.laying.now.waiting.items in
    let places = c.args.laying.now.places.items in
    let count = c.args.count in
    let a = c.args.laying.now.tail in
    let b = c.lay_references.new.out in
    let now = c.lay_references.ensures in
    let w = c.requires.ready in
    let slice = slice_is ends c.deref.result.now 0 c.len.result count c.deref.ensures.value (omega (
      arith,
      c.len.ensures,
    )) in
    let within = count_within w.layout w.vtables count w.own_room w.before w.behind _ _ _ w.may.waiting w.may.lays.2 in
    let many = ap length slice ∙ length-drop (length ends - count) ends in
    record {
      waits = λ L vtables room ps qs m. (let r = m.lays.2 in
          let referred = are_referred L vtables count room ps qs ends places a m.waiting r in
          let given : AreReferred L r.kind r.elements a (take (length c.deref.result.now - (c.len.result - count))
          (drop (c.len.result - count) c.deref.result.now)) = rw slice referred in
          let leads = rw slice at (now.leads L r.kind r.elements given) in
          rw (c.wait.ensures.items, c.count-end.ensures.exact)
          (references_now L vtables count room ps qs ends places a m.waiting r b now.grows now.most
          (now.lies L r.kind r.elements given) (now.adds L r.kind r.elements places given) leads));
      come = refl;
      most_waiting = omega (
        arith,
        ap length c.wait.ensures.items,
        length-append (take (length ends - count) ends) (c.count-end.result ∷ []),
        length-take-le (length ends - count) ends (omega arith),
      );
      reserved_waiting = c.wait.ensures.reserved;
      reserved_places = refl;
      grows = now.grows;
    }

pub returns-clause-long : goal.returns-clause-long
returns-clause-long c =
    let ends = c.args.laying.now.waiting.items in
    let count = c.args.count in
    let w = c.requires.ready in
    let slice = slice_is ends c.deref.result.now 0 c.len.result count c.deref.ensures.value (omega (
      arith,
      c.len.ensures,
    )) in
    let within = count_within w.layout w.vtables count w.own_room w.before w.behind _ _ _ w.may.waiting w.may.lays.2 in
    let many : length (take (length c.deref.result.now - (c.len.result - count))
    (drop (c.len.result - count) c.deref.result.now)) ≡ count =
    ap length slice ∙ length-drop (length ends - count) ends ∙ omega (arith, within) in
    rw many at c.lay_references.ensures.long
