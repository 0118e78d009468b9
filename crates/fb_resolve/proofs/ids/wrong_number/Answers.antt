use Rattle.std.proofs.Common.{◌≡◌, ◌<◌, ◌==◌, ◌∙◌, arith, rules, tests, get_or, ℕ, false, ap, sym, length, map, take}
use Rattle.std.proofs.lemmas.List.{get_or_default, take_all}
use Rattle.std.proofs.lemmas.List.Folds.{list_all-map}
use Rattle.std.proofs.lemmas.List.FromFn.{fill_by_all}
use Rattle.std.specs.List.{list_any, list_all, range_with_len}
use Rattle.fb_resolve.proofs.ids.TwiceAmongNumbers.{all_pass, marks_more, marks_same, still, twice_more, wrong_of}
use Rattle.fb_resolve.proofs.ids.wrong_number.Goals as goal
use Rattle.fb_resolve.proofs.ids.wrong_number.Goals.{then-place-len, else-place-len}

pub returns-in_default-clause-right : goal.returns-in_default-clause-right
returns-in_default-clause-right c = λ none.
    let ns = c.args.numbers.now in
    let taken = c.loop-number.taken.items in
    let among = λ (k : ℕ). list_any (λ n. k == n) ns in
    let whole : take c.loop-number.number-index ns ≡ ns =
    take_all c.loop-number.number-index ns (omega (arith, c.loop-number-test.false)) in
    let marks : taken ≡ map among (range_with_len 0 (length ns)) =
    fill_by_all among taken (length ns) false c.loop-number.invariant.count
    (λ k h. c.loop-number.invariant.marks k h ∙ ap (list_any (λ n. k == n)) whole) in
    sym (list_all-map (λ b. b) among (range_with_len 0 (length ns))) ∙ ap (list_all (λ b. b)) (sym marks)
    ∙ all_pass (λ b. b) taken (search rules)

pub loop-number-preserved : goal.loop-number-preserved
loop-number-preserved c =
    let ns = c.args.numbers.now in
    let i = c.loop-number.number-index in
    let before = c.loop-number.taken.items in
    let long = c.loop-number.invariant.count in
    elim c.if-place-len.branch [
      | then-place-len w ↦ let inside : get_or ns i 0 < length ns = search (rules, arith, tests) in
          let mark = c.loop-number.invariant.marks (get_or ns i 0) inside in
          record {
            count = search (rules, arith);
            marks = λ k low. marks_more ns before i k (search (rules, arith)) c.if-place-len.taken.items
                (search (rules, arith, tests)) (search (rules, w.taken-is)) (c.loop-number.invariant.marks k low);
            twice = twice_more ns i c.loop-number.twice c.if-place-len.twice w.index.result.now (search (rules, arith))
                (w.index.ensures ∙ get_or_default before (get_or ns i 0) w.index.result.now false (omega (arith, long, inside))
                ∙ mark) c.loop-number.invariant.twice (search (rules, w.twice-is));
          }
      | else-place-len w ↦ record {
        count = search (rules, arith);
        marks = λ k low. rw w.taken-is (marks_same ns before i k (search (rules, arith))
            (search (rules, arith, tests)) (omega (arith, long, low)) (c.loop-number.invariant.marks k low));
        twice = rw w.twice-is (still ns i c.loop-number.twice (search (rules, arith)) c.loop-number.invariant.twice);
      }
    ]

pub returns-clause-wrong : goal.returns-clause-wrong
returns-clause-wrong c =
    let ns = c.args.numbers.now in
    let whole : take c.loop-number.number-index ns ≡ ns =
    take_all c.loop-number.number-index ns (omega (arith, c.loop-number-test.false)) in
    rw c.unwrap_or.ensures (wrong_of ns c.loop-number.taken.items c.in-Some.free c.loop-number.invariant.count
    (λ k low. c.loop-number.invariant.marks k low ∙ ap (list_any (λ n. k == n)) whole) (search rules)
    c.loop-number.twice (rw whole at c.loop-number.invariant.twice))
