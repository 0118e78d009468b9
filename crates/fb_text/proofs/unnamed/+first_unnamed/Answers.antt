use Rattle.std.proofs.Common.{◌≡◌, ◌+◌, ◌-◌, Option, ap, sym, ◌∙◌, arith}
use Rattle.std.specs.Option.{option_or}
use Rattle.fb_json.specs.declared.faults.Place.{Place}
use Rattle.fb_text.specs.Unnamed.{child_place, nth_child, unnamed_from}
use Rattle.fb_text.proofs.unnamed.OneEntryMore.{children_skip, children_step, from_first, found_first, found_later}
use Rattle.fb_text.proofs.unnamed.+first_unnamed.Goals as goal
use Rattle.fb_text.proofs.unnamed.+first_unnamed.Goals.{then-is_searched+else-is_some, else-is_searched}

pub loop-i-init : goal.loop-i-init
loop-i-init g t c = record {
  within = c.next_searched-i.ensures.within;
  named = λ L o shows. children_skip c.args.place o c.next_searched-i.result 0 c.next_searched-i.result (omega arith)
      (λ k low past. c.next_searched-i.ensures.named L o (child_place c.args.place o k) k shows low past)
      ∙ from_first c.args.place c.head-found.result o (c.head-found.ensures.top L o shows) c.in_default.not-Unknown;
}

pub returns-then-is_some : goal.returns-then-is_some
returns-then-is_some g t c L o shows =
    let i = c.loop-i.i in
    let place = c.place_in.ensures o (c.head-found.ensures.top L o shows) in
    let found = rw place at (c.first_unnamed-unnamed.ensures L (nth_child o i) (c.child.ensures.shows L o shows)) in
    sym (found_first _ (unnamed_from c.args.place o (i + 1)) _ found (sym c.is_some.ensures ∙ c.if-is_some.true))
    ∙ (sym (children_step c.args.place o i) ∙ c.loop-i.invariant.named L o shows)

pub loop-i-preserved : goal.loop-i-preserved
loop-i-preserved g t c = record {
  within = c.next_searched-i-in-loop-i.ensures.within;
  named = λ L o shows.
      let at = c.args.place in
      let i = c.loop-i.i in
      let next = c.next_searched-i-in-loop-i.result in
      let far : (i + 1) + (next - (i + 1)) ≡ next = omega (arith, c.next_searched-i-in-loop-i.ensures.from) in
      let behind : unnamed_from at o (i + 1) ≡ unnamed_from at o i = elim c.if-is_searched.branch [
        | then-is_searched+else-is_some w ↦
            let place = w.place_in.ensures o (c.head-found.ensures.top L o shows) in
            let found = rw place at (w.first_unnamed-unnamed.ensures L (nth_child o i)
            (w.child.ensures.shows L o shows)) in
            sym (found_later _ (unnamed_from at o (i + 1)) _ found (sym w.is_some.ensures ∙ w.if-is_some.false))
            ∙ sym (children_step at o i)
        | else-is_searched w ↦
            let none = c.is_searched.ensures L o (child_place at o i) shows w.if-is_searched.false in
            ap (λ (p : Option Place). option_or p (unnamed_from at o (i + 1))) (sym none) ∙ sym (children_step at o i)
      ] in
      children_skip at o (next - (i + 1)) (i + 1) next far
      (λ k low past. c.next_searched-i-in-loop-i.ensures.named L o (child_place at o k) k shows low past)
      ∙ (behind ∙ c.loop-i.invariant.named L o shows);
}

pub returns : goal.returns
returns g t c L o shows =
    let over : c.loop-i.i ≡ c.searched-end.result = omega (arith, c.loop-i.invariant.within, c.loop-i-test.false) in
    sym (c.searched-end.ensures.behind L o c.args.place shows)
    ∙ (ap (λ i. unnamed_from c.args.place o i) (sym over) ∙ c.loop-i.invariant.named L o shows)
