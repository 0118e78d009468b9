use Rattle.std.proofs.Common.{◌≡◌, ◌+◌, ◌-◌, ◌<◌, ℕ, zero, suc, List, [], ◌∷◌, Some, slice_get, length, drop, ap, sym}
use Rattle.std.proofs.Common.{arith}
use Rattle.std.proofs.lemmas.List.{drop_all, length-drop}
use Rattle.fb_tape.specs.OpenList.{field_seen}
use Rattle.fb_tape.proofs.stored.OffsetsAreTrimmed.{all_used}
use Rattle.fb_tape.proofs.stored_tables.slots_used.Goals as goal

dropped : {A : Type 0} (xs : List A) (n i : ℕ) (x : A) → slice_get xs (n + i) ≡ Some x
    → slice_get (drop n xs) i ≡ Some x
dropped xs zero i x h = let same : 0 + i ≡ i = omega arith in rw same at h
dropped [] (suc n) i x h = cc
dropped (y ∷ xs) (suc n) i x h = let more : suc n + i ≡ suc (n + i) = omega arith in dropped xs n i x (rw more at h)

pub returns-then-len-first : goal.returns-then-len-first
returns-then-len-first c L fs xs h =
    let none = drop_all c.args.first c.args.opened.now (omega (arith, c.if-len-first.true, c.len.ensures)) in
    let used = all_used L fs xs 0 fs xs (drop c.args.first c.args.opened.now) h.are in
    sym (ap length (used.none none))

pub returns : goal.returns
returns c L fs xs h =
    let opens = c.args.opened.now in
    let first = c.args.first in
    let used = all_used L fs xs 0 fs xs (drop first opens) h.are in
    let long = length-drop first opens in
    let some : first < length opens = omega (arith, c.if-len-first.false, c.len.ensures, c.requires.within) in
    let at : first + ((length opens - 1) - first) ≡ length opens - 1 = omega (arith, some) in
    let last = used.last ((length opens - 1) - first) (field_seen c.field.ensures.is.0 c.field.result)
    (omega (arith, long, c.requires.within, some))
    (dropped opens first ((length opens - 1) - first) (field_seen c.field.ensures.is.0 c.field.result)
    (rw at (rw c.len-2.ensures.exact at c.field.ensures.is.1))) in
    omega (arith, last, c.from.ensures)
