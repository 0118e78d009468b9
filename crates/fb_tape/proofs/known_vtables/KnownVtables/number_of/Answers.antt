use Rattle.std.proofs.Common.{◌≡◌, ◌∙◌, ◌-◌, ◌++◌, inr, [], ◌∷◌, List, length, arith, ap}
use Rattle.std.proofs.Common.{length-append, refl}
use Rattle.std.proofs.lemmas.List.{length-map}
use Rattle.fb_value.specs.Num.{Bytes, part_of}
use Rattle.fb_tape.specs.declared.known_vtables.VtableRange.{VtableRange}
use Rattle.fb_tape.specs.VtablesHeld.{vtables_in}
use Rattle.fb_index.proofs.LastEntry.{entry_last}
use Rattle.fb_tape.proofs.known_vtables.OneMoreIsKnown.{range_after, indexed_more, vtables_more}
use Rattle.fb_tape.proofs.known_vtables.KnownVtables.number_of.Goals as goal

-- the ranges and bytes once one more is noted
module _ (c : goal.After-len-2) where
  ranges_are : c.push_reserved-2.new.self.items
      ≡ c.self.inside.ranges.items ++ (range_after c.self.inside.bytes.items c.args.vtable.now ∷ [])
  ranges_are =
      let whole = c.self.inside.bytes.ok.0 in
      c.push_reserved-2.ensures.items ∙ rw (c.reserve-2.ensures.items, c.len.ensures, whole) refl

  bytes_are : c.extend_from_slice.new.self.items ≡ c.self.inside.bytes.items ++ c.args.vtable.now
  bytes_are = c.in_ok-extend_from_slice.ensures.items

pub invariant_of-self-2 : goal.invariant_of-self-2
invariant_of-self-2 c =
    let held = c.self.inside in
    let absent = rw (← c.self.view_is) at c.find.ensures.absent c.in_default.is in
    let count = rw c.reserve.ensures.keys at c.push_reserved.ensures.one in
    let kept = rw c.reserve.ensures.keys at c.push_reserved.ensures.kept in
    let last = rw (c.reserve.ensures.keys, c.digest.ensures) at c.push_reserved.ensures.at in
    rw (ranges_are c, bytes_are c) (indexed_more held.key held.digests.keys c.push_reserved.new.self.keys
    held.bytes.items c.args.vtable.now held.ranges.items c.self.invariant absent count kept last)

pub returns-clause-numbered : goal.returns-clause-numbered
returns-clause-numbered c =
    let held = c.self.inside in
    let vtable = c.args.vtable.now in
    let known : vtables_in c.extend_from_slice.new.self.items c.push_reserved-2.new.self.items
    ≡ c.args.self.now ++ (vtable ∷ []) =
    rw (ranges_are c, bytes_are c) (vtables_more held.ranges.items held.bytes.items vtable c.self.invariant.within)
    ∙ ap (λ (vs : List Bytes). vs ++ (vtable ∷ [])) c.self.view_is in
    let last : c.len-2.result - 1 ≡ length c.args.self.now = omega (
      arith,
      c.len-2.ensures,
      ap length (ranges_are c),
      length-append held.ranges.items (range_after held.bytes.items vtable ∷ []),
      length-map held.ranges.items (λ (r : VtableRange). part_of held.bytes.items r.first r.size),
      ap length c.self.view_is,
    ) in
    record { is = rw (known, last) (entry_last c.args.self.now vtable); known = inr (known, last) }
