-- A plan of a tape as it is held: the tape means a value of the root table, and the memory is enough to lay it.
use Rattle.std.specs.Prelude.{◌≡◌, ◌≤◌, ◌+◌, ◌-◌, length}
use Rattle.std.specs.Vec.{vec_capacity}
use Rattle.fb_layout.specs.Widths.{greatest}
use Rattle.fb_value.specs.Holds.{front_of}
use Rattle.fb_value.specs.Bounds.{most_bytes}
use Rattle.fb_tape.specs.KnownVtables.{EachHasOneNumber}
use Rattle.fb_build.specs.declared.plans.TapePlan.TheInside.{Inside}
use Rattle.fb_build.specs.Planned.{TapePlanned}
use Rattle.fb_build.specs.TapeLaid.{SomeRoot, IsFresh, buffer_end}

abbrev pub tape_planned_seen : Inside → TapePlanned
tape_planned_seen p = record { layout = p.layout.now; tape = p.tape; prefixed = p.prefixed }

pub record IsTapeReady (p : Inside) : Type 0 where
  pub layout : p.tape.layout ≡ p.layout.now
  pub means : SomeRoot p.tape
  pub different : EachHasOneNumber p.tape.vtables
  pub exact : p.laying.tail.free ≡ buffer_end (front_of p.prefixed) p.layout.now p.tape
  pub bound : p.laying.tail.free ≤ front_of p.prefixed + (p.tape.room + (8 + (greatest p.layout.now - 1)))
  pub small : front_of p.prefixed + (p.tape.room + (8 + (greatest p.layout.now - 1))) ≤ most_bytes
  pub fresh : IsFresh p.laying
  pub reserved : length p.tape.ops ≤ vec_capacity p.laying.waiting
  pub places : length p.tape.vtables ≤ vec_capacity p.laying.places
