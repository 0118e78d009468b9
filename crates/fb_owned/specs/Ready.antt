-- A plan as it is held: its tape means its value.
use Rattle.std.specs.Prelude.{◌≡◌, ◌+◌, ◌-◌, false, List, Option}
use Rattle.fb_layout.specs.Widths.{greatest}
use Rattle.fb_value.specs.Datum.{Datum, a_table}
use Rattle.fb_value.specs.Room.{room_of}
use Rattle.fb_value.specs.View.{view, entries_in}
use Rattle.fb_tape.specs.Tapes.{MeansRoot}
use Rattle.fb_owned.specs.declared.plans.Plan.TheInside.{Inside}
use Rattle.fb_owned.specs.Planned.{Planned}

abbrev pub planned_seen : Inside → Planned
planned_seen p = record { layout = p.plan.layout; value = p.value.now }

pub record IsReady (p : Inside) : Type 0 where
  pub bare : p.plan.prefixed ≡ false
  pub entries : List (Option Datum)
  pub value : view p.value.now ≡ a_table p.plan.layout.schema.root (entries_in entries)
  pub means : MeansRoot p.plan.tape entries
  pub room : p.plan.tape.room + (8 + (greatest p.plan.layout - 1)) ≡ room_of p.plan.layout (view p.value.now)
