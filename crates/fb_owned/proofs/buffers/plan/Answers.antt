use Rattle.std.proofs.Common.{◌≡◌, arith}
use Rattle.std.proofs.Common.{Result, Ok, Err, IfErr}
use Rattle.fb_value.specs.View.{view}
use Rattle.fb_value.proofs.types.EachVariantHasItsView.{view-Fields}
use Rattle.fb_value.proofs.types.NestingIsBoundedByDepth.{nesting_of_depth_shown, root_fits}
use Rattle.fb_build.specs.Fields.{entries_seen}
use Rattle.fb_build.specs.declared.faults.BuildFault.{BuildFault}
use Rattle.fb_build.specs.declared.faults.BuildFault.TheVariants.{Memory}
use Rattle.fb_owned.proofs.buffers.RootIsNoted.{root_noted}
use Rattle.fb_owned.proofs.buffers.plan.Goals as goal

-- which fault a result has or hasn't
told : {A : Type 0} (r : Result A BuildFault) (P : Type 0) → P → IfErr r (λ e. e ≡ Memory → P)
told (Ok x) P p = tt
told (Err e) P p = λ same. p

pub room-requires-clause-nests : goal.room-requires-clause-nests
room-requires-clause-nests c = nesting_of_depth_shown c.args.layout.now (view c.args.value.now)
    c.layout_is_well_made.ensures c.requires.fits c.requires.deep

pub note_root-requires-clause-fits : goal.note_root-requires-clause-fits
note_root-requires-clause-fits c =
    let L = c.args.layout.now in
    let fits = (root_fits L _ c.layout_is_well_made.ensures).0 c.requires.fits in
    let own = rw (c.in-Fields.is, view-Fields c.in-Fields.table c.in-Fields.entries) at fits in
    rw (c.deref.ensures.value, own.0) own.1

pub note_root-requires-clause-known : goal.note_root-requires-clause-known
note_root-requires-clause-known c =
    let whole = rw (c.in-Fields.is, view-Fields c.in-Fields.table c.in-Fields.entries) at c.requires.whole in
    rw c.deref.ensures.value whole

pub returns-in_err-tape-clause-memory : goal.returns-in_err-tape-clause-memory
returns-in_err-tape-clause-memory c = told _ _ c.in-Some.ensures.0

pub returns-in_err-plan-clause-memory : goal.returns-in_err-plan-clause-memory
returns-in_err-plan-clause-memory c = told _ _ c.in-Some.ensures.0

pub for_tape-requires-clause-means : goal.for_tape-requires-clause-means
for_tape-requires-clause-means c =
    let L = c.args.layout.now in
    let value = c.args.value.now in
    let es = c.in-Fields.entries in
    let fits = (root_fits L (view value) c.layout_is_well_made.ensures).0 c.requires.fits in
    let low = c.in-Some.ensures.0 in
    let noted = root_noted L value c.in-Fields.table es c.in_ok-tape.tape c.in-Fields.is fits
    c.in_ok-tape.ensures.layout low (rw c.deref.ensures.value at c.in_ok-tape.ensures.waits)
    (rw c.deref.ensures.value at c.in_ok-tape.ensures.room) in
    record { entries = entries_seen es.items; means = noted.means }

pub for_tape-requires-clause-room : goal.for_tape-requires-clause-room
for_tape-requires-clause-room c =
    let L = c.args.layout.now in
    let value = c.args.value.now in
    let es = c.in-Fields.entries in
    let fits = (root_fits L (view value) c.layout_is_well_made.ensures).0 c.requires.fits in
    let low = c.in-Some.ensures.0 in
    let noted = root_noted L value c.in-Fields.table es c.in_ok-tape.tape c.in-Fields.is fits
    c.in_ok-tape.ensures.layout low (rw c.deref.ensures.value at c.in_ok-tape.ensures.waits)
    (rw c.deref.ensures.value at c.in_ok-tape.ensures.room) in
    omega (arith, noted.room, low)

pub invariant_of-result : goal.invariant_of-result
invariant_of-result c =
    let L = c.args.layout.now in
    let value = c.args.value.now in
    let es = c.in-Fields.entries in
    let fits = (root_fits L (view value) c.layout_is_well_made.ensures).0 c.requires.fits in
    let low = c.in-Some.ensures.0 in
    let noted = root_noted L value c.in-Fields.table es c.in_ok-tape.tape c.in-Fields.is fits
    c.in_ok-tape.ensures.layout low (rw c.deref.ensures.value at c.in_ok-tape.ensures.waits)
    (rw c.deref.ensures.value at c.in_ok-tape.ensures.room) in
    let plan = c.in_ok-plan.ensures in
    record {
      bare = plan.prefixed;
      entries = entries_seen es.items;
      value = rw plan.layout noted.value_is;
      means = rw plan.tape noted.means;
      room = rw (plan.tape, plan.layout) (omega (arith, noted.room));
    }
