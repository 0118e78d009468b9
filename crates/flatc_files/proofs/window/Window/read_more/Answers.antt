use Rattle.std.proofs.Common.{◌≡◌, ◌∙◌, slice_range, arith}
use Rattle.std.proofs.Math.Seq.{take-length}
use Rattle.flatc_files.specs.Windows.{pending}
use Rattle.flatc_files.proofs.LineFeeds.{still_without}
use Rattle.flatc_files.proofs.Pending.{slice_range-kept, slice_range-grown}
use Rattle.flatc_files.proofs.window.Window.read_more.Goals as goal

pub invariant_of-self : goal.invariant_of-self
invariant_of-self c =
    let before = c.make_room.new.self in
    let same = slice_range-kept _ _ before.start before.end before.taken c.read_after.ensures.front in
    record { taken = before.taken; read = c.read_after.ensures.within; sought = rw same before.sought }

pub invariant_of-self-in-Ok : goal.invariant_of-self-in-Ok
invariant_of-self-in-Ok c =
    let before = c.make_room.new.self in
    let grown = slice_range-grown _ _ before.start before.end c.in-Ok.count before.taken before.read
    c.read_after.ensures.front in
    record {
      taken = omega (arith, before.taken);
      read = c.in-Ok.ensures.fits;
      sought = still_without _ _ before.searched grown before.sought;
    }

pub invariant_of-self-in-Err-1 : goal.invariant_of-self-in-Err-1
invariant_of-self-in-Err-1 c =
    let before = c.make_room.new.self in
    let same = slice_range-kept _ _ before.start before.end before.taken c.read_after.ensures.front in
    record { taken = before.taken; read = c.read_after.ensures.within; sought = rw same before.sought }

pub returns-in-Err-clause-kept : goal.returns-in-Err-clause-kept
returns-in-Err-clause-kept c =
    let before = c.make_room.new.self in
    slice_range-kept _ _ before.start before.end before.taken c.read_after.ensures.front ∙ c.make_room.ensures.kept

pub returns-in-Ok-eq0-clause-grown : goal.returns-in-Ok-eq0-clause-grown
returns-in-Ok-eq0-clause-grown c =
    let before = c.make_room.new.self in
    let same : slice_range c.read_after.new.bytes.items before.start before.end ≡ pending c.args.self.now
    = slice_range-kept _ _ before.start before.end before.taken c.read_after.ensures.front ∙ c.make_room.ensures.kept in
    rw same (take-length (pending c.args.self.now))

pub returns-in-Ok-clause-grown : goal.returns-in-Ok-clause-grown
returns-in-Ok-clause-grown c =
    let before = c.make_room.new.self in
    let grown = slice_range-grown _ _ before.start before.end c.in-Ok.count before.taken before.read
    c.read_after.ensures.front in
    rw (← c.make_room.ensures.kept) grown
