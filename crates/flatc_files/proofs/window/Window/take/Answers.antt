use Rattle.std.proofs.Common.{rules, ◌≡◌, ◌-◌, min}
use Rattle.flatc_files.proofs.Pending.{slice_range-drop}
use Rattle.flatc_files.proofs.window.Window.take.Goals as goal

pub returns-clause-taken : goal.returns-clause-taken
returns-clause-taken c =
    let self = c.args.self.now in
    let step : c.min.result ≡ min c.args.count (self.end - self.start) = search rules in
    rw step (slice_range-drop self.bytes.items self.start self.end c.args.count self.taken self.read)
