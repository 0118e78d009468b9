use Rattle.std.proofs.Common.{sym, arith}
use Rattle.fb_layout.specs.Laid.{stored_kind}
use Rattle.fb_read.proofs.entry.EntryIsWhatWasFound.{number_told}
use Rattle.fb_read.proofs.placed.PartsLieInTheirPlaces.{item_number, item_no_number, base_fits}
use Rattle.fb_read.proofs.items.Items.numbers.Goals as goal

pub invariant_of-result : goal.invariant_of-result
invariant_of-result c =
    let L = c.args.self.layout.now in
    let fits = base_fits L (stored_kind L.schema c.args.self.kind) c.in_ok-base.base (sym c.in_ok-base.ensures) in
    record { short = c.args.self.short; within = rw fits c.args.self.within }

pub returns : goal.returns
returns c ds lies =
    let L = c.args.self.layout.now in
    let kind = stored_kind L.schema c.args.self.kind in
    let fits = base_fits L kind c.in_ok-base.base (sym c.in_ok-base.ensures) in
    record {
      count = lies.0;
      each = λ i less. number_told _ _ (sym (rw (← fits) at
          (item_number L c.args.self.bytes.now kind c.args.self.at c.args.self.len i less ds c.in_ok-base.base lies
          (sym c.in_ok-base.ensures))));
    }

pub returns-in_err-base : goal.returns-in_err-base
returns-in_err-base c ds lies =
    let L = c.args.self.layout.now in
    rw c.from_residual.ensures (λ i less. item_no_number L c.args.self.bytes.now
    (stored_kind L.schema c.args.self.kind) c.args.self.at c.args.self.len i (omega (arith, less, lies.0)) ds lies
    (sym c.in_err-base.ensures))
