use Rattle.std.proofs.Common.{sym, arith}
use Rattle.fb_read.specs.Views.{entry_of}
use Rattle.fb_read.proofs.view.AccessorsReadTheEntry.{table_found, table_none}
use Rattle.fb_read.proofs.view.ViewsAreWithinTheBuffer.{table_sure, table_lies}
use Rattle.fb_read.proofs.view.WholeViewsHaveWholeChildren.{table_whole}
use Rattle.fb_read.proofs.view.View.table.Goals as goal

pub u32_at-requires : goal.u32_at-requires
u32_at-requires c = table_sure c.args.self.layout.now c.args.self.bytes.now c.args.self.table.0 c.args.self.at
    c.args.slot c.stored.result c.args.self.lies c.stored.ensures.stands c.in_ok-table.table c.in_ok-table.place
    (sym c.in_ok-table.ensures)

pub overflow_add-at : goal.overflow_add-at
overflow_add-at c =
    let within = table_sure c.args.self.layout.now c.args.self.bytes.now c.args.self.table.0 c.args.self.at c.args.slot
    c.stored.result c.args.self.lies c.stored.ensures.stands c.in_ok-table.table c.in_ok-table.place (sym
    c.in_ok-table.ensures) in
    omega (arith, within, c.args.self.short, c.u32_at.type_inv)

pub vtable_in-requires-clause-lies : goal.vtable_in-requires-clause-lies
vtable_in-requires-clause-lies c =
    rw c.u32_at.ensures (table_lies c.args.self.layout.now c.args.self.bytes.now c.args.self.table.0 c.args.self.at
    c.args.slot c.stored.result c.args.self.lies c.stored.ensures.stands c.in_ok-table.table c.in_ok-table.place
    (sym c.in_ok-table.ensures))

pub invariant_of-result : goal.invariant_of-result
invariant_of-result c = record {
  short = c.args.self.short;
  lies = rw c.u32_at.ensures (table_lies c.args.self.layout.now c.args.self.bytes.now c.args.self.table.0 c.args.self.at
      c.args.slot c.stored.result c.args.self.lies c.stored.ensures.stands c.in_ok-table.table c.in_ok-table.place
      (sym c.in_ok-table.ensures));
  vtable = c.vtable_in.ensures.vtable;
  vtable_whole = c.vtable_in.ensures.whole;
  vtable_within = c.vtable_in.ensures.within;
  known = rw c.u32_at.ensures (λ known. table_whole c.args.self.layout.now c.args.self.bytes.now c.args.self.table.0 c.args.self.at
      c.args.slot c.stored.result c.args.self.lies c.stored.ensures.stands (c.args.self.known known)
      c.in_ok-table.table c.in_ok-table.place (sym c.in_ok-table.ensures));
}

pub returns-clause-shows : goal.returns-clause-shows
returns-clause-shows c d lies = rw c.u32_at.ensures
    (table_found c.args.self.layout.now c.args.self.bytes.now c.stored.result c.in_ok-table.table c.in_ok-table.place
    (entry_of d c.args.slot) (sym c.in_ok-table.ensures) (c.stored.ensures.stands d lies))

pub returns-in_err-table-clause-shows : goal.returns-in_err-table-clause-shows
returns-in_err-table-clause-shows c d lies =
    rw c.from_residual.ensures (table_none c.args.self.layout.now c.args.self.bytes.now c.stored.result
    (entry_of d c.args.slot) (c.stored.ensures.stands d lies) (sym c.in_err-table.ensures))
