use Rattle.std.proofs.Common.{sym, arith}
use Rattle.fb_layout.specs.Laid.{stored_kind}
use Rattle.fb_read.proofs.placed.PartsLieInTheirPlaces.{item_table_sure, item_table_lies, item_table, item_no_table}
use Rattle.fb_read.proofs.view.WholeViewsHaveWholeChildren.{item_whole}
use Rattle.fb_read.proofs.items.Items.table.Goals as goal

pub u32_at-requires : goal.u32_at-requires
u32_at-requires c =
    rw c.position-place.ensures (item_table_sure c.args.self.layout.now c.args.self.bytes.now
    (stored_kind c.args.self.layout.now.schema c.args.self.kind) c.args.self.at c.args.self.len c.args.i c.requires
    c.args.self.lies c.in_ok-table.table.0 (sym (c.in_ok-table.ensures c.args.self.layout.now)))

pub overflow_add-at : goal.overflow_add-at
overflow_add-at c =
    let within = item_table_sure c.args.self.layout.now c.args.self.bytes.now
    (stored_kind c.args.self.layout.now.schema c.args.self.kind) c.args.self.at c.args.self.len c.args.i c.requires
    c.args.self.lies c.in_ok-table.table.0 (sym (c.in_ok-table.ensures c.args.self.layout.now)) in
    omega (arith, within, c.position-place.ensures, c.args.self.short, c.u32_at.type_inv)

pub vtable_in-requires-clause-lies : goal.vtable_in-requires-clause-lies
vtable_in-requires-clause-lies c =
    rw (c.u32_at.ensures, c.position-place.ensures)
    (item_table_lies c.args.self.layout.now c.args.self.bytes.now
    (stored_kind c.args.self.layout.now.schema c.args.self.kind) c.args.self.at c.args.self.len c.args.i c.requires
    c.args.self.lies c.in_ok-table.table.0 (sym (c.in_ok-table.ensures c.args.self.layout.now)))

pub invariant_of-result : goal.invariant_of-result
invariant_of-result c = record {
  short = c.args.self.short;
  lies = rw (c.u32_at.ensures, c.position-place.ensures)
      (item_table_lies c.args.self.layout.now c.args.self.bytes.now
      (stored_kind c.args.self.layout.now.schema c.args.self.kind) c.args.self.at c.args.self.len c.args.i c.requires
      c.args.self.lies c.in_ok-table.table.0 (sym (c.in_ok-table.ensures c.args.self.layout.now)));
  vtable = c.vtable_in.ensures.vtable;
  vtable_whole = c.vtable_in.ensures.whole;
  vtable_within = c.vtable_in.ensures.within;
  known = rw (c.u32_at.ensures, c.position-place.ensures) (λ known. item_whole c.args.self.layout.now
      c.args.self.bytes.now (stored_kind c.args.self.layout.now.schema c.args.self.kind) c.args.self.at c.args.self.len
      c.args.i c.requires c.args.self.lies (c.args.self.known known) c.in_ok-table.table.0
      (sym (c.in_ok-table.ensures c.args.self.layout.now)));
}

pub returns-clause-shows : goal.returns-clause-shows
returns-clause-shows c ds lies = rw (c.u32_at.ensures, c.position-place.ensures)
    (item_table c.args.self.layout.now c.args.self.bytes.now
    (stored_kind c.args.self.layout.now.schema c.args.self.kind) c.args.self.at c.args.self.len c.args.i c.requires ds
    c.in_ok-table.table.0 lies (sym (c.in_ok-table.ensures c.args.self.layout.now)))

pub returns-in_err-table-clause-shows : goal.returns-in_err-table-clause-shows
returns-in_err-table-clause-shows c ds lies =
    rw c.from_residual.ensures (item_no_table c.args.self.layout.now c.args.self.bytes.now
    (stored_kind c.args.self.layout.now.schema c.args.self.kind) c.args.self.at c.args.self.len c.args.i c.requires ds
    lies (sym (c.in_err-table.ensures c.args.self.layout.now)))
