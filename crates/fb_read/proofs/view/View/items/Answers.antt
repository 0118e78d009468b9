use Rattle.std.proofs.Common.{sym, arith}
use Rattle.fb_read.specs.Views.{entry_of}
use Rattle.fb_read.proofs.view.AccessorsReadTheEntry.{vector_found, vector_none}
use Rattle.fb_read.proofs.view.ViewsAreWithinTheBuffer.{vector_sure, count_sure, items_sure, items_lie}
use Rattle.fb_read.proofs.view.WholeViewsHaveWholeChildren.{vector_whole}
use Rattle.fb_read.proofs.view.View.items.Goals as goal

pub u32_at-requires : goal.u32_at-requires
u32_at-requires c = vector_sure c.args.self.layout.now c.args.self.bytes.now c.args.self.table.0 c.args.self.at
    c.args.slot c.stored.result c.args.self.lies c.stored.ensures.stands c.in_ok-kind.kind c.in_ok-kind.at
    (sym c.in_ok-kind.ensures)

pub overflow_add-target : goal.overflow_add-target
overflow_add-target c = let within = vector_sure c.args.self.layout.now c.args.self.bytes.now c.args.self.table.0
    c.args.self.at c.args.slot c.stored.result c.args.self.lies c.stored.ensures.stands c.in_ok-kind.kind
    c.in_ok-kind.at
    (sym c.in_ok-kind.ensures) in omega (arith, within, c.args.self.short, c.u32_at.type_inv)

pub u32_at-requires-2 : goal.u32_at-requires-2
u32_at-requires-2 c =
    rw c.u32_at.ensures (count_sure c.args.self.layout.now c.args.self.bytes.now c.args.self.table.0 c.args.self.at
    c.args.slot c.stored.result c.args.self.lies c.stored.ensures.stands c.in_ok-kind.kind c.in_ok-kind.at
    (sym c.in_ok-kind.ensures))

pub overflow_add-result : goal.overflow_add-result
overflow_add-result c = let within = count_sure c.args.self.layout.now c.args.self.bytes.now c.args.self.table.0
    c.args.self.at c.args.slot c.stored.result c.args.self.lies c.stored.ensures.stands c.in_ok-kind.kind
    c.in_ok-kind.at
    (sym c.in_ok-kind.ensures) in omega (arith, within, c.u32_at.ensures, c.args.self.short)

pub invariant_of-result : goal.invariant_of-result
invariant_of-result c = record {
  short = c.args.self.short;
  within = rw (c.u32_at-2.ensures, c.u32_at.ensures)
      (items_sure c.args.self.layout.now c.args.self.bytes.now c.args.self.table.0 c.args.self.at c.args.slot
      c.stored.result c.args.self.lies c.stored.ensures.stands c.in_ok-kind.kind c.in_ok-kind.at (sym
      c.in_ok-kind.ensures));
  lies = rw (c.u32_at-2.ensures, c.u32_at.ensures)
      (items_lie c.args.self.layout.now c.args.self.bytes.now c.args.self.table.0 c.args.self.at c.args.slot
      c.stored.result c.args.self.lies c.stored.ensures.stands c.in_ok-kind.kind c.in_ok-kind.at (sym
      c.in_ok-kind.ensures));
  known = rw (c.u32_at-2.ensures, c.u32_at.ensures) (λ known. vector_whole c.args.self.layout.now c.args.self.bytes.now c.args.self.table.0 c.args.self.at
      c.args.slot c.stored.result c.args.self.lies c.stored.ensures.stands (c.args.self.known known)
      c.in_ok-kind.kind c.in_ok-kind.at (sym c.in_ok-kind.ensures));
}

pub returns-clause-shows : goal.returns-clause-shows
returns-clause-shows c d lies =
    let found = vector_found c.args.self.layout.now c.args.self.bytes.now c.stored.result c.in_ok-kind.kind
    c.in_ok-kind.at
    (entry_of d c.args.slot) (sym c.in_ok-kind.ensures) (c.stored.ensures.stands d lies) in
    rw (c.u32_at-2.ensures, c.u32_at.ensures) (found.0, found.1, (found.2, found.3))

pub returns-in_err-kind-clause-shows : goal.returns-in_err-kind-clause-shows
returns-in_err-kind-clause-shows c d lies =
    rw c.from_residual.ensures (vector_none c.args.self.layout.now c.args.self.bytes.now c.stored.result
    (entry_of d c.args.slot) (c.stored.ensures.stands d lies) (sym c.in_err-kind.ensures))
