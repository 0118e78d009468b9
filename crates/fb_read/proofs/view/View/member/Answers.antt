use Rattle.std.proofs.Common.{sym, arith}
use Rattle.fb_read.specs.Views.{entry_of}
use Rattle.fb_read.proofs.view.AccessorsReadTheEntry.{member_found, member_none}
use Rattle.fb_read.proofs.view.ViewsAreWithinTheBuffer.{member_sure, member_lies}
use Rattle.fb_read.proofs.view.WholeViewsHaveWholeChildren.{member_whole}
use Rattle.fb_read.proofs.view.View.member.Goals as goal

pub u32_at-requires : goal.u32_at-requires
u32_at-requires c = member_sure c.args.self.layout.now c.args.self.bytes.now c.args.self.table.0 c.args.self.at
    c.args.slot c.stored.result c.args.self.lies c.stored.ensures.stands c.in_ok-code.code c.in_ok-code.table
    c.in_ok-code.place
    (sym c.in_ok-code.ensures)

pub overflow_add-at : goal.overflow_add-at
overflow_add-at c =
    let within = member_sure c.args.self.layout.now c.args.self.bytes.now c.args.self.table.0 c.args.self.at c.args.slot
    c.stored.result c.args.self.lies c.stored.ensures.stands c.in_ok-code.code c.in_ok-code.table c.in_ok-code.place
    (sym c.in_ok-code.ensures) in
    omega (arith, within, c.args.self.short, c.u32_at.type_inv)

pub vtable_in-requires-clause-lies : goal.vtable_in-requires-clause-lies
vtable_in-requires-clause-lies c =
    rw c.u32_at.ensures (member_lies c.args.self.layout.now c.args.self.bytes.now c.args.self.table.0
    c.args.self.at c.args.slot c.stored.result c.args.self.lies c.stored.ensures.stands c.in_ok-code.code
    c.in_ok-code.table
    c.in_ok-code.place (sym c.in_ok-code.ensures))

pub invariant_of-view : goal.invariant_of-view
invariant_of-view c = record {
  short = c.args.self.short;
  lies = rw c.u32_at.ensures (member_lies c.args.self.layout.now c.args.self.bytes.now c.args.self.table.0
      c.args.self.at c.args.slot c.stored.result c.args.self.lies c.stored.ensures.stands c.in_ok-code.code
      c.in_ok-code.table
      c.in_ok-code.place (sym c.in_ok-code.ensures));
  vtable = c.vtable_in.ensures.vtable;
  vtable_whole = c.vtable_in.ensures.whole;
  vtable_within = c.vtable_in.ensures.within;
  known = rw c.u32_at.ensures (λ known. member_whole c.args.self.layout.now c.args.self.bytes.now c.args.self.table.0 c.args.self.at
      c.args.slot c.stored.result c.args.self.lies c.stored.ensures.stands (c.args.self.known known)
      c.in_ok-code.code c.in_ok-code.table c.in_ok-code.place (sym c.in_ok-code.ensures));
}

pub returns-clause-shows : goal.returns-clause-shows
returns-clause-shows c d lies = rw c.u32_at.ensures
    (member_found c.args.self.layout.now c.args.self.bytes.now c.stored.result c.in_ok-code.code c.in_ok-code.table
    c.in_ok-code.place (entry_of d c.args.slot) (sym c.in_ok-code.ensures) (c.stored.ensures.stands d lies))

pub returns-in_err-code-clause-shows : goal.returns-in_err-code-clause-shows
returns-in_err-code-clause-shows c d lies =
    rw c.from_residual.ensures (member_none c.args.self.layout.now c.args.self.bytes.now c.stored.result
    (entry_of d c.args.slot) (c.stored.ensures.stands d lies) (sym c.in_err-code.ensures))
