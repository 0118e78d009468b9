use Rattle.std.proofs.Common.{refl, ap, arith}
use Rattle.fb_read.specs.Stored.{text_place_of, table_place_of, member_place_of, vector_place_of, struct_place_of}
use Rattle.fb_read.specs.Stored.{number_place_of}
use Rattle.fb_read.specs.Views.{entry_of}
use Rattle.fb_read.proofs.view.ViewHasAVtable.{view_within}
use Rattle.fb_read.proofs.entry.EntryIsWhatWasFound.{vector_told, table_told, member_told}
use Rattle.fb_read.proofs.view.AccessorsReadTheEntry.{vector_found, table_found, member_found}
use Rattle.fb_read.proofs.view.ViewsAreWithinTheBuffer.{number_sure, text_sure, struct_sure, table_sure, table_lies}
use Rattle.fb_read.proofs.view.ViewsAreWithinTheBuffer.{member_sure, member_lies, vector_sure, count_sure, items_sure}
use Rattle.fb_read.proofs.view.ViewsAreWithinTheBuffer.{items_lie}
use Rattle.fb_read.proofs.view.WholeViewsHaveWholeChildren.{table_whole, member_whole, vector_whole}
use Rattle.fb_read.proofs.view.View.slot.Goals as goal

pub number_at-requires : goal.number_at-requires
number_at-requires c = number_sure c.args.self.layout.now c.args.self.bytes.now c.args.self.table.0 c.args.self.at
    c.args.slot c.stored.result c.args.self.lies c.stored.ensures.stands c.in-Number.base c.in-Number.at
    (ap number_place_of c.in-Number.is)

pub text_behind-requires : goal.text_behind-requires
text_behind-requires c = text_sure c.args.self.layout.now c.args.self.bytes.now c.args.self.table.0 c.args.self.at
    c.args.slot c.stored.result c.args.self.lies c.stored.ensures.stands c.in-Text.at (ap text_place_of c.in-Text.is)

pub invariant_of-result : goal.invariant_of-result
invariant_of-result c = record {
  short = c.args.self.short;
  within = struct_sure c.args.self.layout.now c.args.self.bytes.now c.args.self.table.0 c.args.self.at c.args.slot
      c.stored.result c.args.self.lies c.stored.ensures.stands c.in-Fixed.structure c.in-Fixed.at
      (ap struct_place_of c.in-Fixed.is);
}

pub u32_at-requires : goal.u32_at-requires
u32_at-requires c = table_sure c.args.self.layout.now c.args.self.bytes.now c.args.self.table.0 c.args.self.at
    c.args.slot c.stored.result c.args.self.lies c.stored.ensures.stands c.in-Table.table c.in-Table.place
    (ap table_place_of c.in-Table.is)

pub overflow_add-at : goal.overflow_add-at
overflow_add-at c =
    let within = table_sure c.args.self.layout.now c.args.self.bytes.now c.args.self.table.0 c.args.self.at c.args.slot
    c.stored.result c.args.self.lies c.stored.ensures.stands c.in-Table.table c.in-Table.place
    (ap table_place_of c.in-Table.is) in
    omega (arith, within, c.args.self.short, c.u32_at.type_inv)

pub vtable_in-requires-clause-lies : goal.vtable_in-requires-clause-lies
vtable_in-requires-clause-lies c =
    rw c.u32_at.ensures (table_lies c.args.self.layout.now c.args.self.bytes.now c.args.self.table.0 c.args.self.at
    c.args.slot c.stored.result c.args.self.lies c.stored.ensures.stands c.in-Table.table c.in-Table.place
    (ap table_place_of c.in-Table.is))

pub invariant_of-result-in-Table : goal.invariant_of-result-in-Table
invariant_of-result-in-Table c = record {
  short = c.args.self.short;
  lies = rw c.u32_at.ensures (table_lies c.args.self.layout.now c.args.self.bytes.now c.args.self.table.0 c.args.self.at
      c.args.slot c.stored.result c.args.self.lies c.stored.ensures.stands c.in-Table.table c.in-Table.place
      (ap table_place_of c.in-Table.is));
  vtable = c.vtable_in.ensures.vtable;
  vtable_whole = c.vtable_in.ensures.whole;
  vtable_within = c.vtable_in.ensures.within;
  known = rw c.u32_at.ensures (λ known. table_whole c.args.self.layout.now c.args.self.bytes.now c.args.self.table.0 c.args.self.at
      c.args.slot c.stored.result c.args.self.lies c.stored.ensures.stands (c.args.self.known known)
      c.in-Table.table c.in-Table.place (ap table_place_of c.in-Table.is));
}

pub returns-in-Table : goal.returns-in-Table
returns-in-Table c =
    let behind = rw c.in-Table.is at c.stored.ensures.behind in
    let here = view_within c.args.self.layout.now c.args.self.bytes.now c.args.self.table.0 c.args.self.at
    c.args.self.lies in
    record {
      shows = λ d lies.
          let found = table_found c.args.self.layout.now c.args.self.bytes.now c.stored.result c.in-Table.table
          c.in-Table.place (entry_of d c.args.slot) (ap table_place_of c.in-Table.is) (c.stored.ensures.stands d lies)
          in
          rw c.u32_at.ensures (refl, found.0, table_told (entry_of d c.args.slot) found.0 found.1, found.2);
      lighter = omega (arith, behind, here);
    }

pub u32_at-requires-in-Member : goal.u32_at-requires-in-Member
u32_at-requires-in-Member c = member_sure c.args.self.layout.now c.args.self.bytes.now c.args.self.table.0
    c.args.self.at c.args.slot c.stored.result c.args.self.lies c.stored.ensures.stands c.in-Member.code
    c.in-Member.table c.in-Member.place (ap member_place_of c.in-Member.is)

pub overflow_add-at-in-Member : goal.overflow_add-at-in-Member
overflow_add-at-in-Member c =
    let within = member_sure c.args.self.layout.now c.args.self.bytes.now c.args.self.table.0 c.args.self.at c.args.slot
    c.stored.result c.args.self.lies c.stored.ensures.stands c.in-Member.code c.in-Member.table c.in-Member.place
    (ap member_place_of c.in-Member.is) in
    omega (arith, within, c.args.self.short, c.u32_at-in-Member.type_inv)

pub vtable_in-requires-in-Member-clause-lies : goal.vtable_in-requires-in-Member-clause-lies
vtable_in-requires-in-Member-clause-lies c =
    rw c.u32_at-in-Member.ensures (member_lies c.args.self.layout.now c.args.self.bytes.now c.args.self.table.0
    c.args.self.at c.args.slot c.stored.result c.args.self.lies c.stored.ensures.stands c.in-Member.code
    c.in-Member.table c.in-Member.place (ap member_place_of c.in-Member.is))

pub invariant_of-result-in-Member : goal.invariant_of-result-in-Member
invariant_of-result-in-Member c = record {
  short = c.args.self.short;
  lies = rw c.u32_at-in-Member.ensures (member_lies c.args.self.layout.now c.args.self.bytes.now c.args.self.table.0
      c.args.self.at c.args.slot c.stored.result c.args.self.lies c.stored.ensures.stands c.in-Member.code
      c.in-Member.table c.in-Member.place (ap member_place_of c.in-Member.is));
  vtable = c.vtable_in-in-Member.ensures.vtable;
  vtable_whole = c.vtable_in-in-Member.ensures.whole;
  vtable_within = c.vtable_in-in-Member.ensures.within;
  known = rw c.u32_at-in-Member.ensures (λ known. member_whole c.args.self.layout.now c.args.self.bytes.now c.args.self.table.0 c.args.self.at
      c.args.slot c.stored.result c.args.self.lies c.stored.ensures.stands (c.args.self.known known)
      c.in-Member.code c.in-Member.table c.in-Member.place (ap member_place_of c.in-Member.is));
}

pub returns-in-Member : goal.returns-in-Member
returns-in-Member c =
    let behind = rw c.in-Member.is at c.stored.ensures.behind in
    let here = view_within c.args.self.layout.now c.args.self.bytes.now c.args.self.table.0 c.args.self.at
    c.args.self.lies in
    record {
      shows = λ d lies.
          let found = member_found c.args.self.layout.now c.args.self.bytes.now c.stored.result c.in-Member.code
          c.in-Member.table c.in-Member.place (entry_of d c.args.slot) (ap member_place_of c.in-Member.is)
          (c.stored.ensures.stands d lies) in
          rw c.u32_at-in-Member.ensures (
            refl,
            found.0,
            member_told (entry_of d c.args.slot) c.in-Member.code found.0
                found.1,
            found.2,
          );
      lighter = omega (arith, behind, here);
    }

pub u32_at-requires-in-Vector : goal.u32_at-requires-in-Vector
u32_at-requires-in-Vector c = vector_sure c.args.self.layout.now c.args.self.bytes.now c.args.self.table.0
    c.args.self.at c.args.slot c.stored.result c.args.self.lies c.stored.ensures.stands c.in-Vector.kind c.in-Vector.at
    (ap vector_place_of c.in-Vector.is)

pub overflow_add-target : goal.overflow_add-target
overflow_add-target c =
    let within = vector_sure c.args.self.layout.now c.args.self.bytes.now c.args.self.table.0 c.args.self.at c.args.slot
    c.stored.result c.args.self.lies c.stored.ensures.stands c.in-Vector.kind c.in-Vector.at
    (ap vector_place_of c.in-Vector.is) in
    omega (arith, within, c.args.self.short, c.u32_at-in-Vector.type_inv)

pub u32_at-len-requires : goal.u32_at-len-requires
u32_at-len-requires c = rw c.u32_at-in-Vector.ensures
    (count_sure c.args.self.layout.now c.args.self.bytes.now c.args.self.table.0 c.args.self.at c.args.slot
    c.stored.result c.args.self.lies c.stored.ensures.stands c.in-Vector.kind c.in-Vector.at
    (ap vector_place_of c.in-Vector.is))

pub overflow_add-result : goal.overflow_add-result
overflow_add-result c =
    let within = count_sure c.args.self.layout.now c.args.self.bytes.now c.args.self.table.0 c.args.self.at c.args.slot
    c.stored.result c.args.self.lies c.stored.ensures.stands c.in-Vector.kind c.in-Vector.at
    (ap vector_place_of c.in-Vector.is) in
    omega (arith, within, c.u32_at-in-Vector.ensures, c.args.self.short)

pub invariant_of-result-in-Vector : goal.invariant_of-result-in-Vector
invariant_of-result-in-Vector c = record {
  short = c.args.self.short;
  within = rw (c.u32_at-len.ensures, c.u32_at-in-Vector.ensures)
      (items_sure c.args.self.layout.now c.args.self.bytes.now c.args.self.table.0 c.args.self.at c.args.slot
      c.stored.result c.args.self.lies c.stored.ensures.stands c.in-Vector.kind c.in-Vector.at
      (ap vector_place_of c.in-Vector.is));
  lies = rw (c.u32_at-len.ensures, c.u32_at-in-Vector.ensures)
      (items_lie c.args.self.layout.now c.args.self.bytes.now c.args.self.table.0 c.args.self.at c.args.slot
      c.stored.result c.args.self.lies c.stored.ensures.stands c.in-Vector.kind c.in-Vector.at
      (ap vector_place_of c.in-Vector.is));
  known = rw (c.u32_at-len.ensures, c.u32_at-in-Vector.ensures) (λ known. vector_whole c.args.self.layout.now c.args.self.bytes.now c.args.self.table.0 c.args.self.at
      c.args.slot c.stored.result c.args.self.lies c.stored.ensures.stands (c.args.self.known known)
      c.in-Vector.kind c.in-Vector.at (ap vector_place_of c.in-Vector.is));
}

pub returns-in-Vector : goal.returns-in-Vector
returns-in-Vector c =
    let behind = rw c.in-Vector.is at c.stored.ensures.behind in
    let here = view_within c.args.self.layout.now c.args.self.bytes.now c.args.self.table.0 c.args.self.at
    c.args.self.lies in
    record {
      shows = λ d lies.
          let found = vector_found c.args.self.layout.now c.args.self.bytes.now c.stored.result c.in-Vector.kind
          c.in-Vector.at (entry_of d c.args.slot) (ap vector_place_of c.in-Vector.is)
          (c.stored.ensures.stands d lies) in
          rw (c.u32_at-len.ensures, c.u32_at-in-Vector.ensures) (
            refl,
            found.0,
            vector_told (entry_of d c.args.slot) found.0 found.1,
            (found.2, found.3),
          );
      lighter = omega (arith, behind, here);
    }
