use Rattle.std.proofs.Common.{◌≡◌, ◌+◌, ◌-◌, Ok, arith}
use Rattle.fb_read.specs.Visited.{part_at}
use Rattle.fb_read.specs.Walks.{visit_in, limits_of}
use Rattle.fb_read.proofs.visit_tables.VisitsTakeTheSameAgain.{visit_rises, visit_again}
use Rattle.fb_read.proofs.walk.leave.Goals as goal

pub overflow_sub-taken : goal.overflow_sub-taken
overflow_sub-taken g c =
    visit_rises c.args.buffer.now.layout.now c.args.buffer.now.bytes.now (limits_of c.args.buffer.now)
    (part_at c.args.buffer.now c.args.target.part c.args.target.at) c.args.tables c.args.mark.spent
    c.args.walk.now.spent
    (rw c.in-Ok.is at c.requires).visit

pub leave-requires-clause-visited : goal.leave-requires-clause-visited
leave-requires-clause-visited g c =
    let buffer = c.args.buffer.now in
    let x = part_at buffer c.args.target.part c.args.target.at in
    let cells = c.args.walk.now.spent - c.args.mark.spent in
    let visited = rw c.in-Ok.is at c.requires in
    let rises = visit_rises buffer.layout.now buffer.bytes.now (limits_of buffer) x c.args.tables c.args.mark.spent
    c.args.walk.now.spent visited.visit in
    let whole : c.args.walk.now.spent ≡ c.args.mark.spent + cells = omega (arith, rises) in
    let taken : visit_in buffer x c.args.tables c.args.mark.spent ≡ Ok (c.args.mark.spent + cells) =
    rw whole at visited.visit in
    record {
      visit = λ fewer less h i. visit_again buffer.layout.now buffer.bytes.now (limits_of buffer) x c.args.tables
          c.args.mark.spent cells fewer less taken h i;
      counted = record {
        few = omega (arith, c.counted_since.ensures, visited.ticks, rises);
        exact = omega (arith, c.counted_since.ensures, visited.exact);
      };
    }
