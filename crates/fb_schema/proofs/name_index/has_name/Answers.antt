use Rattle.std.proofs.Common.{Some, None}
use Rattle.fb_schema.proofs.Got.{got}
use Rattle.fb_schema.proofs.NamedItems.{is_named, is_no_item}
use Rattle.fb_schema.proofs.name_index.has_name.Goals as goal

pub returns-in-Some : goal.returns-in-Some
returns-in-Some g c =
    let items = c.args.items.now in
    let item = c.in-Some.item in
    let there = got items c.args.place (Some item) c.in-Some.ensures.lookup.0 c.in-Some.ensures.lookup.1 in
    is_named g.T.Named.name items c.args.place c.args.name.now item.now c.eq.result there
    (rw c.name.ensures at c.eq.ensures)

pub returns-in-None : goal.returns-in-None
returns-in-None g c =
    let items = c.args.items.now in
    let none = got items c.args.place None c.in-None.ensures.lookup.0 c.in-None.ensures.lookup.1 in
    (λ no. absurd cc, λ found. absurd (is_no_item g.T.Named.name items c.args.place c.args.name.now none found))
